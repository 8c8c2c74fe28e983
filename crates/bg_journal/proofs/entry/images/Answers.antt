use Rattle.std.proofs.Common.{◌∷◌, [], arith}
use Rattle.std.proofs.lemmas.List.{length-append}
use Rattle.bg_listing.specs.Limits.{greatest_number}
use Rattle.bg_listing.specs.Spelling.{space, line_feed}
use Rattle.bg_listing.specs.Reading.{number_at}
use Rattle.bg_listing.proofs.Loops.{chain_goes_on, chain_closes, chain_too_long}
use Rattle.bg_journal.specs.EntryReading.{images_at}
use Rattle.bg_journal.proofs.EntryLines.{chain_refuses}
use Rattle.bg_journal.proofs.entry.images.Goals as goal

pub returns-in_default-clause-images : goal.returns-in_default-clause-images
returns-in_default-clause-images c =
    chain_refuses line_feed space (number_at greatest_number) c.loop.images.items 65537 c.loop.counter c.loop.rest.now (images_at c.args.bytes.now)
    c.loop-test.true (rw c.in_default.is at c.image.ensures.image) c.loop.invariant.0

pub returns-in-None-clause-images : goal.returns-in-None-clause-images
returns-in-None-clause-images c =
    chain_closes line_feed space (number_at greatest_number) c.loop.images.items 65537 c.loop.counter c.loop.rest.now c.in-Some.behind.now (images_at c.args.bytes.now)
    c.loop-test.true (rw c.in-None.is at c.in-Some.ensures.image) c.loop.invariant.0

pub loop-preserved : goal.loop-preserved
loop-preserved c =
    let i = c.loop.invariant in
    rw c.in_ok-push-in-Some-image.ensures.items (
      chain_goes_on line_feed space (number_at greatest_number) c.loop.images.items 65537 c.loop.counter c.loop.rest.now c.in-Some-image.image c.in-Some.behind.now (images_at c.args.bytes.now)
          c.loop-test.true (rw c.in-Some-image.is at c.in-Some.ensures.image) i.0,
      omega (arith, i.1, length-append c.loop.images.items (c.in-Some-image.image ∷ [])),
      omega (arith, i.2, c.in-Some.ensures.left),
    )

pub returns-clause-images : goal.returns-clause-images
returns-clause-images c =
    chain_too_long line_feed space (number_at greatest_number) c.loop.images.items 65537 c.loop.counter c.loop.rest.now (images_at c.args.bytes.now) c.loop-test.false c.loop.invariant.0
