use Rattle.std.proofs.Common.{◌<◌, length, rules}
use Rattle.bg_cond.proofs.FirstClass.{first_next, first_ends}
use Rattle.bg_cond.proofs.Upto.{item_at}
use Rattle.bg_incr.proofs.listing.first_class.Goals as goal

pub higher_of-first-requires-clause-kept : goal.higher_of-first-requires-clause-kept
higher_of-first-requires-clause-kept c =
    let inside : c.loop-number.number < length c.args.lists.now = search rules in
    c.requires.kept.kept.each c.loop-number.number c.index-rules-number.result c.index-lists-number.result
    (item_at c.args.rules.now c.loop-number.number c.index-rules-number.result c.loop-number-test.true c.index-rules-number.is)
    (item_at c.args.lists.now c.loop-number.number c.index-lists-number.result inside c.index-lists-number.is)

pub loop-number-preserved : goal.loop-number-preserved
loop-number-preserved c =
    first_next c.args._host.now c.args.rules.now c.loop-number.number c.index-rules-number.result c.loop-number-test.true c.index-rules-number.is
    c.loop-number.first c.higher_of-first.result c.higher_of-first.ensures c.loop-number.invariant

pub returns : goal.returns
returns c = first_ends c.args._host.now c.args.rules.now c.loop-number.number c.loop-number-test.false c.loop-number.first c.loop-number.invariant
