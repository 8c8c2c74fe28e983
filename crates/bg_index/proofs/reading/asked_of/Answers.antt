use Rattle.std.proofs.Common.{ℕ, ◌+◌, List, take, get_or, slice_set, sym, subst, ◌∙◌, arith, length-take-le}
use Rattle.std.proofs.lemmas.List.{take_more}
use Rattle.bg_lists.proofs.Places.{At-get_or, At-same}
use Rattle.bg_index.proofs.ControlLaws.{length-set}
use Rattle.bg_index.proofs.ReadingLaws.{AreCounted, counted_more, counted_few}
use Rattle.bg_index.proofs.SiteLaws.{none_counted}
use Rattle.bg_index.proofs.reading.asked_of.Goals as goal

pub loop-entry-init : goal.loop-entry-init
loop-entry-init c = (
  sym c.in_ok-asked.asked.ok.0 ∙ c.in_ok-asked.ensures.len,
  none_counted _ (λ x y e. e) 0 c.in_ok-asked.asked.items c.in_ok-asked.ensures.items,
)

pub overflow_add-index_mut : goal.overflow_add-index_mut
overflow_add-index_mut c =
    let entry = get_or c.args.entries.now c.loop-entry.entry-index 0 in
    let below = c.loop-entry-test.true in
    let few = c.requires.few in
    let is = c.index_mut.ensures.value in
    let many = c.loop-entry.invariant.0 in
    let there = c.requires.there c.loop-entry.entry-index 0 below in
    let stood = At-same (sym is) (At-get_or c.loop-entry.asked.items entry _ (omega (arith, there, many))) in
    let count = c.loop-entry.invariant.1 entry c.index_mut.result.now stood in
    let less = counted_few (take c.loop-entry.entry-index c.args.entries.now) entry in
    let long = length-take-le c.loop-entry.entry-index c.args.entries.now (omega (arith, below)) in
    omega (arith, count, less, long, below, few)

pub loop-entry-preserved : goal.loop-entry-preserved
loop-entry-preserved c =
    let entry = get_or c.args.entries.now c.loop-entry.entry-index 0 in
    let below = c.loop-entry-test.true in
    let many = c.loop-entry.invariant.0 in
    let there = c.requires.there c.loop-entry.entry-index 0 below in
    let stood = At-same (sym c.index_mut.ensures.value) (At-get_or c.loop-entry.asked.items entry _ (omega (arith, there, many))) in (
      length-set c.loop-entry.asked.items entry (c.index_mut.result.now + 1) ∙ many,
      subst (λ (xs : List ℕ). AreCounted xs (slice_set c.loop-entry.asked.items entry (c.index_mut.result.now + 1)))
          (sym (take_more c.args.entries.now c.loop-entry.entry-index 0 below))
          (counted_more (take c.loop-entry.entry-index c.args.entries.now) c.loop-entry.asked.items entry c.index_mut.result.now stood c.loop-entry.invariant.1),
    )
