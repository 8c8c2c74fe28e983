use Rattle.std.proofs.Common.{rules, ◌≡◌, ◌==◌, ◌-◌, None, Some, find, MatchOption, sym, subst, ◌∙◌}
use Rattle.bg_lists.specs.Lists.{At}
use Rattle.bg_lists.proofs.Parts.{sorted-part}
use Rattle.bg_lists.proofs.Places.{At-below}
use Rattle.bg_base.proofs.Reaches.{find-in_part}
use Rattle.bg_index.specs.declared.entries.Slot.{Slot}
use Rattle.bg_index.specs.Indexed.{slot_cmp}
use Rattle.bg_index.proofs.IndexLaws.{At-in_part}
use Rattle.bg_index.proofs.entries.find_slot_at.Goals as goal

pub find_within-requires : goal.find_within-requires
find_within-requires c =
    record { ascending = sorted-part slot_cmp c.reach-from.result.0 (c.reach-from.result.1 - c.reach-from.result.0) c.args.slots.now c.requires.ascending }

pub returns-in_err-at : goal.returns-in_err-at
returns-in_err-at c =
    let same = find-in_part (λ (slot : Slot). slot.node) c.args.slots.now c.args.node c.reach-from.result.0 c.reach-from.result.1 c.in_ok-last.last.now
    c.requires.ascending (search rules) c.reach-from.ensures.inside in
    subst (λ r. MatchOption r (find (λ (slot : Slot). slot.node == c.args.node) c.args.slots.now ≡ None)
    (λ found. At found.1 found.0 c.args.slots.now × (find (λ (slot : Slot). slot.node == c.args.node) c.args.slots.now ≡ Some found.1)))
    (sym c.from_residual-in_err-at.ensures) (sym same ∙ c.in_err-at.ensures)

pub overflow_add-result : goal.overflow_add-result
overflow_add-result c =
    let below = At-below (At-in_part c.reach-from.result.0 c.reach-from.result.1 c.args.slots.now c.in_ok-at.ensures.0) in search rules

pub returns : goal.returns
returns c =
    let same = find-in_part (λ (slot : Slot). slot.node) c.args.slots.now c.args.node c.reach-from.result.0 c.reach-from.result.1 c.in_ok-last.last.now
    c.requires.ascending (search rules) c.reach-from.ensures.inside in
    (At-in_part c.reach-from.result.0 c.reach-from.result.1 c.args.slots.now c.in_ok-at.ensures.0, sym same ∙ c.in_ok-at.ensures.1)
