use Rattle.std.proofs.Common.{◌<◌, ◌≤◌, List, length, rules, Ok, Err, subst}
use Rattle.std.specs.List.Sorted.{IsBinarySearchResult}
use Rattle.std.specs.Ordering.{nat_cmp}
use Rattle.std.proofs.lemmas.List.Sorted.{answers_always}
use Rattle.bg_index.specs.declared.entries.Slot.{Slot}
use Rattle.bg_index.proofs.KeyLaws.{one_removed, none_removed}
use Rattle.bg_index.proofs.commit_nodes.take_slot.Goals as goal

pub take_slot_at-requires : goal.take_slot_at-requires
take_slot_at-requires c = record { inside = subst (λ (xs : List Slot). c.in-Ok.at < length xs) c.deref.ensures.value c.in-Ok.ensures.bound }

pub returns-in-Ok-clause-kept : goal.returns-in-Ok-clause-kept
returns-in-Ok-clause-kept c =
    let there = subst (λ (xs : List Slot). IsBinarySearchResult (λ (slot : Slot). nat_cmp slot.node c.args.node) xs (Ok c.in-Ok.at)) c.deref.ensures.value
    (c.in-Ok.ensures.position (λ (slot : Slot). slot.node) (answers_always _ _ _ (λ f a r g called. search rules))) in
    one_removed (λ (slot : Slot). slot.node) c.args.slots.now.items c.take_slot_at.new.slots.items c.args.node c.in-Ok.at c.requires.slots_ascend
    (subst (λ (xs : List Slot). c.in-Ok.at < length xs) c.deref.ensures.value c.in-Ok.ensures.bound) there c.take_slot_at.ensures.taken

pub returns-in-Err-clause-kept : goal.returns-in-Err-clause-kept
returns-in-Err-clause-kept c =
    let nowhere = subst (λ (xs : List Slot). IsBinarySearchResult (λ (slot : Slot). nat_cmp slot.node c.args.node) xs (Err c.in-Err.field-0)) c.deref.ensures.value
    (c.in-Err.ensures.position (λ (slot : Slot). slot.node) (answers_always _ _ _ (λ f a r g called. search rules))) in
    none_removed (λ (slot : Slot). slot.node) c.args.slots.now.items c.args.node c.in-Err.field-0 c.requires.slots_ascend
    (subst (λ (xs : List Slot). c.in-Err.field-0 ≤ length xs) c.deref.ensures.value c.in-Err.ensures.bound) nowhere
