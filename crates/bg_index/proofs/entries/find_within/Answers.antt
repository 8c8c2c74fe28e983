use Rattle.std.proofs.Common.{rules, Ok, Err}
use Rattle.std.proofs.lemmas.List.Sorted.{answers_always}
use Rattle.bg_lists.proofs.Places.{At-get_or}
use Rattle.bg_index.specs.declared.entries.Slot.{Slot}
use Rattle.bg_index.proofs.IndexLaws.{slot-search}
use Rattle.bg_index.proofs.entries.find_within.Goals as goal

pub returns-in-Ok : goal.returns-in-Ok
returns-in-Ok c =
    let none : Slot = record { node = 0; at = 0 } in (
      At-get_or c.args.slots.now c.in-Ok.at none c.in-Ok.ensures.bound,
      slot-search c.args.slots.now c.args.node c.requires.ascending (Ok c.in-Ok.at) c.in-Ok.ensures.bound
          (c.in-Ok.ensures.position (λ (slot : Slot). slot.node) (answers_always _ _ _ (λ f a r g called. search rules))) none,
    )

pub returns-in-Err : goal.returns-in-Err
returns-in-Err c =
    slot-search c.args.slots.now c.args.node c.requires.ascending (Err c.in-Err.field-0) c.in-Err.ensures.bound
    (c.in-Err.ensures.position (λ (slot : Slot). slot.node) (answers_always _ _ _ (λ f a r g called. search rules)))
