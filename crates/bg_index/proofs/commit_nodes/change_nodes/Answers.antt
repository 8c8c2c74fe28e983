use Rattle.std.proofs.Common.{not, sym, subst, ◌∙◌}
use Rattle.bg_lists.specs.Lists.{Mem}
use Rattle.bg_lists.proofs.Members.{Mem-unfilter}
use Rattle.bg_rules.specs.Instantiation.{is_among}
use Rattle.bg_index.specs.declared.entries.Slot.{Slot}
use Rattle.bg_index.specs.Commits.{AreHeld, ArePushed, IsFilled, IsMoved, LeadOn}
use Rattle.bg_index.proofs.CommitNodeLaws.{all_after, drop_held, filled_id, lead_held, moved_id, staying}
use Rattle.bg_index.proofs.commit_nodes.change_nodes.Goals as goal

pub move_nodes-requires-clause-held : goal.move_nodes-requires-clause-held
move_nodes-requires-clause-held c =
    subst (AreHeld c.drop_nodes.new.nodes) (sym (c.deref.ensures.value ∙ c.drop_nodes.ensures.slots))
    (drop_held c.args.nodes.now c.drop_nodes.new.nodes c.args.slots.now.items c.args.gone.now c.requires.held
    (λ slot m. c.drop_nodes.ensures.left slot (subst (λ ss. Mem slot ss) (sym c.drop_nodes.ensures.slots) m)))

pub set_nests-requires : goal.set_nests-requires
set_nests-requires c = record {
  held = subst (AreHeld c.move_nodes.new.nodes) (c.deref.ensures.value ∙ sym c.deref-2.ensures.value)
      (lead_held (IsMoved c.args.moves.now) c.drop_nodes.new.nodes c.move_nodes.new.nodes c.deref.result.now
      (subst (AreHeld c.drop_nodes.new.nodes) (sym (c.deref.ensures.value ∙ c.drop_nodes.ensures.slots))
      (drop_held c.args.nodes.now c.drop_nodes.new.nodes c.args.slots.now.items c.args.gone.now c.requires.held
      (λ slot m. c.drop_nodes.ensures.left slot (subst (λ ss. Mem slot ss) (sym c.drop_nodes.ensures.slots) m))))
      c.move_nodes.ensures.moved (moved_id c.args.moves.now));
}

pub push_entries-requires-clause-held : goal.push_entries-requires-clause-held
push_entries-requires-clause-held c =
    subst (AreHeld c.set_nests.new.nodes) c.deref-2.ensures.value
    (lead_held (IsFilled c.args.nests.items) c.move_nodes.new.nodes c.set_nests.new.nodes c.deref-2.result.now
    (subst (AreHeld c.move_nodes.new.nodes) (c.deref.ensures.value ∙ sym c.deref-2.ensures.value)
    (lead_held (IsMoved c.args.moves.now) c.drop_nodes.new.nodes c.move_nodes.new.nodes c.deref.result.now
    (subst (AreHeld c.drop_nodes.new.nodes) (sym (c.deref.ensures.value ∙ c.drop_nodes.ensures.slots))
    (drop_held c.args.nodes.now c.drop_nodes.new.nodes c.args.slots.now.items c.args.gone.now c.requires.held
    (λ slot m. c.drop_nodes.ensures.left slot (subst (λ ss. Mem slot ss) (sym c.drop_nodes.ensures.slots) m))))
    c.move_nodes.ensures.moved (moved_id c.args.moves.now)))
    c.set_nests.ensures.nodes (filled_id c.args.nests.items))

pub push_entries-requires-clause-above : goal.push_entries-requires-clause-above
push_entries-requires-clause-above c = λ slot entry m n.
    c.requires.above slot entry
    (Mem-unfilter (λ (slot : Slot). not (is_among slot.node c.args.gone.now)) c.args.slots.now.items (subst (λ ss. Mem slot ss) c.drop_nodes.ensures.slots m)).0 n

pub returns-clause-nodes : goal.returns-clause-nodes
returns-clause-nodes c =
    let stay = staying c.args.nodes.now c.drop_nodes.new.nodes c.args.slots.now.items c.args.gone.now c.requires.held in
    all_after c.args.nodes.now c.drop_nodes.new.nodes c.move_nodes.new.nodes c.set_nests.new.nodes c.push_entries.new.nodes c.args.slots.now.items
    c.push_entries.new.slots.items c.args.gone.now c.args.moves.now c.args.nests.items c.args.entries.items c.requires.held
    (λ slot m. c.drop_nodes.ensures.left slot (subst (λ ss. Mem slot ss) (sym c.drop_nodes.ensures.slots) m))
    (subst (λ ss. LeadOn (IsMoved c.args.moves.now) c.drop_nodes.new.nodes c.move_nodes.new.nodes ss) (c.deref.ensures.value ∙ c.drop_nodes.ensures.slots) c.move_nodes.ensures.moved)
    (subst (λ ss. LeadOn (IsFilled c.args.nests.items) c.move_nodes.new.nodes c.set_nests.new.nodes ss) (c.deref-2.ensures.value ∙ c.drop_nodes.ensures.slots) c.set_nests.ensures.nodes)
    (subst (λ ss. ArePushed c.set_nests.new.nodes ss c.args.entries.items c.push_entries.new.nodes c.push_entries.new.slots.items) c.drop_nodes.ensures.slots c.push_entries.ensures)
