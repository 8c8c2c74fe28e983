use Rattle.std.proofs.Common.{option_copied, sym, ap, ◌∙◌, eqb-true, ◌==◌}
use Rattle.bg_lists.proofs.Words.{member_from_find}
use Rattle.bg_index.specs.declared.entries.Slot.{Slot}
use Rattle.bg_index.proofs.CommitControlLaws.{less_more, less_none}
use Rattle.bg_index.proofs.CommitNodeLaws.{never_none}
use Rattle.bg_index.proofs.commit_controls.take_out_node.Goals as goal

pub returns-in-Some-get : goal.returns-in-Some-get
returns-in-Some-get c = λ first done sorted so_far.
    let w = member_from_find (λ (slot : Slot). slot.node == c.args.node) c.args.slots.now c.in-Some.slot (sym c.find_slot.ensures ∙ c.in-Some.is) in
    less_more c.args.nodes.now c.args.slots.now c.requires.held first c.args.controls.now.items c.args.gone.now done sorted so_far c.args.node c.in-Some.slot
    c.in-Some-get.entry.now c.take_out_of.new.controls.items w.0 (eqb-true c.in-Some.slot.node c.args.node w.1)
    (sym c.get.ensures ∙ ap option_copied c.in-Some-get.is) c.take_out_of.ensures

pub returns-in_default-get : goal.returns-in_default-get
returns-in_default-get c = λ first done sorted so_far.
    absurd (never_none c.args.nodes.now c.args.slots.now c.requires.held c.args.node c.in-Some.slot (sym c.find_slot.ensures ∙ c.in-Some.is)
    (sym c.get.ensures ∙ ap option_copied c.in_default-get.is))

pub returns-in_default : goal.returns-in_default
returns-in_default c = λ first done sorted so_far.
    less_none c.args.nodes.now c.args.slots.now c.requires.held first c.args.controls.now.items c.args.gone.now done sorted so_far c.args.node
    (sym c.find_slot.ensures ∙ c.in_default.is)
