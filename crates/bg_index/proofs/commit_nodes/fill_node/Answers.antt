use Rattle.std.proofs.Common.{◌≡◌, ◌∷◌, [], Some, sym, ap, ◌∙◌, is_some, refl}
use Rattle.std.specs.Option.{option_copied_mut}
use Rattle.slab.specs.Slab.{get}
use Rattle.slab.proofs.SlabLemmas.{Updates-with_value}
use Rattle.bg_index.specs.Commits.{IsFilled}
use Rattle.bg_index.proofs.CommitNodeLaws.{lead_changed, lead_same, never_none, node_filled, node_other}
use Rattle.bg_index.proofs.commit_nodes.fill_node.Goals as goal

pub returns-in-Some-get_mut-clause-nodes : goal.returns-in-Some-get_mut-clause-nodes
returns-in-Some-get_mut-clause-nodes c =
    let entry_is : get c.args.nodes.now c.in-Some.slot.at ≡ Some c.in-Some-get_mut.entry.now = sym c.get_mut.ensures.value ∙ ap option_copied_mut c.in-Some-get_mut.is in
    lead_changed (IsFilled (c.args.nest ∷ [])) c.args.nodes.now _ c.args.slots.now c.requires.held c.args.node c.in-Some.slot c.in-Some-get_mut.entry.now _
    (sym c.find_slot.ensures ∙ c.in-Some.is) entry_is (Updates-with_value c.args.nodes.now c.in-Some.slot.at _ (ap is_some entry_is))
    (λ e. node_filled c.args.nest c.args.node c.requires.place c.in-Some-get_mut.entry.now _ refl refl e)
    (node_other c.args.nest c.args.node c.requires.place)

pub returns-in_default-get_mut-clause-nodes : goal.returns-in_default-get_mut-clause-nodes
returns-in_default-get_mut-clause-nodes c =
    absurd (never_none c.args.nodes.now c.args.slots.now c.requires.held c.args.node c.in-Some.slot (sym c.find_slot.ensures ∙ c.in-Some.is)
    (sym c.get_mut.ensures.value ∙ ap option_copied_mut c.in_default-get_mut.is))

pub returns-in_default-clause-nodes : goal.returns-in_default-clause-nodes
returns-in_default-clause-nodes c =
    lead_same (IsFilled (c.args.nest ∷ [])) c.args.nodes.now c.args.nodes.now c.args.slots.now c.requires.held c.args.node
    (sym c.find_slot.ensures ∙ c.in_default.is) refl (node_other c.args.nest c.args.node c.requires.place)
