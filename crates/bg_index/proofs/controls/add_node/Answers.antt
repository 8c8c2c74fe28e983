use Rattle.std.proofs.Common.{◌<◌, ◌++◌, ◌∷◌, [], sym, ap, subst, ◌∙◌}
use Rattle.bg_lists.proofs.Places.{At-below, At-get_or, At-one, At-same}
use Rattle.bg_index.specs.declared.entries.ControlEntry.{ControlEntry}
use Rattle.bg_index.proofs.ControlLaws.{set_ascends, set_sorted}
use Rattle.bg_index.proofs.controls.add_node.Goals as goal

pub index_mut-requires : goal.index_mut-requires
index_mut-requires c =
    let w = c.in_ok-at.ensures.there in subst (λ n. c.in_ok-at.at < n) (sym c.control_at.new.controls.ok.0) (At-below w.1)

pub returns-clause-ascending : goal.returns-clause-ascending
returns-clause-ascending c =
    let w = c.in_ok-at.ensures.there in
    let was = c.index_mut.result.now in
    let stood = At-same (sym c.index_mut.ensures.value) (At-get_or c.control_at.new.controls.items c.in_ok-at.at was (At-below w.1)) in
    set_ascends c.control_at.new.controls.items c.in_ok-at.at was c.push_node.new.entry stood c.in_ok-push_node.ensures.control c.in_ok-at.ensures.ascending

pub returns-clause-added : goal.returns-clause-added
returns-clause-added c = λ rows sorted row is_control is_node.
    let w = c.in_ok-at.ensures.there in
    let was = c.index_mut.result.now in
    let stood = At-same (sym c.index_mut.ensures.value) (At-get_or c.control_at.new.controls.items c.in_ok-at.at was (At-below w.1)) in
    set_sorted c.control_at.new.controls.items c.in_ok-at.at was c.push_node.new.entry stood c.in_ok-push_node.ensures.control c.in_ok-at.ensures.ascending
    rows row (is_control ∙ sym w.2 ∙ ap (λ (entry : ControlEntry). entry.control) (At-one w.1 stood))
    (c.in_ok-push_node.ensures.nodes ∙ ap (λ n. was.nodes.items ++ n ∷ []) (sym is_node))
    (c.in_ok-at.ensures.sorted rows sorted)
