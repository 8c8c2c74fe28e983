use Rattle.std.proofs.Common.{◌++◌, ◌∷◌, [], List, take, get_or, refl, sym, subst, ◌∙◌}
use Rattle.std.proofs.lemmas.List.{take_more}
use Rattle.bg_lists.proofs.Ascents.{Ascending-from_sorted}
use Rattle.bg_lists.proofs.Comparisons.{lt-from_nat_cmp}
use Rattle.bg_lists.proofs.Places.{At-get_or}
use Rattle.bg_base.specs.declared.names.Place.TheVariants.{Node}
use Rattle.bg_index.specs.declared.plans.Move.{Move}
use Rattle.bg_index.specs.Commits.{LeadOn, IsMoved, IsPut}
use Rattle.bg_index.specs.Plans.{move_cmp}
use Rattle.bg_index.proofs.CommitNodeLaws.{front_below, lead_held, lead_none, lead_on, moved_id, moved_more, not_moved}
use Rattle.bg_index.proofs.KeyLaws.{take_past}
use Rattle.bg_index.proofs.commit_nodes.move_nodes.Goals as goal

pub loop-step-init : goal.loop-step-init
loop-step-init c = record { moved = lead_none (IsMoved []) c.args.nodes.now c.args.slots.now not_moved; count = refl; capacity = refl }

pub move_node-requires : goal.move_node-requires
move_node-requires c = record {
  held = lead_held (IsMoved (take c.loop-step.step-index c.args.moves.now)) c.args.nodes.now c.loop-step.nodes c.args.slots.now c.requires.held c.loop-step.invariant.moved
      (moved_id (take c.loop-step.step-index c.args.moves.now));
}

pub loop-step-preserved : goal.loop-step-preserved
loop-step-preserved c =
    let none : Move = record { node = 0; place = Node 0 } in
    let front = take c.loop-step.step-index c.args.moves.now in
    let move = get_or c.args.moves.now c.loop-step.step-index none in
    let at = At-get_or c.args.moves.now c.loop-step.step-index none c.loop-step-test.true in
    record {
      moved = subst (λ (ms : List Move). LeadOn (IsMoved ms) c.args.nodes.now c.move_node.new.nodes c.args.slots.now)
          (sym (take_more c.args.moves.now c.loop-step.step-index none c.loop-step-test.true))
          (lead_on (IsMoved front) (IsPut move.node move.place) (IsMoved (front ++ move ∷ [])) c.args.nodes.now c.loop-step.nodes c.move_node.new.nodes c.args.slots.now
          c.loop-step.invariant.moved c.move_node.ensures.put
          (moved_more front move (λ x m. lt-from_nat_cmp x.node move.node
          (front_below c.loop-step.step-index c.args.moves.now (Ascending-from_sorted {cmp = move_cmp} c.args.moves.now c.requires.ascending) at m))));
      count = c.move_node.ensures.count ∙ c.loop-step.invariant.count;
      capacity = c.move_node.ensures.capacity ∙ c.loop-step.invariant.capacity;
    }

pub returns-clause-moved : goal.returns-clause-moved
returns-clause-moved c =
    subst (λ (ms : List Move). LeadOn (IsMoved ms) c.args.nodes.now c.loop-step.nodes c.args.slots.now)
    (take_past c.loop-step.step-index c.args.moves.now c.loop-step-test.false) c.loop-step.invariant.moved
