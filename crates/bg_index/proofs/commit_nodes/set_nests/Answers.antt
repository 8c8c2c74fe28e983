use Rattle.std.proofs.Common.{◌++◌, ◌∷◌, [], List, refl, subst, ◌∙◌}
use Rattle.std.proofs.lemmas.Iterator.Adapters.{YieldsList-from_vec}
use Rattle.std.proofs.lemmas.Iterator.Consumers.{YieldsList-end}
use Rattle.bg_index.specs.declared.plans.Nest.{Nest}
use Rattle.bg_index.specs.Commits.{LeadOn, IsFilled}
use Rattle.bg_index.proofs.CommitNodeLaws.{filled_id, filled_none, filled_on, lead_held, lead_none, lead_on, region_none, region_on, went_through}
use Rattle.bg_index.proofs.commit_nodes.set_nests.Goals as goal

pub loop-nest-init : goal.loop-nest-init
loop-nest-init c = record {
  nodes = lead_none (IsFilled []) c.args.nodes.now c.args.slots.now filled_none;
  regions = region_none c.args.regions.now.items;
  count = refl;
  capacity = refl;
}

pub set_nest-requires : goal.set_nest-requires
set_nest-requires c = record {
  held = lead_held (IsFilled c.loop-nest.yielded) c.args.nodes.now c.loop-nest.nodes c.args.slots.now c.requires.held c.loop-nest.invariant.nodes (filled_id c.loop-nest.yielded);
}

pub loop-nest-preserved : goal.loop-nest-preserved
loop-nest-preserved c = record {
  nodes = lead_on (IsFilled c.loop-nest.yielded) (IsFilled (c.in-Some.nest ∷ [])) (IsFilled (c.loop-nest.yielded ++ c.in-Some.nest ∷ [])) c.args.nodes.now c.loop-nest.nodes c.set_nest.new.nodes
      c.args.slots.now c.loop-nest.invariant.nodes c.set_nest.ensures.nodes (filled_on c.loop-nest.yielded (c.in-Some.nest ∷ []));
  regions = region_on c.loop-nest.yielded (c.in-Some.nest ∷ []) c.args.regions.now.items c.loop-nest.regions.items c.set_nest.new.regions.items
      c.loop-nest.invariant.regions c.set_nest.ensures.regions;
  count = c.set_nest.ensures.count ∙ c.loop-nest.invariant.count;
  capacity = c.set_nest.ensures.capacity ∙ c.loop-nest.invariant.capacity;
}

pub returns-clause-nodes : goal.returns-clause-nodes
returns-clause-nodes c =
    let many = c.args.nests.ok.0 in
    let end = YieldsList-end (YieldsList-from_vec {s = c.into_iter-nest-iterator.result} c.args.nests.items (cc) (cc)) c.loop-nest.yielded c.loop-nest.nest-iterator c.loop-nest.yielded_by c.next.result c.next.new.self c.in-None.is c.next.ensures.steps in
    subst (λ (ns : List Nest). LeadOn (IsFilled ns) c.args.nodes.now c.loop-nest.nodes c.args.slots.now)
    (went_through c.loop-nest.yielded c.args.nests.items end.0) c.loop-nest.invariant.nodes
