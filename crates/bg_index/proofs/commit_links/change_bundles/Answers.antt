use Rattle.std.proofs.Common.{◌∷◌, [], List, length, take, refl, sym, subst, ◌∙◌}
use Rattle.std.proofs.lemmas.Iterator.Adapters.{YieldsList-from_vec}
use Rattle.std.proofs.lemmas.Iterator.Consumers.{YieldsList-so_far, YieldsList-turn}
use Rattle.bg_lists.proofs.Places.{At-get_or, At-same, Mem-from_At}
use Rattle.bg_index.specs.declared.plans.Bundle.{Bundle}
use Rattle.bg_index.specs.Commits.{IsEdgeBundled, edge_key}
use Rattle.bg_index.proofs.CommitLinkLaws.{Apart, apart_in_front, edges_none, edges_on, names_none, names_on, still_edges, still_names}
use Rattle.bg_index.proofs.CommitNodeLaws.{went_through}
use Rattle.bg_index.proofs.KeyLaws.{from_ascends}
use Rattle.bg_index.proofs.commit_links.change_bundles.Goals as goal

pub loop-bundle-init : goal.loop-bundle-init
loop-bundle-init c = record {
  edges = edges_none c.args.gone.now c.args.edges.now.items;
  names = names_none c.args.gone.now c.args.names.now.items;
  count = refl;
  capacity = refl;
}

pub change_bundle-requires-clause-ascending : goal.change_bundle-requires-clause-ascending
change_bundle-requires-clause-ascending c =
    from_ascends edge_key (IsEdgeBundled c.args.gone.now c.loop-bundle.yielded) c.args.edges.now.items c.loop-bundle.edges.items c.loop-bundle.invariant.edges c.requires.ascending

pub change_bundle-requires-clause-edges_take : goal.change_bundle-requires-clause-edges_take
change_bundle-requires-clause-edges_take c =
    let many = c.args.bundles.ok.0 in
    let whole = YieldsList-from_vec {s = c.into_iter-bundle-iterator.result} c.args.bundles.items (cc) (cc) in
    let turn = YieldsList-turn whole c.loop-bundle.yielded c.loop-bundle.bundle-iterator c.loop-bundle.yielded_by c.next.result c.next.new.self c.in-Some.bundle c.in-Some.is c.next.ensures.steps in
    let front = went_through c.loop-bundle.yielded (take (length c.loop-bundle.yielded) c.args.bundles.items)
    (YieldsList-so_far whole c.loop-bundle.yielded c.loop-bundle.bundle-iterator c.loop-bundle.yielded_by) in
    let at = At-same (sym turn.1) (At-get_or c.args.bundles.items (length c.loop-bundle.yielded) c.in-Some.bundle turn.0) in
    let apart = subst (λ (bs : List Bundle). Apart bs (c.in-Some.bundle ∷ [])) (sym front)
    (apart_in_front (length c.loop-bundle.yielded) c.args.bundles.items c.in-Some.bundle c.requires.bundles_ascend at) in
    still_edges c.args.gone.now c.loop-bundle.yielded c.args.bundles.items c.in-Some.bundle (Mem-from_At at) apart c.args.edges.now.items c.loop-bundle.edges.items
    c.requires.edges_take c.loop-bundle.invariant.edges

pub change_bundle-requires-clause-names_take : goal.change_bundle-requires-clause-names_take
change_bundle-requires-clause-names_take c =
    let many = c.args.bundles.ok.0 in
    let whole = YieldsList-from_vec {s = c.into_iter-bundle-iterator.result} c.args.bundles.items (cc) (cc) in
    let turn = YieldsList-turn whole c.loop-bundle.yielded c.loop-bundle.bundle-iterator c.loop-bundle.yielded_by c.next.result c.next.new.self c.in-Some.bundle c.in-Some.is c.next.ensures.steps in
    let front = went_through c.loop-bundle.yielded (take (length c.loop-bundle.yielded) c.args.bundles.items)
    (YieldsList-so_far whole c.loop-bundle.yielded c.loop-bundle.bundle-iterator c.loop-bundle.yielded_by) in
    let at = At-same (sym turn.1) (At-get_or c.args.bundles.items (length c.loop-bundle.yielded) c.in-Some.bundle turn.0) in
    let apart = subst (λ (bs : List Bundle). Apart bs (c.in-Some.bundle ∷ [])) (sym front)
    (apart_in_front (length c.loop-bundle.yielded) c.args.bundles.items c.in-Some.bundle c.requires.bundles_ascend at) in
    still_names c.args.gone.now c.loop-bundle.yielded c.args.bundles.items c.in-Some.bundle (Mem-from_At at) apart c.args.names.now.items c.loop-bundle.names.items
    c.requires.names_take c.loop-bundle.invariant.names

pub loop-bundle-preserved : goal.loop-bundle-preserved
loop-bundle-preserved c =
    let many = c.args.bundles.ok.0 in
    let whole = YieldsList-from_vec {s = c.into_iter-bundle-iterator.result} c.args.bundles.items (cc) (cc) in
    let turn = YieldsList-turn whole c.loop-bundle.yielded c.loop-bundle.bundle-iterator c.loop-bundle.yielded_by c.next.result c.next.new.self c.in-Some.bundle c.in-Some.is c.next.ensures.steps in
    let front = went_through c.loop-bundle.yielded (take (length c.loop-bundle.yielded) c.args.bundles.items)
    (YieldsList-so_far whole c.loop-bundle.yielded c.loop-bundle.bundle-iterator c.loop-bundle.yielded_by) in
    let at = At-same (sym turn.1) (At-get_or c.args.bundles.items (length c.loop-bundle.yielded) c.in-Some.bundle turn.0) in
    let apart = subst (λ (bs : List Bundle). Apart bs (c.in-Some.bundle ∷ [])) (sym front)
    (apart_in_front (length c.loop-bundle.yielded) c.args.bundles.items c.in-Some.bundle c.requires.bundles_ascend at) in
    record {
      edges = edges_on c.args.gone.now c.loop-bundle.yielded (c.in-Some.bundle ∷ []) apart c.args.edges.now.items c.loop-bundle.edges.items c.change_bundle.new.edges.items
          c.loop-bundle.invariant.edges c.change_bundle.ensures.edges;
      names = names_on c.args.gone.now c.loop-bundle.yielded (c.in-Some.bundle ∷ []) apart c.args.names.now.items c.loop-bundle.names.items c.change_bundle.new.names.items
          c.loop-bundle.invariant.names c.change_bundle.ensures.names;
      count = c.change_bundle.ensures.count ∙ c.loop-bundle.invariant.count;
      capacity = c.change_bundle.ensures.capacity ∙ c.loop-bundle.invariant.capacity;
    }
