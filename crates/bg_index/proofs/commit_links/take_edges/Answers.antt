use Rattle.std.proofs.Common.{◌≡◌, ℕ, List, not, filter, take, get_or, refl, sym, subst, ◌∙◌, arith}
use Rattle.std.proofs.lemmas.List.{take_more}
use Rattle.bg_rules.specs.Instantiation.{is_among}
use Rattle.bg_index.specs.declared.entries.EdgeEntry.{EdgeEntry}
use Rattle.bg_index.proofs.KeyLaws.{left_ascends, removed_more, removed_none, take_past}
use Rattle.bg_index.proofs.commit_links.take_edges.Goals as goal

pub loop-edge-init : goal.loop-edge-init
loop-edge-init c = record { kept = removed_none (λ (entry : EdgeEntry). entry.edge) c.args.edges.now.items; count = omega arith; capacity = refl }

pub take_edge-requires : goal.take_edge-requires
take_edge-requires c = record {
  edges_ascend = left_ascends (λ (entry : EdgeEntry). entry.edge) (take c.loop-edge.edge-index c.args.idle.now) c.args.edges.now.items c.loop-edge.edges.items c.loop-edge.invariant.kept c.requires.edges_ascend;
}

pub loop-edge-preserved : goal.loop-edge-preserved
loop-edge-preserved c = record {
  kept = subst (λ (ns : List ℕ). c.take_edge.new.edges.items ≡ filter (λ (entry : EdgeEntry). not (is_among entry.edge ns)) c.args.edges.now.items)
      (sym (take_more c.args.idle.now c.loop-edge.edge-index 0 c.loop-edge-test.true))
      (removed_more (λ (entry : EdgeEntry). entry.edge) (take c.loop-edge.edge-index c.args.idle.now) (get_or c.args.idle.now c.loop-edge.edge-index 0) c.args.edges.now.items c.loop-edge.edges.items c.take_edge.new.edges.items
      c.loop-edge.invariant.kept c.take_edge.ensures.kept);
  count = (let less = c.take_edge.ensures.count in let so_far = c.loop-edge.invariant.count in omega arith);
  capacity = c.take_edge.ensures.capacity ∙ c.loop-edge.invariant.capacity;
}

pub returns-clause-kept : goal.returns-clause-kept
returns-clause-kept c =
    subst (λ (ns : List ℕ). c.loop-edge.edges.items ≡ filter (λ (entry : EdgeEntry). not (is_among entry.edge ns)) c.args.edges.now.items)
    (take_past c.loop-edge.edge-index c.args.idle.now c.loop-edge-test.false) c.loop-edge.invariant.kept
