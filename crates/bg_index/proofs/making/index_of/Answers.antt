use Rattle.std.proofs.Common.{List, ap, subst, ◌∙◌}
use Rattle.bg_base.specs.declared.big.Big.{Big}
use Rattle.bg_base.specs.declared.big.NodeRow.{NodeRow}
use Rattle.bg_place.specs.Places.{places_of}
use Rattle.bg_link.specs.Links.{links_of}
use Rattle.bg_index.specs.Indexed.{AreNested, AreTied, AreSorted}
use Rattle.bg_index.proofs.MakingLaws.{made_index}
use Rattle.bg_index.proofs.making.index_of.Goals as goal

pub returns-clause-index : goal.returns-clause-index
returns-clause-index c =
    let same = c.big-big.ensures.same in
    made_index c.args.host.now
    (record {
      nodes = c.in_ok-nesting.nesting.nodes;
      slots = c.in_ok-nesting.nesting.slots;
      regions = c.in_ok-nesting.nesting.regions;
      edges = c.in_ok-ties.ties.edges;
      outer = c.in_ok-outer.outer;
      names = c.in_ok-ties.ties.names;
      controls = c.in_ok-controls.controls;
      next_node = c.next_node.result;
      next_edge = c.next_edge.result;
    })
    c.big-big.ensures.kept
    (c.in_ok-nesting.ensures.rows ∙ ap (λ (big : Big). big.nodes) same)
    (c.in_ok-nesting.ensures.regions ∙ ap (λ (big : Big). big.regions) same)
    (c.in_ok-ties.ensures.edges ∙ ap (λ (big : Big). big.edges) same)
    (c.in_ok-outer.ensures ∙ ap (λ (big : Big). big.outer) same)
    c.next_node.ensures.same
    c.next_edge.ensures.same
    (subst (λ (big : Big). AreNested (places_of big) c.in_ok-nesting.nesting.nodes c.in_ok-nesting.nesting.slots.items c.in_ok-nesting.nesting.regions.items) same
    c.in_ok-nesting.ensures.nested)
    (subst (λ (big : Big). AreTied (links_of big) c.in_ok-ties.ties.edges.items big.outer c.in_ok-ties.ties.names.items) same c.in_ok-ties.ensures.tied)
    (subst (λ (rows : List NodeRow). AreSorted rows c.in_ok-controls.controls.items) (c.deref.ensures ∙ ap (λ (big : Big). big.nodes) same) c.in_ok-controls.ensures)
