use Rattle.std.proofs.Common.{◌≡◌, ◌++◌, List, sym, ap, subst, ◌∙◌}
use Rattle.std.specs.List.Sorted.{IsStrictlySortedBy}
use Rattle.bg_lists.specs.Lists.{Mem}
use Rattle.bg_base.specs.declared.big.NodeRow.{NodeRow}
use Rattle.bg_base.specs.Bigraph.{node_cmp}
use Rattle.bg_place.specs.declared.graph.Places.{Places}
use Rattle.bg_index.specs.declared.entries.Slot.{Slot}
use Rattle.bg_index.specs.Indexed.{rows_of, AreSlotsOf, AreRegions}
use Rattle.bg_index.proofs.MakingLaws.{slots_ascend}
use Rattle.bg_index.proofs.making.nesting_of.Goals as goal

pub push_nodes-requires : goal.push_nodes-requires
push_nodes-requires c = record { kept = λ slot m. elim (subst (λ (xs : List Slot). Mem slot xs) c.new-slots.ensures.items m) [ ] }

pub returns-clause-nested : goal.returns-clause-nested
returns-clause-nested c =
    let nodes = c.push_nodes.new.nodes in
    let slots = c.push_nodes.new.slots.items in
    let kept = c.in_ok-push_nodes.ensures.kept in
    let rows : rows_of nodes slots ≡ c.args.big.now.nodes =
    c.in_ok-push_nodes.ensures.rows
    ∙ ap (λ (xs : List Slot). rows_of c.new-nodes.result xs ++ c.deref.result.now) c.new-slots.ensures.items ∙ c.deref.ensures in
    record {
      slots_ascend = slots_ascend c.in_ok-forest.forest nodes slots kept
          (subst (λ (xs : List NodeRow). IsStrictlySortedBy node_cmp xs) (sym rows) c.requires.valid.nodes_ascend);
      kept = subst (λ (places : Places). AreSlotsOf places nodes slots) c.in_ok-forest.ensures kept;
      regions_are = subst (λ (places : Places). AreRegions places c.in_ok-regions.regions.items) c.in_ok-forest.ensures c.in_ok-regions.ensures.are;
      regions_few = c.in_ok-regions.ensures.few;
    }
