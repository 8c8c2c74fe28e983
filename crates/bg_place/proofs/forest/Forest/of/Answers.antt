use Rattle.std.proofs.Common.{subst, sym}
use Rattle.std.specs.List.Sorted.{IsStrictlySortedBy}
use Rattle.bg_place.specs.declared.graph.Places.{Places}
use Rattle.bg_place.specs.Rows.{parent_cmp, ClimbsEnd}
use Rattle.bg_place.proofs.RowLaws.{parents_ascend}
use Rattle.bg_place.proofs.AncestryLaws.{valid_settled}
use Rattle.bg_place.proofs.forest.Forest.of.Goals as goal

pub of_places-requires : goal.of_places-requires
of_places-requires c =
    record {
      ascending = subst (λ (places : Places). IsStrictlySortedBy parent_cmp places.parents) (sym c.in_ok-places.ensures)
          (parents_ascend c.args.big.now.nodes c.requires.valid.nodes_ascend);
      settled = subst (λ (places : Places). ClimbsEnd places.parents) (sym c.in_ok-places.ensures) (valid_settled c.args.big.now c.requires.valid);
    }
