-- The merge product of valid bigraphs is valid.
use Rattle.std.proofs.Common.{List}
use Rattle.bg_base.specs.declared.big.Big.{Big}
use Rattle.bg_base.specs.declared.signature.Control.{Control}
use Rattle.bg_base.specs.Bigraph.{IsValid, IsValidUnder}
use Rattle.bg_base.specs.Composition.{SupportsApart}
use Rattle.bg_base.specs.Products.{InnerApart, parallel, merge}
use Rattle.bg_algebra.proofs.Beside.{parallel_valid, parallel_valid_under}
use Rattle.bg_algebra.proofs.Changes.{in_one_region_valid, in_one_region_valid_under}

module _ (f g : Big) (f_valid : IsValid f) (g_valid : IsValid g) (apart : SupportsApart f g) (inner : InnerApart f g) where
  pub merge_valid : IsValid (merge f g)
  unfolding merge
  merge_valid = in_one_region_valid (parallel f g) (parallel_valid f g f_valid g_valid apart inner)

  pub merge_valid_under : (signature : List Control) → IsValidUnder signature f → IsValidUnder signature g → IsValidUnder signature (merge f g)
  unfolding merge
  merge_valid_under signature f_fits g_fits =
      in_one_region_valid_under (parallel f g) (parallel_valid f g f_valid g_valid apart inner) signature
      (parallel_valid_under f g f_valid g_valid apart inner signature f_fits g_fits)
