-- A walk downwards from an image.
use Rattle.std.specs.Prelude.{◌≡◌, ℕ, ◌<◌, ◌≤◌, ◌⊎◌, ◌==◌, List, length}
use Rattle.std.specs.List.{IsDistinct}
use Rattle.bg_lists.specs.Lists.{Mem, At}
use Rattle.bg_base.specs.declared.names.Place.TheVariants.{Node}
use Rattle.bg_base.specs.declared.big.NodeRow.{NodeRow}
use Rattle.bg_base.specs.declared.big.Big.{Big}
use Rattle.bg_rewriting.specs.Boundaries.{IsBelow}

-- the node is one of these, and what lies in a node below it lies below it
pub record IsWalkable (host : Big) (nodes : List ℕ) (node : ℕ) : Type 0 where
  pub among : Mem node nodes
  pub children : (upper child : NodeRow) → IsBelow host.nodes nodes node upper → Mem child host.nodes → child.parent ≡ Node upper.id
      → IsBelow host.nodes nodes node child

-- numbers of nodes below the image: all that lie in it, and of the first `at` of these all that lie in them
pub record IsWalked (host : Big) (nodes : List ℕ) (node at : ℕ) (numbers : List ℕ) : Type 0 where
  pub upto : at ≤ length numbers
  pub distinct : IsDistinct (λ (x y : ℕ). x == y) numbers
  pub below : (number : ℕ) → Mem number numbers → (row : NodeRow) × IsBelow host.nodes nodes node row × (row.id ≡ number)
      × ((row.parent ≡ Node node) ⊎ ((i : ℕ) × (upper : ℕ) × (i < at) × At upper i numbers × (row.parent ≡ Node upper)))
  pub tops : (row : NodeRow) → Mem row host.nodes → (Mem row.id nodes → ⊥) → row.parent ≡ Node node → Mem row.id numbers
  pub closed : (i upper : ℕ) → i < at → At upper i numbers → (row : NodeRow) → Mem row host.nodes → row.parent ≡ Node upper → Mem row.id numbers
