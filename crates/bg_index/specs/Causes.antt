-- Why nodes are touched by a reaction, said of the host before and the host after.
use Rattle.std.specs.Prelude.{◌≡◌, ◌↔◌, ◌⊎◌, ℕ, ◌<◌, ◌≤◌, List, map}
use Rattle.std.specs.List.{IsDistinct}
use Rattle.std.specs.List.Sorted.{IsStrictlySortedBy}
use Rattle.std.specs.Ordering.{nat_cmp}
use Rattle.bg_lists.specs.Lists.{Mem}
use Rattle.bg_base.specs.declared.names.Place.TheVariants.{Node}
use Rattle.bg_base.specs.declared.names.Link.{Link}
use Rattle.bg_base.specs.declared.big.NodeRow.{NodeRow}
use Rattle.bg_base.specs.declared.big.Big.{Big}
use Rattle.bg_base.specs.Products.{same_link}
use Rattle.bg_base.specs.Translation.{node_numbers}
use Rattle.bg_place.specs.Places.{places_of, children_of}
use Rattle.bg_link.specs.Links.{links_of, points_of, degree_of}
use Rattle.bg_rewriting.specs.Touching.{IsGone}
use Rattle.bg_index.specs.declared.causes.Causes.{Causes}
use Rattle.bg_index.specs.declared.causes.Relinked.{Relinked}

-- the node is there before and after, with another parent
pub record HasMoved (before after : Big) (node : ℕ) : Type 0 where
  pub old : NodeRow
  pub new : NodeRow
  pub was : Mem old before.nodes
  pub is : Mem new after.nodes
  pub old_number : old.id ≡ node
  pub new_number : new.id ≡ node
  pub elsewhere : old.parent ≡ new.parent → ⊥

-- the node is there after, with other children than before; a node that was not there had none
pub record IsReshaped (before after : Big) (node : ℕ) : Type 0 where
  pub is : Mem node (node_numbers after.nodes)
  pub others : children_of (places_of before) (Node node) ≡ children_of (places_of after) (Node node) → ⊥

-- the link has other points than before; the degree is the one before
pub record IsRelinked (before after : Big) (told : Relinked) : Type 0 where
  pub degree : told.degree ≡ degree_of (links_of before) told.link
  pub others : points_of (links_of before) told.link ≡ points_of (links_of after) told.link → ⊥

-- a node before and the same node after: its control and its links stay, and so does its parent, unless it has moved
pub record IsSurvivor (moved : List ℕ) (old new : NodeRow) : Type 0 where
  pub control : new.control ≡ old.control
  pub links : new.links ≡ old.links
  pub parent : Mem old.id moved ⊎ (new.parent ≡ old.parent)

-- in order exactly the numbers of which that holds
pub record AreThose (Holds : ℕ → Type 0) (numbers : List ℕ) : Type 0 where
  pub ascend : IsStrictlySortedBy nat_cmp numbers
  pub are : (number : ℕ) → Mem number numbers ↔ Holds number

abbrev pub links_told : Causes → List Link
links_told causes = map (λ (told : Relinked). told.link) causes.relinked.items

-- each list has exactly what it is to have
pub record AreCauses (before after : Big) (causes : Causes) : Type 0 where
  pub gone : AreThose (IsGone before after) causes.gone.items
  pub moved : AreThose (HasMoved before after) causes.moved.items
  pub reshaped : AreThose (IsReshaped before after) causes.reshaped.items
  pub relinked : (told : Relinked) → Mem told causes.relinked.items → IsRelinked before after told
  pub linked_once : IsDistinct same_link (links_told causes)
  -- the nodes before are below the next number, and a node after that was not there is not
  pub old_below : (node : ℕ) → Mem node (node_numbers before.nodes) → node < causes.next_node
  pub old_or_new : (node : ℕ) → Mem node (node_numbers after.nodes) → Mem node (node_numbers before.nodes) ⊎ (causes.next_node ≤ node)
  -- so what is told of no list is as it was
  pub gone_or_there : (node : ℕ) → Mem node (node_numbers before.nodes) → Mem node causes.gone.items ⊎ Mem node (node_numbers after.nodes)
  pub survives : (old new : NodeRow) → Mem old before.nodes → Mem new after.nodes → old.id ≡ new.id → IsSurvivor causes.moved.items old new
  pub reshaped_or_same : (node : ℕ) → Mem node (node_numbers after.nodes)
      → Mem node causes.reshaped.items ⊎ (children_of (places_of before) (Node node) ≡ children_of (places_of after) (Node node))
  pub relinked_or_same : (link : Link) → Mem link (links_told causes) ⊎ (points_of (links_of before) link ≡ points_of (links_of after) link)
