-- A walk downwards: what has the children of an image that are no images, and with each node its children, is the part of a site.
use Rattle.std.proofs.Common.{◌≡◌, ℕ, List, refl, sym, subst, ◌∙◌, ◌⊎◌, inl, inr}
use Rattle.bg_lists.specs.Lists.{Mem}
use Rattle.bg_lists.proofs.Members.{Mem-same}
use Rattle.bg_base.specs.declared.names.Place.{Place}
use Rattle.bg_base.specs.declared.names.Place.TheVariants.{Node, Region}
use Rattle.bg_base.specs.declared.big.NodeRow.{NodeRow}
use Rattle.bg_base.specs.declared.big.Big.{Big}
use Rattle.bg_base.specs.Bigraph.{IsGround}
use Rattle.bg_rules.specs.Solid.{IsPattern}
use Rattle.bg_rules.specs.LocalConditions.{Meets, above, MeetsLocally, image_of, IsImage}
use Rattle.bg_rules.proofs.Patterns.{image_mem, image_row, parent_node}
use Rattle.bg_rewriting.specs.Boundaries.{MeetsFirst, first_here, first_above, IsBelow}
use Rattle.bg_rewriting.proofs.Below.{first_meets, first_member}

module _ {host pattern : Big} {nodes : List ℕ} (is : IsPattern pattern) (ground : IsGround host) (local : MeetsLocally host pattern nodes) where
  -- an image that lies in a node lies in an image, or above all images
  image_in_node : {row : NodeRow} {node : ℕ} → Mem row host.nodes → Mem row.id nodes → row.parent ≡ Node node
      → ((other : ℕ) → Mem other nodes → Meets host.nodes other (Node node) → ⊥) ⊎ Mem node nodes
  image_in_node {row} {node} m k e =
      let w = image_row pattern is.valid nodes local.nodes_new k in
      let is_image : IsImage host pattern nodes w.0 row = record { of_pattern = w.1; of_host = m; same = sym w.2 } in
      lies w.0.parent w.0 is_image refl
    where
      lies : (place : Place) (below : NodeRow) → IsImage host pattern nodes below row → below.parent ≡ place
          → ((other : ℕ) → Mem other nodes → Meets host.nodes other (Node node) → ⊥) ⊎ Mem node nodes
      lies (Node upper) below image f =
          let nested = local.nested below row upper image f in
          let z : Node (image_of pattern nodes upper) ≡ Node node = sym nested ∙ e in
          let same : image_of pattern nodes upper ≡ node = cc in
          inr (Mem-same same (image_mem pattern is.valid nodes local.nodes_new (parent_node pattern is.valid image.of_pattern f)))
      lies (Region region) below image f =
          inl (λ other n up. local.clear below row region other image f n (subst (λ p. Meets host.nodes other p) (sym e) up))

  -- what lies in a node below an image lies below it too
  pub child_below : {node : ℕ} {upper child : NodeRow} → IsBelow host.nodes nodes node upper → Mem child host.nodes → child.parent ≡ Node upper.id
      → IsBelow host.nodes nodes node child
  child_below {node} {upper} {child} low m e =
      record {
        of_rows = m;
        no_image = λ k. elim (image_in_node m k e) [
          | inl clear ↦ clear node (first_member low.under) (above low.of_rows refl (first_meets low.under))
          | inr n ↦ low.no_image n
        ];
        under = subst (λ p. MeetsFirst host.nodes nodes node p) (sym e) (first_above low.of_rows refl low.no_image low.under);
      }

  -- what lies in an image and is none lies below it
  pub top_below : {node : ℕ} {child : NodeRow} → Mem node nodes → Mem child host.nodes → (Mem child.id nodes → ⊥) → child.parent ≡ Node node
      → IsBelow host.nodes nodes node child
  top_below k m none e = record { of_rows = m; no_image = none; under = first_here e k }

  -- a list that has the first ones, and with each node its children, has all
  module _ (node : ℕ) (numbers : List ℕ)
      (tops : (child : NodeRow) → Mem child host.nodes → (Mem child.id nodes → ⊥) → child.parent ≡ Node node → Mem child.id numbers)
      (closed : (child : NodeRow) (upper : ℕ) → Mem child host.nodes → child.parent ≡ Node upper → Mem upper numbers → Mem child.id numbers) where
    reached : {place : Place} → MeetsFirst host.nodes nodes node place → (child : NodeRow) → Mem child host.nodes → (Mem child.id nodes → ⊥) → child.parent ≡ place
        → Mem child.id numbers
    reached (first_here f k) child m none e = tops child m none (e ∙ f)
    reached (first_above {row = row} n f no_image up) child m none e = closed child row.id m (e ∙ f) (reached up row n no_image refl)

    pub walked : (row : NodeRow) → IsBelow host.nodes nodes node row → Mem row.id numbers
    walked row low = reached low.under row low.of_rows low.no_image refl
