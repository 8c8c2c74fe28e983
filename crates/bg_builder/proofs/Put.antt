-- What the operations leave on a stack.
use Rattle.std.proofs.Common.{◌≡◌, ℕ, true, List, [], ◌∷◌, length, reverse, refl, sym, ap, subst}
use Rattle.bg_base.specs.declared.names.Name.{Name}
use Rattle.bg_base.specs.declared.big.Big.{Big}
use Rattle.bg_base.specs.Bigraph.{IsValid}
use Rattle.bg_base.specs.Composition.{FacesAgree, compose}
use Rattle.bg_base.specs.declared.names.Place.TheVariants.{Node}
use Rattle.bg_base.specs.Elementary.{lone_node, ion, atom}
use Rattle.bg_base.specs.Products.{InnerApart, OuterApart, tensor, parallel, merge, nest, close}
use Rattle.bg_base.proofs.ComposedValid.{compose_valid}
use Rattle.bg_algebra.proofs.Beside.{parallel_valid, tensor_parallel}
use Rattle.bg_algebra.proofs.Changes.{close_valid, edge_is_new}
use Rattle.bg_algebra.proofs.Merged.{merge_valid}
use Rattle.bg_algebra.proofs.Nested.{nest_valid, ion_valid, atom_valid}
use Rattle.bg_builder.specs.declared.frames.Frame.{Frame}
use Rattle.bg_builder.specs.declared.lists.Lists.{Lists}
use Rattle.bg_builder.specs.Frames.{LaidRows, laid_rows, rows_below, top_of, bigs_of, AreKept, AreTwo, IsLaid, stack_of, IsStack}
use Rattle.bg_builder.specs.Stack.{top, under, second, others, two_follow, top_behind}
use Rattle.bg_builder.proofs.Apart.{apart, new_edge}
use Rattle.bg_builder.proofs.Stacked.{two_of, operated, changed, added}

-- what holds of the bigraphs of a stack, said of its two topmost frames
said_of_two : (rows : LaidRows) {frames : List Frame} (g f : Frame) (rest : List Frame) (Says : Big → Big → Type 0) → frames ≡ g ∷ f ∷ rest
    → Says (second (bigs_of rows frames)) (top (bigs_of rows frames)) → Says (top_of (rows_below rows g) f) (top_of rows g)
said_of_two rows g f rest Says is says = subst (λ fs. Says (second (bigs_of rows fs)) (top (bigs_of rows fs))) is says

module _ (old new : Lists) (before rest after : List Frame) (g f whole : Frame)
    (two : reverse before ≡ g ∷ f ∷ reverse rest) (one : reverse after ≡ whole ∷ reverse rest)
    (kept : AreKept (laid_rows old) (reverse before)) (follow : two_follow (stack_of old before) ≡ true) where
  abbrev upper : Big
  upper = top_of (rows_below (laid_rows old) g) f

  abbrev lower : Big
  lower = top_of (laid_rows old) g

  pub are_two : AreTwo (laid_rows old) g f
  are_two =
      two_of (laid_rows old) g f (reverse rest) (subst (AreKept (laid_rows old)) two kept) (subst (λ fs. two_follow (bigs_of (laid_rows old) fs) ≡ true) two follow)

  pub parallel_put : InnerApart (second (stack_of old before)) (top (stack_of old before))
      → IsLaid (laid_rows new) whole (rows_below (rows_below (laid_rows old) g) f) (parallel upper lower)
      → IsStack new after (parallel (second (stack_of old before)) (top (stack_of old before)) ∷ others (stack_of old before))
  parallel_put inner is =
      operated old new before rest after g f whole parallel two one kept is
      (parallel_valid upper lower are_two.f_valid are_two.g_valid (apart upper lower are_two.f_valid are_two.g_valid are_two.follow)
      (said_of_two (laid_rows old) g f (reverse rest) InnerApart two inner))

  pub merge_put : InnerApart (second (stack_of old before)) (top (stack_of old before))
      → IsLaid (laid_rows new) whole (rows_below (rows_below (laid_rows old) g) f) (merge upper lower)
      → IsStack new after (merge (second (stack_of old before)) (top (stack_of old before)) ∷ others (stack_of old before))
  merge_put inner is =
      operated old new before rest after g f whole merge two one kept is
      (merge_valid upper lower are_two.f_valid are_two.g_valid (apart upper lower are_two.f_valid are_two.g_valid are_two.follow)
      (said_of_two (laid_rows old) g f (reverse rest) InnerApart two inner))

  pub compose_put : FacesAgree (second (stack_of old before)) (top (stack_of old before))
      → IsLaid (laid_rows new) whole (rows_below (rows_below (laid_rows old) g) f) (compose upper lower)
      → IsStack new after (compose (second (stack_of old before)) (top (stack_of old before)) ∷ others (stack_of old before))
  compose_put faces is =
      operated old new before rest after g f whole compose two one kept is
      (compose_valid upper lower (said_of_two (laid_rows old) g f (reverse rest) FacesAgree two faces)
      (apart upper lower are_two.f_valid are_two.g_valid are_two.follow) are_two.f_valid are_two.g_valid)

  pub nest_put : (second (stack_of old before)).inner ≡ [] → (top (stack_of old before)).regions ≡ length (second (stack_of old before)).sites
      → IsLaid (laid_rows new) whole (rows_below (rows_below (laid_rows old) g) f) (nest upper lower)
      → IsStack new after (nest (second (stack_of old before)) (top (stack_of old before)) ∷ others (stack_of old before))
  nest_put no_inner widths is =
      operated old new before rest after g f whole nest two one kept is
      (nest_valid upper lower are_two.f_valid are_two.g_valid
      (said_of_two (laid_rows old) g f (reverse rest) (λ (x y : Big). x.inner ≡ []) two no_inner)
      (said_of_two (laid_rows old) g f (reverse rest) (λ (x y : Big). y.regions ≡ length x.sites) two widths)
      (apart upper lower are_two.f_valid are_two.g_valid are_two.follow))

module _ (old new : Lists) (before rest after : List Frame) (f whole : Frame)
    (one : reverse before ≡ f ∷ reverse rest) (made : reverse after ≡ whole ∷ reverse rest)
    (kept : AreKept (laid_rows old) (reverse before)) where
  pub close_put : (name : Name) (edge : ℕ) → top_behind edge (stack_of old before) ≡ true
      → IsLaid (laid_rows new) whole (rows_below (laid_rows old) f) (close (top_of (laid_rows old) f) name edge)
      → IsStack new after (close (top (stack_of old before)) name edge ∷ under (stack_of old before))
  close_put name edge behind is =
      let big = top_of (laid_rows old) f in
      let kept_one : AreKept (laid_rows old) (f ∷ reverse rest) = subst (AreKept (laid_rows old)) one kept in
      let lies : top_behind edge (bigs_of (laid_rows old) (f ∷ reverse rest)) ≡ true = subst (λ fs. top_behind edge (bigs_of (laid_rows old) fs) ≡ true) one behind in
      changed old new before rest after f whole (λ b. close b name edge) one made kept is
      (close_valid big name edge kept_one.1 (edge_is_new big.edges edge (new_edge edge big kept_one.1 lies)))

-- of bigraphs on a stack whose names differ the tensor product is the parallel one
pub tensor_on : (lists : Lists) (frames : List Frame) → AreKept (laid_rows lists) (reverse frames) → two_follow (stack_of lists frames) ≡ true
    → OuterApart (second (stack_of lists frames)) (top (stack_of lists frames))
    → parallel (second (stack_of lists frames)) (top (stack_of lists frames)) ≡ tensor (second (stack_of lists frames)) (top (stack_of lists frames))
tensor_on lists frames kept follow outer = by (reverse frames) kept follow outer
  where
    by : (fs : List Frame) → AreKept (laid_rows lists) fs → two_follow (bigs_of (laid_rows lists) fs) ≡ true
        → OuterApart (second (bigs_of (laid_rows lists) fs)) (top (bigs_of (laid_rows lists) fs))
        → parallel (second (bigs_of (laid_rows lists) fs)) (top (bigs_of (laid_rows lists) fs)) ≡ tensor (second (bigs_of (laid_rows lists) fs)) (top (bigs_of (laid_rows lists) fs))
    by [] kept follow outer = absurd cc
    by (g ∷ []) kept follow outer = absurd cc
    by (g ∷ f ∷ fs) kept follow outer = sym (tensor_parallel _ _ kept.2.1 kept.1 outer)

-- a node put on top
module _ (old new : Lists) (before after : List Frame) (whole : Frame) (control node : ℕ) (names : List Name)
    (is : reverse after ≡ whole ∷ reverse before) (kept : AreKept (laid_rows old) (reverse before)) where
  pub ion_put : IsLaid (laid_rows new) whole (laid_rows old) (lone_node control node names (Node node ∷ []))
      → IsStack new after (ion control node names ∷ stack_of old before)
  unfolding ion
  ion_put lies = added old new before after whole (ion control node names) is kept lies (ion_valid control node names)

  pub atom_put : IsLaid (laid_rows new) whole (laid_rows old) (lone_node control node names []) → IsStack new after (atom control node names ∷ stack_of old before)
  unfolding atom
  atom_put lies = added old new before after whole (atom control node names) is kept lies (atom_valid control node names)
