-- What the marks of a climb say.
use Rattle.std.proofs.Common.{◌≡◌, ℕ, ◌<◌, Option, Some, List, length, slice_set, length-set, sym, ◌∙◌, inl, inr, subst}
use Rattle.std.proofs.lemmas.Bool.{cases_eq}
use Rattle.std.proofs.lemmas.Option.{slice_get_within}
use Rattle.bg_lists.proofs.Places.{get-set_other, get-set_same}
use Rattle.bg_base.specs.Climbing.{AreMarks}

module _ {V : Type 0} (value_at : ℕ → V) where
  -- the marks stay right where a row is marked with its value
  pub marked_more : (marks : List (Option V)) (at : ℕ) (value known : V) → AreMarks value_at marks → value ≡ known → value_at at ≡ known
      → AreMarks value_at (slice_set marks at (Some value))
  marked_more marks at value known marked is row =
      record {
        right = λ k mark set. elim (cases_eq k at) [
          | inl same ↦ (let inside : at < length marks
              = rw same at (subst (λ n. k < n) (length-set marks at (Some value)) (slice_get_within (slice_set marks at (Some value)) k (Some mark) set)) in
              let e : Some (Some value) ≡ Some (Some mark) = sym (get-set_same marks k at (Some value) same inside) ∙ set in
              let one : mark ≡ value = cc in one ∙ is ∙ sym row ∙ (λ t. value_at (sym same t)))
          | inr apart ↦ marked.right k mark (sym (get-set_other marks k at (Some value) apart) ∙ set)
        ];
      }
