-- The composition of two bigraphs, or its refusal, from the facts of the field.
use Rattle.std.proofs.Common.{ℕ, zero, suc, ◌<◌, [], ◌∷◌, get_or, Contains, arith, Bool, true, false, not, Ok, Err, Result, if◌then◌else◌, ◌↔◌, ◌≡◌, ◌∙◌, refl, ap}
use Rattle.std.specs.Prelude.{IsErrOf}
use Rattle.bg_base.specs.declared.big.Big.{Big}
use Rattle.bg_base.specs.Composition.{FacesAgree, SupportsApart, faces_agree, supports_apart, compose}
use Rattle.bg_base.proofs.CompositionTests.{FacesAgree-from_test, test-FacesAgree, SupportsApart-from_test, test-SupportsApart}
use Rattle.bg_algebra.specs.declared.fault.AlgebraFault.{AlgebraFault}
use Rattle.bg_algebra.specs.declared.fault.AlgebraFault.TheVariants as algebra
use Rattle.bg_answers.specs.Failure.{Tells, of_algebra}
use Rattle.bg_answers.specs.declared.refusal.Refusal.{Refusal}
use Rattle.bg_answers.specs.declared.refusal.Refusal.TheVariants.{FacesDiffer, SupportMeets}
use Rattle.command_compose.specs.Compose.{composed_or_refused}

-- a test that is never true is false
fails : (b : Bool) → (b ≡ true → ⊥) → b ≡ false
fails true never = absurd (never refl)
fails false never = refl

abbrev pub by_tests : Big → Big → Bool → Bool → Result Big Refusal
by_tests g f faces supports = if not faces then Err FacesDiffer else (if not supports then Err SupportMeets else Ok (compose g f))

pub joined_whole : (g f : Big) → FacesAgree g f → SupportsApart g f → composed_or_refused g f ≡ Ok (compose g f)
joined_whole g f faces supports =
    ap (λ b. by_tests g f b (supports_apart g f)) (test-FacesAgree g f faces) ∙ ap (by_tests g f true) (test-SupportsApart g f supports)

pub joined_differ : (g f : Big) → (FacesAgree g f → ⊥) → composed_or_refused g f ≡ Err FacesDiffer
joined_differ g f differ =
    ap (λ b. by_tests g f b (supports_apart g f)) (fails (faces_agree g f) (λ e. differ (FacesAgree-from_test g f e)))

pub joined_meet : (g f : Big) → FacesAgree g f → (SupportsApart g f → ⊥) → composed_or_refused g f ≡ Err SupportMeets
joined_meet g f faces meet =
    ap (λ b. by_tests g f b (supports_apart g f)) (test-FacesAgree g f faces)
    ∙ ap (by_tests g f true) (fails (supports_apart g f) (λ e. meet (SupportsApart-from_test g f e)))

-- a fault that is none of the three
not_among : (fault : AlgebraFault) (k : ℕ) → k < 3 → get_or (algebra.FacesDiffer ∷ algebra.SupportMeets ∷ algebra.OutOfMemory ∷ []) k fault ≡ fault
    → (algebra.FacesDiffer ≡ fault → ⊥) → (algebra.SupportMeets ≡ fault → ⊥) → (algebra.OutOfMemory ≡ fault → ⊥) → ⊥
not_among fault zero l e first second third = first e
not_among fault (suc zero) l e first second third = second e
not_among fault (suc (suc zero)) l e first second third = third e
not_among fault (suc (suc (suc k))) l e first second third = omega arith

-- the fault of the algebra is the refusal
pub joined_fault : (g f : Big) (fault : AlgebraFault)
    → (IsErrOf {T = Big} (Err fault) algebra.FacesDiffer ↔ ¬ FacesAgree g f)
    → (IsErrOf {T = Big} (Err fault) algebra.SupportMeets ↔ (FacesAgree g f × ¬ SupportsApart g f))
    → Contains (algebra.FacesDiffer ∷ algebra.SupportMeets ∷ algebra.OutOfMemory ∷ []) fault
    → Tells (of_algebra fault) (composed_or_refused g f)
joined_fault g f algebra.FacesDiffer faces supports among = joined_differ g f (faces.0 refl)
joined_fault g f algebra.SupportMeets faces supports among = let meet = supports.0 refl in joined_meet g f meet.0 meet.1
joined_fault g f algebra.OutOfMemory faces supports among = tt
joined_fault g f algebra.NamesMeet faces supports among = absurd (not_among algebra.NamesMeet among.0 among.1 among.2 (λ e. cc) (λ e. cc) (λ e. cc))
joined_fault g f algebra.InnerNamesMeet faces supports among = absurd (not_among algebra.InnerNamesMeet among.0 among.1 among.2 (λ e. cc) (λ e. cc) (λ e. cc))
joined_fault g f algebra.WidthsDiffer faces supports among = absurd (not_among algebra.WidthsDiffer among.0 among.1 among.2 (λ e. cc) (λ e. cc) (λ e. cc))
joined_fault g f algebra.NoSuchName faces supports among = absurd (not_among algebra.NoSuchName among.0 among.1 among.2 (λ e. cc) (λ e. cc) (λ e. cc))
joined_fault g f algebra.HasInnerNames faces supports among = absurd (not_among algebra.HasInnerNames among.0 among.1 among.2 (λ e. cc) (λ e. cc) (λ e. cc))
