-- Results that go on with their value, and what an Ok says.
use Rattle.std.proofs.Common.{◌≡◌, Result, Ok, Err, refl}
use Rattle.bg_values.specs.declared.refusal.Refusal.{Refusal}
use Rattle.bg_values.specs.Outcome.{◌>>=◌}

pub bind_assoc : {A B C : Type 0} → (r : Result A Refusal) (f : A → Result B Refusal) (g : B → Result C Refusal)
    → (r >>= f) >>= g ≡ r >>= (λ x. f x >>= g)
bind_assoc (Ok x) f g = refl
bind_assoc (Err e) f g = refl

pub bind_same : {A B : Type 0} → (r : Result A Refusal) (f g : A → Result B Refusal) → ((x : A) → f x ≡ g x) → r >>= f ≡ r >>= g
bind_same (Ok x) f g same = same x
bind_same (Err e) f g same = refl

-- the values of equal results are equal
pub ok_same : {A : Type 0} {x y : A} → ◌≡◌ {A = Result A Refusal} (Ok x) (Ok y) → x ≡ y
ok_same is = cc
