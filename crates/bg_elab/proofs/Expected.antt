-- Results that are no refusal by number 31, and that arithmetic has no other ones.
use Rattle.std.proofs.Common.{◌≡◌, ℕ, Bool, true, false, cond, ltb, List, [], ◌∷◌, Option, Some, None, Result, Ok, Err, ℤ, pos, negsuc, ◌+ℤ◌, ◌-ℤ◌, ◌*ℤ◌, neg_ℤ, int_div, int_lt, ◌||◌, slice_get, refl, subst, arith}
use Rattle.std.specs.Ordering.{int_eq}
use Rattle.bg_base.specs.Limits.{most_values}
use Rattle.bg_base.specs.declared.labels.Value.{Value}
use Rattle.bg_base.specs.declared.labels.Value.TheVariants.{Int, Words}
use Rattle.bg_values.specs.declared.formula.Operator.{Operator}
use Rattle.bg_values.specs.declared.formula.Operator.TheVariants.{Add, Subtract, Multiply, Divide}
use Rattle.bg_values.specs.declared.refusal.Cause.{Cause}
use Rattle.bg_values.specs.declared.refusal.Cause.TheVariants as causes
use Rattle.bg_values.specs.declared.refusal.Refusal.{Refusal}
use Rattle.bg_values.specs.Arithmetic.{Formula, whole, words, name, negation, operation, ranged, applied, whole_of, value}
use Rattle.bg_values.specs.Codes.{code}
use Rattle.bg_values.specs.Operands.{Operand, values, number, numbers}
use Rattle.bg_values.specs.Outcome.{◌>>=◌, each, there_or}
use Rattle.bg_values.specs.Parameters.{few, is_empty, count, range, evaluated_range}

-- the cause has another number
abbrev pub IsOther : Cause → Type 0
IsOther cause = code cause ≡ 31 → ⊥

-- the result is no refusal by 31
pub record IsExpected {A : Type 0} (r : Result A Refusal) : Type 0 where
  pub expected : (refusal : Refusal) → r ≡ Err refusal → IsOther refusal.cause

pub good : {A : Type 0} {x : A} → IsExpected (Ok x)
good = record { expected = λ refusal e. absurd cc }

same_refusal : {A : Type 0} {one other : Refusal} → ◌≡◌ {A = Result A Refusal} (Err one) (Err other) → one ≡ other
same_refusal e = cc

pub bad : {A : Type 0} {refusal : Refusal} → IsOther refusal.cause → IsExpected {A = A} (Err refusal)
bad h = record { expected = λ other e. subst (λ z. IsOther z.cause) (same_refusal e) h }

pub goes_on : {A B : Type 0} {r : Result A Refusal} {f : A → Result B Refusal} → IsExpected r → ((x : A) → IsExpected (f x)) → IsExpected (r >>= f)
goes_on {r = Ok x} h more = more x
goes_on {A} {B} {r = Err refusal} h more = bad {A = B} (h.expected refusal refl)

pub there : {A : Type 0} (cause : Cause) (token : ℕ) (o : Option A) → IsOther cause → IsExpected (there_or cause token o)
there cause token (Some x) h = good
there cause token None h = bad h

pub whether : {A : Type 0} {one other : Result A Refusal} (v : Bool) → IsExpected one → IsExpected other → IsExpected (cond v one other)
whether true x y = x
whether false x y = y

-- ---- arithmetic

ranged_expected : (at : ℕ) (z : ℤ) → IsExpected (ranged at z)
ranged_expected at z = whether (int_lt z (negsuc 9223372036854775807) || int_lt (pos 9223372036854775807) z) (bad (λ e. omega arith)) good

applied_expected : (operator : Operator) (at : ℕ) (x y : ℤ) → IsExpected (applied operator at x y)
applied_expected Add at x y = ranged_expected at (x +ℤ y)
applied_expected Subtract at x y = ranged_expected at (x -ℤ y)
applied_expected Multiply at x y = ranged_expected at (x *ℤ y)
applied_expected Divide at x y = whether (int_eq y (pos 0)) (bad (λ e. omega arith)) (ranged_expected at (int_div x y))

pub whole_of_expected : (first : ℕ) (v : Value) → IsExpected (whole_of first v)
whole_of_expected first (Int z) = good
whole_of_expected first (Words text) = bad (λ e. omega arith)

pub value_expected : (env : List Value) (f : Formula) → IsExpected (value env f)
value_expected env (whole z) = good
value_expected env (words text) = good
value_expected env (name at number) = there causes.UnknownName at (slice_get env number) (λ e. omega arith)
value_expected env (negation at first f) =
    goes_on (value_expected env f) (λ v. goes_on (whole_of_expected first v) (λ x. goes_on (ranged_expected at (neg_ℤ x)) (λ z. good)))
value_expected env (operation operator at first f second g) =
    goes_on (value_expected env f) (λ v. goes_on (value_expected env g) (λ w. goes_on (whole_of_expected first v) (λ x.
    goes_on (whole_of_expected second w) (λ y. goes_on (applied_expected operator at x y) (λ z. good)))))

each_expected : (comes : Operand → Result Value Refusal) → ((f : Operand) → IsExpected (comes f)) → (fs : List Operand) → IsExpected (each comes fs)
each_expected comes h [] = good
each_expected comes h (f ∷ fs) = goes_on (h f) (λ v. goes_on (each_expected comes h fs) (λ vs. good))

pub values_expected : (env : List Value) (fs : List Operand) → IsExpected (values env fs)
values_expected env fs = each_expected (λ f. value env f.1) (λ f. value_expected env f.1) fs

number_expected : (env : List Value) (f : Operand) → IsExpected (number env f)
number_expected env f = goes_on (value_expected env f.1) (λ v. goes_on (whole_of_expected f.0 v) (λ z. good))

pub numbers_expected : (env : List Value) (fs : List Operand) → IsExpected (numbers env fs)
numbers_expected env fs = each_expected (number env) (number_expected env) fs

-- ---- the values of parameters

pub few_expected : (called : ℕ) (vs : List Value) → IsExpected (few called vs)
few_expected called vs = whether _ (bad (λ e. omega arith)) good

range_expected : (called bracket : ℕ) (a s b : ℤ) → IsExpected (range called bracket a s b)
range_expected called bracket a s b =
    whether (is_empty a s b) (bad (λ e. omega arith)) (whether (ltb most_values (count a s b)) (bad (λ e. omega arith)) good)

pub evaluated_range_expected : (called bracket : ℕ) (f g h : Operand) → IsExpected (evaluated_range called bracket f g h)
evaluated_range_expected called bracket f g h =
    goes_on (value_expected [] f.1) (λ u. goes_on (value_expected [] g.1) (λ v. goes_on (value_expected [] h.1) (λ w.
    goes_on (whole_of_expected f.0 u) (λ a. goes_on (whole_of_expected g.0 v) (λ s. goes_on (whole_of_expected h.0 w) (λ b.
    range_expected called bracket a s b))))))
