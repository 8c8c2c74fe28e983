-- Behind sound definitions the number of a name is the number of an expression, and no other number is.
use Rattle.std.proofs.Common.{◌≡◌, ◌<◌, ◌≤◌, ◌∷◌, [], ℕ, zero, suc, List, length, Some, None, Result, Ok, refl, ap, arith}
use Rattle.std.specs.Prelude.{slice_get}
use Rattle.std.proofs.lemmas.Option.{slice_get_past}
use Rattle.bg_base.specs.declared.big.Big.{Big}
use Rattle.bg_base.specs.declared.labels.Label.{Label}
use Rattle.bg_base.specs.declared.labels.Value.{Value}
use Rattle.bg_base.specs.declared.signature.Control.{Control}
use Rattle.bg_machine.specs.Calls.{begun}
use Rattle.bg_rules.specs.Rules.{RuleParts}
use Rattle.bg_statements.specs.Defined.{Defined}
use Rattle.bg_statements.specs.Rules.{RuleExpression}
use Rattle.bg_statements.specs.RuleValues.{rule_valued, whole_value}
use Rattle.bg_statements.specs.Sound.{IsSound}
use Rattle.bg_statements.specs.Uses.{bigraph_used, rule_parts, rule_used, setting_with}
use Rattle.bg_terms.specs.Expressions.{Expression}
use Rattle.bg_values.specs.declared.refusal.Cause.TheVariants.{UnknownName}
use Rattle.bg_values.specs.declared.refusal.Refusal.{Refusal}
use Rattle.bg_values.specs.Outcome.{◌>>=◌, refused, there_or}

-- the item with a number below the length
there_is : {A : Type 0} (xs : List A) (number : ℕ) → number < length xs → (x : A) × (slice_get xs number ≡ Some x)
there_is [] number less = absurd (omega (arith, less))
there_is (x ∷ xs) zero less = (x, refl)
there_is (x ∷ xs) (suc number) less = there_is xs number (omega (arith, less))

-- the same, below the length of another list that is as long
as_long : {A B : Type 0} (xs : List A) (ys : List B) → length xs ≡ length ys → (number : ℕ) → number < length ys
    → (x : A) × (slice_get xs number ≡ Some x)
as_long xs ys same number less = there_is xs number (omega (arith, same, less))

past_both : {A B : Type 0} (xs : List A) (ys : List B) → length xs ≡ length ys → (number : ℕ) → length ys ≤ number → slice_get xs number ≡ None
past_both xs ys same number past = slice_get_past xs number (omega (arith, same, past))

pub bigraph_known : (d : Defined) → IsSound d → (number : ℕ) → number < length d.bigraphs → (e : Expression) × (slice_get d.expressions number ≡ Some e)
bigraph_known d sound = as_long d.expressions d.bigraphs sound.bigraphs_paired

pub rule_known : (d : Defined) → IsSound d → (number : ℕ) → number < length d.rules → (e : RuleExpression) × (slice_get d.rule_expressions number ≡ Some e)
rule_known d sound = as_long d.rule_expressions d.rules sound.rules_paired

abbrev bigraph_next : Defined → List Value → List Control → Expression → Result (Big × List Control) Refusal
bigraph_next d values signature e = whole_value (setting_with d values) e (begun signature) >>= λ v. Ok (v.0, v.1.signature)

pub bigraph_unknown : (d : Defined) → IsSound d → (number : ℕ) → length d.bigraphs ≤ number → (at : ℕ) (values : List Value) (signature : List Control)
    → bigraph_used d at number values signature ≡ refused UnknownName at
bigraph_unknown d sound number past at values signature =
    ap (λ o. there_or UnknownName at o >>= bigraph_next d values signature) (past_both d.expressions d.bigraphs sound.bigraphs_paired number past)

abbrev rule_next : Defined → Label → ℕ → List Control → RuleExpression → Result (RuleParts × List Control) Refusal
rule_next d label class signature rule =
    rule_valued (setting_with d label.args) rule (begun signature) >>= λ v. Ok (rule_parts label class v.0, v.1.signature)

pub rule_unknown : (d : Defined) → IsSound d → (number : ℕ) → length d.rules ≤ number → (at : ℕ) (label : Label) (class : ℕ) (signature : List Control)
    → rule_used d at number label class signature ≡ refused UnknownName at
rule_unknown d sound number past at label class signature =
    ap (λ o. there_or UnknownName at o >>= rule_next d label class signature) (past_both d.rule_expressions d.rules sound.rules_paired number past)
