-- Uses of definitions, by the codes of the definitions.
use Rattle.std.proofs.Common.{◌≡◌, ◌<◌, ◌∷◌, [], ℕ, zero, suc, true, nat_lt, List, length, map, slice_get, slice_index_or, Some, Result, Ok, refl, sym, ap, subst, ◌∙◌, arith}
use Rattle.std.proofs.lemmas.Bool.Decides.{nat_tests}
use Rattle.bg_base.specs.declared.big.Big.{Big}
use Rattle.bg_base.specs.declared.labels.Label.{Label}
use Rattle.bg_base.specs.declared.labels.Value.{Value}
use Rattle.bg_base.specs.declared.signature.Control.{Control}
use Rattle.bg_code.specs.declared.operation.Operation.{Operation}
use Rattle.bg_code.specs.Code.{code_of}
use Rattle.bg_machine.specs.declared.met.Met.{Met}
use Rattle.bg_machine.specs.Calls.{begun}
use Rattle.bg_rules.specs.Rules.{RuleParts}
use Rattle.bg_statements.specs.declared.rule_code.RuleCode.{RuleCode}
use Rattle.bg_statements.specs.declared.rule_values.RuleValue.{RuleValue}
use Rattle.bg_statements.specs.Calls.{rule_code}
use Rattle.bg_statements.specs.Defined.{Defined}
use Rattle.bg_statements.specs.Rules.{RuleExpression}
use Rattle.bg_statements.specs.RuleValues.{rule_valued, whole_value}
use Rattle.bg_statements.specs.Uses.{bigraph_used, rule_parts, rule_used, setting_with}
use Rattle.bg_statements.proofs.Turns.{stops_there}
use Rattle.bg_terms.specs.Expressions.{Expression}
use Rattle.bg_values.specs.declared.refusal.Cause.TheVariants.{UnknownName}
use Rattle.bg_values.specs.declared.refusal.Refusal.{Refusal}
use Rattle.bg_values.specs.declared.refusal.Stop.{Stop}
use Rattle.bg_values.specs.Outcome.{◌>>=◌, Stops, there_or}

-- the item with a number, of which that is the code
pub record There {A B : Type 0} (code : A → B) (items : List A) (number : ℕ) (found : B) : Type 0 where
  pub item : A
  pub is : slice_get items number ≡ Some item
  pub coded : found ≡ code item

there_below : {A B : Type 0} (code : A → B) (items : List A) (codes : List B) (number : ℕ) (found : B) → codes ≡ map code items
    → number < length codes → found ≡ slice_index_or codes number found → There code items number found
there_below code [] [] number found is less at = absurd (omega (arith, less))
there_below code [] (c ∷ cs) number found is less at = absurd cc
there_below code (x ∷ xs) [] number found is less at = absurd cc
there_below code (x ∷ xs) (c ∷ cs) zero found is less at = let same : c ≡ code x = cc in record { item = x; is = refl; coded = at ∙ same }
there_below code (x ∷ xs) (c ∷ cs) (suc number) found is less at =
    let rest : cs ≡ map code xs = cc in
    let later = there_below code xs cs number found rest (omega (arith, less)) at in
    record { item = later.item; is = later.is; coded = later.coded }

-- the same, as a look-up tells it
pub coded_there : {A B : Type 0} (code : A → B) (items : List A) (codes : List B) (number : ℕ) (found : B) → codes ≡ map code items
    → true ≡ nat_lt number (length codes) → found ≡ slice_index_or codes number found → There code items number found
coded_there code items codes number found is there at = there_below code items codes number found is (grind (arith, nat_tests, there)) at

module _ (d : Defined) (at number : ℕ) where
  -- ---- bigraphs

  abbrev value_of : List Value → List Control → Expression → Result (Big × List Control) Refusal
  value_of values signature e = whole_value (setting_with d values) e (begun signature) >>= λ v. Ok (v.0, v.1.signature)

  pub bigraph_value : (values : List Value) (signature : List Control) (code : List Operation) (there : There code_of d.expressions number code)
      (met : Met) → met ≡ begun signature → (v : Big × Met) → whole_value (setting_with d values) there.item met ≡ Ok v
      → bigraph_used d at number values signature ≡ Ok (v.0, v.1.signature)
  bigraph_value values signature code there met begins v is =
      ap (λ o. there_or UnknownName at o >>= value_of values signature) there.is
      ∙ ap (λ r. r >>= λ (w : Big × Met). Ok (w.0, w.1.signature)) (ap (whole_value (setting_with d values) there.item) (sym begins) ∙ is)

  pub bigraph_stops : (values : List Value) (signature : List Control) (code : List Operation) (there : There code_of d.expressions number code)
      (met : Met) → met ≡ begun signature → (stop : Stop) → Stops stop (whole_value (setting_with d values) there.item met)
      → Stops stop (bigraph_used d at number values signature)
  bigraph_stops values signature code there met begins stop stops =
      stops_there stop (whole_value (setting_with d values) there.item (begun signature)) (bigraph_used d at number values signature)
      (λ (w : Big × Met). Ok (w.0, w.1.signature)) (ap (λ o. there_or UnknownName at o >>= value_of values signature) there.is)
      (subst (λ m. Stops stop (whole_value (setting_with d values) there.item m)) begins stops)

  -- ---- rules

  abbrev rule_of : Label → ℕ → List Control → RuleExpression → Result (RuleParts × List Control) Refusal
  rule_of label class signature rule =
      rule_valued (setting_with d label.args) rule (begun signature) >>= λ v. Ok (rule_parts label class v.0, v.1.signature)

  pub rule_value : (label : Label) (class : ℕ) (signature : List Control) (code : RuleCode) (there : There rule_code d.rule_expressions number code)
      (met : Met) → met ≡ begun signature → (v : RuleValue × Met) → rule_valued (setting_with d label.args) there.item met ≡ Ok v
      → rule_used d at number label class signature ≡ Ok (rule_parts label class v.0, v.1.signature)
  rule_value label class signature code there met begins v is =
      ap (λ o. there_or UnknownName at o >>= rule_of label class signature) there.is
      ∙ ap (λ r. r >>= λ (w : RuleValue × Met). Ok (rule_parts label class w.0, w.1.signature))
      (ap (rule_valued (setting_with d label.args) there.item) (sym begins) ∙ is)

  pub rule_stops : (label : Label) (class : ℕ) (signature : List Control) (code : RuleCode) (there : There rule_code d.rule_expressions number code)
      (met : Met) → met ≡ begun signature → (stop : Stop) → Stops stop (rule_valued (setting_with d label.args) there.item met)
      → Stops stop (rule_used d at number label class signature)
  rule_stops label class signature code there met begins stop stops =
      stops_there stop (rule_valued (setting_with d label.args) there.item (begun signature)) (rule_used d at number label class signature)
      (λ (w : RuleValue × Met). Ok (rule_parts label class w.0, w.1.signature)) (ap (λ o. there_or UnknownName at o >>= rule_of label class signature) there.is)
      (subst (λ m. Stops stop (rule_valued (setting_with d label.args) there.item m)) begins stops)
