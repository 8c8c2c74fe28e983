-- What statements, rules and uses come to, once they are read, is never refused by number 31; nor is the block.
use Rattle.std.proofs.Common.{ℕ, zero, suc, not, ltb, List, [], ◌∷◌, length, Option, Some, None, Result, is_some, slice_get, arith}
use Rattle.bg_base.specs.Limits.{most_rules}
use Rattle.bg_base.specs.declared.big.Big.{Big}
use Rattle.bg_base.specs.declared.labels.Label.{Label}
use Rattle.bg_base.specs.declared.labels.Value.{Value}
use Rattle.bg_base.specs.declared.signature.Control.{Control}
use Rattle.bg_elab.specs.Blocks.{Block, Listed}
use Rattle.bg_elab.specs.Choices.{choices}
use Rattle.bg_elab.specs.References.{Reference}
use Rattle.bg_elab.specs.Systems.{room_at, label_with, with_rule, with_rules, with_predicate, with_predicates, rules_valued, predicates_valued, block_valued}
use Rattle.bg_machine.specs.declared.met.Met.{Met}
use Rattle.bg_machine.specs.Calls.{begun, evaluated}
use Rattle.bg_rules.specs.declared.predicate.Predicate.{Predicate}
use Rattle.bg_rules.specs.Rules.{RuleParts, sides_agree, map_fits}
use Rattle.bg_rules.specs.Solid.{unsolid_clause}
use Rattle.bg_statements.specs.declared.rule_values.ConditionValue.{ConditionValue}
use Rattle.bg_statements.specs.Defined.{Defined}
use Rattle.bg_statements.specs.InTurn.{in_turn}
use Rattle.bg_statements.specs.Rules.{ConditionExpression, RuleExpression}
use Rattle.bg_statements.specs.RuleValues.{Setting, term_in, whole_value, with_value, conditions_valued, solid_or, solid_at, redex_tested, with_tested, conditions_tested, map_or_identity, rule_tested, rule_valued}
use Rattle.bg_statements.specs.Statements.{new_word, with_formal, entered_at_once, with_shape, tried, with_expression, setting_of, rule_tried, with_rule_expression}
use Rattle.bg_statements.specs.Uses.{setting_with, bigraph_used, is_ground, ground_at, host_used, predicate_used, rule_used}
use Rattle.bg_terms.specs.declared.shape.Shape.{Shape}
use Rattle.bg_terms.specs.Expansion.{control_of_shape, expand, meanings_of}
use Rattle.bg_terms.specs.Expressions.{Expression}
use Rattle.bg_terms.specs.Read.{shapes_of}
use Rattle.bg_terms.specs.Terms.{Term}
use Rattle.bg_values.specs.declared.refusal.Cause.TheVariants as causes
use Rattle.bg_values.specs.declared.refusal.LimitWord.{LimitWord}
use Rattle.bg_values.specs.declared.refusal.LimitWord.TheVariants.{Rules, Preds}
use Rattle.bg_values.specs.declared.refusal.Refusal.{Refusal}
use Rattle.bg_values.specs.Names.{NamedValue, name_number}
use Rattle.bg_values.specs.Scopes.{ScopeParts, spelling}
use Rattle.bg_elab.proofs.Expected.{IsExpected, good, bad, goes_on, there, whether, values_expected}
use Rattle.bg_elab.proofs.ExpectedTerms.{entered_expected, IsExpectedTerm, term_expected, expansion_expected}

turns_expected : {X S : Type 0} (step : X → S → Result S Refusal) → ((x : X) (s : S) → IsExpected (step x s)) → (xs : List X) (s : S) → IsExpected (in_turn step xs s)
turns_expected step h [] s = good
turns_expected step h (x ∷ xs) s = goes_on (h x s) (λ t. turns_expected step h xs t)

-- ---- expressions and rules

evaluated_expected : (met : Met) (t : Term) → IsExpectedTerm t → IsExpected (evaluated met t)
evaluated_expected met t h = term_expected t h 0 (record { signature = met.signature; nodes = 0; edges = 0; terms = met.terms })

whole_expected : (s : Setting) (e : Expression) (met : Met) → IsExpected (whole_value s e met)
whole_expected s e met =
    goes_on (goes_on (evaluated_expected met (term_in s e) (expansion_expected (shapes_of s.controls) s.expressions s.values e)) (λ v. good)) (λ v. good)

conditions_expected : (s : Setting) (conditions : List ConditionExpression) (met : Met) → IsExpected (conditions_valued s conditions met)
conditions_expected s conditions met =
    turns_expected (with_value s) (λ c found. goes_on (whole_expected s c.pattern found.1) (λ v. good)) conditions ([], met)

solid_or_expected : (at : ℕ) (big : Big) (clause : Option ℕ) → IsExpected (solid_or at big clause)
solid_or_expected at big None = good
solid_or_expected at big (Some clause) = bad (λ e. omega arith)

solid_expected : (at : ℕ) (big : Big) → IsExpected (solid_at at big)
solid_expected at big = solid_or_expected at big (unsolid_clause big)

redex_expected : (at : ℕ) (redex reactum : Big) (entries : List ℕ) → IsExpected (redex_tested at redex reactum entries)
redex_expected at redex reactum entries =
    goes_on (whether (not (sides_agree redex reactum)) (bad (λ e. omega arith))
    (whether (not (map_fits redex reactum entries)) (bad (λ e. omega arith)) good)) (λ agreed. solid_expected at redex)

tested_expected : (conditions : List ConditionValue) → IsExpected (conditions_tested conditions)
tested_expected conditions = turns_expected with_tested (λ c done. goes_on (solid_expected c.at c.big) (λ pattern. good)) conditions []

rule_tested_expected : (at : ℕ) (redex reactum : Big) (entries : List ℕ) (conditions : List ConditionValue) → IsExpected (rule_tested at redex reactum entries conditions)
rule_tested_expected at redex reactum entries conditions =
    goes_on (redex_expected at redex reactum entries) (λ pattern. goes_on (tested_expected conditions) (λ found. good))

rule_expected : (s : Setting) (rule : RuleExpression) (met : Met) → IsExpected (rule_valued s rule met)
rule_expected s rule met =
    goes_on (whole_expected s rule.redex met) (λ redex. goes_on (whole_expected s rule.reactum redex.1) (λ reactum.
    goes_on (conditions_expected s rule.conditions reactum.1) (λ conditions.
    goes_on (rule_tested_expected rule.at redex.0 reactum.0 (map_or_identity rule.map redex.0) conditions.0) (λ v. good))))

-- ---- statements

pub new_word_expected : {T : Type 0} (text : ScopeParts) (entries : List (NamedValue T)) (token : ℕ) → IsExpected (new_word text entries token)
new_word_expected text entries token = whether (is_some (name_number (spelling text token) entries)) (bad (λ e. omega arith)) good

pub formal_expected : (text : ScopeParts) (token : ℕ) (formals : List (NamedValue (Unit {0}))) → IsExpected (with_formal text token formals)
formal_expected text token formals = goes_on (new_word_expected text formals token) (λ word. good)

entered_once : (at formals : ℕ) (shape : Shape) (d : Defined) → IsExpected (entered_at_once at formals shape d)
entered_once at zero shape d = goes_on (entered_expected at (control_of_shape shape []) d.signature) (λ e. good)
entered_once at (suc n) shape d = good

pub shape_expected : (at : ℕ) (word : List ℕ) (formals : ℕ) (shape : Shape) (d : Defined) → IsExpected (with_shape at word formals shape d)
shape_expected at word formals shape d = goes_on (entered_once at formals shape d) (λ t. good)

tried_expected : (formals : ℕ) (e : Expression) (d : Defined) → IsExpected (tried formals e d)
tried_expected zero e d =
    goes_on (evaluated_expected (begun d.signature) (expand (shapes_of d.controls) (meanings_of (shapes_of d.controls) d.expressions) [] e)
    (expansion_expected (shapes_of d.controls) d.expressions [] e)) (λ v. good)
tried_expected (suc n) e d = good

pub expression_expected : (word : List ℕ) (formals : ℕ) (e : Expression) (d : Defined) → IsExpected (with_expression word formals e d)
expression_expected word formals e d = goes_on (tried_expected formals e d) (λ t. good)

rule_tried_expected : (formals : ℕ) (rule : RuleExpression) (d : Defined) → IsExpected (rule_tried formals rule d)
rule_tried_expected zero rule d = goes_on (goes_on (rule_expected (setting_of d) rule (begun d.signature)) (λ v. good)) (λ signature. good)
rule_tried_expected (suc n) rule d = good

pub rule_expression_expected : (word : List ℕ) (formals : ℕ) (rule : RuleExpression) (d : Defined) → IsExpected (with_rule_expression word formals rule d)
rule_expression_expected word formals rule d = goes_on (rule_tried_expected formals rule d) (λ t. good)

-- ---- uses

bigraph_used_expected : (d : Defined) (at number : ℕ) (vs : List Value) (signature : List Control) → IsExpected (bigraph_used d at number vs signature)
bigraph_used_expected d at number vs signature =
    goes_on (there causes.UnknownName at (slice_get d.expressions number) (λ e. omega arith)) (λ e.
    goes_on (whole_expected (setting_with d vs) e (begun signature)) (λ v. good))

ground_expected : (at : ℕ) (big : Big) → IsExpected (ground_at at big)
ground_expected at big = whether (is_ground big) good (bad (λ e. omega arith))

host_used_expected : (d : Defined) (at number : ℕ) (vs : List Value) (signature : List Control) → IsExpected (host_used d at number vs signature)
host_used_expected d at number vs signature =
    goes_on (bigraph_used_expected d at number vs signature) (λ v. goes_on (ground_expected at v.0) (λ host. good))

predicate_used_expected : (d : Defined) (at number : ℕ) (label : Label) (signature : List Control) → IsExpected (predicate_used d at number label signature)
predicate_used_expected d at number label signature =
    goes_on (bigraph_used_expected d at number label.args signature) (λ v. goes_on (solid_expected at v.0) (λ big. good))

rule_used_expected : (d : Defined) (at number : ℕ) (label : Label) (class : ℕ) (signature : List Control) → IsExpected (rule_used d at number label class signature)
rule_used_expected d at number label class signature =
    goes_on (there causes.UnknownName at (slice_get d.rule_expressions number) (λ e. omega arith)) (λ rule.
    goes_on (rule_expected (setting_with d label.args) rule (begun signature)) (λ v. good))

-- ---- the block, once its names were looked up

room_expected : (limit : LimitWord) (at count : ℕ) → IsExpected (room_at limit at count)
room_expected limit at count = whether (ltb count most_rules) good (bad (λ e. omega arith))

label_expected : (r : Reference) (choice : List Value) → IsExpected (label_with r choice)
label_expected r choice = goes_on (values_expected choice r.arguments) (λ args. good)

with_rule_expected : (d : Defined) (l : Listed) (choice : List Value) (made : List RuleParts × List Control) → IsExpected (with_rule d l choice made)
with_rule_expected d l choice made =
    goes_on (room_expected Rules l.reference.at (length made.0)) (λ room. goes_on (label_expected l.reference choice) (λ label.
    goes_on (rule_used_expected d l.reference.at l.reference.number label l.class made.1) (λ v. good)))

rules_expected : (d : Defined) (references : List Listed) (signature : List Control) → IsExpected (rules_valued d references signature)
rules_expected d references signature =
    turns_expected (with_rules d) (λ l made. turns_expected (with_rule d l) (λ choice s. with_rule_expected d l choice s) (choices l.reference.lists) made)
    references ([], signature)

with_predicate_expected : (d : Defined) (r : Reference) (choice : List Value) (made : List Predicate × List Control) → IsExpected (with_predicate d r choice made)
with_predicate_expected d r choice made =
    goes_on (room_expected Preds r.at (length made.0)) (λ room. goes_on (label_expected r choice) (λ label.
    goes_on (predicate_used_expected d r.at r.number label made.1) (λ v. good)))

predicates_expected : (d : Defined) (references : List Reference) (signature : List Control) → IsExpected (predicates_valued d references signature)
predicates_expected d references signature =
    turns_expected (with_predicates d) (λ r made. turns_expected (with_predicate d r) (λ choice s. with_predicate_expected d r choice s) (choices r.lists) made)
    references ([], signature)

pub block_expected : (d : Defined) (block : Block) → IsExpected (block_valued d block)
block_expected d block =
    goes_on (goes_on (values_expected [] block.init.arguments) (λ args. host_used_expected d block.init.at block.init.number args d.signature)) (λ host.
    goes_on (rules_expected d block.rules host.1) (λ rules. goes_on (predicates_expected d block.preds rules.1) (λ preds. good)))
