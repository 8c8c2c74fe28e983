-- What a rule comes to, for some values of its formals.
use Rattle.std.specs.Prelude.{ℕ, not, if◌then◌else◌, List, [], ◌∷◌, ◌++◌, length, Option, Some, None, Result, Ok}
use Rattle.bg_base.specs.declared.big.Big.{Big}
use Rattle.bg_base.specs.declared.labels.Value.{Value}
use Rattle.bg_base.specs.Elementary.{counted}
use Rattle.bg_machine.specs.declared.met.Met.{Met}
use Rattle.bg_machine.specs.Calls.{evaluated, valued}
use Rattle.bg_machine.specs.Whole.{whole}
use Rattle.bg_rules.specs.declared.condition.Condition.{Condition}
use Rattle.bg_rules.specs.Rules.{sides_agree, map_fits}
use Rattle.bg_rules.specs.Solid.{unsolid_clause}
use Rattle.bg_statements.specs.declared.rule_values.ConditionValue.{ConditionValue}
use Rattle.bg_statements.specs.declared.rule_values.RuleValue.{RuleValue}
use Rattle.bg_statements.specs.InTurn.{in_turn}
use Rattle.bg_statements.specs.Rules.{ConditionExpression, RuleExpression}
use Rattle.bg_terms.specs.declared.shape.ControlEntry.{ControlEntry}
use Rattle.bg_terms.specs.Expansion.{expand, meanings_of}
use Rattle.bg_terms.specs.Expressions.{Expression}
use Rattle.bg_terms.specs.Read.{shapes_of}
use Rattle.bg_terms.specs.Terms.{Term}
use Rattle.bg_values.specs.declared.refusal.Refusal.{Refusal}
use Rattle.bg_values.specs.declared.refusal.Cause.TheVariants.{SidesDiffer, BadMap, NotSolid}
use Rattle.bg_values.specs.Names.{NamedValue}
use Rattle.bg_values.specs.Outcome.{◌>>=◌, refused}

-- what expressions are evaluated in: the controls, the definitions, and the values of the formals
pub record Setting : Type 0 where
  pub controls : List (NamedValue ControlEntry)
  pub expressions : List Expression
  pub values : List Value

-- the term of an expression there
abbrev pub term_in : Setting → Expression → Term
term_in s e = expand (shapes_of s.controls) (meanings_of (shapes_of s.controls) s.expressions) s.values e

-- the bigraph of a whole expression: its idle edges are dropped
abbrev pub whole_value : Setting → Expression → Met → Result (Big × Met) Refusal
whole_value s e met = valued (evaluated met (term_in s e)) >>= λ v. Ok (whole v.0, v.1)

-- these conditions and one more, with the bigraph that its pattern comes to; and what was then met
abbrev pub with_value : Setting → ConditionExpression → List ConditionValue × Met → Result (List ConditionValue × Met) Refusal
with_value s c found =
    whole_value s c.pattern found.1 >>= λ v.
    Ok (found.0 ++ (record { positive = c.positive; side = c.side; at = c.at; big = v.0 }) ∷ [], v.1)

-- the conditions with the bigraphs that their patterns come to, in turn
abbrev pub conditions_valued : Setting → List ConditionExpression → Met → Result (List ConditionValue × Met) Refusal
conditions_valued s conditions met = in_turn (with_value s) conditions ([], met)

-- ---- 47, 48 and 49

-- 49 where a clause of a solid bigraph fails, with the least
abbrev pub solid_or : ℕ → Big → Option ℕ → Result Big Refusal
solid_or at big None = Ok big
solid_or at big (Some clause) = refused (NotSolid clause) at

-- the bigraph, where it is solid
abbrev pub solid_at : ℕ → Big → Result Big Refusal
solid_at at big = solid_or at big (unsolid_clause big)

-- 47 where the sides do not agree, else 48 where the map does not fit them
abbrev pub sides_tested : ℕ → Big → Big → List ℕ → Result (Unit {0}) Refusal
sides_tested at redex reactum entries =
    if not (sides_agree redex reactum) then refused SidesDiffer at else (
    if not (map_fits redex reactum entries) then refused BadMap at else Ok tt)

-- the redex, where the sides agree, the map fits and the redex is solid
abbrev pub redex_tested : ℕ → Big → Big → List ℕ → Result Big Refusal
redex_tested at redex reactum entries = sides_tested at redex reactum entries >>= λ agreed. solid_at at redex

-- these conditions and one more, where its pattern is solid
abbrev pub with_tested : ConditionValue → List Condition → Result (List Condition) Refusal
with_tested c done =
    solid_at c.at c.big >>= λ pattern. Ok (done ++ (record { positive = c.positive; side = c.side; pattern = pattern }) ∷ [])

-- the conditions, where their patterns are solid
abbrev pub conditions_tested : List ConditionValue → Result (List Condition) Refusal
conditions_tested conditions = in_turn with_tested conditions []

-- a missing map is the identity on the sites of the redex
abbrev pub map_or_identity : Option (List ℕ) → Big → List ℕ
map_or_identity (Some entries) redex = entries
map_or_identity None redex = counted 0 (length redex.sites)

-- the rule of these sides, this map and these conditions, where they pass the tests of a rule: first those of the redex, then
-- that of each condition
abbrev pub rule_tested : ℕ → Big → Big → List ℕ → List ConditionValue → Result RuleValue Refusal
rule_tested at redex reactum entries conditions =
    redex_tested at redex reactum entries >>= λ pattern. conditions_tested conditions >>= λ found.
    Ok (record { redex = pattern; reactum = reactum; map = entries; conditions = found })

-- the redex, the reactum and the conditions are evaluated in this order, then tested; their terms are counted together
abbrev pub rule_valued : Setting → RuleExpression → Met → Result (RuleValue × Met) Refusal
rule_valued s rule met =
    whole_value s rule.redex met >>= λ redex. whole_value s rule.reactum redex.1 >>= λ reactum.
    conditions_valued s rule.conditions reactum.1 >>= λ conditions.
    rule_tested rule.at redex.0 reactum.0 (map_or_identity rule.map redex.0) conditions.0 >>= λ value. Ok (value, conditions.1)
