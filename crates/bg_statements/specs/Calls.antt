-- What calls that define something say.
use Rattle.std.specs.Prelude.{◌≡◌, ℕ, List, [], map, Option, Result, Ok, Err, Vec}
use Rattle.std.specs.Global.{Global}
use Rattle.bg_base.specs.declared.labels.Value.{Value}
use Rattle.bg_base.specs.declared.signature.Control.{Control}
use Rattle.bg_code.specs.Code.{code_of}
use Rattle.bg_code.specs.declared.operation.Operation.{Operation}
use Rattle.bg_statements.specs.declared.rule_code.ConditionCode.{ConditionCode}
use Rattle.bg_statements.specs.declared.rule_code.RuleCode.{RuleCode}
use Rattle.bg_statements.specs.Defined.{Defined}
use Rattle.bg_statements.specs.Rules.{ConditionExpression, RuleExpression}
use Rattle.bg_statements.specs.RuleValues.{Setting}
use Rattle.bg_statements.specs.Settings.{SettingParts}
use Rattle.bg_statements.specs.Sound.{IsSound}
use Rattle.bg_terms.specs.declared.shape.ControlEntry.{ControlEntry}
use Rattle.bg_values.specs.declared.refusal.Refusal.{Refusal}
use Rattle.bg_values.specs.declared.refusal.Stop.{Stop}
use Rattle.bg_values.specs.Names.{NamedValue}
use Rattle.bg_values.specs.Lowering.{behind}
use Rattle.bg_values.specs.Outcome.{◌>>=◌, Goes, Stops}

-- ---- rules as code

-- a condition, its expression as code
abbrev pub condition_code : ConditionExpression → ConditionCode
condition_code c = record { positive = c.positive; side = c.side; at = c.at; pattern = code_of c.pattern }

-- conditions in order, their expressions as code
abbrev pub condition_codes : List ConditionExpression → List ConditionCode
condition_codes = map condition_code

-- the map behind a rule and its conditions, their expressions as code
abbrev pub tail_code : Option (List ℕ) × List ConditionExpression → Option (List ℕ) × List ConditionCode
tail_code tail = (tail.0, map condition_code tail.1)

-- a rule, its expressions as code
abbrev pub rule_code : RuleExpression → RuleCode
rule_code rule =
    record {
      at = rule.at;
      redex = code_of rule.redex;
      reactum = code_of rule.reactum;
      map = rule.map;
      conditions = map condition_code rule.conditions;
    }

-- a call gives the code of what is read, or stops
abbrev pub ReadsAs : {A B : Type 0} → (A → B) → Result B Stop → Result A Refusal → Type 0
ReadsAs {A} code (Ok made) read = (x : A) × (read ≡ Ok x) × (made ≡ code x)
ReadsAs code (Err stop) read = Stops stop read

-- a call puts the code of what is read behind that of these conditions, or stops
abbrev pub Adds : {X : Type 0} → Result X Stop → List ConditionCode → List ConditionCode
    → (List ConditionExpression → Result (List ConditionExpression) Refusal) → Type 0
Adds result old new more = (done : List ConditionExpression) → old ≡ condition_codes done → Goes result new (behind condition_codes [] (more done))

-- a call gives a list and leaves a state, or stops
abbrev pub GivesListAnd : {X S : Type 0} → Result (Vec X Global) Stop → S → Result (List X × S) Refusal → Type 0
GivesListAnd (Ok list) new wanted = wanted ≡ Ok (list.items, new)
GivesListAnd (Err stop) new wanted = Stops stop wanted

-- what expressions are evaluated in, each definition as its code
abbrev pub coded_setting : Setting → SettingParts
coded_setting s = record { controls = s.controls; definitions = map code_of s.expressions; values = s.values }

-- ---- statements

-- what is kept of the statements: each bigraph and each rule as its code
pub record Kept : Type 0 where
  pub controls : List (NamedValue ControlEntry)
  pub bigraphs : List (NamedValue ℕ)
  pub codes : List (List Operation)
  pub rules : List (NamedValue ℕ)
  pub rule_codes : List RuleCode
  pub parameters : List (NamedValue (List Value))
  pub signature : List Control

-- what is kept of these definitions
abbrev pub kept : Defined → Kept
kept d =
    record {
      controls = d.controls;
      bigraphs = d.bigraphs;
      codes = map code_of d.expressions;
      rules = d.rules;
      rule_codes = map rule_code d.rule_expressions;
      parameters = d.parameters;
      signature = d.signature;
    }

-- what is kept of what a statement defines, or its refusal
abbrev pub kept_after : Result Defined Refusal → Result Kept Refusal
kept_after defined = defined >>= λ d. Ok (kept d)

-- a call keeps what a statement defines behind the others, or stops as it is refused
abbrev pub Defines : {X : Type 0} → Result X Stop → Kept → Kept → (Defined → Result Defined Refusal) → Type 0
Defines result old new statement = (d : Defined) → old ≡ kept d → Goes result new (kept_after (statement d))

-- it is what is kept of some sound definitions
pub record IsKeptOfSound (k : Kept) : Type 0 where
  pub defined : Defined
  pub sound : IsSound defined
  pub is : k ≡ kept defined
