-- Rules and their codes.
use Rattle.std.proofs.Common.{◌≡◌, ◌∙◌, [], ℕ, List, map, Option, Result, Ok, Err, ap, refl, subst, sym}
use Rattle.bg_base.specs.declared.signature.Control.{Control}
use Rattle.bg_code.specs.declared.operation.Operation.{Operation}
use Rattle.bg_code.specs.Code.{code_of}
use Rattle.bg_machine.specs.declared.met.Met.{Met}
use Rattle.bg_machine.specs.Calls.{begun}
use Rattle.bg_statements.specs.Calls.{Kept, coded_setting, kept, kept_after}
use Rattle.bg_statements.specs.Defined.{Defined}
use Rattle.bg_statements.specs.Rules.{ConditionExpression, conditions_read, later_conditions, later_map, map_read, tail_read}
use Rattle.bg_statements.specs.Settings.{SettingParts}
use Rattle.bg_statements.specs.Statements.{setting_of}
use Rattle.bg_trees.specs.declared.statements.SynCond.{SynCond}
use Rattle.bg_trees.specs.declared.statements.SynEta.{SynEta}
use Rattle.bg_trees.specs.declared.statements.SynEtaTail.{SynEtaTail}
use Rattle.bg_trees.specs.declared.statements.SynIfTail.{SynIfTail}
use Rattle.bg_trees.specs.declared.statements.SynTail.TheVariants as tails
use Rattle.bg_terms.specs.declared.shape.ControlEntry.{ControlEntry}
use Rattle.bg_terms.specs.Trees.{Visible}
use Rattle.bg_values.specs.declared.refusal.Refusal.{Refusal}
use Rattle.bg_values.specs.Lowering.{behind}
use Rattle.bg_values.specs.declared.refusal.Stop.{Stop}
use Rattle.bg_values.specs.declared.refusal.Stop.TheVariants.{Refused, OutOfMemory}
use Rattle.bg_values.specs.Names.{NamedValue}
use Rattle.bg_values.specs.Outcome.{◌>>=◌, Stops}

-- what was read, by its code
pub record ReadAs {S F : Type 0} (code : F → List S) (read : Result F Refusal) (made : List S) : Type 0 where
  pub found : F
  pub is : read ≡ Ok found
  pub coded : made ≡ code found

pub read_as : {S F : Type 0} (code : F → List S) (read : Result F Refusal) (made : List S) → behind code [] read ≡ Ok made → ReadAs code read made
read_as code (Ok f) made is = record { found = f; is = refl; coded = cc }
read_as code (Err refusal) made is = absurd cc

-- what a rule without formals is evaluated in
pub set_so : (controls : List (NamedValue ControlEntry)) (definitions : List (List Operation)) (d : Defined) → controls ≡ d.controls
    → definitions ≡ map code_of d.expressions
    → ◌≡◌ {A = SettingParts} (record { controls = controls; definitions = definitions; values = [] }) (coded_setting (setting_of d))
set_so controls definitions d controls_are definitions_are = λ t. record { controls = controls_are t; definitions = definitions_are t; values = [] }

pub begun_so : (met : Met) (signature : List Control) (d : Defined) → met ≡ begun signature → signature ≡ d.signature → met ≡ begun d.signature
begun_so met signature d is same = is ∙ ap begun same

-- ---- map and conditions

abbrev Tail : Type 0
Tail = Option (List ℕ) × List ConditionExpression

abbrev conditions_next : Visible → SynIfTail → Option (List ℕ) → Result Tail Refusal
conditions_next visible rest entries = later_conditions visible rest >>= λ conditions. Ok (entries, conditions)

abbrev map_next : Visible → SynEtaTail → List ConditionExpression → Result Tail Refusal
map_next visible rest conditions = later_map visible.scope rest >>= λ entries. Ok (entries, conditions)

pub map_first : (visible : Visible) (map : SynEta) (rest : SynIfTail) (entries : Option (List ℕ)) (conditions : List ConditionExpression)
    → map_read visible.scope map ≡ Ok entries → later_conditions visible rest ≡ Ok conditions → tail_read visible (tails.Way1 map rest) ≡ Ok (entries, conditions)
map_first visible map rest entries conditions one other =
    ap (λ r. r >>= conditions_next visible rest) one ∙ ap (λ r. ◌>>=◌ {B = Tail} r (λ found. Ok (entries, found))) other

pub conditions_first : (visible : Visible) (tree : SynCond) (rest : SynEtaTail) (entries : Option (List ℕ)) (conditions : List ConditionExpression)
    → conditions_read visible tree ≡ Ok conditions → later_map visible.scope rest ≡ Ok entries → tail_read visible (tails.Way2 tree rest) ≡ Ok (entries, conditions)
conditions_first visible tree rest entries conditions one other =
    ap (λ r. r >>= map_next visible rest) one ∙ ap (λ r. ◌>>=◌ {B = Tail} r (λ found. Ok (found, conditions))) other

-- ---- a rule that was tried

pub tried_stops : (stop : Stop) (r : Result Defined Refusal) (on : Defined → Result Defined Refusal) → Stops stop (kept_after r) → Stops stop (kept_after (r >>= on))
tried_stops (Refused refusal) (Ok d) on is = absurd cc
tried_stops (Refused refusal) (Err other) on is = let same : other ≡ refusal = cc in ap Err same
tried_stops OutOfMemory r on is = tt

pub record Tried (r : Result Defined Refusal) (new : Kept) : Type 0 where
  pub found : Defined
  pub is : r ≡ Ok found
  pub keeps : new ≡ kept found

pub tried_so : (r : Result Defined Refusal) (new : Kept) → kept_after r ≡ Ok new → Tried r new
tried_so (Ok d) new is = record { found = d; is = refl; keeps = cc }
tried_so (Err refusal) new is = absurd cc

-- ---- statements in turn

-- what is kept now is what is kept of definitions from which the others lead to what is wanted
pub record Reached (wanted : Result Defined Refusal) (now : Kept) (others : Defined → Result Defined Refusal) : Type 0 where
  pub left : Defined
  pub keeps : now ≡ kept left
  pub wants : wanted ≡ others left

pub reached_more : (wanted : Result Defined Refusal) (now next : Kept) (before one others : Defined → Result Defined Refusal) → Reached wanted now before
    → ((d : Defined) → before d ≡ one d >>= others) → ((d : Defined) → now ≡ kept d → kept_after (one d) ≡ Ok next) → Reached wanted next others
reached_more wanted now next before one others reached splits step =
    let t = tried_so (one reached.left) next (step reached.left reached.keeps) in
    record { left = t.found; keeps = t.keeps; wants = reached.wants ∙ splits reached.left ∙ ap (λ r. r >>= others) t.is }

pub reached_stops : (stop : Stop) (wanted : Result Defined Refusal) (now : Kept) (before one others : Defined → Result Defined Refusal) → Reached wanted now before
    → ((d : Defined) → before d ≡ one d >>= others) → ((d : Defined) → now ≡ kept d → Stops stop (kept_after (one d))) → Stops stop (kept_after wanted)
reached_stops stop wanted now before one others reached splits step =
    subst (λ r. Stops stop (kept_after r)) (sym (reached.wants ∙ splits reached.left))
    (tried_stops stop (one reached.left) others (step reached.left reached.keeps))
