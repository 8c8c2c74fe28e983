-- A rule as its statement has it, with the names of its expressions looked up.
use Rattle.std.specs.Prelude.{ℕ, Bool, true, false, min, nat_abs, List, [], ◌∷◌, ◌++◌, Option, Some, None, Result, Ok}
use Rattle.bg_rules.specs.declared.condition.Side.{Side}
use Rattle.bg_rules.specs.declared.condition.Side.TheVariants.{Ctx, Param}
use Rattle.bg_statements.specs.InTurn.{in_turn}
use Rattle.bg_trees.specs.declared.statements.SynCond.{SynCond}
use Rattle.bg_trees.specs.declared.statements.SynEta.{SynEta}
use Rattle.bg_trees.specs.declared.statements.SynEtaTail.{SynEtaTail}
use Rattle.bg_trees.specs.declared.statements.SynEtaTail.TheVariants as eta_tails
use Rattle.bg_trees.specs.declared.statements.SynIfTail.{SynIfTail}
use Rattle.bg_trees.specs.declared.statements.SynIfTail.TheVariants as if_tails
use Rattle.bg_trees.specs.declared.statements.SynMoreNumItem.{SynMoreNumItem}
use Rattle.bg_trees.specs.declared.statements.SynNot.{SynNot}
use Rattle.bg_trees.specs.declared.statements.SynNot.TheVariants as nots
use Rattle.bg_trees.specs.declared.statements.SynNumbers.{SynNumbers}
use Rattle.bg_trees.specs.declared.statements.SynNumbers.TheVariants as lists
use Rattle.bg_trees.specs.declared.statements.SynReact.{SynReact}
use Rattle.bg_trees.specs.declared.statements.SynSide.{SynSide}
use Rattle.bg_trees.specs.declared.statements.SynSide.TheVariants as sides
use Rattle.bg_trees.specs.declared.statements.SynTail.{SynTail}
use Rattle.bg_trees.specs.declared.statements.SynTail.TheVariants as tails
use Rattle.bg_trees.specs.declared.statements.SynTest.{SynTest}
use Rattle.bg_trees.specs.declared.statements.SynTestsItem.{SynTestsItem}
use Rattle.bg_trees.specs.declared.names.SynNumber.{SynNumber}
use Rattle.bg_terms.specs.Expressions.{Expression}
use Rattle.bg_terms.specs.Trees.{Visible, e_read}
use Rattle.bg_values.specs.declared.refusal.Refusal.{Refusal}
use Rattle.bg_values.specs.Outcome.{◌>>=◌}
use Rattle.bg_values.specs.Reading.{number_at, number_token}
use Rattle.bg_values.specs.Scopes.{ScopeParts}

-- a condition: whether its pattern has to occur, on which side, the token of its `in`, and the expression of the pattern
pub record ConditionExpression : Type 0 where
  pub positive : Bool
  pub side : Side
  pub at : ℕ
  pub pattern : Expression

-- a rule: the token of its name, its sides, its map where it has one, and its conditions
pub record RuleExpression : Type 0 where
  pub at : ℕ
  pub redex : Expression
  pub reactum : Expression
  pub map : Option (List ℕ)
  pub conditions : List ConditionExpression

-- ---- the map: `@ [1, 0]`

-- an entry; all from 4,294,967,295 on are alike, since no bigraph has so many sites
abbrev pub map_entry_at : ScopeParts → SynNumber → Result ℕ Refusal
map_entry_at text tree = number_at text (number_token tree) >>= λ z. Ok (min (nat_abs z) 4294967295)

-- these entries and one more
abbrev pub with_entry : ScopeParts → SynNumber → List ℕ → Result (List ℕ) Refusal
with_entry text tree done = map_entry_at text tree >>= λ entry. Ok (done ++ entry ∷ [])

-- these entries and those of the items
abbrev pub with_entries : ScopeParts → List SynMoreNumItem → List ℕ → Result (List ℕ) Refusal
with_entries text = in_turn (λ (item : SynMoreNumItem). with_entry text item.part2)

-- the first entry and those of the items
abbrev pub listed_entries : ScopeParts → SynNumber → List SynMoreNumItem → Result (List ℕ) Refusal
listed_entries text first items = with_entry text first [] >>= with_entries text items

-- the entries of a list
abbrev pub entries_read : ScopeParts → SynNumbers → Result (List ℕ) Refusal
entries_read text (lists.Way1 first more) = listed_entries text first more.items
entries_read text lists.Way2 = Ok []

-- ---- the conditions: `if !E in ctx, F in param`

-- no `!` stands before the pattern
abbrev pub is_positive : SynNot → Bool
is_positive (nots.Way1 mark) = false
is_positive nots.Way2 = true

-- the side that the word names
abbrev pub side_of : SynSide → Side
side_of (sides.Way1 word) = Ctx
side_of (sides.Way2 word) = Param

-- a condition: its pattern, its side, and whether it wants the pattern or wants it not
abbrev pub condition_read : Visible → SynTest → Result ConditionExpression Refusal
condition_read visible tree =
    (e_read tree.part2).1 visible >>= λ e.
    Ok (record { positive = is_positive tree.part1; side = side_of tree.part4; at = tree.part3; pattern = e })

-- these conditions and one more
abbrev pub with_condition : Visible → SynTest → List ConditionExpression → Result (List ConditionExpression) Refusal
with_condition visible tree done = condition_read visible tree >>= λ condition. Ok (done ++ condition ∷ [])

-- these conditions and those of the items
abbrev pub with_conditions : Visible → List SynTestsItem → List ConditionExpression → Result (List ConditionExpression) Refusal
with_conditions visible = in_turn (λ (item : SynTestsItem). with_condition visible item.part2)

-- the conditions behind `if`, in the order of the text
abbrev pub conditions_read : Visible → SynCond → Result (List ConditionExpression) Refusal
conditions_read visible tree = with_condition visible tree.part2 [] >>= with_conditions visible tree.part3.items

-- ---- what stands behind the reactum: map and conditions, in either order

-- the conditions behind a map; none where none stand there
abbrev pub later_conditions : Visible → SynIfTail → Result (List ConditionExpression) Refusal
later_conditions visible (if_tails.Way1 conditions) = conditions_read visible conditions
later_conditions visible if_tails.Way2 = Ok []

-- the entries of a map
abbrev pub map_read : ScopeParts → SynEta → Result (Option (List ℕ)) Refusal
map_read text tree = entries_read text tree.part3 >>= λ entries. Ok (Some entries)

-- the map behind conditions, where one stands there
abbrev pub later_map : ScopeParts → SynEtaTail → Result (Option (List ℕ)) Refusal
later_map text (eta_tails.Way1 map) = map_read text map
later_map text eta_tails.Way2 = Ok None

-- the map, where one is written, and the conditions
abbrev pub tail_read : Visible → SynTail → Result (Option (List ℕ) × List ConditionExpression) Refusal
tail_read visible (tails.Way1 map rest) =
    map_read visible.scope map >>= λ entries. later_conditions visible rest >>= λ conditions. Ok (entries, conditions)
tail_read visible (tails.Way2 conditions rest) =
    conditions_read visible conditions >>= λ found. later_map visible.scope rest >>= λ entries. Ok (entries, found)
tail_read visible tails.Way3 = Ok (None, [])

-- a rule, with its names looked up in the order of the text
abbrev pub rule_read : Visible → SynReact → Result RuleExpression Refusal
rule_read visible tree =
    (e_read tree.part4).1 visible >>= λ redex. (e_read tree.part6).1 visible >>= λ reactum. tail_read visible tree.part7 >>= λ tail.
    Ok (record { at = tree.part1; redex = redex; reactum = reactum; map = tail.0; conditions = tail.1 })
