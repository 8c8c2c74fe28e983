-- What a use of a definition in the block comes to.
use Rattle.std.specs.Prelude.{ℕ, Bool, ◌&&◌, ◌==◌, if◌then◌else◌, List, length, slice_get, Result, Ok}
use Rattle.bg_base.specs.declared.big.Big.{Big}
use Rattle.bg_base.specs.declared.labels.Label.{Label}
use Rattle.bg_base.specs.declared.labels.Value.{Value}
use Rattle.bg_base.specs.declared.signature.Control.{Control}
use Rattle.bg_machine.specs.Calls.{begun}
use Rattle.bg_rules.specs.declared.predicate.Predicate.{Predicate}
use Rattle.bg_rules.specs.Hosts.{fresh_host}
use Rattle.bg_rules.specs.Reaction.{HostState}
use Rattle.bg_rules.specs.Rules.{RuleParts}
use Rattle.bg_statements.specs.declared.rule_values.RuleValue.{RuleValue}
use Rattle.bg_statements.specs.Defined.{Defined}
use Rattle.bg_statements.specs.Sound.{nothing}
use Rattle.bg_statements.specs.Statements.{with_parameters, with_statements}
use Rattle.bg_trees.specs.declared.models.SynParamsItem.{SynParamsItem}
use Rattle.bg_trees.specs.declared.models.SynStmtsItem.{SynStmtsItem}
use Rattle.bg_statements.specs.RuleValues.{Setting, rule_valued, solid_at, whole_value}
use Rattle.bg_values.specs.declared.refusal.Refusal.{Refusal}
use Rattle.bg_values.specs.declared.refusal.Cause.TheVariants.{NotGround, UnknownName}
use Rattle.bg_values.specs.Names.{NamedValue}
use Rattle.bg_values.specs.Outcome.{◌>>=◌, refused, there_or}
use Rattle.bg_values.specs.Scopes.{ScopeParts}

-- what these statements define, and these parameters of a block behind them
abbrev pub defined_by : ScopeParts → List SynStmtsItem → List SynParamsItem → Result Defined Refusal
defined_by text statements parameters = with_statements text statements nothing >>= with_parameters text parameters

-- the names that the block may use: the bigraphs and the rules, each with how many formals it has, and the parameters, each
-- with its values
pub record NameSpacesParts : Type 0 where
  pub bigraphs : List (NamedValue ℕ)
  pub rules : List (NamedValue ℕ)
  pub parameters : List (NamedValue (List Value))

-- the names that these definitions leave to the block
abbrev pub spaces_of : Defined → NameSpacesParts
spaces_of d = record { bigraphs = d.bigraphs; rules = d.rules; parameters = d.parameters }

-- what expressions are evaluated in, where the formals have these values
abbrev pub setting_with : Defined → List Value → Setting
setting_with d values = record { controls = d.controls; expressions = d.expressions; values = values }

-- the bigraph with that number, as a whole expression whose formals have these values, and the signature then reached from
-- this one; each use counts its own terms
abbrev pub bigraph_used : Defined → ℕ → ℕ → List Value → List Control → Result (Big × List Control) Refusal
bigraph_used d at number values signature =
    there_or UnknownName at (slice_get d.expressions number) >>= λ e.
    whole_value (setting_with d values) e (begun signature) >>= λ v. Ok (v.0, v.1.signature)

-- ---- `init`

-- there is no site and no inner name
abbrev pub is_ground : Big → Bool
is_ground big = (length big.sites == 0) && (length big.inner == 0)

-- the host of the bigraph, where that is ground
abbrev pub ground_at : ℕ → Big → Result HostState Refusal
ground_at at big = if is_ground big then Ok (fresh_host big) else refused NotGround at

-- the host that a run begins with
abbrev pub host_used : Defined → ℕ → ℕ → List Value → List Control → Result (HostState × List Control) Refusal
host_used d at number values signature =
    bigraph_used d at number values signature >>= λ v. ground_at at v.0 >>= λ host. Ok (host, v.1)

-- ---- predicates

-- the predicate with that label, whose arguments are the values of the formals
abbrev pub predicate_used : Defined → ℕ → ℕ → Label → List Control → Result (Predicate × List Control) Refusal
predicate_used d at number label signature =
    bigraph_used d at number label.args signature >>= λ v. solid_at at v.0 >>= λ big.
    Ok (record { label = label; pattern = big }, v.1)

-- ---- rules

-- the rule of that value, with its label and its class
abbrev pub rule_parts : Label → ℕ → RuleValue → RuleParts
rule_parts label class v =
    record { label = label; redex = v.redex; reactum = v.reactum; map = v.map; conditions = v.conditions; class = class }

-- the rule with that number and label, whose arguments are the values of the formals, of that class
abbrev pub rule_used : Defined → ℕ → ℕ → Label → ℕ → List Control → Result (RuleParts × List Control) Refusal
rule_used d at number label class signature =
    there_or UnknownName at (slice_get d.rule_expressions number) >>= λ rule.
    rule_valued (setting_with d label.args) rule (begun signature) >>= λ v. Ok (rule_parts label class v.0, v.1.signature)
