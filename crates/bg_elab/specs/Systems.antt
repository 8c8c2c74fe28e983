-- The system that a model is, or its first refusal.
use Rattle.std.specs.Prelude.{ℕ, nat_lt, if◌then◌else◌, List, [], ◌∷◌, ◌++◌, length, Result, Ok}
use Rattle.bg_base.specs.Limits.{most_rules}
use Rattle.bg_base.specs.declared.labels.Label.{Label}
use Rattle.bg_base.specs.declared.labels.Value.{Value}
use Rattle.bg_base.specs.declared.signature.Control.{Control}
use Rattle.bg_elab.specs.Blocks.{Block, Listed, block_read}
use Rattle.bg_elab.specs.Choices.{choices}
use Rattle.bg_elab.specs.References.{Reference}
use Rattle.bg_rules.specs.declared.predicate.Predicate.{Predicate}
use Rattle.bg_rules.specs.Reaction.{HostState}
use Rattle.bg_rules.specs.Rules.{RuleParts}
use Rattle.bg_rules.specs.Systems.{SystemParts}
use Rattle.bg_statements.specs.Defined.{Defined}
use Rattle.bg_statements.specs.InTurn.{in_turn}
use Rattle.bg_statements.specs.Uses.{defined_by, host_used, predicate_used, rule_used, spaces_of}
use Rattle.bg_trees.specs.declared.expressions.SynRef.{SynRef}
use Rattle.bg_trees.specs.declared.models.SynBlock.{SynBlock}
use Rattle.bg_trees.specs.declared.models.SynBlock.TheVariants as blocks
use Rattle.bg_trees.specs.declared.models.SynClasses.{SynClasses}
use Rattle.bg_trees.specs.declared.models.SynModel.{SynModel}
use Rattle.bg_trees.specs.declared.models.SynParamsItem.{SynParamsItem}
use Rattle.bg_trees.specs.declared.models.SynPreds.{SynPreds}
use Rattle.bg_trees.specs.declared.models.SynStmtsItem.{SynStmtsItem}
use Rattle.bg_values.specs.declared.refusal.Refusal.{Refusal}
use Rattle.bg_values.specs.declared.refusal.LimitWord.{LimitWord}
use Rattle.bg_values.specs.declared.refusal.LimitWord.TheVariants.{Rules, Preds}
use Rattle.bg_values.specs.declared.refusal.Cause.TheVariants.{NoBlock, TooLarge}
use Rattle.bg_values.specs.Operands.{values}
use Rattle.bg_values.specs.Outcome.{◌>>=◌, refused}
use Rattle.bg_values.specs.Scopes.{ScopeParts}

-- there is room for one more behind so many, of at most 4,096
abbrev pub room_at : LimitWord → ℕ → ℕ → Result (Unit {0}) Refusal
room_at limit at count = if nat_lt count most_rules then Ok tt else refused (TooLarge limit) at

-- what the reference is called, where the parameters that occur have these values
abbrev pub label_with : Reference → List Value → Result Label Refusal
label_with r choice = values choice r.arguments >>= λ args. Ok (record { name = r.name; args = args })

-- ---- rules

-- these rules and the one that the reference is for a choice; its number is judged before anything is evaluated
abbrev pub with_rule : Defined → Listed → List Value → List RuleParts × List Control → Result (List RuleParts × List Control) Refusal
with_rule d l choice made =
    room_at Rules l.reference.at (length made.0) >>= λ room. label_with l.reference choice >>= λ label.
    rule_used d l.reference.at l.reference.number label l.class made.1 >>= λ v. Ok (made.0 ++ v.0 ∷ [], v.1)

-- these rules and those that the reference stands for, one for each choice of values
abbrev pub with_rules : Defined → Listed → List RuleParts × List Control → Result (List RuleParts × List Control) Refusal
with_rules d l = in_turn (with_rule d l) (choices l.reference.lists)

-- ---- predicates

-- these predicates and the one that the reference is for a choice; its number is judged before anything is evaluated
abbrev pub with_predicate : Defined → Reference → List Value → List Predicate × List Control → Result (List Predicate × List Control) Refusal
with_predicate d r choice made =
    room_at Preds r.at (length made.0) >>= λ room. label_with r choice >>= λ label.
    predicate_used d r.at r.number label made.1 >>= λ v. Ok (made.0 ++ v.0 ∷ [], v.1)

-- these predicates and those that the reference stands for, one for each choice of values
abbrev pub with_predicates : Defined → Reference → List Predicate × List Control → Result (List Predicate × List Control) Refusal
with_predicates d r = in_turn (with_predicate d r) (choices r.lists)

-- ---- the block, once its names were looked up

-- what a run begins with, and the signature then reached
abbrev pub init_valued : Defined → Reference → Result (HostState × List Control) Refusal
init_valued d r = values [] r.arguments >>= λ args. host_used d r.at r.number args d.signature

-- the rules of all references, in turn
abbrev pub rules_valued : Defined → List Listed → List Control → Result (List RuleParts × List Control) Refusal
rules_valued d references signature = in_turn (with_rules d) references ([], signature)

-- the predicates of all references, in turn
abbrev pub predicates_valued : Defined → List Reference → List Control → Result (List Predicate × List Control) Refusal
predicates_valued d references signature = in_turn (with_predicates d) references ([], signature)

-- `init`, the rules and the predicates are evaluated in this order
abbrev pub block_valued : Defined → Block → Result SystemParts Refusal
block_valued d block =
    init_valued d block.init >>= λ host. rules_valued d block.rules host.1 >>= λ rules.
    predicates_valued d block.preds rules.1 >>= λ preds.
    Ok (record { signature = preds.1; init = host.0; rules = rules.0; classes = block.classes; preds = preds.0 })

-- ---- the model

-- the block behind these definitions: its names are looked up, then its values are found
abbrev pub block_behind : ScopeParts → SynRef → SynClasses → SynPreds → Defined → Result SystemParts Refusal
block_behind text init classes preds d = block_read text init classes preds (spaces_of d) >>= block_valued d

-- the block behind these statements and its own parameters
unfoldable pub system_behind : ScopeParts → List SynStmtsItem → List SynParamsItem → SynRef → SynClasses → SynPreds → Result SystemParts Refusal
system_behind text statements params init classes preds = defined_by text statements params >>= block_behind text init classes preds

-- these statements, behind which no block stands: that is refused at the end of input
unfoldable pub no_system : ScopeParts → List SynStmtsItem → Result SystemParts Refusal
no_system text statements = defined_by text statements [] >>= λ d. refused NoBlock (length text.tokens)

-- what stands behind these statements
abbrev pub elaborated_behind : ScopeParts → List SynStmtsItem → SynBlock → Result SystemParts Refusal
elaborated_behind text statements (blocks.Way1 begin brs params word init end rules equals bracket classes close end2 preds last) =
    system_behind text statements params.items init classes preds
elaborated_behind text statements blocks.Way2 = no_system text statements

-- the model: its statements in the order of the text, then its block
abbrev pub elaborated : ScopeParts → SynModel → Result SystemParts Refusal
elaborated text tree = elaborated_behind text tree.part1.items tree.part2
