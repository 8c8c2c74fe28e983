-- A model in the order of its text, as its derivation tree says it: first its statements, then its block.
use Rattle.std.proofs.Common.{◌≡◌, [], length, List, Result}
use Rattle.bg_elab.specs.Systems.{block_behind, system_behind, no_system, elaborated_behind, elaborated}
use Rattle.bg_rules.specs.Systems.{SystemParts}
use Rattle.bg_statements.specs.Defined.{Defined}
use Rattle.bg_statements.specs.Sound.{nothing}
use Rattle.bg_statements.specs.Statements.{with_parameters, with_statements}
use Rattle.bg_trees.specs.declared.expressions.SynRef.{SynRef}
use Rattle.bg_trees.specs.declared.models.SynBlock.{SynBlock}
use Rattle.bg_trees.specs.declared.models.SynBlock.TheVariants as blocks
use Rattle.bg_trees.specs.declared.models.SynClasses.{SynClasses}
use Rattle.bg_trees.specs.declared.models.SynModel.{SynModel}
use Rattle.bg_trees.specs.declared.models.SynParamsItem.{SynParamsItem}
use Rattle.bg_trees.specs.declared.models.SynPreds.{SynPreds}
use Rattle.bg_trees.specs.declared.models.SynStmtsItem.{SynStmtsItem}
use Rattle.bg_values.proofs.Bindings.{bind_assoc}
use Rattle.bg_values.specs.declared.refusal.Cause.TheVariants.{NoBlock}
use Rattle.bg_values.specs.declared.refusal.Refusal.{Refusal}
use Rattle.bg_values.specs.Outcome.{◌>>=◌, refused}
use Rattle.bg_values.specs.Scopes.{ScopeParts}

-- what the block says behind these definitions
abbrev pub block_in_order : ScopeParts → SynBlock → Defined → Result SystemParts Refusal
block_in_order text (blocks.Way1 begin brs params word init end rules equals bracket classes close end2 preds last) d =
    with_parameters text params.items d >>= block_behind text init classes preds
block_in_order text blocks.Way2 d = refused NoBlock (length text.tokens)

abbrev pub in_order : ScopeParts → SynModel → Result SystemParts Refusal
in_order text tree = with_statements text tree.part1.items nothing >>= block_in_order text tree.part2

with_block : (text : ScopeParts) (statements : List SynStmtsItem) (params : List SynParamsItem) (init : SynRef) (classes : SynClasses) (preds : SynPreds)
    → system_behind text statements params init classes preds
    ≡ with_statements text statements nothing >>= (λ d. with_parameters text params d >>= block_behind text init classes preds)
unfolding system_behind
with_block text statements params init classes preds =
    bind_assoc (with_statements text statements nothing) (with_parameters text params) (block_behind text init classes preds)

without_block : (text : ScopeParts) (statements : List SynStmtsItem)
    → no_system text statements ≡ with_statements text statements nothing >>= (λ d. refused {A = SystemParts} NoBlock (length text.tokens))
unfolding no_system
without_block text statements =
    bind_assoc (with_statements text statements nothing) (with_parameters text []) (λ d. refused {A = SystemParts} NoBlock (length text.tokens))

-- what a model comes to is what it says in this order
pub elaborated_in_order : (text : ScopeParts) (tree : SynModel) → elaborated text tree ≡ in_order text tree
elaborated_in_order text tree = by tree.part2
  where
    by : (block : SynBlock) → elaborated_behind text tree.part1.items block ≡ with_statements text tree.part1.items nothing >>= block_in_order text block
    by (blocks.Way1 begin brs params word init end rules equals bracket classes close end2 preds last) =
        with_block text tree.part1.items params.items init classes preds
    by blocks.Way2 = without_block text tree.part1.items
