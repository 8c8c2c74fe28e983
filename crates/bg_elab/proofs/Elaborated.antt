-- The model, part by part.
use Rattle.std.proofs.Common.{◌≡◌, ◌∙◌, [], ℕ, List, length, Result, Ok, refl, ap, sym, subst}
use Rattle.bg_elab.specs.declared.fault.ModelFault.{ModelFault}
use Rattle.bg_elab.specs.Blocks.{Block, block_read}
use Rattle.bg_elab.specs.Elaboration.{TellsModelFault, fault_of, text_of}
use Rattle.bg_elab.specs.Systems.{block_behind, block_valued, elaborated, no_system, system_behind}
use Rattle.bg_elab.proofs.Turns.{code_halts}
use Rattle.bg_rules.specs.Systems.{SystemParts}
use Rattle.bg_statements.specs.Calls.{Kept, kept, kept_after}
use Rattle.bg_statements.specs.Uses.{NameSpacesParts, defined_by, spaces_of}
use Rattle.bg_statements.proofs.Codes.{Tried, tried_so}
use Rattle.bg_statements.proofs.Turns.{stops_there}
use Rattle.bg_trees.specs.declared.expressions.SynRef.{SynRef}
use Rattle.bg_trees.specs.declared.models.SynClasses.{SynClasses}
use Rattle.bg_trees.specs.declared.models.SynModel.{SynModel}
use Rattle.bg_trees.specs.declared.models.SynParamsItem.{SynParamsItem}
use Rattle.bg_trees.specs.declared.models.SynPreds.{SynPreds}
use Rattle.bg_trees.specs.declared.models.SynStmtsItem.{SynStmtsItem}
use Rattle.bg_values.specs.declared.refusal.Cause.TheVariants.{NoBlock}
use Rattle.bg_values.specs.declared.refusal.Refusal.{Refusal}
use Rattle.bg_values.specs.declared.refusal.Stop.{Stop}
use Rattle.bg_values.specs.declared.refusal.Stop.TheVariants.{Refused, OutOfMemory}
use Rattle.bg_text.specs.declared.token.Token.{Token}
use Rattle.bg_values.specs.Names.{NamedValue}
use Rattle.bg_values.specs.Outcome.{◌>>=◌, Stops, refused}
use Rattle.bg_values.specs.Scopes.{ScopeParts}

-- the fault of a call that stopped
pub fault_so : (text : ScopeParts) (stop : Stop) (wanted : Result SystemParts Refusal) → Stops stop wanted → TellsModelFault text (fault_of text stop) wanted
fault_so text (Refused refusal) wanted stops = (refusal, stops, refl)
fault_so text OutOfMemory wanted stops = tt

pub fault_is : (text : ScopeParts) (stop : Stop) (fault : ModelFault) (wanted : Result SystemParts Refusal) → fault ≡ fault_of text stop → Stops stop wanted
    → TellsModelFault text fault wanted
fault_is text stop fault wanted is stops = subst (λ f. TellsModelFault text f wanted) (sym is) (fault_so text stop wanted stops)

-- the text, where these names are visible
abbrev text_with : List ℕ → List Token → List (NamedValue (Unit {0})) → ScopeParts
text_with bytes tokens names = record { bytes = bytes; tokens = tokens; names = names }

pub fault_of_text : (bytes : List ℕ) (tokens : List Token) (tree : SynModel) (names : List (NamedValue (Unit {0}))) → names ≡ [] → (stop : Stop) (fault : ModelFault)
    → fault ≡ fault_of (text_with bytes tokens names) stop → Stops stop (elaborated (text_with bytes tokens names) tree)
    → TellsModelFault (text_of bytes tokens) fault (elaborated (text_of bytes tokens) tree)
fault_of_text bytes tokens tree names none stop fault is stops =
    subst (λ (others : List (NamedValue (Unit {0}))). TellsModelFault (text_with bytes tokens others) fault (elaborated (text_with bytes tokens others) tree)) none
    (fault_is (text_with bytes tokens names) stop fault (elaborated (text_with bytes tokens names) tree) is stops)

-- ---- a block behind statements

module _ (text : ScopeParts) (statements : List SynStmtsItem) (params : List SynParamsItem) where
  -- a statement or a parameter was refused
  pub definitions_stop : (init : SynRef) (classes : SynClasses) (preds : SynPreds) (stop : Stop) → Stops stop (kept_after (defined_by text statements params))
      → Stops stop (system_behind text statements params init classes preds)
  unfolding system_behind
  definitions_stop init classes preds stop stops =
      code_halts kept stop (defined_by text statements params) (block_behind text init classes preds) stops

  module _ (uses : Kept) (is : kept_after (defined_by text statements params) ≡ Ok uses) where
    -- what is defined
    pub defines : Tried (defined_by text statements params) uses
    defines = tried_so (defined_by text statements params) uses is

    module _ (init : SynRef) (classes : SynClasses) (preds : SynPreds) (spaces : NameSpacesParts)
        (same : spaces ≡ record { bigraphs = uses.bigraphs; rules = uses.rules; parameters = uses.parameters }) where
      spaces_are : spaces ≡ spaces_of defines.found
      spaces_are = same ∙ ap (λ (k : Kept). record { bigraphs = k.bigraphs; rules = k.rules; parameters = k.parameters }) defines.keeps

      behind_now : system_behind text statements params init classes preds ≡ block_behind text init classes preds defines.found
      unfolding system_behind
      behind_now = ap (λ r. r >>= block_behind text init classes preds) defines.is

      -- the block was refused
      pub block_stops : (stop : Stop) → Stops stop (block_read text init classes preds spaces) → Stops stop (system_behind text statements params init classes preds)
      block_stops stop stops =
          stops_there stop (block_read text init classes preds (spaces_of defines.found)) (system_behind text statements params init classes preds)
          (block_valued defines.found) behind_now (subst (λ (s : NameSpacesParts). Stops stop (block_read text init classes preds s)) spaces_are stops)

      -- it was read
      pub block_goes_on : (b : Block) → block_read text init classes preds spaces ≡ Ok b → system_behind text statements params init classes preds ≡ block_valued defines.found b
      block_goes_on b read =
          behind_now ∙ ap (λ r. r >>= block_valued defines.found) (ap (block_read text init classes preds) (sym spaces_are) ∙ read)

-- ---- statements without a block

pub no_block_stops : (text : ScopeParts) (statements : List SynStmtsItem) (stop : Stop) → Stops stop (kept_after (defined_by text statements []))
    → Stops stop (no_system text statements)
unfolding no_system
no_block_stops text statements stop stops =
    code_halts kept stop (defined_by text statements []) (λ d. refused NoBlock (length text.tokens)) stops

pub no_block : (text : ScopeParts) (statements : List SynStmtsItem) (uses : Kept) → kept_after (defined_by text statements []) ≡ Ok uses
    → (stop : Stop) (end : ℕ) → stop ≡ Refused (record { cause = NoBlock; token = end }) → end ≡ length text.tokens → Stops stop (no_system text statements)
unfolding no_system
no_block text statements uses is stop end refuses ends =
    subst (λ (s : Stop). Stops s (defined_by text statements [] >>= λ d. refused {A = SystemParts} NoBlock (length text.tokens)))
    (sym (refuses ∙ ap (λ token. Refused (record { cause = NoBlock; token = token })) ends))
    (ap (λ r. r >>= λ d. refused {A = SystemParts} NoBlock (length text.tokens)) (defines text statements [] uses is).is)
