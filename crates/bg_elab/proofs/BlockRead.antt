-- The block, part by part.
use Rattle.std.proofs.Common.{◌≡◌, ◌∙◌, [], ℕ, List, Result, Ok, ap}
use Rattle.bg_elab.specs.Blocks.{Block, Listed, classes_read, preds_read, block_read}
use Rattle.bg_elab.specs.References.{Reference, reference_read}
use Rattle.bg_statements.specs.Uses.{NameSpacesParts}
use Rattle.bg_statements.proofs.Turns.{stops_there}
use Rattle.bg_trees.specs.declared.expressions.SynRef.{SynRef}
use Rattle.bg_trees.specs.declared.models.SynClasses.{SynClasses}
use Rattle.bg_trees.specs.declared.models.SynPreds.{SynPreds}
use Rattle.bg_values.specs.declared.refusal.Refusal.{Refusal}
use Rattle.bg_values.specs.declared.refusal.Stop.{Stop}
use Rattle.bg_values.specs.Outcome.{◌>>=◌, Stops}
use Rattle.bg_values.specs.Scopes.{ScopeParts}

abbrev block_with : Reference → List Listed × ℕ → List Reference → Result Block Refusal
block_with first rules preds = Ok (record { init = first; rules = rules.0; classes = rules.1; preds = preds })

module _ (text : ScopeParts) (init : SynRef) (classes : SynClasses) (preds : SynPreds) (spaces : NameSpacesParts) (first : Reference) where
  abbrev preds_then : List Listed × ℕ → Result Block Refusal
  preds_then rules = preds_read text spaces preds >>= block_with first rules

  abbrev classes_then : Reference → Result Block Refusal
  classes_then r = classes_read text spaces classes >>= λ rules. preds_read text spaces preds >>= block_with r rules

  pub classes_stop : reference_read text [] spaces.bigraphs init ≡ Ok first → (stop : Stop) → Stops stop (classes_read text spaces classes)
      → Stops stop (block_read text init classes preds spaces)
  classes_stop one stop stops =
      stops_there stop (classes_read text spaces classes) (block_read text init classes preds spaces) preds_then (ap (λ r. r >>= classes_then) one) stops

  module _ (rules : List Listed × ℕ) (one : reference_read text [] spaces.bigraphs init ≡ Ok first) (other : classes_read text spaces classes ≡ Ok rules) where
    two : block_read text init classes preds spaces ≡ preds_then rules
    two = ap (λ r. r >>= classes_then) one ∙ ap (λ r. r >>= preds_then) other

    pub block_so : (last : List Reference) → preds_read text spaces preds ≡ Ok last
        → block_read text init classes preds spaces ≡ Ok (record { init = first; rules = rules.0; classes = rules.1; preds = last })
    block_so last is = two ∙ ap (λ r. r >>= block_with first rules) is

    pub preds_stop : (stop : Stop) → Stops stop (preds_read text spaces preds) → Stops stop (block_read text init classes preds spaces)
    preds_stop stop stops = stops_there stop (preds_read text spaces preds) (block_read text init classes preds spaces) (block_with first rules) two stops
