-- What a text is read as: the system that it describes, or its first refusal.
use Rattle.std.specs.Prelude.{◌≡◌, ℕ, List, Result, Ok, Err}
use Rattle.bg_elab.specs.declared.fault.Detail.TheVariants as details
use Rattle.bg_elab.specs.declared.fault.ModelFault.{ModelFault}
use Rattle.bg_elab.specs.declared.fault.ModelFault.TheVariants as faults
use Rattle.bg_elab.specs.Elaboration.{bad, offset_of, text_of}
use Rattle.bg_elab.specs.Systems.{elaborated}
use Rattle.bg_rules.specs.Systems.{SystemParts}
use Rattle.bg_syntax.specs.declared.fault.SyntaxFault.{SyntaxFault}
use Rattle.bg_syntax.specs.declared.fault.SyntaxFault.TheVariants as syntax
use Rattle.bg_trees.specs.declared.models.SynModel.{SynModel}
use Rattle.bg_syntax.specs.Models.{IsTreeOf, IsSyntaxFault}
use Rattle.bg_text.specs.declared.fault.LexFault.{LexFault}
use Rattle.bg_text.specs.declared.fault.LexFault.TheVariants as lexical
use Rattle.bg_text.specs.declared.token.Token.{Token}
use Rattle.bg_text.specs.Answers.{IsOnlyRefusal}
use Rattle.bg_text.specs.Tokens.{AreTokens}
use Rattle.bg_values.specs.declared.refusal.Refusal.{Refusal}
use Rattle.bg_values.specs.Scopes.{ScopeParts}

-- a fault of tokens, as a fault of a model
abbrev pub of_lexical : LexFault → ModelFault
of_lexical (lexical.Bad code offset) = faults.Bad code details.Nothing offset
of_lexical lexical.OutOfMemory = faults.OutOfMemory

-- a fault of the grammar, as a fault of a model
abbrev pub of_syntax : ScopeParts → SyntaxFault → ModelFault
of_syntax text (syntax.Unexpected token) = faults.Bad 31 details.Nothing (offset_of text token)
of_syntax text (syntax.TooDeep token) = faults.Bad 32 details.Nothing (offset_of text token)
of_syntax text syntax.OutOfMemory = faults.OutOfMemory

-- what the tree of a text comes to, a refusal by its number, its detail and its byte
abbrev pub at_its_byte : ScopeParts → Result SystemParts Refusal → Result SystemParts ModelFault
at_its_byte text (Ok system) = Ok system
at_its_byte text (Err refusal) = Err (bad text refusal)

-- the reading of a text: its bytes are refused; or else its tokens, by the grammar; or else it is what the tree of its tokens
-- comes to
pub data IsReading (bytes : List ℕ) : Result SystemParts ModelFault → Type 0 where
  no_tokens : {code offset : ℕ} → IsOnlyRefusal bytes code offset → IsReading bytes (Err (of_lexical (lexical.Bad code offset)))
  unexpected : {token : ℕ} → (tokens : List Token) → AreTokens bytes tokens → IsSyntaxFault tokens (syntax.Unexpected token)
      → IsReading bytes (Err (of_syntax (text_of bytes tokens) (syntax.Unexpected token)))
  too_deep : {token : ℕ} → (tokens : List Token) → AreTokens bytes tokens → IsSyntaxFault tokens (syntax.TooDeep token)
      → IsReading bytes (Err (of_syntax (text_of bytes tokens) (syntax.TooDeep token)))
  comes_to : {outcome : Result SystemParts ModelFault} → (tokens : List Token) (tree : SynModel) → AreTokens bytes tokens → IsTreeOf tokens tree
      → outcome ≡ at_its_byte (text_of bytes tokens) (elaborated (text_of bytes tokens) tree) → IsReading bytes outcome

-- a call gives the reading of the text, or found no memory
abbrev pub GivesReading : Result SystemParts ModelFault → List ℕ → Type 0
GivesReading (Ok system) bytes = IsReading bytes (Ok system)
GivesReading (Err (faults.Bad code detail offset)) bytes = IsReading bytes (Err (faults.Bad code detail offset))
GivesReading (Err faults.OutOfMemory) bytes = Unit {0}
