-- What the call that elaborates a model gives.
use Rattle.std.specs.Prelude.{◌≡◌, ℕ, List, [], length, slice_get, Option, Some, None, Result, Ok, Err}
use Rattle.bg_elab.specs.declared.fault.Detail.{Detail}
use Rattle.bg_elab.specs.declared.fault.Detail.TheVariants as details
use Rattle.bg_elab.specs.declared.fault.ModelFault.{ModelFault}
use Rattle.bg_elab.specs.declared.fault.ModelFault.TheVariants as faults
use Rattle.bg_elab.specs.Systems.{elaborated}
use Rattle.bg_rules.specs.Systems.{SystemParts}
use Rattle.bg_trees.specs.declared.models.SynModel.{SynModel}
use Rattle.bg_text.specs.declared.token.Token.{Token}
use Rattle.bg_values.specs.declared.refusal.Cause.{Cause}
use Rattle.bg_values.specs.declared.refusal.Cause.TheVariants.{NotSolid, TooLarge}
use Rattle.bg_values.specs.declared.refusal.Refusal.{Refusal}
use Rattle.bg_values.specs.declared.refusal.Stop.{Stop}
use Rattle.bg_values.specs.declared.refusal.Stop.TheVariants as stops
use Rattle.bg_values.specs.Codes.{code}
use Rattle.bg_values.specs.Scopes.{ScopeParts}

-- what a refusal says beside its number
abbrev pub detail_of : Cause → Detail
detail_of (NotSolid clause) = details.Clause clause
detail_of (TooLarge limit) = details.Limit limit
detail_of cause = details.Nothing

-- where the token begins; the end of the text, where there is no such token
abbrev pub start_or : ℕ → Option Token → ℕ
start_or end (Some token) = token.start
start_or end None = end

-- where the token of that number begins; the end of the text, where there is none
abbrev pub offset_of : ScopeParts → ℕ → ℕ
offset_of text token = start_or (length text.bytes) (slice_get text.tokens token)

-- the refusal by its number, at its byte
abbrev pub bad : ScopeParts → Refusal → ModelFault
bad text refusal = faults.Bad (code refusal.cause) (detail_of refusal.cause) (offset_of text refusal.token)

abbrev pub fault_of : ScopeParts → Stop → ModelFault
fault_of text (stops.Refused refusal) = bad text refusal
fault_of text stops.OutOfMemory = faults.OutOfMemory

-- a text and its tokens, where no name is visible
abbrev pub text_of : List ℕ → List Token → ScopeParts
text_of bytes tokens = record { bytes = bytes; tokens = tokens; names = [] }

-- the fault is that refusal, or there was no memory
abbrev pub TellsModelFault : ScopeParts → ModelFault → Result SystemParts Refusal → Type 0
TellsModelFault text (faults.Bad code detail offset) wanted = (refusal : Refusal) × (wanted ≡ Err refusal) × (faults.Bad code detail offset ≡ bad text refusal)
TellsModelFault text faults.OutOfMemory wanted = Unit {0}

-- a call gives the system that the model is, or its refusal, or there was no memory
abbrev pub Elaborates : Result SystemParts ModelFault → List ℕ → List Token → SynModel → Type 0
Elaborates (Ok system) bytes tokens tree = elaborated (text_of bytes tokens) tree ≡ Ok system
Elaborates (Err fault) bytes tokens tree = TellsModelFault (text_of bytes tokens) fault (elaborated (text_of bytes tokens) tree)
