-- Why a text has no tokens.
use Rattle.std.specs.Prelude.{◌≡◌, ℕ, List}
use Rattle.bg_text.specs.declared.token.Token.{Token}
use Rattle.bg_text.specs.declared.fault.LexFault.{LexFault}
use Rattle.bg_text.specs.declared.fault.LexFault.TheVariants.{Bad, OutOfMemory}
use Rattle.bg_text.specs.Tokens.{AreTokens, IsRefusal}

-- the refusal of the text: no other code and offset is one, and the text has no list of tokens
pub record IsOnlyRefusal (bytes : List ℕ) (code offset : ℕ) : Type 0 where
  pub refusal : IsRefusal bytes code offset
  pub once : (other away : ℕ) → IsRefusal bytes other away → (other ≡ code) × (away ≡ offset)
  pub no_tokens : (tokens : List Token) → AreTokens bytes tokens → ⊥

-- the refusal of the text, or want of memory
abbrev pub IsLexFault : List ℕ → LexFault → Type 0
IsLexFault bytes (Bad code offset) = IsOnlyRefusal bytes code offset
IsLexFault bytes OutOfMemory = Unit {0}
