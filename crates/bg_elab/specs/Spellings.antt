-- What the tokens of a text spell, by their kinds; and a text that the grammar refuses.
use Rattle.std.specs.Prelude.{◌≡◌, ℕ, true, is_some, List}
use Rattle.bg_base.specs.Spelling.{is_ident, is_text}
use Rattle.bg_elab.specs.Elaboration.{offset_of, text_of}
use Rattle.bg_syntax.specs.declared.fault.SyntaxFault.TheVariants.{Unexpected}
use Rattle.bg_syntax.specs.Models.{IsSyntaxFault}
use Rattle.bg_text.specs.declared.token.Token.{Token}
use Rattle.bg_text.specs.declared.token.TokenKind.{TokenKind}
use Rattle.bg_text.specs.declared.token.TokenKind.TheVariants.{Lower, Upper, Zero, One, Num, Text}
use Rattle.bg_text.specs.Tokens.{AreTokens}
use Rattle.bg_values.specs.Numbers.{number_in}
use Rattle.bg_values.specs.Reading.{between}

-- a word is spelled as an identifier, a number as one that is not above the greatest, a text as one between two quotes
abbrev pub Spells : TokenKind → List ℕ → Type 0
Spells Lower bytes = is_ident bytes ≡ true
Spells Upper bytes = is_ident bytes ≡ true
Spells Zero bytes = is_some (number_in bytes) ≡ true
Spells One bytes = is_some (number_in bytes) ≡ true
Spells Num bytes = is_some (number_in bytes) ≡ true
Spells Text bytes = is_text (between bytes) ≡ true
Spells kind bytes = Unit {0}

-- the first fault of the text's tokens is the token that begins at that byte, or the end of the text: no model goes on with it
pub record IsUnexpectedAt (bytes : List ℕ) (offset : ℕ) : Type 0 where
  pub tokens : List Token
  pub token : ℕ
  pub are_tokens : AreTokens bytes tokens
  pub fault : IsSyntaxFault tokens (Unexpected token)
  pub offset_is : offset ≡ offset_of (text_of bytes tokens) token
