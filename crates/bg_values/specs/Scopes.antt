-- What a formula is read in, and the spelling of its tokens.
use Rattle.std.specs.Prelude.{ℕ, ◌-◌, List, [], take, drop, slice_get, Option, Some, None}
use Rattle.bg_text.specs.declared.token.Token.{Token}
use Rattle.bg_values.specs.Names.{NamedValue}

-- the text, its tokens, and the visible names
pub record ScopeParts : Type 0 where
  pub bytes : List ℕ
  pub tokens : List Token
  pub names : List (NamedValue (Unit {0}))

-- the bytes of a token of a text
abbrev pub piece_of : List ℕ → Option Token → List ℕ
piece_of bytes (Some token) = take (token.end - token.start) (drop token.start bytes)
piece_of bytes None = []

-- the bytes of the token with that number, none where there is no such token
abbrev pub spelling : ScopeParts → ℕ → List ℕ
spelling scope token = piece_of scope.bytes (slice_get scope.tokens token)
