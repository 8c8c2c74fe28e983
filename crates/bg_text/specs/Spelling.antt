-- The spelling of each kind of token.
use Rattle.std.specs.Prelude.{ℕ, Bool, true, false, not, ◌&&◌, ◌||◌, ◌==◌, nat_le, if◌then◌else◌, List, [], ◌∷◌, Option, Some, None, codes}
use Rattle.std.specs.List.{list_all}
use Rattle.std.specs.Char.{is_ascii_digit, is_ascii_lowercase, is_ascii_uppercase, is_ascii_alphanumeric}
use Rattle.bg_text.specs.declared.token.TokenKind.{TokenKind}
use Rattle.bg_text.specs.declared.token.TokenKind.TheVariants.{Lower, Upper, Zero, One, Num, Text, KwAtomic, KwBegin, KwBig, KwBrs, KwCtrl, KwCtx, KwEnd, KwFun, KwId, KwIf, KwIn, KwInit, KwInt, KwMerge, KwParam, KwPreds, KwReact, KwRules, KwString, Arrow, BarBar, Bar, Plus, Minus, Star, Slash, Dot, Comma, Semicolon, Colon, Equals, OpenBrace, CloseBrace, OpenRound, CloseRound, OpenSquare, CloseSquare, At, Bang}

-- a letter, a digit, `_` or `'`
abbrev pub is_word_byte : ℕ → Bool
is_word_byte byte = is_ascii_alphanumeric byte || (byte == 95) || (byte == 39)

-- a printable ASCII character, the space among them, other than `"`
abbrev pub is_text_byte : ℕ → Bool
is_text_byte byte = nat_le 32 byte && nat_le byte 126 && not (byte == 34)

-- space, tab, carriage return or line feed
abbrev pub is_space : ℕ → Bool
is_space byte = (byte == 32) || (byte == 9) || (byte == 13) || (byte == 10)

-- both are one word
abbrev pub same : List ℕ → List ℕ → Bool
same [] [] = true
same [] (b ∷ bs) = false
same (a ∷ more) [] = false
same (a ∷ more) (b ∷ bs) = (a == b) && same more bs

-- the keywords behind "if", in the order of the alphabet; any other word with a lower-case letter in front is an identifier
unfoldable pub later_kind : List ℕ → TokenKind
later_kind word =
    if same word (codes "in") then KwIn else (
    if same word (codes "init") then KwInit else (
    if same word (codes "int") then KwInt else (
    if same word (codes "merge") then KwMerge else (
    if same word (codes "param") then KwParam else (
    if same word (codes "preds") then KwPreds else (
    if same word (codes "react") then KwReact else (
    if same word (codes "rules") then KwRules else (
    if same word (codes "string") then KwString else (
    Lower)))))))))

-- the keywords
unfoldable pub lower_kind : List ℕ → TokenKind
lower_kind word =
    if same word (codes "atomic") then KwAtomic else (
    if same word (codes "begin") then KwBegin else (
    if same word (codes "big") then KwBig else (
    if same word (codes "brs") then KwBrs else (
    if same word (codes "ctrl") then KwCtrl else (
    if same word (codes "ctx") then KwCtx else (
    if same word (codes "end") then KwEnd else (
    if same word (codes "fun") then KwFun else (
    if same word (codes "id") then KwId else (
    if same word (codes "if") then KwIf else (
    later_kind word))))))))))

-- the kind of a run of digits: `0` and `1` have their own
abbrev pub number_kind : List ℕ → TokenKind
number_kind (d ∷ []) = if d == 48 then Zero else (if d == 49 then One else Num)
number_kind digits = Num

-- the symbols of one byte
unfoldable pub mark : ℕ → Option TokenKind
mark byte =
    if byte == 124 then Some Bar else (
    if byte == 43 then Some Plus else (
    if byte == 45 then Some Minus else (
    if byte == 42 then Some Star else (
    if byte == 47 then Some Slash else (
    if byte == 46 then Some Dot else (
    if byte == 44 then Some Comma else (
    if byte == 59 then Some Semicolon else (
    if byte == 58 then Some Colon else (
    if byte == 61 then Some Equals else (
    if byte == 123 then Some OpenBrace else (
    if byte == 125 then Some CloseBrace else (
    if byte == 40 then Some OpenRound else (
    if byte == 41 then Some CloseRound else (
    if byte == 91 then Some OpenSquare else (
    if byte == 93 then Some CloseSquare else (
    if byte == 64 then Some At else (
    if byte == 33 then Some Bang else (
    None))))))))))))))))))

-- the symbols
abbrev pub symbol : List ℕ → Option TokenKind
symbol (a ∷ []) = mark a
symbol (a ∷ b ∷ []) = if (a == 124) && (b == 124) then Some BarBar else None
symbol (a ∷ b ∷ c ∷ []) = if (a == 45) && ((b == 45) && (c == 62)) then Some Arrow else None
symbol bytes = None

-- bytes of a text and then a quote
abbrev pub ends_with_quote : List ℕ → Bool
ends_with_quote [] = false
ends_with_quote (b ∷ []) = b == 34
ends_with_quote (b ∷ c ∷ bytes) = is_text_byte b && ends_with_quote (c ∷ bytes)

-- the kind, where the spelling passes
abbrev pub only : Bool → TokenKind → Option TokenKind
only passes kind = if passes then Some kind else None

-- the kind of the token that these bytes spell
unfoldable pub kind_of : List ℕ → Option TokenKind
kind_of [] = None
kind_of (b ∷ bytes) =
    if is_ascii_lowercase b then only (list_all is_word_byte (b ∷ bytes)) (lower_kind (b ∷ bytes))
    else (if is_ascii_uppercase b then only (list_all is_word_byte (b ∷ bytes)) Upper
    else (if is_ascii_digit b then only (list_all is_ascii_digit (b ∷ bytes)) (number_kind (b ∷ bytes))
    else (if b == 34 then only (ends_with_quote bytes) Text
    else symbol (b ∷ bytes))))
