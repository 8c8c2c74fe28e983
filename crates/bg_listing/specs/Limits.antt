-- What has a spelling that a reader of listings takes.
use Rattle.std.specs.Prelude.{ℕ, ◌≤◌, ℤ, pos, negsuc, Bool, false, List, [], ◌∷◌, length, IsTrue}
use Rattle.std.specs.List.{list_all, AllByRecursion}
use Rattle.bg_base.specs.Limits.{most_ports, most_rows}
use Rattle.bg_base.specs.Spelling.{is_word_byte, is_text_byte, is_lower_case, is_upper_case}
use Rattle.bg_base.specs.declared.names.Name.{Name}
use Rattle.bg_base.specs.declared.names.Name.TheVariants.{Plain, Port, Opened}
use Rattle.bg_base.specs.declared.names.Place.{Place}
use Rattle.bg_base.specs.declared.names.Place.TheVariants.{Node, Region}
use Rattle.bg_base.specs.declared.names.Link.{Link}
use Rattle.bg_base.specs.declared.names.Link.TheVariants.{Edge, Outer}
use Rattle.bg_base.specs.declared.labels.Value.{Value}
use Rattle.bg_base.specs.declared.labels.Value.TheVariants.{Int, Words}
use Rattle.bg_base.specs.declared.labels.Label.{Label}
use Rattle.bg_base.specs.declared.signature.Control.{Control}
use Rattle.bg_base.specs.declared.big.InnerRow.{InnerRow}
use Rattle.bg_base.specs.declared.big.NodeRow.{NodeRow}
use Rattle.bg_base.specs.declared.big.Big.{Big}
use Rattle.bg_base.specs.Signatures.{IsSignature}
use Rattle.bg_base.specs.Bigraph.{IsValidUnder}
use Rattle.bg_listing.specs.Spelling.{label_of}

-- the greatest number of a listing, 2 ^ 31 - 1
abbrev pub greatest_number : ℕ
greatest_number = 2147483647

-- the greatest 64-bit number with sign, 2 ^ 63 - 1
abbrev pub greatest_int : ℕ
greatest_int = 9223372036854775807

-- a number that a listing spells
abbrev pub IsNumber : ℕ → Type 0
IsNumber number = number ≤ greatest_number

-- a place that a listing spells
abbrev pub IsPlace : Place → Type 0
IsPlace (Node node) = IsNumber node
IsPlace (Region region) = IsNumber region

-- whether there is a first byte that passes the test
abbrev pub begins : (ℕ → Bool) → List ℕ → Bool
begins test [] = false
begins test (b ∷ bytes) = test b

-- a word of letters, digits, `_` and `'` whose first byte passes the test
abbrev pub IsWord : (ℕ → Bool) → List ℕ → Type 0
IsWord first word = IsTrue (list_all is_word_byte word) × IsTrue (begins first word)

-- a name that a listing spells; a plain one begins with a lower-case letter
abbrev pub IsName : Name → Type 0
IsName (Plain word) = IsWord is_lower_case word
IsName (Port node index) = IsNumber node × IsNumber index
IsName (Opened edge) = IsNumber edge

-- a link that a listing spells
abbrev pub IsLink : Link → Type 0
IsLink (Edge edge) = IsNumber edge
IsLink (Outer name) = IsName name

-- an inner row that a listing spells
abbrev pub IsInner : InnerRow → Type 0
IsInner row = IsName row.name × IsLink row.link

-- a whole number of 64 bits with sign
abbrev pub IsInt : ℤ → Type 0
IsInt (pos n) = n ≤ greatest_int
IsInt (negsuc n) = n ≤ greatest_int

-- a value that a listing spells: a whole number of 64 bits with sign, or a text of printable bytes other than `"`
abbrev pub IsValue : Value → Type 0
IsValue (Int number) = IsInt number
IsValue (Words text) = IsTrue (list_all is_text_byte text)

-- a label that a listing spells; its word begins with an upper-case letter
abbrev pub IsLabel : Label → Type 0
IsLabel label = IsWord is_upper_case label.name × AllByRecursion IsValue label.args

-- ---- whole values

-- at most so many, and each of them with a spelling
pub record AreCounted {A : Type 0} (most : ℕ) (Fits : A → Type 0) (xs : List A) : Type 0 where
  pub many : length xs ≤ most
  pub all : AllByRecursion Fits xs

-- a control that a row of a signature spells
pub record IsControl (control : Control) : Type 0 where
  pub label : IsLabel control.label
  pub arity : control.arity ≤ most_ports

-- the row of a node that a listing under the signature spells
pub record IsNode (signature : List Control) (row : NodeRow) : Type 0 where
  pub id : IsNumber row.id
  pub label : IsLabel (label_of signature row.control)
  pub parent : IsPlace row.parent
  pub links : AllByRecursion IsLink row.links

-- a signature that a listing spells
pub record IsReadableSignature (controls : List Control) : Type 0 where
  pub signature : IsSignature controls
  pub labels : AllByRecursion (λ (control : Control). IsLabel control.label) controls

-- a bigraph within the limits and with spellings
pub record IsSpelledBig (signature : List Control) (big : Big) : Type 0 where
  pub regions : big.regions ≤ most_rows
  pub sites : AreCounted most_rows IsPlace big.sites
  pub inner : AreCounted most_rows IsInner big.inner
  pub outer : AreCounted most_rows IsName big.outer
  pub edges : AreCounted most_rows IsNumber big.edges
  pub nodes : AreCounted most_rows (IsNode signature) big.nodes

-- a bigraph that is valid under the signature and that a listing spells
pub record IsReadableBig (signature : List Control) (big : Big) : Type 0 where
  pub valid : IsValidUnder signature big
  pub spelled : IsSpelledBig signature big
