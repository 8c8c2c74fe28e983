-- The one spelling of each kind of thing in a listing. `decimal` and `signed_decimal` write a number in decimal
-- digits without leading zeros, the second with `-` in front of a negative one.
use Rattle.std.specs.Prelude.{ℕ, List, [], ◌∷◌, ◌++◌, length, codes, slice_get, option_map, unwrap_or}
use Rattle.std.specs.List.{flat_map}
use Rattle.std.specs.Fmt.{decimal, signed_decimal}
use Rattle.bg_base.specs.declared.names.Name.{Name}
use Rattle.bg_base.specs.declared.names.Name.TheVariants.{Plain, Port, Opened}
use Rattle.bg_base.specs.declared.names.Place.{Place}
use Rattle.bg_base.specs.declared.names.Place.TheVariants.{Node, Region}
use Rattle.bg_base.specs.declared.names.Link.{Link}
use Rattle.bg_base.specs.declared.names.Link.TheVariants.{Edge, Outer}
use Rattle.bg_base.specs.declared.labels.Value.{Value}
use Rattle.bg_base.specs.declared.labels.Value.TheVariants.{Int, Words}
use Rattle.bg_base.specs.declared.labels.Label.{Label}
use Rattle.bg_base.specs.declared.signature.Kind.{Kind}
use Rattle.bg_base.specs.declared.signature.Kind.TheVariants.{Normal, Atomic}
use Rattle.bg_base.specs.declared.signature.Control.{Control}
use Rattle.bg_base.specs.declared.big.InnerRow.{InnerRow}
use Rattle.bg_base.specs.declared.big.NodeRow.{NodeRow}
use Rattle.bg_base.specs.declared.big.Big.{Big}

-- the byte between the fields of a line
abbrev pub space : ℕ
space = 32

-- the byte at the end of a line
abbrev pub line_feed : ℕ
line_feed = 10

-- the byte between two arguments
abbrev pub comma : ℕ
comma = 44

-- the byte at the end of a list of arguments
abbrev pub closing_bracket : ℕ
closing_bracket = 41

-- each one behind the separator, and then the closing byte
abbrev pub chain_text : {A : Type 0} → ℕ → ℕ → (A → List ℕ) → List A → List ℕ
chain_text closing separator text [] = closing ∷ []
chain_text closing separator text (a ∷ others) = separator ∷ text a ++ chain_text closing separator text others

-- each number behind a space, and then the line feed
abbrev pub numbers_line : List ℕ → List ℕ
numbers_line numbers = chain_text line_feed space decimal numbers

-- ---- parts of a line

-- `r` and the region, or `n` and the node
abbrev pub place_text : Place → List ℕ
place_text (Node node) = codes "n" ++ decimal node
place_text (Region region) = codes "r" ++ decimal region

-- the word itself, `@V.I` for a port, `~E` for an opened edge
abbrev pub name_text : Name → List ℕ
name_text (Plain word) = word
name_text (Port node index) = codes "@" ++ (decimal node ++ (codes "." ++ decimal index))
name_text (Opened edge) = codes "~" ++ decimal edge

-- `#` and the edge, or `=` and the outer name
abbrev pub link_text : Link → List ℕ
link_text (Edge edge) = codes "#" ++ decimal edge
link_text (Outer name) = codes "=" ++ name_text name

-- a whole number, or a text in quotes
abbrev pub value_text : Value → List ℕ
value_text (Int number) = signed_decimal number
value_text (Words text) = codes "\"" ++ (text ++ codes "\"")

-- the arguments in round brackets, separated by commas; nothing where there are none
abbrev pub args_text : List Value → List ℕ
args_text [] = []
args_text (value ∷ values) = codes "(" ++ (value_text value ++ chain_text closing_bracket comma value_text values)

-- the word of the label, and its arguments
abbrev pub label_text : Label → List ℕ
label_text label = label.name ++ args_text label.args

-- `normal` or `atomic`
abbrev pub kind_text : Kind → List ℕ
kind_text Normal = codes "normal"
kind_text Atomic = codes "atomic"

-- ---- lines

-- the line of an edge
abbrev pub edge_line : ℕ → List ℕ
edge_line edge = decimal edge ++ codes "\n"

-- the line of a place
abbrev pub place_line : Place → List ℕ
place_line place = place_text place ++ codes "\n"

-- the line of a name
abbrev pub name_line : Name → List ℕ
name_line name = name_text name ++ codes "\n"

-- the line of an inner name: the name, and its link
abbrev pub inner_line : InnerRow → List ℕ
inner_line row = (name_text row.name ++ (codes " " ++ link_text row.link)) ++ codes "\n"

-- the line of a control: its label, its arity, and its kind
abbrev pub control_line : Control → List ℕ
control_line control = (label_text control.label ++ (codes " " ++ (decimal control.arity ++ (codes " " ++ kind_text control.kind)))) ++ codes "\n"

-- a word and a number
abbrev pub count_line : List ℕ → ℕ → List ℕ
count_line word count = word ++ (decimal count ++ codes "\n")

-- the label of the control of that number; where there is none, no label at all
abbrev pub label_of : List Control → ℕ → Label
label_of signature control = unwrap_or (option_map (λ (found : Control). found.label) (slice_get signature control)) (record { name = []; args = [] })

-- the node, its label, its place, and its links
abbrev pub node_line : List Control → NodeRow → List ℕ
node_line signature row =
    decimal row.id ++ (codes " " ++ (label_text (label_of signature row.control) ++ (codes " " ++ (place_text row.parent ++ chain_text line_feed space link_text row.links))))

-- ---- listings

-- the number of rows, and each row
abbrev pub section_text : {A : Type 0} → List ℕ → (A → List ℕ) → List A → List ℕ
section_text word line rows = count_line word (length rows) ++ flat_map line rows

-- the listing of a signature
unfoldable pub signature_text : List Control → List ℕ
signature_text controls = section_text (codes "signature ") control_line controls

-- the listing of a bigraph under a signature
unfoldable pub big_text : List Control → Big → List ℕ
big_text signature big =
    count_line (codes "bigraph ") big.regions ++ (section_text (codes "sites ") place_line big.sites
    ++ (section_text (codes "inner ") inner_line big.inner ++ (section_text (codes "outer ") name_line big.outer
    ++ (section_text (codes "edges ") edge_line big.edges ++ section_text (codes "nodes ") (node_line signature) big.nodes))))
