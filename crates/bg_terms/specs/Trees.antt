-- What expression a tree of the grammar is, where some controls, bigraphs and formals are visible.
use Rattle.std.specs.Prelude.{ℕ, Bool, false, not, ◌==◌, if◌then◌else◌, List, [], ◌∷◌, map, length, Option, Some, None, Result, Ok, nat_abs}
use Rattle.bg_base.specs.Bigraph.{is_atomic_kind}
use Rattle.bg_base.specs.Spelling.{is_ident}
use Rattle.bg_trees.specs.declared.arithmetic.SynX.{SynX}
use Rattle.bg_trees.specs.declared.names.SynNumber.{SynNumber}
use Rattle.bg_trees.specs.declared.names.SynMoreLowItem.{SynMoreLowItem}
use Rattle.bg_trees.specs.declared.names.SynNameList.{SynNameList}
use Rattle.bg_trees.specs.declared.names.SynNameList.TheVariants as name_lists
use Rattle.bg_trees.specs.declared.names.SynNames.{SynNames}
use Rattle.bg_trees.specs.declared.names.SynNames.TheVariants as port_names
use Rattle.bg_trees.specs.declared.expressions.SynArgs.{SynArgs}
use Rattle.bg_trees.specs.declared.expressions.SynArgs.TheVariants as args_ways
use Rattle.bg_trees.specs.declared.expressions.SynIdNames.{SynIdNames}
use Rattle.bg_trees.specs.declared.expressions.SynIdNames.TheVariants as id_names_ways
use Rattle.bg_trees.specs.declared.expressions.SynIdTail.{SynIdTail}
use Rattle.bg_trees.specs.declared.expressions.SynIdTail.TheVariants as id_tail_ways
use Rattle.bg_trees.specs.declared.expressions.SynA.TheOpen.{SynA-F, SynK-F, SynN1-F, SynC-F, SynC1Item-F, SynE-F, SynE1Item-F, SynM-F, SynM1Item-F, SynN-F, SynP-F, SynP1Item-F}
use Rattle.bg_trees.specs.declared.expressions.SynA.TheOpen.SynA-F.{SynA::Way1 as a_1, SynA::Way2 as a_2, Way3 as a_3, Way4 as a_4, Way5 as a_5, Way6 as a_6, Way7 as a_7, Way8 as a_8}
use Rattle.bg_trees.specs.declared.expressions.SynA.TheOpen.SynK-F.{SynK::Way1 as k_1, SynK::Way2 as k_2}
use Rattle.bg_trees.specs.declared.expressions.SynA.TheOpen.SynN1-F.{SynN1::Way1 as n1_1, SynN1::Way2 as n1_2}
use Rattle.bg_trees.specs.declared.expressions.SynA.TheFolds.{fold-SynA, fold-SynK, fold-SynN1, fold-SynC, fold-SynC1Item, fold-SynE, fold-SynE1Item, fold-SynM, fold-SynM1Item, fold-SynN, fold-SynP, fold-SynP1Item}
use Rattle.bg_trees.specs.declared.expressions.SynA.{SynA}
use Rattle.bg_trees.specs.declared.expressions.SynK.{SynK}
use Rattle.bg_trees.specs.declared.expressions.SynN1.{SynN1}
use Rattle.bg_trees.specs.declared.expressions.SynC.{SynC}
use Rattle.bg_trees.specs.declared.expressions.SynC1Item.{SynC1Item}
use Rattle.bg_trees.specs.declared.expressions.SynE.{SynE}
use Rattle.bg_trees.specs.declared.expressions.SynE1Item.{SynE1Item}
use Rattle.bg_trees.specs.declared.expressions.SynM.{SynM}
use Rattle.bg_trees.specs.declared.expressions.SynM1Item.{SynM1Item}
use Rattle.bg_trees.specs.declared.expressions.SynN.{SynN}
use Rattle.bg_trees.specs.declared.expressions.SynP.{SynP}
use Rattle.bg_trees.specs.declared.expressions.SynP1Item.{SynP1Item}
use Rattle.bg_values.specs.declared.refusal.Refusal.{Refusal}
use Rattle.bg_values.specs.declared.refusal.Cause.TheVariants.{Unexpected, UnknownName, WrongArguments, WrongPorts}
use Rattle.bg_values.specs.Names.{NamedValue, look_up}
use Rattle.bg_values.specs.Operands.{operands_read, trees}
use Rattle.bg_values.specs.Outcome.{◌>>=◌, each, refused, there_or}
use Rattle.bg_values.specs.Reading.{number_at, number_token}
use Rattle.bg_values.specs.Scopes.{ScopeParts, spelling}
use Rattle.bg_terms.specs.declared.shape.ControlEntry.{ControlEntry}
use Rattle.bg_terms.specs.declared.shape.BinaryOperation.{BinaryOperation}
use Rattle.bg_terms.specs.declared.shape.BinaryOperation.TheVariants.{Composition, Tensor, Parallel, Merge}
use Rattle.bg_terms.specs.Expressions.{Expression, node, reference, names, identity_of, merger_of, barren, empty, brackets, deeper, closure, nesting, binary}

-- what is visible: the text with its tokens and the formals, the controls, and the bigraphs with how many formals each has
pub record Visible : Type 0 where
  pub scope : ScopeParts
  pub controls : List (NamedValue ControlEntry)
  pub bigraphs : List (NamedValue ℕ)

-- ---- the small parts

-- the trees of the arguments
abbrev pub arguments : SynArgs → List SynX
arguments (args_ways.Way1 bracket first more end) = trees first more.items
arguments args_ways.Way2 = []

-- the tokens of a list of names
abbrev pub listed_tokens : SynNameList → List ℕ
listed_tokens (name_lists.Way1 first more) = first ∷ map (λ (item : SynMoreLowItem). item.part2) more.items
listed_tokens name_lists.Way2 = []

-- the identifier that a token spells
abbrev pub word_at : Visible → ℕ → Result (List ℕ) Refusal
word_at visible token = if is_ident (spelling visible.scope token) then Ok (spelling visible.scope token) else refused Unexpected token

-- the identifiers that the tokens spell, in order
abbrev pub words_at : Visible → List ℕ → Result (List (List ℕ)) Refusal
words_at visible = each (word_at visible)

-- the tokens of the names of ports
abbrev pub ports_of : SynNames → List ℕ
ports_of (port_names.Way1 bracket list end) = listed_tokens list
ports_of port_names.Way2 = []

-- a number of places
abbrev pub width_at : Visible → SynNumber → Result ℕ Refusal
width_at visible number = number_at visible.scope (number_token number) >>= λ z. Ok (nat_abs z)

-- ---- forms: names are looked up, and numbers of arguments and of ports judged, before the names inside arguments

-- `K(..){a,b}`, once the control was found
abbrev pub node_of : Visible → ℕ → List SynX → List ℕ → ℕ × ControlEntry → Result Expression Refusal
node_of visible at args ports found =
    if not (length args == found.1.formals) then refused WrongArguments at else (
    if not (length ports == found.1.shape.arity) then refused WrongPorts at else
    (operands_read visible.scope args >>= λ fs. words_at visible ports >>= λ words. Ok (node at found.0 fs words)))

-- `K(..){a,b}`
abbrev pub node_read : ℕ → List SynX → List ℕ → Visible → Result Expression Refusal
node_read at args ports visible =
    there_or UnknownName at (look_up (spelling visible.scope at) visible.controls) >>= node_of visible at args ports

-- `b(..)`, once the bigraph was found
abbrev pub reference_of : Visible → ℕ → List SynX → ℕ × ℕ → Result Expression Refusal
reference_of visible at args found =
    if not (length args == found.1) then refused WrongArguments at else
    (operands_read visible.scope args >>= λ fs. Ok (reference at found.0 fs))

-- `b(..)`
abbrev pub reference_read : ℕ → List SynX → Visible → Result Expression Refusal
reference_read at args visible = there_or UnknownName at (look_up (spelling visible.scope at) visible.bigraphs) >>= reference_of visible at args

-- the tokens of the names of an identity of places
abbrev pub id_names : SynIdNames → List ℕ
id_names (id_names_ways.Way1 comma bracket list end) = listed_tokens list
id_names id_names_ways.Way2 = []

-- `id(n,{x})`
abbrev pub wide_identity_read : ℕ → SynNumber → List ℕ → Visible → Result Expression Refusal
wide_identity_read at number tokens visible =
    width_at visible number >>= λ width. words_at visible tokens >>= λ words. Ok (identity_of at width words)

-- `id{x}`
abbrev pub linking_read : ℕ → List ℕ → Visible → Result Expression Refusal
linking_read at tokens visible = words_at visible tokens >>= λ words. Ok (identity_of at 0 words)

-- `id` and what stands behind it; alone it is the identity of one place
abbrev pub id_read : ℕ → SynIdTail → Visible → Result Expression Refusal
id_read at (id_tail_ways.Way1 bracket number list end) visible = wide_identity_read at number (id_names list) visible
id_read at (id_tail_ways.Way2 bracket list end) visible = linking_read at (listed_tokens list) visible
id_read at id_tail_ways.Way3 visible = Ok (identity_of at 1 [])

-- `{x,y}`
abbrev pub names_read : ℕ → List ℕ → Visible → Result Expression Refusal
names_read at tokens visible = words_at visible tokens >>= λ words. Ok (names at words)

-- `merge(n)`
abbrev pub merger_read : ℕ → SynNumber → Visible → Result Expression Refusal
merger_read at number visible = width_at visible number >>= λ width. Ok (merger_of at width)

-- the control that was found is atomic
abbrev pub is_atomic_entry : Option (ℕ × ControlEntry) → Bool
is_atomic_entry (Some found) = is_atomic_kind found.1.shape.kind
is_atomic_entry None = false

-- whether the token names a visible control that is atomic
abbrev pub names_atom : ℕ → Visible → Bool
names_atom at visible = is_atomic_entry (look_up (spelling visible.scope at) visible.controls)

-- a form that is not written as an atom
abbrev pub no_atom : Visible → Bool
no_atom visible = false

-- ---- the layers of a tree, with what their parts say in place of the parts

-- the first token of a tree, and what the tree says
abbrev pub Reading : Type 0
Reading = ℕ × (Visible → Result Expression Refusal)

-- the same, and whether it is written as an atom
abbrev pub Form : Type 0
Form = ℕ × (Visible → Result Expression Refusal) × (Visible → Bool)

-- what an item of a list says, behind the expression on its left
abbrev pub Onward : Type 0
Onward = Visible → Expression → Result Expression Refusal

-- a dot and what stands behind it, or nothing
abbrev pub Behind : Type 0
Behind = Option (ℕ × Reading)

-- `(F)`
abbrev pub brackets_read : ℕ → Reading → Visible → Result Expression Refusal
brackets_read at inside visible = inside.1 visible >>= λ e. Ok (brackets at e)

-- `/x F`
abbrev pub closure_read : ℕ → ℕ → Reading → Visible → Result Expression Refusal
closure_read slash name inside visible =
    word_at visible name >>= λ word. inside.1 visible >>= λ e. Ok (deeper slash (closure slash word e))

-- a `K` without a closure
abbrev pub deeper_read : Reading → Visible → Result Expression Refusal
deeper_read inside visible = inside.1 visible >>= λ e. Ok (deeper inside.0 e)

-- A = upper Args Names | Ref | "{" NameList "}" | id IdTail | merge "(" Number ")" | zero | one | "(" E ")"
abbrev pub a_layer : SynA-F Form Reading Behind Reading Onward Reading Onward Reading Onward Reading Reading Onward → Form
a_layer (a_1 upper args ports) = (upper, node_read upper (arguments args) (ports_of ports), names_atom upper)
a_layer (a_2 ref) = (ref.part1, reference_read ref.part1 (arguments ref.part2), no_atom)
a_layer (a_3 bracket list end) = (bracket, names_read bracket (listed_tokens list), no_atom)
a_layer (a_4 at tail) = (at, id_read at tail, no_atom)
a_layer (a_5 at bracket number end) = (at, merger_read at number, no_atom)
a_layer (a_6 at) = (at, λ visible. Ok (empty at), no_atom)
a_layer (a_7 at) = (at, λ visible. Ok (barren at), no_atom)
a_layer (a_8 bracket e end) = (bracket, brackets_read bracket e.value, no_atom)

-- K = "/" lower K | N
abbrev pub k_layer : SynK-F Form Reading Behind Reading Onward Reading Onward Reading Onward Reading Reading Onward → Reading
k_layer (k_1 slash lower k) = (slash, closure_read slash lower k.value)
k_layer (k_2 n) = (n.value.0, deeper_read n.value)

-- N1 = "." K | none
abbrev pub n1_layer : SynN1-F Form Reading Behind Reading Onward Reading Onward Reading Onward Reading Reading Onward → Behind
n1_layer (n1_1 dot k) = Some (dot, k.value)
n1_layer n1_2 = None

-- the expression before a dot, nested where a dot follows
abbrev pub nested_read : Bool → Behind → Visible → Expression → Result Expression Refusal
nested_read is_atom (Some behind) visible e = behind.1.1 visible >>= λ d. Ok (nesting behind.0 is_atom e d)
nested_read is_atom None visible e = Ok e

-- N = A N1
abbrev pub n_layer : SynN-F Form Reading Behind Reading Onward Reading Onward Reading Onward Reading Reading Onward → Reading
n_layer n =
    (n.part1.value.0, λ visible. n.part1.value.1 visible >>= nested_read (n.part1.value.2 visible) n.part2.value visible)

-- the expression on the left with each of the items in turn
abbrev pub items_read : List Onward → Onward
items_read [] visible e = Ok e
items_read (item ∷ items) visible e = item visible e >>= items_read items visible

-- a binary operation with what the tree behind the operator says
abbrev pub binary_read : BinaryOperation → ℕ → Reading → Onward
binary_read kind at right visible e = right.1 visible >>= λ d. Ok (binary kind at e d)

-- an item of C1: "*" K
abbrev pub c1_item_layer : SynC1Item-F Form Reading Behind Reading Onward Reading Onward Reading Onward Reading Reading Onward → Onward
c1_item_layer x = binary_read Composition x.part1 x.part2.value

-- C = K C1
abbrev pub c_layer : SynC-F Form Reading Behind Reading Onward Reading Onward Reading Onward Reading Reading Onward → Reading
c_layer x = (x.part1.value.0, λ visible. x.part1.value.1 visible >>= items_read x.part2.items visible)

-- an item of M1: "|" C
abbrev pub m1_item_layer : SynM1Item-F Form Reading Behind Reading Onward Reading Onward Reading Onward Reading Reading Onward → Onward
m1_item_layer x = binary_read Merge x.part1 x.part2.value

-- M = C M1
abbrev pub m_layer : SynM-F Form Reading Behind Reading Onward Reading Onward Reading Onward Reading Reading Onward → Reading
m_layer x = (x.part1.value.0, λ visible. x.part1.value.1 visible >>= items_read x.part2.items visible)

-- an item of P1: "||" M
abbrev pub p1_item_layer : SynP1Item-F Form Reading Behind Reading Onward Reading Onward Reading Onward Reading Reading Onward → Onward
p1_item_layer x = binary_read Parallel x.part1 x.part2.value

-- P = M P1
abbrev pub p_layer : SynP-F Form Reading Behind Reading Onward Reading Onward Reading Onward Reading Reading Onward → Reading
p_layer x = (x.part1.value.0, λ visible. x.part1.value.1 visible >>= items_read x.part2.items visible)

-- an item of E1: "+" P
abbrev pub e1_item_layer : SynE1Item-F Form Reading Behind Reading Onward Reading Onward Reading Onward Reading Reading Onward → Onward
e1_item_layer x = binary_read Tensor x.part1 x.part2.value

-- E = P E1
abbrev pub e_layer : SynE-F Form Reading Behind Reading Onward Reading Onward Reading Onward Reading Reading Onward → Reading
e_layer x = (x.part1.value.0, λ visible. x.part1.value.1 visible >>= items_read x.part2.items visible)

-- what the trees say

-- what a tree of A says
unfoldable pub a_read : SynA → Form
a_read =
    fold-SynA Form Reading Behind Reading Onward Reading Onward Reading Onward Reading Reading Onward
    a_layer k_layer n1_layer c_layer c1_item_layer e_layer e1_item_layer m_layer m1_item_layer n_layer p_layer p1_item_layer

-- what a tree of K says
unfoldable pub k_read : SynK → Reading
k_read =
    fold-SynK Form Reading Behind Reading Onward Reading Onward Reading Onward Reading Reading Onward
    a_layer k_layer n1_layer c_layer c1_item_layer e_layer e1_item_layer m_layer m1_item_layer n_layer p_layer p1_item_layer

-- what a tree of N1 says
unfoldable pub n1_read : SynN1 → Behind
n1_read =
    fold-SynN1 Form Reading Behind Reading Onward Reading Onward Reading Onward Reading Reading Onward
    a_layer k_layer n1_layer c_layer c1_item_layer e_layer e1_item_layer m_layer m1_item_layer n_layer p_layer p1_item_layer

-- what a tree of N says
unfoldable pub n_read : SynN → Reading
n_read =
    fold-SynN Form Reading Behind Reading Onward Reading Onward Reading Onward Reading Reading Onward
    a_layer k_layer n1_layer c_layer c1_item_layer e_layer e1_item_layer m_layer m1_item_layer n_layer p_layer p1_item_layer

-- what a tree of C says
unfoldable pub c_read : SynC → Reading
c_read =
    fold-SynC Form Reading Behind Reading Onward Reading Onward Reading Onward Reading Reading Onward
    a_layer k_layer n1_layer c_layer c1_item_layer e_layer e1_item_layer m_layer m1_item_layer n_layer p_layer p1_item_layer

-- what an item of C1 says
unfoldable pub c1_item_read : SynC1Item → Onward
c1_item_read =
    fold-SynC1Item Form Reading Behind Reading Onward Reading Onward Reading Onward Reading Reading Onward
    a_layer k_layer n1_layer c_layer c1_item_layer e_layer e1_item_layer m_layer m1_item_layer n_layer p_layer p1_item_layer

-- what a tree of M says
unfoldable pub m_read : SynM → Reading
m_read =
    fold-SynM Form Reading Behind Reading Onward Reading Onward Reading Onward Reading Reading Onward
    a_layer k_layer n1_layer c_layer c1_item_layer e_layer e1_item_layer m_layer m1_item_layer n_layer p_layer p1_item_layer

-- what an item of M1 says
unfoldable pub m1_item_read : SynM1Item → Onward
m1_item_read =
    fold-SynM1Item Form Reading Behind Reading Onward Reading Onward Reading Onward Reading Reading Onward
    a_layer k_layer n1_layer c_layer c1_item_layer e_layer e1_item_layer m_layer m1_item_layer n_layer p_layer p1_item_layer

-- what a tree of P says
unfoldable pub p_read : SynP → Reading
p_read =
    fold-SynP Form Reading Behind Reading Onward Reading Onward Reading Onward Reading Reading Onward
    a_layer k_layer n1_layer c_layer c1_item_layer e_layer e1_item_layer m_layer m1_item_layer n_layer p_layer p1_item_layer

-- what an item of P1 says
unfoldable pub p1_item_read : SynP1Item → Onward
p1_item_read =
    fold-SynP1Item Form Reading Behind Reading Onward Reading Onward Reading Onward Reading Reading Onward
    a_layer k_layer n1_layer c_layer c1_item_layer e_layer e1_item_layer m_layer m1_item_layer n_layer p_layer p1_item_layer

-- what a tree of E says
unfoldable pub e_read : SynE → Reading
e_read =
    fold-SynE Form Reading Behind Reading Onward Reading Onward Reading Onward Reading Reading Onward
    a_layer k_layer n1_layer c_layer c1_item_layer e_layer e1_item_layer m_layer m1_item_layer n_layer p_layer p1_item_layer

-- what an item of E1 says
unfoldable pub e1_item_read : SynE1Item → Onward
e1_item_read =
    fold-SynE1Item Form Reading Behind Reading Onward Reading Onward Reading Onward Reading Reading Onward
    a_layer k_layer n1_layer c_layer c1_item_layer e_layer e1_item_layer m_layer m1_item_layer n_layer p_layer p1_item_layer
