-- What a term comes to: a bigraph, or the first refusal.
use Rattle.std.specs.Prelude.{ℕ, ◌+◌, Bool, ◌||◌, not, ◌==◌, nat_lt, is_some, if◌then◌else◌, List, [], ◌∷◌, ◌++◌, map, length, Option, Some, None, Result, Ok, Err}
use Rattle.std.specs.List.{list_any}
use Rattle.bg_lists.specs.Orders.{set_of}
use Rattle.bg_base.specs.Limits.{most_controls, most_terms, most_depth, most_expression_nodes, most_expression_edges, most_expression_places}
use Rattle.bg_base.specs.declared.names.Name.{Name}
use Rattle.bg_base.specs.declared.names.Name.TheVariants.{Plain}
use Rattle.bg_base.specs.declared.big.InnerRow.{InnerRow}
use Rattle.bg_base.specs.declared.big.Big.{Big}
use Rattle.bg_base.specs.declared.signature.Control.{Control}
use Rattle.bg_base.specs.declared.signature.Kind.{Kind}
use Rattle.bg_base.specs.declared.signature.Kind.TheVariants.{Normal, Atomic}
use Rattle.bg_base.specs.Order.{name_cmp}
use Rattle.bg_base.specs.Bigraph.{inner_of, outer_of}
use Rattle.bg_base.specs.Composition.{compose, faces_agree}
use Rattle.bg_base.specs.Elementary.{identity, merger, idle, barren, empty, ion, atom}
use Rattle.bg_base.specs.Products.{tensor, parallel, merge, nest, close}
use Rattle.bg_base.specs.Signatures.{control_number}
use Rattle.bg_values.specs.declared.refusal.Refusal.{Refusal}
use Rattle.bg_values.specs.declared.refusal.Cause.TheVariants.{FacesDiffer, NamesMeet, InnerNamesMeet, WidthsDiffer, HasInnerNames, AtomicHasChild, TooLarge}
use Rattle.bg_values.specs.declared.refusal.LimitWord.TheVariants.{Controls, Nodes, Edges, Places, Terms, Depth}
use Rattle.bg_values.specs.Outcome.{◌>>=◌, refused}
use Rattle.bg_terms.specs.declared.shape.BinaryOperation.{BinaryOperation}
use Rattle.bg_terms.specs.declared.shape.BinaryOperation.TheVariants.{Composition, Tensor, Parallel, Merge}
use Rattle.bg_terms.specs.Terms as terms
use Rattle.bg_terms.specs.Terms.{Term}

-- how far an evaluation has come: the controls met so far, and how many nodes, closures and terms
pub record Reached : Type 0 where
  pub signature : List Control
  pub nodes : ℕ
  pub edges : ℕ
  pub terms : ℕ

-- a bigraph, and how far its evaluation has come
abbrev pub Come : Type 0
Come = Result (Big × Reached) Refusal

-- the names that the words are
abbrev pub plain_names : List (List ℕ) → List Name
plain_names words = map Plain words

-- one more term, of at most 1,048,576
abbrev pub tallied : ℕ → Reached → Result Reached Refusal
tallied at c = if nat_lt c.terms most_terms then Ok (record c { terms = c.terms + 1 }) else refused (TooLarge Terms) at

-- the number of a control, which enters the signature where it is new; there are at most 4,096
abbrev pub entered_at : ℕ → Control → List Control → Option ℕ → Result (ℕ × List Control) Refusal
entered_at at control controls (Some number) = Ok (number, controls)
entered_at at control controls None =
    if nat_lt (length controls) most_controls then Ok (length controls, controls ++ control ∷ []) else refused (TooLarge Controls) at

-- the same, looked up by its label
abbrev pub entered : ℕ → Control → List Control → Result (ℕ × List Control) Refusal
entered at control controls = entered_at at control controls (control_number controls control.label)

-- the bigraph, where it is within the limits
abbrev pub limited : ℕ → Big → Result Big Refusal
limited at big =
    if nat_lt most_expression_nodes (length big.nodes) then refused (TooLarge Nodes) at else (
    if nat_lt most_expression_edges (length big.edges) then refused (TooLarge Edges) at else (
    if nat_lt most_expression_places big.regions || nat_lt most_expression_places (length big.sites) then refused (TooLarge Places) at else
    Ok big))

-- the same, with what was reached
abbrev pub within : ℕ → Big → Reached → Come
within at big c = limited at big >>= λ b. Ok (b, c)

-- a node: of a control that is normal with a site in it, of one that is atomic with nothing
abbrev pub single : Kind → ℕ → ℕ → List Name → Big
single Normal control number names = ion control number names
single Atomic control number names = atom control number names

-- the bigraph of that width, where that is within the limits; it is refused before it is made
abbrev pub wide : ℕ → ℕ → Big → Result Big Refusal
wide at width big = if nat_lt most_expression_places width then refused (TooLarge Places) at else Ok big

-- ---- the operations, as the model language has them

-- an inner name is in both
abbrev pub inner_meets : Big → Big → Bool
inner_meets f g = list_any (λ (row : InnerRow). is_some (inner_of f.inner row.name)) g.inner

-- an outer name is in both
abbrev pub outer_meets : Big → Big → Bool
outer_meets f g = list_any (λ (name : Name). is_some (outer_of f.outer name)) g.outer

-- what a binary operation makes of two bigraphs, or its refusal at the operator
abbrev pub combined : BinaryOperation → ℕ → Big → Big → Result Big Refusal
combined Composition at g f = if faces_agree g f then Ok (compose g f) else refused FacesDiffer at
combined Tensor at f g = if inner_meets f g || outer_meets f g then refused NamesMeet at else Ok (tensor f g)
combined Parallel at f g = if inner_meets f g then refused InnerNamesMeet at else Ok (parallel f g)
combined Merge at f g = if inner_meets f g then refused InnerNamesMeet at else Ok (merge f g)

-- the second nested in the first, or the refusal at the dot; `is_atom` says that the first is written as an atom
abbrev pub nested : ℕ → Bool → Big → Big → Result Big Refusal
nested at is_atom f g =
    if is_atom then refused AtomicHasChild at else (
    if not (length f.inner == 0) then refused HasInnerNames at else (
    if not (g.regions == length f.sites) then refused WidthsDiffer at else
    Ok (nest f g)))

-- the name closed by that edge, where it is an outer name
abbrev pub name_closed : ℕ → Name → Big → Big
name_closed edge name big = if is_some (outer_of big.outer name) then close big name edge else big

-- what a term comes to, where so many `K` of the grammar are open around it, from what was reached before it
abbrev pub value : ℕ → Term → Reached → Come
value depth (terms.refusal r) c = Err r
value depth (terms.node at control words) c =
    tallied at c >>= λ t. entered at control t.signature >>= λ e.
    within at (single control.kind e.0 t.nodes (plain_names words)) (record t { signature = e.1; nodes = t.nodes + 1 })
value depth (terms.names at words) c = tallied at c >>= within at (idle (set_of name_cmp (plain_names words)))
value depth (terms.identity_of at width words) c =
    tallied at c >>= λ t. wide at width (identity width (set_of name_cmp (plain_names words))) >>= λ big. within at big t
value depth (terms.merger_of at width) c = tallied at c >>= λ t. wide at width (merger width) >>= λ big. within at big t
value depth (terms.barren at) c = tallied at c >>= within at barren
value depth (terms.empty at) c = tallied at c >>= within at empty
value depth (terms.counted at t) c = tallied at c >>= value depth t
value depth (terms.deeper at t) c = if nat_lt depth most_depth then value (depth + 1) t c else refused (TooLarge Depth) at
value depth (terms.closure at word t) c =
    value depth t (record c { edges = c.edges + 1 }) >>= λ v. within at (name_closed c.edges (Plain word) v.0) v.1
value depth (terms.nesting at is_atom t u) c =
    value depth t c >>= λ f. value depth u f.1 >>= λ g. nested at is_atom f.0 g.0 >>= λ big. within at big g.1
value depth (terms.binary kind at t u) c =
    value depth t c >>= λ f. value depth u f.1 >>= λ g. combined kind at f.0 g.0 >>= λ big. within at big g.1
