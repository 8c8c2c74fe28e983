-- What an expression expands to is never refused by number 31 when it is evaluated.
use Rattle.std.proofs.Common.{ℕ, zero, suc, ◌+◌, Bool, not, ◌||◌, eqb, ltb, List, [], ◌∷◌, ◌++◌, length, Option, Some, None, Result, Ok, Err, slice_get, refl, arith}
use Rattle.bg_lists.specs.Orders.{set_of}
use Rattle.bg_base.specs.Limits.{most_controls, most_terms, most_depth, most_expression_nodes, most_expression_edges, most_expression_places}
use Rattle.bg_base.specs.declared.big.Big.{Big}
use Rattle.bg_base.specs.declared.labels.Value.{Value}
use Rattle.bg_base.specs.declared.names.Name.TheVariants.{Plain}
use Rattle.bg_base.specs.declared.signature.Control.{Control}
use Rattle.bg_base.specs.Composition.{faces_agree}
use Rattle.bg_base.specs.Elementary.{identity, merger, idle}
use Rattle.bg_base.specs.Elementary as elementary
use Rattle.bg_base.specs.Order.{name_cmp}
use Rattle.bg_base.specs.Signatures.{control_number}
use Rattle.bg_terms.specs.declared.shape.BinaryOperation.{BinaryOperation}
use Rattle.bg_terms.specs.declared.shape.BinaryOperation.TheVariants.{Composition, Tensor, Parallel, Merge}
use Rattle.bg_terms.specs.declared.shape.Shape.{Shape}
use Rattle.bg_terms.specs.Expansion.{Meaning, with_values, node_term, meant, expand, meanings_after, meanings_of}
use Rattle.bg_terms.specs.Expressions.{Expression, node, reference, names, identity_of, merger_of, barren, empty, brackets, deeper, closure, nesting, binary}
use Rattle.bg_terms.specs.Terms as terms
use Rattle.bg_terms.specs.Terms.{Term}
use Rattle.bg_terms.specs.Values.{Reached, plain_names, tallied, entered_at, entered, limited, within, single, wide, inner_meets, outer_meets, combined, nested, name_closed, value}
use Rattle.bg_values.specs.declared.refusal.Refusal.{Refusal}
use Rattle.bg_elab.proofs.Expected.{IsOther, IsExpected, good, bad, goes_on, whether, values_expected}

-- ---- what is reached

tallied_expected : (at : ℕ) (c : Reached) → IsExpected (tallied at c)
tallied_expected at c = whether (ltb c.terms most_terms) good (bad (λ e. omega arith))

entered_at_expected : (at : ℕ) (control : Control) (controls : List Control) (found : Option ℕ) → IsExpected (entered_at at control controls found)
entered_at_expected at control controls (Some number) = good
entered_at_expected at control controls None = whether (ltb (length controls) most_controls) good (bad (λ e. omega arith))

pub entered_expected : (at : ℕ) (control : Control) (controls : List Control) → IsExpected (entered at control controls)
entered_expected at control controls = entered_at_expected at control controls (control_number controls control.label)

limited_expected : (at : ℕ) (big : Big) → IsExpected (limited at big)
limited_expected at big =
    whether (ltb most_expression_nodes (length big.nodes)) (bad (λ e. omega arith)) (whether (ltb most_expression_edges (length big.edges)) (bad (λ e. omega arith))
    (whether (ltb most_expression_places big.regions || ltb most_expression_places (length big.sites)) (bad (λ e. omega arith)) good))

within_expected : (at : ℕ) (big : Big) (c : Reached) → IsExpected (within at big c)
within_expected at big c = goes_on (limited_expected at big) (λ b. good)

wide_expected : (at width : ℕ) (big : Big) → IsExpected (wide at width big)
wide_expected at width big = whether (ltb most_expression_places width) (bad (λ e. omega arith)) good

combined_expected : (kind : BinaryOperation) (at : ℕ) (f g : Big) → IsExpected (combined kind at f g)
combined_expected Composition at f g = whether (faces_agree f g) good (bad (λ e. omega arith))
combined_expected Tensor at f g = whether (inner_meets f g || outer_meets f g) (bad (λ e. omega arith)) good
combined_expected Parallel at f g = whether (inner_meets f g) (bad (λ e. omega arith)) good
combined_expected Merge at f g = whether (inner_meets f g) (bad (λ e. omega arith)) good

nested_expected : (at : ℕ) (is_atom : Bool) (f g : Big) → IsExpected (nested at is_atom f g)
nested_expected at is_atom f g =
    whether is_atom (bad (λ e. omega arith)) (whether (not (eqb (length f.inner) 0)) (bad (λ e. omega arith))
    (whether (not (eqb g.regions (length f.sites))) (bad (λ e. omega arith)) good))

-- ---- terms

-- no refusal in the term is by 31
abbrev pub IsExpectedTerm : Term → Type 0
IsExpectedTerm (terms.refusal r) = IsOther r.cause
IsExpectedTerm (terms.node at control words) = Unit {0}
IsExpectedTerm (terms.names at words) = Unit {0}
IsExpectedTerm (terms.identity_of at width words) = Unit {0}
IsExpectedTerm (terms.merger_of at width) = Unit {0}
IsExpectedTerm (terms.barren at) = Unit {0}
IsExpectedTerm (terms.empty at) = Unit {0}
IsExpectedTerm (terms.counted at t) = IsExpectedTerm t
IsExpectedTerm (terms.deeper at t) = IsExpectedTerm t
IsExpectedTerm (terms.closure at word t) = IsExpectedTerm t
IsExpectedTerm (terms.nesting at is_atom t u) = IsExpectedTerm t × IsExpectedTerm u
IsExpectedTerm (terms.binary kind at t u) = IsExpectedTerm t × IsExpectedTerm u

pub term_expected : (t : Term) → IsExpectedTerm t → (depth : ℕ) (c : Reached) → IsExpected (value depth t c)
term_expected (terms.refusal r) h depth c = bad h
term_expected (terms.node at control words) h depth c =
    goes_on (tallied_expected at c) (λ t. goes_on (entered_expected at control t.signature) (λ e.
    within_expected at (single control.kind e.0 t.nodes (plain_names words)) (record t { signature = e.1; nodes = t.nodes + 1 })))
term_expected (terms.names at words) h depth c =
    goes_on (tallied_expected at c) (λ t. within_expected at (idle (set_of name_cmp (plain_names words))) t)
term_expected (terms.identity_of at width words) h depth c =
    goes_on (tallied_expected at c) (λ t. goes_on (wide_expected at width (identity width (set_of name_cmp (plain_names words)))) (λ big. within_expected at big t))
term_expected (terms.merger_of at width) h depth c =
    goes_on (tallied_expected at c) (λ t. goes_on (wide_expected at width (merger width)) (λ big. within_expected at big t))
term_expected (terms.barren at) h depth c = goes_on (tallied_expected at c) (λ t. within_expected at elementary.barren t)
term_expected (terms.empty at) h depth c = goes_on (tallied_expected at c) (λ t. within_expected at elementary.empty t)
term_expected (terms.counted at t) h depth c = goes_on (tallied_expected at c) (λ r. term_expected t h depth r)
term_expected (terms.deeper at t) h depth c = whether (ltb depth most_depth) (term_expected t h (depth + 1) c) (bad (λ e. omega arith))
term_expected (terms.closure at word t) h depth c =
    goes_on (term_expected t h depth (record c { edges = c.edges + 1 })) (λ v. within_expected at (name_closed c.edges (Plain word) v.0) v.1)
term_expected (terms.nesting at is_atom t u) h depth c =
    goes_on (term_expected t h.0 depth c) (λ f. goes_on (term_expected u h.1 depth f.1) (λ g. goes_on (nested_expected at is_atom f.0 g.0) (λ big. within_expected at big g.1)))
term_expected (terms.binary kind at t u) h depth c =
    goes_on (term_expected t h.0 depth c) (λ f. goes_on (term_expected u h.1 depth f.1) (λ g. goes_on (combined_expected kind at f.0 g.0) (λ big. within_expected at big g.1)))

-- ---- expressions

-- whatever the arguments, the term of the definition is such a term
abbrev IsExpectedMeaning : Meaning → Type 0
IsExpectedMeaning meaning = (args : List Value) → IsExpectedTerm (meaning args)

abbrev AreExpectedMeanings : List Meaning → Type 0
AreExpectedMeanings [] = Unit {0}
AreExpectedMeanings (meaning ∷ meanings) = IsExpectedMeaning meaning × AreExpectedMeanings meanings

with_expected : (at : ℕ) (r : Result (List Value) Refusal) (f : List Value → Term) → IsExpected r → ((vs : List Value) → IsExpectedTerm (f vs)) → IsExpectedTerm (with_values at r f)
with_expected at (Ok vs) f h more = more vs
with_expected at (Err refusal) f h more = h.expected refusal refl

node_expected : (at : ℕ) (found : Option Shape) (ports : List (List ℕ)) (args : List Value) → IsExpectedTerm (node_term at found ports args)
node_expected at (Some shape) ports args = tt
node_expected at None ports args = λ e. omega arith

meant_expected : (at : ℕ) (meanings : List Meaning) → AreExpectedMeanings meanings → (number : ℕ) (args : List Value) → IsExpectedTerm (meant at (slice_get meanings number) args)
meant_expected at [] all number args = λ e. omega arith
meant_expected at (meaning ∷ meanings) all zero args = all.0 args
meant_expected at (meaning ∷ meanings) all (suc number) args = meant_expected at meanings all.1 number args

expand_expected : (shapes : List Shape) (meanings : List Meaning) → AreExpectedMeanings meanings → (env : List Value) (e : Expression) → IsExpectedTerm (expand shapes meanings env e)
expand_expected shapes meanings all env (node at number args ports) =
    with_expected at _ (node_term at (slice_get shapes number) ports) (values_expected env args) (λ vs. node_expected at (slice_get shapes number) ports vs)
expand_expected shapes meanings all env (reference at number args) =
    with_expected at _ (λ vs. terms.counted at (meant at (slice_get meanings number) vs)) (values_expected env args) (λ vs. meant_expected at meanings all number vs)
expand_expected shapes meanings all env (names at words) = tt
expand_expected shapes meanings all env (identity_of at width words) = tt
expand_expected shapes meanings all env (merger_of at width) = tt
expand_expected shapes meanings all env (barren at) = tt
expand_expected shapes meanings all env (empty at) = tt
expand_expected shapes meanings all env (brackets at e) = expand_expected shapes meanings all env e
expand_expected shapes meanings all env (deeper at e) = expand_expected shapes meanings all env e
expand_expected shapes meanings all env (closure at word e) = expand_expected shapes meanings all env e
expand_expected shapes meanings all env (nesting at is_atom e d) = (expand_expected shapes meanings all env e, expand_expected shapes meanings all env d)
expand_expected shapes meanings all env (binary kind at e d) = (expand_expected shapes meanings all env e, expand_expected shapes meanings all env d)

one_more_meaning : (meanings : List Meaning) (meaning : Meaning) → AreExpectedMeanings meanings → IsExpectedMeaning meaning → AreExpectedMeanings (meanings ++ meaning ∷ [])
one_more_meaning [] meaning all h = (h, tt)
one_more_meaning (m ∷ meanings) meaning all h = (all.0, one_more_meaning meanings meaning all.1 h)

after_expected : (shapes : List Shape) (es : List Expression) (meanings : List Meaning) → AreExpectedMeanings meanings → AreExpectedMeanings (meanings_after shapes meanings es)
after_expected shapes [] meanings all = all
after_expected shapes (e ∷ es) meanings all =
    after_expected shapes es (meanings ++ (λ args. expand shapes meanings args e) ∷ [])
    (one_more_meaning meanings (λ args. expand shapes meanings args e) all (λ args. expand_expected shapes meanings all args e))

-- the term of an expression, where these definitions are visible
pub expansion_expected : (shapes : List Shape) (es : List Expression) (env : List Value) (e : Expression) → IsExpectedTerm (expand shapes (meanings_of shapes es) env e)
expansion_expected shapes es env e = expand_expected shapes (meanings_of shapes es) (after_expected shapes es [] tt) env e
