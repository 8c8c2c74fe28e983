-- Controls and definitions that follow those which are there leave an expression its term.
use Rattle.std.proofs.Common.{◌≡◌, ◌+◌, ◌<◌, ◌++◌, ◌∷◌, [], ℕ, arith, List, length, Option, Some, None, Ok, refl, sym, ap, subst, ◌∙◌, slice_get}
use Rattle.std.specs.Prelude.{IfOk, option_map}
use Rattle.std.proofs.lemmas.List.{append_assoc, append-nil, length-append}
use Rattle.std.proofs.lemmas.Option.{slice_get_within}
use Rattle.bg_lists.specs.Lists.{Mem, here, there}
use Rattle.bg_lists.proofs.Places.{At-slice_get, slice_get-At, At-append_left, slice_get-append_left}
use Rattle.bg_base.specs.declared.labels.Value.{Value}
use Rattle.bg_trees.specs.declared.expressions.SynE.{SynE}
use Rattle.bg_values.specs.Names.{NamedValue, name_number, look_up}
use Rattle.bg_values.specs.Operands.{values}
use Rattle.bg_values.specs.Scopes.{spelling}
use Rattle.bg_terms.specs.declared.shape.Shape.{Shape}
use Rattle.bg_terms.specs.Expansion.{Meaning, with_values, node_term, meant, expand, meanings_after, meanings_of}
use Rattle.bg_terms.specs.Expressions.{Expression, node, reference, names, identity_of, merger_of, barren, empty, brackets, deeper, closure, nesting, binary}
use Rattle.bg_terms.specs.Read.{RefersBelow}
use Rattle.bg_terms.specs.Shapes.{HasPorts}
use Rattle.bg_terms.specs.Terms as terms
use Rattle.bg_terms.specs.Trees.{Visible, e_read}
use Rattle.bg_terms.proofs.Claims.{IsKept, tree_says}
use Rattle.bg_terms.proofs.Ports.{entry_there}

-- ---- more controls

same_meaning : {f g : Meaning} → ((args : List Value) → f args ≡ g args) → f ≡ g
same_meaning same = λ i args. same args i

module _ (shapes others : List Shape) where
  expand_controls : (meanings : List Meaning) (env : List Value) (e : Expression) → HasPorts shapes e
      → expand (shapes ++ others) meanings env e ≡ expand shapes meanings env e
  expand_controls meanings env (node at number args ports) has =
      ap (λ o. with_values at (values env args) (node_term at o ports))
      (slice_get-At (shapes ++ others) (At-append_left shapes others (At-slice_get number shapes has.1)) ∙ sym has.1)
  expand_controls meanings env (reference at number args) has = refl
  expand_controls meanings env (names at words) has = refl
  expand_controls meanings env (identity_of at width words) has = refl
  expand_controls meanings env (merger_of at width) has = refl
  expand_controls meanings env (barren at) has = refl
  expand_controls meanings env (empty at) has = refl
  expand_controls meanings env (brackets at e) has = ap (terms.counted at) (expand_controls meanings env e has)
  expand_controls meanings env (deeper at e) has = ap (terms.deeper at) (expand_controls meanings env e has)
  expand_controls meanings env (closure at word e) has = ap (terms.closure at word) (expand_controls meanings env e has)
  expand_controls meanings env (nesting at is_atom e d) has =
      ap (λ t. terms.nesting at is_atom t (expand (shapes ++ others) meanings env d)) (expand_controls meanings env e has.0)
      ∙ ap (λ t. terms.nesting at is_atom (expand shapes meanings env e) t) (expand_controls meanings env d has.1)
  expand_controls meanings env (binary kind at e d) has =
      ap (λ t. terms.binary kind at t (expand (shapes ++ others) meanings env d)) (expand_controls meanings env e has.0)
      ∙ ap (λ t. terms.binary kind at (expand shapes meanings env e) t) (expand_controls meanings env d has.1)

  meanings_controls : (es : List Expression) (meanings : List Meaning) → ((e : Expression) → Mem e es → HasPorts shapes e)
      → meanings_after (shapes ++ others) meanings es ≡ meanings_after shapes meanings es
  meanings_controls [] meanings has = refl
  meanings_controls (e ∷ es) meanings has =
      meanings_controls es (meanings ++ (λ args. expand (shapes ++ others) meanings args e) ∷ []) (λ d m. has d (there m))
      ∙ ap (λ (f : Meaning). meanings_after shapes (meanings ++ f ∷ []) es)
      (same_meaning (λ args. expand_controls meanings args e (has e (here refl))))

pub more_controls : (shapes others : List Shape) (definitions : List Expression) → ((e : Expression) → Mem e definitions → HasPorts shapes e)
    → (env : List Value) (e : Expression) → HasPorts shapes e
    → expand (shapes ++ others) (meanings_of (shapes ++ others) definitions) env e ≡ expand shapes (meanings_of shapes definitions) env e
more_controls shapes others definitions all_have env e has =
    ap (λ ms. expand (shapes ++ others) ms env e) (meanings_controls shapes others definitions [] all_have)
    ∙ expand_controls shapes others (meanings_of shapes definitions) env e has

-- ---- more definitions

module _ (shapes : List Shape) where
  expand_meanings : (meanings others : List Meaning) (env : List Value) (e : Expression) → RefersBelow (length meanings) e
      → expand shapes (meanings ++ others) env e ≡ expand shapes meanings env e
  expand_meanings meanings others env (node at number args ports) below = refl
  expand_meanings meanings others env (reference at number args) below =
      ap (λ o. with_values at (values env args) (λ vs. terms.counted at (meant at o vs))) (slice_get-append_left meanings others number below)
  expand_meanings meanings others env (names at words) below = refl
  expand_meanings meanings others env (identity_of at width words) below = refl
  expand_meanings meanings others env (merger_of at width) below = refl
  expand_meanings meanings others env (barren at) below = refl
  expand_meanings meanings others env (empty at) below = refl
  expand_meanings meanings others env (brackets at e) below = ap (terms.counted at) (expand_meanings meanings others env e below)
  expand_meanings meanings others env (deeper at e) below = ap (terms.deeper at) (expand_meanings meanings others env e below)
  expand_meanings meanings others env (closure at word e) below = ap (terms.closure at word) (expand_meanings meanings others env e below)
  expand_meanings meanings others env (nesting at is_atom e d) below =
      ap (λ t. terms.nesting at is_atom t (expand shapes (meanings ++ others) env d)) (expand_meanings meanings others env e below.0)
      ∙ ap (λ t. terms.nesting at is_atom (expand shapes meanings env e) t) (expand_meanings meanings others env d below.1)
  expand_meanings meanings others env (binary kind at e d) below =
      ap (λ t. terms.binary kind at t (expand shapes (meanings ++ others) env d)) (expand_meanings meanings others env e below.0)
      ∙ ap (λ t. terms.binary kind at (expand shapes meanings env e) t) (expand_meanings meanings others env d below.1)

  -- the meanings that are there stay in front
  meanings_stay : (es : List Expression) (meanings : List Meaning) → (more : List Meaning) × (meanings_after shapes meanings es ≡ meanings ++ more)
  meanings_stay [] meanings = ([], sym (append-nil meanings))
  meanings_stay (e ∷ es) meanings =
      let m : Meaning = λ args. expand shapes meanings args e in
      let rest = meanings_stay es (meanings ++ m ∷ []) in
      (m ∷ rest.0, rest.1 ∙ append_assoc meanings (m ∷ []) rest.0)

  meanings_both : (es ds : List Expression) (meanings : List Meaning)
      → meanings_after shapes meanings (es ++ ds) ≡ meanings_after shapes (meanings_after shapes meanings es) ds
  meanings_both [] ds meanings = refl
  meanings_both (e ∷ es) ds meanings = meanings_both es ds (meanings ++ (λ args. expand shapes meanings args e) ∷ [])

  meanings_count : (es : List Expression) (meanings : List Meaning) → length (meanings_after shapes meanings es) ≡ length meanings + length es
  meanings_count [] meanings = omega arith
  meanings_count (e ∷ es) meanings =
      let m : Meaning = λ args. expand shapes meanings args e in
      omega (arith, meanings_count es (meanings ++ m ∷ []), length-append meanings (m ∷ []))

  pub more_definitions : (definitions others : List Expression) (env : List Value) (e : Expression) → RefersBelow (length definitions) e
      → expand shapes (meanings_of shapes (definitions ++ others)) env e ≡ expand shapes (meanings_of shapes definitions) env e
  more_definitions definitions others env e below =
      let ms = meanings_of shapes definitions in
      let more = meanings_stay others ms in
      let count : length definitions ≡ length ms = omega (arith, meanings_count definitions []) in
      ap (λ fs. expand shapes fs env e) (meanings_both definitions others [] ∙ more.1)
      ∙ expand_meanings ms more.0 env e (subst (λ n. RefersBelow n e) count below)

-- ---- trees

number_within : {T : Type 0} (entries : List (NamedValue T)) (word : List ℕ) (number : ℕ) (x : T) → look_up word entries ≡ Some (number, x) → number < length entries
number_within {T} entries word number x is = by (slice_get entries number) refl (entry_there entries (name_number word entries) number x is)
  where
    by : (o : Option (NamedValue T)) → slice_get entries number ≡ o → option_map (λ (e : NamedValue T). e.1) o ≡ Some x → number < length entries
    by None stands made = absurd cc
    by (Some e) stands made = slice_get_within entries number e stands

references_kept : (visible : Visible) → IsKept visible (RefersBelow (length visible.bigraphs))
references_kept visible = record {
  of_node = λ at number entry args words is same. tt;
  of_reference = λ at number formals args is. number_within visible.bigraphs (spelling visible.scope at) number formals is;
  of_names = λ at words. tt;
  of_identity = λ at width words. tt;
  of_merger = λ at width. tt;
  of_barren = λ at. tt;
  of_empty = λ at. tt;
  in_brackets = λ at e p. p;
  in_deeper = λ at e p. p;
  in_closure = λ at word e p. p;
  in_nesting = λ at is_atom e d p q. (p, q);
  in_binary = λ kind at e d p q. (p, q);
}

pub references_read : (tree : SynE) (visible : Visible) (e : Expression) → (e_read tree).1 visible ≡ Ok e → RefersBelow (length visible.bigraphs) e
references_read tree visible e is = subst (λ r. IfOk r (RefersBelow (length visible.bigraphs))) is
    (tree_says visible (RefersBelow (length visible.bigraphs)) (references_kept visible) tree)
