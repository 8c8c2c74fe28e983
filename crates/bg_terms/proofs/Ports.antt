-- The control symbols of expressions that are trees have as many names as their controls have ports.
use Rattle.std.proofs.Common.{◌≡◌, ◌++◌, ℕ, List, Option, Some, None, Ok, refl, sym, ap, subst, ◌∙◌, slice_get}
use Rattle.std.specs.Prelude.{IfOk, option_map}
use Rattle.std.proofs.lemmas.Option.{slice_get-map}
use Rattle.bg_lists.proofs.Places.{At-slice_get, slice_get-At, At-append_left}
use Rattle.bg_trees.specs.declared.expressions.SynE.{SynE}
use Rattle.bg_values.specs.Names.{NamedValue, name_number, entry_at, look_up}
use Rattle.bg_values.specs.Scopes.{spelling}
use Rattle.bg_terms.specs.declared.shape.ControlEntry.{ControlEntry}
use Rattle.bg_terms.specs.declared.shape.Shape.{Shape}
use Rattle.bg_terms.specs.Expressions.{Expression, node, reference, names, identity_of, merger_of, barren, empty, brackets, deeper, closure, nesting, binary}
use Rattle.bg_terms.specs.Read.{shapes_of}
use Rattle.bg_terms.specs.Shapes.{HasPorts}
use Rattle.bg_terms.specs.Trees.{Visible, e_read}
use Rattle.bg_terms.proofs.Claims.{IsKept, tree_says}

-- ---- names of a table

-- what a name was found to stand for, stands at its number
pub entry_there : {T : Type 0} (entries : List (NamedValue T)) (found : Option ℕ) (number : ℕ) (x : T) → entry_at entries found ≡ Some (number, x)
    → option_map (λ (e : NamedValue T). e.1) (slice_get entries number) ≡ Some x
entry_there {T} entries None number x is = absurd cc
entry_there {T} entries (Some n) number x is = by (slice_get entries n) refl is
  where
    by : (o : Option (NamedValue T)) → slice_get entries n ≡ o → option_map {U = ℕ × T} (λ (e : NamedValue T). (n, e.1)) o ≡ Some (number, x)
        → option_map (λ (e : NamedValue T). e.1) (slice_get entries number) ≡ Some x
    by None stands made = absurd cc
    by (Some e) stands made =
        let pair : (n, e.1) ≡ (number, x) = cc in
        let number_is : n ≡ number = ap (λ (p : ℕ × T). p.0) pair in
        let x_is : e.1 ≡ x = ap (λ (p : ℕ × T). p.1) pair in
        ap (λ k. option_map (λ (e : NamedValue T). e.1) (slice_get entries k)) (sym number_is) ∙ ap (option_map (λ (e : NamedValue T). e.1)) stands ∙ ap Some x_is

shape_there : (controls : List (NamedValue ControlEntry)) (word : List ℕ) (number : ℕ) (entry : ControlEntry)
    → look_up word controls ≡ Some (number, entry) → slice_get (shapes_of controls) number ≡ Some entry.shape
shape_there controls word number entry is =
    slice_get-map (λ (control : NamedValue ControlEntry). control.1.shape) controls number
    ∙ by (slice_get controls number) (entry_there controls (name_number word controls) number entry is)
  where
    by : (o : Option (NamedValue ControlEntry)) → option_map (λ (e : NamedValue ControlEntry). e.1) o ≡ Some entry
        → option_map (λ (control : NamedValue ControlEntry). control.1.shape) o ≡ Some entry.shape
    by None made = absurd cc
    by (Some e) made = let same : e.1 ≡ entry = cc in ap (λ (x : ControlEntry). Some x.shape) same

-- ---- trees

ports_kept : (visible : Visible) → IsKept visible (HasPorts (shapes_of visible.controls))
ports_kept visible = record {
  of_node = λ at number entry args words is same. (entry.shape, shape_there visible.controls (spelling visible.scope at) number entry is, same);
  of_reference = λ at number formals args is. tt;
  of_names = λ at words. tt;
  of_identity = λ at width words. tt;
  of_merger = λ at width. tt;
  of_barren = λ at. tt;
  of_empty = λ at. tt;
  in_brackets = λ at e p. p;
  in_deeper = λ at e p. p;
  in_closure = λ at word e p. p;
  in_nesting = λ at is_atom e d p q. (p, q);
  in_binary = λ kind at e d p q. (p, q);
}

pub ports_read : (tree : SynE) (visible : Visible) (e : Expression) → (e_read tree).1 visible ≡ Ok e → HasPorts (shapes_of visible.controls) e
ports_read tree visible e is =
    subst (λ r. IfOk r (HasPorts (shapes_of visible.controls))) is (tree_says visible (HasPorts (shapes_of visible.controls)) (ports_kept visible) tree)

-- ---- the control that is found

same_arity : (x y : Shape) → ◌≡◌ {A = Option Shape} (Some x) (Some y) → x.arity ≡ y.arity
same_arity x y is = let same : x ≡ y = cc in ap (λ (s : Shape). s.arity) same

pub as_many_ports : (shapes : List Shape) (number count : ℕ) → (s : Shape) × (slice_get shapes number ≡ Some s) × (count ≡ s.arity)
    → (shape : Shape) → slice_get shapes number ≡ Some shape → count ≡ shape.arity
as_many_ports shapes number count has shape is = has.2 ∙ same_arity has.0 shape (sym has.1 ∙ is)

-- ---- more controls behind those that are visible

pub HasPorts-more : (shapes others : List Shape) (e : Expression) → HasPorts shapes e → HasPorts (shapes ++ others) e
HasPorts-more shapes others (node at number args ports) has =
    (has.0, slice_get-At (shapes ++ others) (At-append_left shapes others (At-slice_get number shapes has.1)), has.2)
HasPorts-more shapes others (reference at number args) has = tt
HasPorts-more shapes others (names at words) has = tt
HasPorts-more shapes others (identity_of at width words) has = tt
HasPorts-more shapes others (merger_of at width) has = tt
HasPorts-more shapes others (barren at) has = tt
HasPorts-more shapes others (empty at) has = tt
HasPorts-more shapes others (brackets at e) has = HasPorts-more shapes others e has
HasPorts-more shapes others (deeper at e) has = HasPorts-more shapes others e has
HasPorts-more shapes others (closure at word e) has = HasPorts-more shapes others e has
HasPorts-more shapes others (nesting at is_atom e d) has = (HasPorts-more shapes others e has.0, HasPorts-more shapes others d has.1)
HasPorts-more shapes others (binary kind at e d) has = (HasPorts-more shapes others e has.0, HasPorts-more shapes others d has.1)
