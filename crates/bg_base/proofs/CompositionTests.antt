-- The tests of faces and supports tell the facts.
use Rattle.std.proofs.Common.{◌≡◌, ℕ, Bool, true, false, not, subst, ◌&&◌, eqb, List, [], ◌∷◌, length, refl, ap, ap₂, eq-eqb}
use Rattle.std.specs.Option.{IsNone, is_some}
use Rattle.std.specs.List.{list_all, AllByRecursion}
use Rattle.std.specs.Ordering.{is_eq}
use Rattle.std.specs.Cmp.Lexicographic.{pointwise}
use Rattle.std.proofs.lemmas.Bool.{and_parts, eqb-true, false≢true, not-true}
use Rattle.std.proofs.lemmas.List.Elements.{All-from_recursion, recursion_from_All}
use Rattle.bg_base.specs.declared.names.Name.{Name}
use Rattle.bg_base.specs.declared.big.NodeRow.{NodeRow}
use Rattle.bg_base.specs.declared.big.Big.{Big}
use Rattle.bg_base.specs.Order.{name_cmp}
use Rattle.bg_base.specs.Bigraph.{row_of, edge_of}
use Rattle.bg_base.specs.Composition.{inner_names, FacesAgree, SupportsApart, faces_agree, supports_apart}
use Rattle.bg_base.proofs.NameLaws.{same_name_from_test, test_same_name}

both : (a b : Bool) → a ≡ true → b ≡ true → (a && b) ≡ true
both a b e f = rw (e, f) refl

pub same_names : (xs ys : List Name) → pointwise (λ (x y : Name). is_eq (name_cmp x y)) xs ys ≡ true → xs ≡ ys
same_names [] [] e = refl
same_names [] (y ∷ ys) e = absurd (false≢true e)
same_names (x ∷ xs) [] e = absurd (false≢true e)
same_names (x ∷ xs) (y ∷ ys) e =
    let parts = and_parts (is_eq (name_cmp x y)) (pointwise (λ (v w : Name). is_eq (name_cmp v w)) xs ys) e in
    ap₂ (λ v vs. v ∷ vs) (same_name_from_test x y parts.0) (same_names xs ys parts.1)

pub names_same : (xs ys : List Name) → xs ≡ ys → pointwise (λ (x y : Name). is_eq (name_cmp x y)) xs ys ≡ true
names_same xs ys e =
    subst (λ zs. pointwise (λ (x y : Name). is_eq (name_cmp x y)) xs zs ≡ true) e (names_itself xs)
  where
    names_itself : (xs : List Name) → pointwise (λ (x y : Name). is_eq (name_cmp x y)) xs xs ≡ true
    names_itself [] = refl
    names_itself (x ∷ xs) =
        both (is_eq (name_cmp x x)) (pointwise (λ (v w : Name). is_eq (name_cmp v w)) xs xs) (test_same_name x x refl) (names_itself xs)

fails_from_list : {X : Type 0} (test : X → Bool) (xs : List X) → list_all (λ (x : X). not (test x)) xs ≡ true → AllByRecursion (λ (x : X). test x ≡ false) xs
fails_from_list test [] e = tt
fails_from_list test (x ∷ xs) e =
    let parts = and_parts (not (test x)) (list_all (λ y. not (test y)) xs) e in (not-true (test x) parts.0, fails_from_list test xs parts.1)

list_from_fails : {X : Type 0} (test : X → Bool) (xs : List X) → AllByRecursion (λ (x : X). test x ≡ false) xs → list_all (λ (x : X). not (test x)) xs ≡ true
list_from_fails test [] all = refl
list_from_fails test (x ∷ xs) all = both (not (test x)) (list_all (λ y. not (test y)) xs) (ap not all.0) (list_from_fails test xs all.1)

module _ (g f : Big) where
  abbrev node_is_in : NodeRow → Bool
  node_is_in row = is_some (row_of g.nodes row.id)

  abbrev edge_is_in : ℕ → Bool
  edge_is_in edge = is_some (edge_of g.edges edge)

  pub FacesAgree-from_test : faces_agree g f ≡ true → FacesAgree g f
  FacesAgree-from_test e =
      let parts = and_parts (eqb f.regions (length g.sites)) (pointwise (λ (x y : Name). is_eq (name_cmp x y)) f.outer (inner_names g.inner)) e in
      record { widths = eqb-true f.regions (length g.sites) parts.0; names = same_names f.outer (inner_names g.inner) parts.1 }

  pub test-FacesAgree : FacesAgree g f → faces_agree g f ≡ true
  test-FacesAgree agree =
      both (eqb f.regions (length g.sites)) (pointwise (λ (x y : Name). is_eq (name_cmp x y)) f.outer (inner_names g.inner))
      (eq-eqb f.regions (length g.sites) agree.widths) (names_same f.outer (inner_names g.inner) agree.names)

  pub SupportsApart-from_test : supports_apart g f ≡ true → SupportsApart g f
  SupportsApart-from_test e =
      let parts = and_parts (list_all (λ row. not (node_is_in row)) f.nodes) (list_all (λ edge. not (edge_is_in edge)) f.edges) e in
      record {
        nodes_apart = All-from_recursion (λ (row : NodeRow). IsNone (row_of g.nodes row.id)) f.nodes (fails_from_list node_is_in f.nodes parts.0);
        edges_apart = All-from_recursion (λ (edge : ℕ). IsNone (edge_of g.edges edge)) f.edges (fails_from_list edge_is_in f.edges parts.1);
      }

  pub test-SupportsApart : SupportsApart g f → supports_apart g f ≡ true
  test-SupportsApart apart =
      both (list_all (λ row. not (node_is_in row)) f.nodes) (list_all (λ edge. not (edge_is_in edge)) f.edges)
      (list_from_fails node_is_in f.nodes (recursion_from_All (λ (row : NodeRow). IsNone (row_of g.nodes row.id)) f.nodes apart.nodes_apart))
      (list_from_fails edge_is_in f.edges (recursion_from_All (λ (edge : ℕ). IsNone (edge_of g.edges edge)) f.edges apart.edges_apart))
