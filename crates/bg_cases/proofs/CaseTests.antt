-- Tests that compute, for small cases: they tell that a bigraph is valid, that it is a pattern, that a host is made of
-- a context, a pattern and a parameter, and that it reacts.
use Rattle.std.proofs.Common.{◌≡◌, ℕ, zero, suc, ◌+◌, ◌≤◌, ◌<◌, Bool, true, false, not, ◌&&◌, eqb, ltb, None, List, [], ◌∷◌, map, length, All, refl, sym, ap, arith, nat_cmp, eqb-true, eq-eqb, ltb-true, inl, inr, ◌∙◌}
use Rattle.std.specs.Option.{is_some}
use Rattle.std.specs.Ordering.{eq_by_cmp}
use Rattle.std.specs.List.{list_all, AllByRecursion, IsDistinct}
use Rattle.std.proofs.lemmas.Bool.{and_parts, false≢true, cases_Bool, not-true}
use Rattle.std.proofs.lemmas.List.Elements.{All-from_recursion}
use Rattle.bg_lists.specs.Lists.{Mem, here, there}
use Rattle.bg_lists.proofs.Words.{All-from_members, list_all-member}
use Rattle.bg_base.specs.declared.names.Name.{Name}
use Rattle.bg_base.specs.declared.names.Place.{Place}
use Rattle.bg_base.specs.declared.names.Place.TheVariants.{Region}
use Rattle.bg_base.specs.declared.names.Link.TheVariants.{Edge, Outer}
use Rattle.bg_base.specs.declared.big.NodeRow.{NodeRow}
use Rattle.bg_base.specs.declared.big.InnerRow.{InnerRow}
use Rattle.bg_base.specs.declared.big.Big.{Big}
use Rattle.bg_base.specs.declared.signature.Control.{Control}
use Rattle.bg_base.specs.Bigraph.{IsValid, IsGround, inner_of, outer_of}
use Rattle.bg_base.specs.Faults.{fault_of}
use Rattle.bg_base.specs.Composition.{compose, faces_agree, supports_apart}
use Rattle.bg_base.specs.Elementary.{counted, identity}
use Rattle.bg_base.specs.Translation.{rename}
use Rattle.bg_base.specs.Products.{has_point}
use Rattle.bg_base.proofs.FaultLaws.{no_fault}
use Rattle.bg_base.proofs.CompositionTests.{FacesAgree-from_test, SupportsApart-from_test}
use Rattle.bg_place.specs.Places.{same_place}
use Rattle.bg_algebra.specs.Laws.{Apart}
use Rattle.bg_algebra.specs.Frame.{is_plain}
use Rattle.bg_rules.specs.Solid.{has_child, is_node, IsPattern}
use Rattle.bg_rules.specs.LocalConditions.{IsImage, MeetsLocally}
use Rattle.bg_rules.proofs.Patterns.{image_row_mem}
use Rattle.bg_rules.proofs.Occurrences.{occurs_locally}
use Rattle.bg_rules.specs.Decomposition.{port_names, names_of, IsParameter, frame, AreNew, FitTogether, Decomposes, Occurs}
use Rattle.bg_rules.specs.Instantiation.{instantiate}
use Rattle.bg_rules.specs.Reaction.{HostState, next_instance, host_after, Reacts}
use Rattle.bg_rules.specs.Rules.{RuleParts}

-- ---- lists

pub pass_each : {X : Type 0} (test : X → Bool) (xs : List X) → list_all test xs ≡ true → All (λ x. test x ≡ true) xs
pass_each test xs all = All-from_members (λ x. test x ≡ true) xs (λ x m. list_all-member test xs all m)

fail_each_by_recursion : {X : Type 0} (test : X → Bool) (xs : List X) → list_all (λ x. not (test x)) xs ≡ true → AllByRecursion (λ x. test x ≡ false) xs
fail_each_by_recursion test [] all = tt
fail_each_by_recursion test (x ∷ xs) all =
    let parts = and_parts (not (test x)) (list_all (λ y. not (test y)) xs) all in
    (not-true (test x) parts.0, fail_each_by_recursion test xs parts.1)

fail_each : {X : Type 0} (test : X → Bool) (xs : List X) → list_all (λ x. not (test x)) xs ≡ true → All (λ x. test x ≡ false) xs
fail_each test xs all = All-from_recursion (λ x. test x ≡ false) xs (fail_each_by_recursion test xs all)

-- no member is like one after it
abbrev pub differ : {X : Type 0} → (X → X → Bool) → List X → Bool
differ same [] = true
differ same (x ∷ xs) = list_all (λ y. not (same x y)) xs && differ same xs

pub IsDistinct-from_differ : {X : Type 0} (same : X → X → Bool) (xs : List X) → differ same xs ≡ true → IsDistinct same xs
unfolding IsDistinct
IsDistinct-from_differ same [] all = tt
IsDistinct-from_differ same (x ∷ xs) all =
    let parts = and_parts (list_all (λ y. not (same x y)) xs) (differ same xs) all in
    (fail_each_by_recursion (same x) xs parts.0, IsDistinct-from_differ same xs parts.1)

abbrev pub is_nil : {X : Type 0} → List X → Bool
is_nil [] = true
is_nil (x ∷ xs) = false

pub nil-from_test : {X : Type 0} (xs : List X) → is_nil xs ≡ true → xs ≡ []
nil-from_test [] e = refl
nil-from_test (x ∷ xs) e = absurd (false≢true e)

-- ---- a valid bigraph, and a pattern

pub valid_by : (signature : List Control) (big : Big) → fault_of signature big ≡ None → IsValid big
valid_by signature big none = ((no_fault signature big).0 none).valid

pub ground_by : (signature : List Control) (big : Big) → fault_of signature big ≡ None → (is_nil big.sites && is_nil big.inner) ≡ true → IsGround big
ground_by signature big none e =
    let parts = and_parts (is_nil big.sites) (is_nil big.inner) e in
    record { valid = valid_by signature big none; no_sites = nil-from_test big.sites parts.0; no_inner = nil-from_test big.inner parts.1 }

abbrev pub regions_are_filled : Big → Bool
regions_are_filled big = list_all (λ (region : ℕ). has_child big (Region region)) (counted 0 big.regions)

abbrev pub sites_are_good : Big → Bool
sites_are_good big = differ same_place big.sites && list_all (λ (place : Place). is_node place) big.sites

abbrev pub names_are_good : Big → Bool
names_are_good big = list_all (λ (name : Name). has_point big (Outer name)) big.outer && list_all (λ (name : Name). is_plain name) big.outer

abbrev pub edges_are_good : Big → Bool
edges_are_good big = list_all (λ (edge : ℕ). has_point big (Edge edge)) big.edges

abbrev pub has_nodes : Big → Bool
has_nodes big = ltb 0 (length big.nodes) && is_nil big.inner

-- what a pattern is, but for its validity
abbrev pub is_like_a_pattern : Big → Bool
is_like_a_pattern big =
    regions_are_filled big && (sites_are_good big && (names_are_good big && (edges_are_good big && has_nodes big)))

member_below : (first count n : ℕ) → first ≤ n → n < first + count → Mem n (counted first count)
unfolding counted
member_below first zero n low high = absurd (omega (arith, low, high))
member_below first (suc count) n low high =
    elim (cases_Bool (eqb first n)) [
      | inl e ↦ here (eqb-true first n e)
      | inr e ↦ there (member_below (suc first) count n (above_it first n low e) (omega (arith, high)))
    ]
  where
    above_it : (first n : ℕ) → first ≤ n → eqb first n ≡ false → suc first ≤ n
    above_it first n low e = grind arith

pub regions_filled_by : (big : Big) → regions_are_filled big ≡ true → (region : ℕ) → region < big.regions → has_child big (Region region) ≡ true
regions_filled_by big all region below =
    list_all-member (λ (region : ℕ). has_child big (Region region)) (counted 0 big.regions) all
    (member_below 0 big.regions region (omega arith) (omega (arith, below)))

pub pattern_by : (signature : List Control) (big : Big) → fault_of signature big ≡ None → is_like_a_pattern big ≡ true → IsPattern big
pattern_by signature big none e =
    let one = and_parts (regions_are_filled big) (sites_are_good big && (names_are_good big && (edges_are_good big && has_nodes big))) e in
    let two = and_parts (sites_are_good big) (names_are_good big && (edges_are_good big && has_nodes big)) one.1 in
    let three = and_parts (names_are_good big) (edges_are_good big && has_nodes big) two.1 in
    let four = and_parts (edges_are_good big) (has_nodes big) three.1 in
    let sites = and_parts (differ same_place big.sites) (list_all (λ (place : Place). is_node place) big.sites) two.0 in
    let names = and_parts (list_all (λ (name : Name). has_point big (Outer name)) big.outer) (list_all (λ (name : Name). is_plain name) big.outer) three.0 in
    let nodes = and_parts (ltb 0 (length big.nodes)) (is_nil big.inner) four.1 in
    record {
      valid = valid_by signature big none;
      solid = record {
        regions_filled = regions_filled_by big one.0;
        names_used = pass_each (λ (name : Name). has_point big (Outer name)) big.outer names.0;
        sites_apart = IsDistinct-from_differ same_place big.sites sites.0;
        sites_inside = pass_each (λ (place : Place). is_node place) big.sites sites.1;
        some_node = ltb-true 0 (length big.nodes) nodes.0;
        no_inner = nil-from_test big.inner nodes.1;
        names_plain = pass_each (λ (name : Name). is_plain name) big.outer names.1;
      };
      edges_used = pass_each (λ (edge : ℕ). has_point big (Edge edge)) big.edges four.0;
    }

-- ---- a decomposition

abbrev pub are_new : List ℕ → ℕ → Bool
are_new numbers count = eqb count (length numbers) && differ (eq_by_cmp nat_cmp) numbers

pub new-from_test : (numbers : List ℕ) (count : ℕ) → are_new numbers count ≡ true → AreNew numbers count
new-from_test numbers count e =
    let parts = and_parts (eqb count (length numbers)) (differ (eq_by_cmp nat_cmp) numbers) e in
    record { as_many = eqb-true count (length numbers) parts.0; differ = IsDistinct-from_differ (eq_by_cmp nat_cmp) numbers parts.1 }

abbrev pub are_apart : Big → Big → Bool
are_apart f g =
    supports_apart f g && (list_all (λ (row : InnerRow). not (is_some (inner_of f.inner row.name))) g.inner
    && list_all (λ (name : Name). not (is_some (outer_of f.outer name))) g.outer)

pub apart-from_test : (f g : Big) → are_apart f g ≡ true → Apart f g
apart-from_test f g e =
    let inner = list_all (λ (row : InnerRow). not (is_some (inner_of f.inner row.name))) g.inner in
    let outer = list_all (λ (name : Name). not (is_some (outer_of f.outer name))) g.outer in
    let one = and_parts (supports_apart f g) (inner && outer) e in
    let two = and_parts inner outer one.1 in
    record {
      supports = SupportsApart-from_test f g one.0;
      inner = record { inner_apart = fail_each (λ (row : InnerRow). is_some (inner_of f.inner row.name)) g.inner two.0 };
      outer = record { outer_apart = fail_each (λ (name : Name). is_some (outer_of f.outer name)) g.outer two.1 };
    }

-- one can be put into the other
abbrev pub fit : Big → Big → Bool
fit g f = faces_agree g f && supports_apart g f

-- the parts can be put together, but for the validity of context and parameter
abbrev pub parts_fit : Big → List ℕ → Big → List ℕ → Big → Bool
parts_fit pattern nodes context edges parameter =
    are_new nodes (length pattern.nodes) && (are_new edges (length pattern.edges)
    && (are_apart (rename pattern nodes edges) (identity 0 parameter.outer) && (fit (frame pattern nodes edges parameter.outer) parameter
    && fit context (compose (frame pattern nodes edges parameter.outer) parameter))))

abbrev pub is_without_inside : Big → Bool
is_without_inside big = is_nil big.sites && is_nil big.inner

-- the ports of the parameter's nodes are tied to their own names
abbrev pub Discrete : Big → Type 0
Discrete parameter =
    AllByRecursion (λ (row : NodeRow). row.links ≡ map Outer (port_names row.id (length row.links))) parameter.nodes

pub fits_by : (pattern : Big) (nodes : List ℕ) (context : Big) (edges : List ℕ) (parameter : Big) → parts_fit pattern nodes context edges parameter ≡ true
    → AreNew nodes (length pattern.nodes) × AreNew edges (length pattern.edges) × FitTogether pattern nodes context edges parameter.outer parameter
fits_by pattern nodes context edges parameter e =
    let inside = compose (frame pattern nodes edges parameter.outer) parameter in
    let framed = frame pattern nodes edges parameter.outer in
    let apart = are_apart (rename pattern nodes edges) (identity 0 parameter.outer) in
    let edges_new = are_new edges (length pattern.edges) in
    let one = and_parts (are_new nodes (length pattern.nodes)) (edges_new && (apart && (fit framed parameter && fit context inside))) e in
    let two = and_parts edges_new (apart && (fit framed parameter && fit context inside)) one.1 in
    let three = and_parts apart (fit framed parameter && fit context inside) two.1 in
    let four = and_parts (fit framed parameter) (fit context inside) three.1 in
    let filled = and_parts (faces_agree framed parameter) (supports_apart framed parameter) four.0 in
    let placed = and_parts (faces_agree context inside) (supports_apart context inside) four.1 in (
      new-from_test nodes (length pattern.nodes) one.0,
      new-from_test edges (length pattern.edges) two.0,
      record {
        apart = apart-from_test (rename pattern nodes edges) (identity 0 parameter.outer) three.0;
        filled = FacesAgree-from_test framed parameter filled.0;
        filled_apart = SupportsApart-from_test framed parameter filled.1;
        placed = FacesAgree-from_test context inside placed.0;
        placed_apart = SupportsApart-from_test context inside placed.1;
      },
    )

-- a host that decomposes reacts where the reactum and the instance pass the tests
pub reacts_by : (host : HostState) (rule : RuleParts) (nodes : List ℕ) (after : HostState) (context : Big) (edges : List ℕ) (parameter : Big)
    → Decomposes host.big rule.redex nodes context edges parameter
    → parts_fit rule.reactum (counted host.next_node (length rule.reactum.nodes)) context (counted host.next_edge (length rule.reactum.edges))
    (next_instance host rule parameter)
    ≡ true
    → after ≡ host_after host rule context parameter → Reacts host rule nodes after
unfolding instantiate
reacts_by host rule nodes after context edges parameter d e same =
    let fits = fits_by rule.reactum (counted host.next_node (length rule.reactum.nodes)) context
    (counted host.next_edge (length rule.reactum.edges)) (next_instance host rule parameter) e in
    record {
      context = context;
      edges = edges;
      parameter = parameter;
      decomposes = d;
      defined = fits.2;
      becomes = same;
    }

module _ (signature : List Control) where
  pub parameter_by : (parameter : Big) → fault_of signature parameter ≡ None → (is_without_inside parameter && is_nil parameter.edges) ≡ true → Discrete parameter
      → parameter.outer ≡ names_of parameter.nodes → IsParameter parameter
  parameter_by parameter none e discrete names =
      let parts = and_parts (is_without_inside parameter) (is_nil parameter.edges) e in
      record {
        ground = ground_by signature parameter none parts.0;
        no_edges = nil-from_test parameter.edges parts.1;
        discrete = All-from_recursion (λ (row : NodeRow). row.links ≡ map Outer (port_names row.id (length row.links))) parameter.nodes discrete;
        names = names;
      }

  pub decomposes_by : (host pattern : Big) (nodes : List ℕ) (context : Big) (edges : List ℕ) (parameter : Big) → IsValid pattern
      → IsValid context → IsParameter parameter
      → parts_fit pattern nodes context edges parameter ≡ true
      → compose context (compose (frame pattern nodes edges parameter.outer) parameter) ≡ host → Decomposes host pattern nodes context edges parameter
  decomposes_by host pattern nodes context edges parameter pattern_valid valid is e whole =
      let fits = fits_by pattern nodes context edges parameter e in
      record {
        pattern_valid = pattern_valid;
        context_valid = valid;
        is_parameter = is;
        nodes_new = fits.0;
        edges_new = fits.1;
        fit = fits.2;
        whole = whole;
      }

  -- a pattern occurs where context, edges and parameter pass the tests and make the host
  pub occurs_by : (host pattern : Big) (nodes : List ℕ) (context : Big) (edges : List ℕ) (parameter : Big)
      → fault_of signature pattern ≡ None → fault_of signature context ≡ None → fault_of signature parameter ≡ None
      → (is_without_inside parameter && is_nil parameter.edges) ≡ true → Discrete parameter → parameter.outer ≡ names_of parameter.nodes
      → parts_fit pattern nodes context edges parameter ≡ true
      → compose context (compose (frame pattern nodes edges parameter.outer) parameter) ≡ host → Occurs host pattern nodes
  occurs_by host pattern nodes context edges parameter pattern_fine context_fine parameter_fine bare discrete names fits whole =
      record {
        context = context;
        edges = edges;
        parameter = parameter;
        decomposes = decomposes_by host pattern nodes context edges parameter (valid_by signature pattern pattern_fine)
            (valid_by signature context context_fine)
            (parameter_by parameter parameter_fine bare discrete names) fits whole;
      }

-- ---- where a pattern does not occur

-- of values with a test passed by one and failed by the other, they are not equal
pub unlike : {X : Type 0} (test : X → Bool) (a b : X) → test a ≡ true → test b ≡ false → a ≡ b → ⊥
unlike test a b pass fail e = absurd (false≢true (sym fail ∙ sym (ap test e) ∙ pass))

pub not_among : (n : ℕ) (ns : List ℕ) → list_all (λ m. not (eqb m n)) ns ≡ true → Mem n ns → ⊥
not_among n [] all m = elim m [ ]
not_among n (k ∷ ns) all (here e) =
    let parts = and_parts (not (eqb k n)) (list_all (λ m. not (eqb m n)) ns) all in
    false≢true (sym (not-true (eqb k n) parts.0) ∙ eq-eqb k n e)
not_among n (k ∷ ns) all (there m) =
    let parts = and_parts (not (eqb k n)) (list_all (λ m. not (eqb m n)) ns) all in not_among n ns parts.1 m

pub the_only : {X : Type 0} (y x : X) → Mem x (y ∷ []) → y ≡ x
the_only y x (here e) = e
the_only y x (there m) = elim m [ ]

module _ (signature : List Control) {host pattern : Big} {nodes : List ℕ} where
  -- an occurrence meets the local conditions
  pub locally_by : Occurs host pattern nodes → fault_of signature pattern ≡ None → is_like_a_pattern pattern ≡ true
      → fault_of signature host ≡ None → is_without_inside host ≡ true → MeetsLocally host pattern nodes
  locally_by occurs pattern_fine like host_fine bare =
      occurs_locally host pattern (pattern_by signature pattern pattern_fine like) (ground_by signature host host_fine bare) nodes occurs

  -- a row of the host is no image where its number is none of the nodes
  pub no_image : {row image : NodeRow} → IsImage host pattern nodes row image → fault_of signature pattern ≡ None
      → AreNew nodes (length pattern.nodes) → list_all (λ m. not (eqb m image.id)) nodes ≡ true → ⊥
  no_image {image = image} is pattern_fine new none =
      not_among image.id nodes none (image_row_mem pattern (valid_by signature pattern pattern_fine) nodes new host is)
