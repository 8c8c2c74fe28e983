-- A bigraph has no fault under a signature exactly where it is valid under it.
use Rattle.std.proofs.Common.{◌≡◌, ℕ, ◌<◌, Bool, true, false, not, cond, ◌&&◌, eqb, ltb, Option, Some, None, List, [], ◌∷◌, length, map, refl, sym, ap, subst, ◌∙◌, arith, IsTrue, ltb-true, lt-ltb, eq-eqb, ◌↔◌}
use Rattle.std.specs.List.{AllByRecursion, All, list_all}
use Rattle.std.specs.List.Sorted.{IsStrictlySortedBy}
use Rattle.std.specs.Ordering.{nat_cmp, is_lt, on}
use Rattle.std.specs.Cmp.{IsTotalOrder}
use Rattle.std.specs.declared.cmp.Ordering.{Ordering}
use Rattle.std.specs.declared.cmp.Ordering.TheVariants.{Less}
use Rattle.std.proofs.lemmas.Bool.{and_parts, eqb-true}
use Rattle.std.proofs.lemmas.Cmp.{nat_cmp_total}
use Rattle.std.proofs.lemmas.List.Elements.{All-from_recursion, recursion_from_All}
use Rattle.std.proofs.Common.{Result, Ok, Err}
use Rattle.std.specs.Result.{OnOk, IsErrAnd}
use Rattle.bg_base.specs.declared.names.Name.{Name}
use Rattle.bg_base.specs.declared.names.Place.{Place}
use Rattle.bg_base.specs.declared.big.NodeRow.{NodeRow}
use Rattle.bg_base.specs.declared.big.InnerRow.{InnerRow}
use Rattle.bg_base.specs.declared.big.Big.{Big}
use Rattle.bg_base.specs.declared.signature.Control.{Control}
use Rattle.bg_base.specs.declared.check.Part.{Part}
use Rattle.bg_base.specs.declared.check.Part.TheVariants.{Sites, Inner, Outer, Edges, Nodes}
use Rattle.bg_base.specs.declared.check.CheckFault.{CheckFault}
use Rattle.bg_base.specs.declared.check.CheckFault.TheVariants.{Malformed, OutOfMemory}
use Rattle.bg_base.specs.Faults.{answer_of, IsAnswer, IsMalformed}
use Rattle.bg_lists.proofs.Comparisons.{Less-from_is_lt}
use Rattle.bg_base.specs.Order.{name_cmp}
use Rattle.bg_base.specs.OrderLaws.{name_cmp_total}
use Rattle.bg_base.specs.Bigraph.{IsValidUnder, node_cmp, inner_cmp, has_place, has_link, is_rooted, is_atomic, arity_of}
use Rattle.bg_base.specs.Faults.{rises, site_code, inner_code, outer_code, edge_code, node_code, is_known, codes_from, shifted, first_fault, or_else, sites_fault, inner_fault, outer_fault, edges_fault, nodes_fault, fault_of}

-- no code is that of a broken rule
abbrev Clean : List ℕ → Type 0
Clean codes = AllByRecursion (λ (code : ℕ). code ≡ 0) codes

all_weaker : {X : Type 0} (P Q : X → Type 0) → ((x : X) → P x → Q x) → (xs : List X) → AllByRecursion P xs → AllByRecursion Q xs
all_weaker P Q weaker [] all = tt
all_weaker P Q weaker (x ∷ xs) all = (weaker x all.0, all_weaker P Q weaker xs all.1)

pub clean_head : (code : ℕ) (found : Option (ℕ × ℕ)) (b : Bool) → eqb code 0 ≡ b → cond b (shifted 1 found) (Some (0, code)) ≡ None
    → (code ≡ 0) × (found ≡ None)
clean_head code None true e none = (eqb-true code 0 e, refl)
clean_head code (Some fault) true e none = cc
clean_head code found false e none = cc

clean_from_none : (codes : List ℕ) → first_fault codes ≡ None → Clean codes
clean_from_none [] none = tt
clean_from_none (code ∷ codes) none =
    let parts = clean_head code (first_fault codes) (eqb code 0) refl none in (parts.0, clean_from_none codes parts.1)

none_from_clean : (codes : List ℕ) → Clean codes → first_fault codes ≡ None
none_from_clean [] clean = refl
none_from_clean (code ∷ codes) clean = rw (eq-eqb code 0 clean.0, none_from_clean codes clean.1) refl

-- the later rows stand after the key
abbrev Above : {K X : Type 0} → (K → K → Ordering) → (X → K) → Option K → List X → Type 0
Above cmp key None rows = Unit {0}
Above {K} {X} cmp key (Some last) rows = AllByRecursion (λ (row : X). cmp last (key row) ≡ Less) rows

-- rows judged first by their order, and then each by itself
abbrev ordered_code : {K X : Type 0} → (K → K → Ordering) → (X → K) → (X → ℕ) → Option K → X → ℕ
ordered_code cmp key rest last row = cond (not (rises cmp last (key row))) 3 (rest row)

ordered_zero : (b : Bool) (rest : ℕ) → cond (not b) 3 rest ≡ 0 → (b ≡ true) × (rest ≡ 0)
ordered_zero true rest e = (refl, e)
ordered_zero false rest e = absurd (omega (arith, e))

module _ {K X : Type 0} (cmp : K → K → Ordering) (order : IsTotalOrder cmp) (key : X → K) (rest : X → ℕ) where
  above_cons : (last : Option K) (row : X) (rows : List X) → rises cmp last (key row) ≡ true
      → AllByRecursion (λ (later : X). cmp (key row) (key later) ≡ Less) rows → Above cmp key last (row ∷ rows)
  above_cons None row rows rise all = tt
  above_cons (Some last) row rows rise all =
      let first = Less-from_is_lt (cmp last (key row)) rise in (
        first,
        all_weaker (λ (later : X). cmp (key row) (key later) ≡ Less) (λ (later : X). cmp last (key later) ≡ Less)
            (λ later less. order.trans last (key row) (key later) first less) rows all,
      )

  ordered_from_clean : (last : Option K) (rows : List X) → Clean (codes_from key (ordered_code cmp key rest) last rows)
      → Above cmp key last rows × IsStrictlySortedBy (on key cmp) rows × AllByRecursion (λ (row : X). rest row ≡ 0) rows
  unfolding IsStrictlySortedBy
  ordered_from_clean None [] clean = (tt, tt, tt)
  ordered_from_clean (Some last) [] clean = (tt, tt, tt)
  ordered_from_clean last (row ∷ rows) clean =
      let here = ordered_zero (rises cmp last (key row)) (rest row) clean.0 in
      let later = ordered_from_clean (Some (key row)) rows clean.1 in
      (above_cons last row rows here.0 later.0, (later.0, later.1), (here.1, later.2))

  rise_from_above : (last : Option K) (row : X) (rows : List X) → Above cmp key last (row ∷ rows) → rises cmp last (key row) ≡ true
  rise_from_above None row rows above = refl
  rise_from_above (Some last) row rows above = ap is_lt above.0

  clean_from_ordered : (last : Option K) (rows : List X) → Above cmp key last rows → IsStrictlySortedBy (on key cmp) rows
      → AllByRecursion (λ (row : X). rest row ≡ 0) rows → Clean (codes_from key (ordered_code cmp key rest) last rows)
  unfolding IsStrictlySortedBy
  clean_from_ordered last [] above sorted clear = tt
  clean_from_ordered last (row ∷ rows) above sorted clear =
      (rw (rise_from_above last row rows above) clear.0, clean_from_ordered (Some (key row)) rows sorted.0 sorted.1 clear.1)

pub none_parts : (part : Part) (found : Option (ℕ × ℕ)) (later : Option (Part × ℕ × ℕ)) → or_else part found later ≡ None → (found ≡ None) × (later ≡ None)
none_parts part None later none = (refl, none)
none_parts part (Some fault) later none = cc

-- what each row is judged by besides its order
inner_rest : Big → InnerRow → ℕ
inner_rest big row = cond (not (has_link big row.link)) 4 0

node_rest : List Control → Big → NodeRow → ℕ
node_rest signature big row =
    cond (not (is_known signature big row)) 4 (cond (not (eqb (length row.links) (arity_of signature row.control))) 5
    (cond (is_atomic signature big row.parent) 6 (cond (not (is_rooted big row.id)) 7 0)))

site_parts : (there atomic : Bool) → cond {A = ℕ} (not there) 4 (cond atomic 6 0) ≡ 0 → (there ≡ true) × (atomic ≡ false)
site_parts true true e = absurd (omega (arith, e))
site_parts true false e = (refl, refl)
site_parts false atomic e = absurd (omega (arith, e))

link_parts : (there : Bool) → cond {A = ℕ} (not there) 4 0 ≡ 0 → there ≡ true
link_parts true e = refl
link_parts false e = absurd (omega (arith, e))

node_parts : (known ports atomic rooted : Bool) → cond {A = ℕ} (not known) 4 (cond (not ports) 5 (cond atomic 6 (cond (not rooted) 7 0))) ≡ 0
    → (known ≡ true) × (ports ≡ true) × (atomic ≡ false) × (rooted ≡ true)
node_parts true true true rooted e = absurd (omega (arith, e))
node_parts true true false true e = (refl, refl, refl, refl)
node_parts true true false false e = absurd (omega (arith, e))
node_parts true false atomic rooted e = absurd (omega (arith, e))
node_parts false ports atomic rooted e = absurd (omega (arith, e))

pub both : {A B : Bool} → A ≡ true → B ≡ true → (A && B) ≡ true
both {A} {B} a b = rw (a, b) refl

module _ (signature : List Control) (big : Big) where
  -- the rules of a node, apart from its order, and the facts of a valid bigraph
  pub record NodeFits (row : NodeRow) : Type 0 where
    pub control : row.control < length signature
    pub parent : has_place big row.parent ≡ true
    pub links : list_all (has_link big) row.links ≡ true
    pub ports : length row.links ≡ arity_of signature row.control
    pub open_parent : is_atomic signature big row.parent ≡ false
    pub rooted : is_rooted big row.id ≡ true

  fits_from_zero : (row : NodeRow) → node_rest signature big row ≡ 0 → NodeFits row
  unfolding node_rest
  fits_from_zero row e =
      let parts = node_parts (is_known signature big row) (eqb (length row.links) (arity_of signature row.control))
      (is_atomic signature big row.parent) (is_rooted big row.id) e in
      let known = and_parts (ltb row.control (length signature) && has_place big row.parent) (list_all (has_link big) row.links) parts.0 in
      let first = and_parts (ltb row.control (length signature)) (has_place big row.parent) known.0 in
      record {
        control = ltb-true row.control (length signature) first.0;
        parent = first.1;
        links = known.1;
        ports = eqb-true (length row.links) (arity_of signature row.control) parts.1;
        open_parent = parts.2;
        rooted = parts.3;
      }

  zero_from_fits : (row : NodeRow) → NodeFits row → node_rest signature big row ≡ 0
  unfolding node_rest
  zero_from_fits row fits =
      rw (
        both (both (lt-ltb row.control (length signature) fits.control) fits.parent) fits.links,
        eq-eqb (length row.links) (arity_of signature row.control) fits.ports,
        fits.open_parent,
        fits.rooted,
      ) refl

  pub record SiteFits (place : Place) : Type 0 where
    pub there : has_place big place ≡ true
    pub open_place : is_atomic signature big place ≡ false

  sites_fit : (places : List Place) → Clean (map (site_code signature big) places) → AllByRecursion SiteFits places
  sites_fit [] clean = tt
  sites_fit (place ∷ places) clean =
      let parts = site_parts (has_place big place) (is_atomic signature big place) clean.0 in
      (record { there = parts.0; open_place = parts.1 }, sites_fit places clean.1)

  sites_clean : (places : List Place) → AllByRecursion (λ (place : Place). IsTrue (has_place big place)) places
      → AllByRecursion (λ (place : Place). is_atomic signature big place ≡ false) places → Clean (map (site_code signature big) places)
  sites_clean [] there open_sites = tt
  sites_clean (place ∷ places) there open_sites =
      (rw (there.0, open_sites.0) refl, sites_clean places there.1 open_sites.1)

  sites_from_none : sites_fault signature big ≡ None
      → All (λ (place : Place). IsTrue (has_place big place)) big.sites × All (λ (place : Place). is_atomic signature big place ≡ false) big.sites
  unfolding sites_fault
  sites_from_none none =
      let fits = sites_fit big.sites (clean_from_none (map (site_code signature big) big.sites) none) in (
        All-from_recursion (λ (place : Place). IsTrue (has_place big place)) big.sites
            (all_weaker SiteFits (λ (place : Place). IsTrue (has_place big place)) (λ place fit. fit.there) big.sites fits),
        All-from_recursion (λ (place : Place). is_atomic signature big place ≡ false) big.sites
            (all_weaker SiteFits (λ (place : Place). is_atomic signature big place ≡ false) (λ place fit. fit.open_place) big.sites fits),
      )

  sites_to_none : All (λ (place : Place). IsTrue (has_place big place)) big.sites
      → All (λ (place : Place). is_atomic signature big place ≡ false) big.sites → sites_fault signature big ≡ None
  unfolding sites_fault
  sites_to_none there open_sites =
      none_from_clean (map (site_code signature big) big.sites)
      (sites_clean big.sites (recursion_from_All (λ (place : Place). IsTrue (has_place big place)) big.sites there)
      (recursion_from_All (λ (place : Place). is_atomic signature big place ≡ false) big.sites open_sites))

  inner_from_none : inner_fault big ≡ None
      → IsStrictlySortedBy inner_cmp big.inner × All (λ (row : InnerRow). IsTrue (has_link big row.link)) big.inner
  unfolding inner_fault inner_rest
  inner_from_none none =
      let parts = ordered_from_clean name_cmp name_cmp_total (λ (row : InnerRow). row.name) (inner_rest big) None big.inner
      (clean_from_none (codes_from (λ (row : InnerRow). row.name) (inner_code big) None big.inner) none) in (
        parts.1,
        All-from_recursion (λ (row : InnerRow). IsTrue (has_link big row.link)) big.inner
            (all_weaker (λ (row : InnerRow). inner_rest big row ≡ 0) (λ (row : InnerRow). IsTrue (has_link big row.link))
            (λ row e. link_parts (has_link big row.link) e) big.inner parts.2),
      )

  inner_to_none : IsStrictlySortedBy inner_cmp big.inner → All (λ (row : InnerRow). IsTrue (has_link big row.link)) big.inner
      → inner_fault big ≡ None
  unfolding inner_fault inner_rest
  inner_to_none sorted there =
      none_from_clean (codes_from (λ (row : InnerRow). row.name) (inner_code big) None big.inner)
      (clean_from_ordered name_cmp name_cmp_total (λ (row : InnerRow). row.name) (inner_rest big) None big.inner tt sorted
      (all_weaker (λ (row : InnerRow). IsTrue (has_link big row.link)) (λ (row : InnerRow). inner_rest big row ≡ 0)
      (λ row e. rw e refl) big.inner (recursion_from_All (λ (row : InnerRow). IsTrue (has_link big row.link)) big.inner there)))

  outer_from_none : outer_fault big ≡ None → IsStrictlySortedBy name_cmp big.outer
  unfolding outer_fault
  outer_from_none none =
      (ordered_from_clean name_cmp name_cmp_total (λ (name : Name). name) (λ (name : Name). 0) None big.outer
      (clean_from_none (codes_from (λ (name : Name). name) outer_code None big.outer) none)).1

  zeros : {X : Type 0} (xs : List X) → AllByRecursion (λ (x : X). ◌≡◌ {A = ℕ} 0 0) xs
  zeros [] = tt
  zeros (x ∷ xs) = (refl, zeros xs)

  outer_to_none : IsStrictlySortedBy name_cmp big.outer → outer_fault big ≡ None
  unfolding outer_fault
  outer_to_none sorted =
      none_from_clean (codes_from (λ (name : Name). name) outer_code None big.outer)
      (clean_from_ordered name_cmp name_cmp_total (λ (name : Name). name) (λ (name : Name). 0) None big.outer tt sorted (zeros big.outer))

  edges_from_none : edges_fault big ≡ None → IsStrictlySortedBy nat_cmp big.edges
  unfolding edges_fault
  edges_from_none none =
      (ordered_from_clean nat_cmp nat_cmp_total (λ (edge : ℕ). edge) (λ (edge : ℕ). 0) None big.edges
      (clean_from_none (codes_from (λ (edge : ℕ). edge) edge_code None big.edges) none)).1

  edges_to_none : IsStrictlySortedBy nat_cmp big.edges → edges_fault big ≡ None
  unfolding edges_fault
  edges_to_none sorted =
      none_from_clean (codes_from (λ (edge : ℕ). edge) edge_code None big.edges)
      (clean_from_ordered nat_cmp nat_cmp_total (λ (edge : ℕ). edge) (λ (edge : ℕ). 0) None big.edges tt sorted (zeros big.edges))

  nodes_from_none : nodes_fault signature big ≡ None → IsStrictlySortedBy node_cmp big.nodes × AllByRecursion NodeFits big.nodes
  unfolding nodes_fault node_rest
  nodes_from_none none =
      let parts = ordered_from_clean nat_cmp nat_cmp_total (λ (row : NodeRow). row.id) (node_rest signature big) None big.nodes
      (clean_from_none (codes_from (λ (row : NodeRow). row.id) (node_code signature big) None big.nodes) none) in
      (parts.1, all_weaker (λ (row : NodeRow). node_rest signature big row ≡ 0) NodeFits fits_from_zero big.nodes parts.2)

  nodes_to_none : IsStrictlySortedBy node_cmp big.nodes → AllByRecursion NodeFits big.nodes → nodes_fault signature big ≡ None
  unfolding nodes_fault node_rest
  nodes_to_none sorted fits =
      none_from_clean (codes_from (λ (row : NodeRow). row.id) (node_code signature big) None big.nodes)
      (clean_from_ordered nat_cmp nat_cmp_total (λ (row : NodeRow). row.id) (node_rest signature big) None big.nodes tt sorted
      (all_weaker NodeFits (λ (row : NodeRow). node_rest signature big row ≡ 0) zero_from_fits big.nodes fits))

  of_nodes : (P : NodeRow → Type 0) → ((row : NodeRow) → NodeFits row → P row) → AllByRecursion NodeFits big.nodes → All P big.nodes
  of_nodes P weaker fits = All-from_recursion P big.nodes (all_weaker NodeFits P weaker big.nodes fits)

  fits_by : (rows : List NodeRow) → AllByRecursion (λ (row : NodeRow). row.control < length signature) rows
      → AllByRecursion (λ (row : NodeRow). IsTrue (has_place big row.parent)) rows
      → AllByRecursion (λ (row : NodeRow). IsTrue (list_all (has_link big) row.links)) rows
      → AllByRecursion (λ (row : NodeRow). length row.links ≡ arity_of signature row.control) rows
      → AllByRecursion (λ (row : NodeRow). is_atomic signature big row.parent ≡ false) rows
      → AllByRecursion (λ (row : NodeRow). IsTrue (is_rooted big row.id)) rows → AllByRecursion NodeFits rows
  fits_by [] controls parents links ports open_parents rooted = tt
  fits_by (row ∷ rows) controls parents links ports open_parents rooted = (
    record { control = controls.0; parent = parents.0; links = links.0; ports = ports.0; open_parent = open_parents.0; rooted = rooted.0 },
    fits_by rows controls.1 parents.1 links.1 ports.1 open_parents.1 rooted.1,
  )

  fits_from_valid : IsValidUnder signature big → AllByRecursion NodeFits big.nodes
  fits_from_valid under =
      fits_by big.nodes (recursion_from_All (λ (row : NodeRow). row.control < length signature) big.nodes under.controls_there)
      (recursion_from_All (λ (row : NodeRow). IsTrue (has_place big row.parent)) big.nodes under.valid.parents_there)
      (recursion_from_All (λ (row : NodeRow). IsTrue (list_all (has_link big) row.links)) big.nodes under.valid.links_there)
      (recursion_from_All (λ (row : NodeRow). length row.links ≡ arity_of signature row.control) big.nodes under.ports_fit)
      (recursion_from_All (λ (row : NodeRow). is_atomic signature big row.parent ≡ false) big.nodes under.no_atomic_parent)
      (recursion_from_All (λ (row : NodeRow). IsTrue (is_rooted big row.id)) big.nodes under.valid.rooted)

  valid_from_no_fault : fault_of signature big ≡ None → IsValidUnder signature big
  unfolding fault_of
  valid_from_no_fault none =
      let first = none_parts Sites (sites_fault signature big) _ none in
      let second = none_parts Inner (inner_fault big) _ first.1 in
      let third = none_parts Outer (outer_fault big) _ second.1 in
      let fourth = none_parts Edges (edges_fault big) _ third.1 in
      let fifth = none_parts Nodes (nodes_fault signature big) _ fourth.1 in
      let sites = sites_from_none first.0 in
      let inner = inner_from_none second.0 in
      let nodes = nodes_from_none fifth.0 in
      record {
        valid = record {
          nodes_ascend = nodes.0;
          edges_ascend = edges_from_none fourth.0;
          inner_ascends = inner.0;
          outer_ascends = outer_from_none third.0;
          parents_there = of_nodes (λ (row : NodeRow). IsTrue (has_place big row.parent)) (λ row fit. fit.parent) nodes.1;
          sites_there = sites.0;
          links_there = of_nodes (λ (row : NodeRow). IsTrue (list_all (has_link big) row.links)) (λ row fit. fit.links) nodes.1;
          inner_links_there = inner.1;
          rooted = of_nodes (λ (row : NodeRow). IsTrue (is_rooted big row.id)) (λ row fit. fit.rooted) nodes.1;
        };
        controls_there = of_nodes (λ (row : NodeRow). row.control < length signature) (λ row fit. fit.control) nodes.1;
        ports_fit = of_nodes (λ (row : NodeRow). length row.links ≡ arity_of signature row.control) (λ row fit. fit.ports) nodes.1;
        no_atomic_parent = of_nodes (λ (row : NodeRow). is_atomic signature big row.parent ≡ false) (λ row fit. fit.open_parent) nodes.1;
        no_atomic_site = sites.1;
      }

  no_fault_from_valid : IsValidUnder signature big → fault_of signature big ≡ None
  unfolding fault_of
  no_fault_from_valid under =
      rw (
        sites_to_none under.valid.sites_there under.no_atomic_site,
        inner_to_none under.valid.inner_ascends under.valid.inner_links_there,
        outer_to_none under.valid.outer_ascends,
        edges_to_none under.valid.edges_ascend,
        nodes_to_none under.valid.nodes_ascend (fits_from_valid under),
      ) refl

  -- there is no fault exactly where the bigraph is valid under the signature
  pub no_fault : (fault_of signature big ≡ None) ↔ IsValidUnder signature big
  no_fault = (valid_from_no_fault, no_fault_from_valid)

no_some : (fault : Part × ℕ × ℕ) → Some fault ≡ None → ⊥
no_some fault e = cc

own_answer : (fault : Option (Part × ℕ × ℕ)) → IsAnswer (answer_of fault) fault
own_answer None = refl
own_answer (Some fault) = refl

-- the answer of a check that had its memory
pub answered : (answer : Result (Unit {0}) CheckFault) (first fault : Option (Part × ℕ × ℕ)) → first ≡ fault → answer ≡ answer_of first → IsAnswer answer fault
answered answer first fault same told =
    subst (λ r. IsAnswer r fault) (sym (told ∙ ap answer_of same)) (own_answer fault)

-- what an answer of the check says of validity
pub valid_answer : (signature : List Control) (big : Big) (answer : Result (Unit {0}) CheckFault) → IsAnswer answer (fault_of signature big)
    → OnOk answer (IsValidUnder signature big)
valid_answer signature big (Ok done) none = valid_from_no_fault signature big none
valid_answer signature big (Err fault) tells = tt

pub malformed_answer : (signature : List Control) (big : Big) (answer : Result (Unit {0}) CheckFault) → IsAnswer answer (fault_of signature big)
    → IsErrAnd answer IsMalformed → IsValidUnder signature big → ⊥
malformed_answer signature big (Ok done) none is under = is
malformed_answer signature big (Err (Malformed code part row)) tells is under =
    let none = no_fault_from_valid signature big under in
    let clash : Some (part, row, code) ≡ None = sym tells ∙ none in no_some (part, row, code) clash
malformed_answer signature big (Err OutOfMemory) tells is under = is
