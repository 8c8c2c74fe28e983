-- The row that a check names is the first that breaks a rule, and the code is the least of those that it breaks.
use Rattle.std.proofs.Common.{◌≡◌, ℕ, zero, suc, ◌<◌, Bool, true, false, not, cond, ◌&&◌, eqb, ltb, Option, Some, None, List, [], ◌∷◌, length, map, refl, sym, ap, subst, ◌∙◌, arith, ltb-true, lt-ltb, eq-eqb}
use Rattle.std.specs.Prelude.{slice_get, option_map}
use Rattle.std.specs.List.{list_all}
use Rattle.std.specs.Ordering.{nat_cmp, is_lt}
use Rattle.std.specs.declared.cmp.Ordering.{Ordering}
use Rattle.std.proofs.lemmas.Bool.{and_parts, eqb-true, eqb-false}
use Rattle.std.proofs.lemmas.Option.{same_Some}
use Rattle.bg_lists.proofs.Comparisons.{Less-from_is_lt}
use Rattle.bg_base.specs.declared.names.Name.{Name}
use Rattle.bg_base.specs.declared.names.Place.{Place}
use Rattle.bg_base.specs.declared.big.NodeRow.{NodeRow}
use Rattle.bg_base.specs.declared.big.InnerRow.{InnerRow}
use Rattle.bg_base.specs.declared.big.Big.{Big}
use Rattle.bg_base.specs.declared.signature.Control.{Control}
use Rattle.bg_base.specs.declared.check.Part.{Part}
use Rattle.bg_base.specs.declared.check.Part.TheVariants.{Sites, Inner, Outer, Edges, Nodes}
use Rattle.bg_base.specs.Order.{name_cmp}
use Rattle.bg_base.specs.Bigraph.{has_place, has_link, is_rooted, is_atomic, arity_of}
use Rattle.bg_base.specs.Faults.{rises, site_code, inner_code, outer_code, edge_code, node_code, is_known, codes_from, shifted, first_fault, or_else, sites_fault, inner_fault, outer_fault, edges_fault, nodes_fault, fault_of}
use Rattle.bg_base.specs.RowRules.{Follows, SiteKeeps, InnerKeeps, OuterKeeps, EdgeKeeps, NodeKeeps, key_before, AreKeptBefore, IsFirstToBreak, IsFirstOf, AreKept, IsFirstFault}
use Rattle.bg_base.proofs.FaultLaws.{both, clean_head}

-- ---- codes as steps of a ladder

-- the least code of a test that fails, 0 where all hold: 3 `follows`, 4 `known`, 5 `ports`, 6 not `atomic`, 7 `rooted`
abbrev least_code : Bool → Bool → Bool → Bool → Bool → ℕ
least_code follows known ports atomic rooted =
    cond (not follows) 3 (cond (not known) 4 (cond (not ports) 5 (cond atomic 6 (cond (not rooted) 7 0))))

-- the test of that code holds
record Holds (follows known ports atomic rooted : Bool) (code : ℕ) : Type 0 where
  follows_holds : code ≡ 3 → follows ≡ true
  known_holds : code ≡ 4 → known ≡ true
  ports_hold : code ≡ 5 → ports ≡ true
  atomic_fails : code ≡ 6 → atomic ≡ false
  rooted_holds : code ≡ 7 → rooted ≡ true

-- what the least code says
record Ladder (follows known ports atomic rooted : Bool) (code : ℕ) : Type 0 where
  all : code ≡ 0 → (any : ℕ) → Holds follows known ports atomic rooted any
  breaks : (code ≡ 0 → ⊥) → Holds follows known ports atomic rooted code → ⊥
  lesser : (other : ℕ) → other < code → Holds follows known ports atomic rooted other

ladder : (follows known ports atomic rooted : Bool) → Ladder follows known ports atomic rooted (least_code follows known ports atomic rooted)
ladder false known ports atomic rooted = record {
  all = λ e. absurd (omega (arith, e));
  breaks = λ n holds. let e = holds.follows_holds refl in cc;
  lesser = λ other below. record {
    follows_holds = λ e. absurd (omega (arith, below, e));
    known_holds = λ e. absurd (omega (arith, below, e));
    ports_hold = λ e. absurd (omega (arith, below, e));
    atomic_fails = λ e. absurd (omega (arith, below, e));
    rooted_holds = λ e. absurd (omega (arith, below, e));
  };
}
ladder true false ports atomic rooted = record {
  all = λ e. absurd (omega (arith, e));
  breaks = λ n holds. let e = holds.known_holds refl in cc;
  lesser = λ other below. record {
    follows_holds = λ e. refl;
    known_holds = λ e. absurd (omega (arith, below, e));
    ports_hold = λ e. absurd (omega (arith, below, e));
    atomic_fails = λ e. absurd (omega (arith, below, e));
    rooted_holds = λ e. absurd (omega (arith, below, e));
  };
}
ladder true true false atomic rooted = record {
  all = λ e. absurd (omega (arith, e));
  breaks = λ n holds. let e = holds.ports_hold refl in cc;
  lesser = λ other below. record {
    follows_holds = λ e. refl;
    known_holds = λ e. refl;
    ports_hold = λ e. absurd (omega (arith, below, e));
    atomic_fails = λ e. absurd (omega (arith, below, e));
    rooted_holds = λ e. absurd (omega (arith, below, e));
  };
}
ladder true true true true rooted = record {
  all = λ e. absurd (omega (arith, e));
  breaks = λ n holds. let e = holds.atomic_fails refl in cc;
  lesser = λ other below. record {
    follows_holds = λ e. refl;
    known_holds = λ e. refl;
    ports_hold = λ e. refl;
    atomic_fails = λ e. absurd (omega (arith, below, e));
    rooted_holds = λ e. absurd (omega (arith, below, e));
  };
}
ladder true true true false false = record {
  all = λ e. absurd (omega (arith, e));
  breaks = λ n holds. let e = holds.rooted_holds refl in cc;
  lesser = λ other below. record {
    follows_holds = λ e. refl;
    known_holds = λ e. refl;
    ports_hold = λ e. refl;
    atomic_fails = λ e. refl;
    rooted_holds = λ e. absurd (omega (arith, below, e));
  };
}
ladder true true true false true = record {
  all = λ e any. record {
    follows_holds = λ e. refl;
    known_holds = λ e. refl;
    ports_hold = λ e. refl;
    atomic_fails = λ e. refl;
    rooted_holds = λ e. refl;
  };
  breaks = λ n holds. n refl;
  lesser = λ other below. absurd (omega (arith, below));
}

-- ---- the first code that is not 0

-- the code at the position is not 0, and each one before it is
record IsFirstCode (codes : List ℕ) (at code : ℕ) : Type 0 where
  code_there : slice_get codes at ≡ Some code
  not_zero : code ≡ 0 → ⊥
  zeros_before : (n : ℕ) → n < at → slice_get codes n ≡ Some 0

behind_zero : (c : ℕ) (codes : List ℕ) (at code : ℕ) → c ≡ 0 → IsFirstCode codes at code → IsFirstCode (c ∷ codes) (suc at) code
behind_zero c codes at code zero_here first = record {
  code_there = first.code_there;
  not_zero = first.not_zero;
  zeros_before = before;
}
  where
    before : (n : ℕ) → n < suc at → slice_get (c ∷ codes) n ≡ Some 0
    before zero below = ap Some zero_here
    before (suc n) below = first.zeros_before n (omega (arith, below))

first_is : (codes : List ℕ) (at code : ℕ) → first_fault codes ≡ Some (at, code) → IsFirstCode codes at code
first_is [] at code e = cc
first_is (c ∷ codes) at code e = by (first_is codes) (eqb c 0) refl (first_fault codes) refl e
  where
    by : ((n d : ℕ) → first_fault codes ≡ Some (n, d) → IsFirstCode codes n d) → (b : Bool) → eqb c 0 ≡ b
        → (found : Option (ℕ × ℕ)) → first_fault codes ≡ found → cond b (shifted 1 found) (Some (0, c)) ≡ Some (at, code)
        → IsFirstCode (c ∷ codes) at code
    by later true zero_here None is e = cc
    by later true zero_here (Some found) is e =
        let same = same_Some _ _ e in
        subst (λ (f : ℕ × ℕ). IsFirstCode (c ∷ codes) f.0 f.1) same
        (subst (λ n. IsFirstCode (c ∷ codes) n found.1) (omega arith)
        (behind_zero c codes found.0 found.1 (eqb-true c 0 zero_here) (later found.0 found.1 is)))
    by later false other found is e =
        subst (λ (f : ℕ × ℕ). IsFirstCode (c ∷ codes) f.0 f.1) (same_Some _ _ e)
        (record { code_there = refl; not_zero = eqb-false c 0 other; zeros_before = λ n below. absurd (omega (arith, below)) })

none_is : (codes : List ℕ) → first_fault codes ≡ None → (n c : ℕ) → slice_get codes n ≡ Some c → c ≡ 0
none_is [] e n c there = cc
none_is (d ∷ codes) e n c there =
    let parts = clean_head d (first_fault codes) (eqb d 0) refl e in by n parts.0 (none_is codes parts.1) there
  where
    by : (n : ℕ) → d ≡ 0 → ((m k : ℕ) → slice_get codes m ≡ Some k → k ≡ 0) → slice_get (d ∷ codes) n ≡ Some c → c ≡ 0
    by zero here later there = sym (same_Some _ _ there) ∙ here
    by (suc m) here later there = later m c there

-- ---- codes of rows

module _ {K X : Type 0} (key : X → K) (code : Option K → X → ℕ) where
  -- the key before the position, where another key stands before the rows
  before : Option K → List X → ℕ → Option K
  before last rows zero = last
  before last rows (suc at) = option_map key (slice_get rows at)

  before_later : (last : Option K) (x : X) (xs : List X) (at : ℕ) → before (Some (key x)) xs at ≡ before last (x ∷ xs) (suc at)
  unfolding before
  before_later last x xs zero = refl
  before_later last x xs (suc at) = refl

  before_none : (rows : List X) (at : ℕ) → before None rows at ≡ key_before key rows at
  unfolding before
  before_none rows zero = refl
  before_none rows (suc at) = refl

  code_of_row : (last : Option K) (rows : List X) (at : ℕ) (row : X) → slice_get rows at ≡ Some row
      → slice_get (codes_from key code last rows) at ≡ Some (code (before last rows at) row)
  unfolding before
  code_of_row last [] at row there = cc
  code_of_row last (x ∷ xs) zero row there = ap (λ y. Some (code last y)) (same_Some _ _ there)
  code_of_row last (x ∷ xs) (suc at) row there =
      code_of_row (Some (key x)) xs at row there ∙ ap (λ k. Some (code k row)) (before_later last x xs at)

  -- there is a row at the position
  record HasRow (rows : List X) (at : ℕ) : Type 0 where
    row : X
    there : slice_get rows at ≡ Some row

  row_there : (last : Option K) (rows : List X) (at c : ℕ) → slice_get (codes_from key code last rows) at ≡ Some c → HasRow rows at
  row_there last [] at c there = cc
  row_there last (x ∷ xs) zero c there = record { row = x; there = refl }
  row_there last (x ∷ xs) (suc at) c there = let found = row_there (Some (key x)) xs at c there in record { row = found.row; there = found.there }

  -- the codes judge by these rules
  record Judges (Keeps : Option K → X → ℕ → Type 0) : Type 0 where
    all : (last : Option K) (row : X) → code last row ≡ 0 → (any : ℕ) → Keeps last row any
    breaks : (last : Option K) (row : X) → (code last row ≡ 0 → ⊥) → Keeps last row (code last row) → ⊥
    lesser : (last : Option K) (row : X) (other : ℕ) → other < code last row → Keeps last row other

  module _ (Keeps : Option K → X → ℕ → Type 0) (judges : Judges Keeps) (rows : List X) where
    kept_at : (at : ℕ) (row : X) → slice_get rows at ≡ Some row → (c : ℕ) → slice_get (codes_from key code None rows) at ≡ Some c → c ≡ 0
        → (any : ℕ) → Keeps (key_before key rows at) row any
    kept_at at row there c is zero_there any =
        let same = same_Some _ _ (sym is ∙ code_of_row None rows at row there) in
        subst (λ k. Keeps k row any) (before_none rows at) (judges.all (before None rows at) row (sym same ∙ zero_there) any)

    all_kept : first_fault (codes_from key code None rows) ≡ None → AreKeptBefore key Keeps rows (length rows)
    all_kept none at row below there =
        let is = code_of_row None rows at row there in
        kept_at at row there (code (before None rows at) row) is (none_is (codes_from key code None rows) none at (code (before None rows at) row) is)

    first_to_break : (at c : ℕ) → first_fault (codes_from key code None rows) ≡ Some (at, c) → IsFirstToBreak key Keeps rows at c
    first_to_break at c found =
        let first = first_is (codes_from key code None rows) at c found in
        let here = row_there None rows at c first.code_there in
        let same : code (before None rows at) here.row ≡ c = same_Some _ _ (sym (code_of_row None rows at here.row here.there) ∙ first.code_there) in
        let known : code (key_before key rows at) here.row ≡ c = subst (λ k. code k here.row ≡ c) (before_none rows at) same in record {
          row = here.row;
          there = here.there;
          breaks = λ keeps.
              judges.breaks (key_before key rows at) here.row (λ e. first.not_zero (sym known ∙ e))
              (subst (λ n. Keeps (key_before key rows at) here.row n) (sym known) keeps);
          keeps_lesser = λ other less. judges.lesser (key_before key rows at) here.row other (subst (λ n. other < n) (sym known) less);
          earlier_keep = λ m row below there any. kept_at m row there 0 (first.zeros_before m below) refl any;
        }

-- ---- the rules of each part

follows_from : {K : Type 0} (cmp : K → K → Ordering) (last : Option K) (k : K) → rises cmp last k ≡ true → Follows cmp last k
follows_from cmp None k e = tt
follows_from cmp (Some last) k e = Less-from_is_lt (cmp last k) e

rises_from : {K : Type 0} (cmp : K → K → Ordering) (last : Option K) (k : K) → Follows cmp last k → rises cmp last k ≡ true
rises_from cmp None k follows = refl
rises_from cmp (Some last) k follows = ap is_lt follows

module _ (signature : List Control) (big : Big) where
  site_keeps : (place : Place) (n : ℕ) → Holds true (has_place big place) true (is_atomic signature big place) true n → SiteKeeps signature big place n
  site_keeps place n holds = record { there = holds.known_holds; not_in_atomic = holds.atomic_fails }

  site_holds : (place : Place) (n : ℕ) → SiteKeeps signature big place n → Holds true (has_place big place) true (is_atomic signature big place) true n
  site_holds place n keeps = record {
    follows_holds = λ e. refl;
    known_holds = keeps.there;
    ports_hold = λ e. refl;
    atomic_fails = keeps.not_in_atomic;
    rooted_holds = λ e. refl;
  }

  sites_judge : Judges (λ (place : Place). place) (λ last. site_code signature big) (λ last. SiteKeeps signature big)
  sites_judge = record {
    all = λ last place e any. site_keeps place any ((site_ladder place).all e any);
    breaks = λ last place n keeps. (site_ladder place).breaks n (site_holds place (site_code signature big place) keeps);
    lesser = λ last place other less. site_keeps place other ((site_ladder place).lesser other less);
  }
    where
      site_ladder : (place : Place) → Ladder true (has_place big place) true (is_atomic signature big place) true (site_code signature big place)
      site_ladder place = ladder true (has_place big place) true (is_atomic signature big place) true

  inner_keeps : (last : Option Name) (row : InnerRow) (n : ℕ) → Holds (rises name_cmp last row.name) (has_link big row.link) true false true n
      → InnerKeeps big last row n
  inner_keeps last row n holds = record {
    follows = λ e. follows_from name_cmp last row.name (holds.follows_holds e);
    link_there = holds.known_holds;
  }

  inner_holds : (last : Option Name) (row : InnerRow) (n : ℕ) → InnerKeeps big last row n
      → Holds (rises name_cmp last row.name) (has_link big row.link) true false true n
  inner_holds last row n keeps = record {
    follows_holds = λ e. rises_from name_cmp last row.name (keeps.follows e);
    known_holds = keeps.link_there;
    ports_hold = λ e. refl;
    atomic_fails = λ e. refl;
    rooted_holds = λ e. refl;
  }

  inner_judge : Judges (λ (row : InnerRow). row.name) (inner_code big) (InnerKeeps big)
  inner_judge = record {
    all = λ last row e any. inner_keeps last row any ((inner_ladder last row).all e any);
    breaks = λ last row n keeps. (inner_ladder last row).breaks n (inner_holds last row (inner_code big last row) keeps);
    lesser = λ last row other less. inner_keeps last row other ((inner_ladder last row).lesser other less);
  }
    where
      inner_ladder : (last : Option Name) (row : InnerRow) → Ladder (rises name_cmp last row.name) (has_link big row.link) true false true (inner_code big last row)
      inner_ladder last row = ladder (rises name_cmp last row.name) (has_link big row.link) true false true

  -- of rows that are judged by their order alone
  follows_ladder : {K : Type 0} (cmp : K → K → Ordering) (last : Option K) (k : K)
      → Ladder (rises cmp last k) true true false true (cond (not (rises cmp last k)) 3 0)
  follows_ladder cmp last k = ladder (rises cmp last k) true true false true

  follows_holds_at : {K : Type 0} (cmp : K → K → Ordering) (last : Option K) (k : K) (n : ℕ) → (n ≡ 3 → Follows cmp last k)
      → Holds (rises cmp last k) true true false true n
  follows_holds_at cmp last k n follows = record {
    follows_holds = λ e. rises_from cmp last k (follows e);
    known_holds = λ e. refl;
    ports_hold = λ e. refl;
    atomic_fails = λ e. refl;
    rooted_holds = λ e. refl;
  }

  outer_judge : Judges (λ (name : Name). name) outer_code OuterKeeps
  outer_judge = record {
    all = λ last name e any. record { follows = λ three. follows_from name_cmp last name (((follows_ladder name_cmp last name).all e any).follows_holds three) };
    breaks = λ last name n keeps. (follows_ladder name_cmp last name).breaks n (follows_holds_at name_cmp last name (outer_code last name) keeps.follows);
    lesser = λ last name other less. record {
      follows = λ three. follows_from name_cmp last name (((follows_ladder name_cmp last name).lesser other less).follows_holds three);
    };
  }

  edges_judge : Judges (λ (edge : ℕ). edge) edge_code EdgeKeeps
  edges_judge = record {
    all = λ last edge e any. record { follows = λ three. follows_from nat_cmp last edge (((follows_ladder nat_cmp last edge).all e any).follows_holds three) };
    breaks = λ last edge n keeps. (follows_ladder nat_cmp last edge).breaks n (follows_holds_at nat_cmp last edge (edge_code last edge) keeps.follows);
    lesser = λ last edge other less. record {
      follows = λ three. follows_from nat_cmp last edge (((follows_ladder nat_cmp last edge).lesser other less).follows_holds three);
    };
  }

  -- the tests of a node's row
  NodeHolds : Option ℕ → NodeRow → ℕ → Type 0
  NodeHolds last row n = Holds (rises nat_cmp last row.id) (is_known signature big row) (eqb (length row.links) (arity_of signature row.control))
      (is_atomic signature big row.parent) (is_rooted big row.id) n

  node_keeps : (last : Option ℕ) (row : NodeRow) (n : ℕ) → NodeHolds last row n → NodeKeeps signature big last row n
  unfolding NodeHolds
  node_keeps last row n holds = record {
    follows = λ e. follows_from nat_cmp last row.id (holds.follows_holds e);
    known = λ e.
        let parts = and_parts (ltb row.control (length signature) && has_place big row.parent) (list_all (has_link big) row.links) (holds.known_holds e) in
        let first = and_parts (ltb row.control (length signature)) (has_place big row.parent) parts.0 in record {
          control_there = ltb-true row.control (length signature) first.0;
          parent_there = first.1;
          links_there = parts.1;
        };
    ports_fit = λ e. eqb-true (length row.links) (arity_of signature row.control) (holds.ports_hold e);
    not_in_atomic = holds.atomic_fails;
    rooted = holds.rooted_holds;
  }

  node_holds : (last : Option ℕ) (row : NodeRow) (n : ℕ) → NodeKeeps signature big last row n → NodeHolds last row n
  unfolding NodeHolds
  node_holds last row n keeps = record {
    follows_holds = λ e. rises_from nat_cmp last row.id (keeps.follows e);
    known_holds = λ e.
        let known = keeps.known e in both (both (lt-ltb row.control (length signature) known.control_there) known.parent_there) known.links_there;
    ports_hold = λ e. eq-eqb (length row.links) (arity_of signature row.control) (keeps.ports_fit e);
    atomic_fails = keeps.not_in_atomic;
    rooted_holds = keeps.rooted;
  }

  nodes_judge : Judges (λ (row : NodeRow). row.id) (node_code signature big) (NodeKeeps signature big)
  unfolding NodeHolds
  nodes_judge = record {
    all = λ last row e any. node_keeps last row any ((node_ladder last row).all e any);
    breaks = λ last row n keeps. (node_ladder last row).breaks n (node_holds last row (node_code signature big last row) keeps);
    lesser = λ last row other less. node_keeps last row other ((node_ladder last row).lesser other less);
  }
    where
      node_ladder : (last : Option ℕ) (row : NodeRow)
          → Ladder (rises nat_cmp last row.id) (is_known signature big row) (eqb (length row.links) (arity_of signature row.control))
          (is_atomic signature big row.parent) (is_rooted big row.id) (node_code signature big last row)
      node_ladder last row = ladder (rises nat_cmp last row.id) (is_known signature big row) (eqb (length row.links) (arity_of signature row.control))
          (is_atomic signature big row.parent) (is_rooted big row.id)

  codes_of_sites : (places : List Place) → map (site_code signature big) places ≡ codes_from (λ (place : Place). place) (λ last. site_code signature big) None places
  codes_of_sites places = go None places
    where
      go : (last : Option Place) (places : List Place)
          → map (site_code signature big) places ≡ codes_from (λ (place : Place). place) (λ last. site_code signature big) last places
      go last [] = refl
      go last (place ∷ places) = ap (λ codes. site_code signature big place ∷ codes) (go (Some place) places)

  -- ---- the parts in their order

  sites_kept : sites_fault signature big ≡ None → AreKept signature big Sites
  unfolding sites_fault
  sites_kept none = all_kept _ _ _ sites_judge big.sites (ap first_fault (sym (codes_of_sites big.sites)) ∙ none)

  inner_kept : inner_fault big ≡ None → AreKept signature big Inner
  unfolding inner_fault
  inner_kept none = all_kept _ _ _ inner_judge big.inner none

  outer_kept : outer_fault big ≡ None → AreKept signature big Outer
  unfolding outer_fault
  outer_kept none = all_kept _ _ _ outer_judge big.outer none

  edges_kept : edges_fault big ≡ None → AreKept signature big Edges
  unfolding edges_fault
  edges_kept none = all_kept _ _ _ edges_judge big.edges none

  sites_first : (at code : ℕ) → sites_fault signature big ≡ Some (at, code) → IsFirstOf signature big Sites at code
  unfolding sites_fault
  sites_first at code found = first_to_break _ _ _ sites_judge big.sites at code (ap first_fault (sym (codes_of_sites big.sites)) ∙ found)

  inner_first : (at code : ℕ) → inner_fault big ≡ Some (at, code) → IsFirstOf signature big Inner at code
  unfolding inner_fault
  inner_first at code found = first_to_break _ _ _ inner_judge big.inner at code found

  outer_first : (at code : ℕ) → outer_fault big ≡ Some (at, code) → IsFirstOf signature big Outer at code
  unfolding outer_fault
  outer_first at code found = first_to_break _ _ _ outer_judge big.outer at code found

  edges_first : (at code : ℕ) → edges_fault big ≡ Some (at, code) → IsFirstOf signature big Edges at code
  unfolding edges_fault
  edges_first at code found = first_to_break _ _ _ edges_judge big.edges at code found

  nodes_first : (at code : ℕ) → nodes_fault signature big ≡ Some (at, code) → IsFirstOf signature big Nodes at code
  unfolding nodes_fault
  nodes_first at code found = first_to_break _ _ _ nodes_judge big.nodes at code found

  is_fault : Part × ℕ × ℕ → Type 0
  is_fault fault = IsFirstFault signature big fault.0 fault.1 fault.2

  told : (fault : Part × ℕ × ℕ) (part : Part) (at code : ℕ) → Some fault ≡ Some (part, at, code) → is_fault fault → IsFirstFault signature big part at code
  unfolding is_fault
  told fault part at code same first = subst (λ (f : Part × ℕ × ℕ). IsFirstFault signature big f.0 f.1 f.2) (same_Some _ _ same) first

  pub first_fault_is : (part : Part) (at code : ℕ) → fault_of signature big ≡ Some (part, at, code) → IsFirstFault signature big part at code
  unfolding fault_of is_fault
  first_fault_is part at code found =
      by (sites_fault signature big) refl (inner_fault big) refl (outer_fault big) refl (edges_fault big) refl (nodes_fault signature big) refl found
    where
      by : (s : Option (ℕ × ℕ)) → sites_fault signature big ≡ s → (i : Option (ℕ × ℕ)) → inner_fault big ≡ i → (o : Option (ℕ × ℕ)) → outer_fault big ≡ o
          → (e : Option (ℕ × ℕ)) → edges_fault big ≡ e → (n : Option (ℕ × ℕ)) → nodes_fault signature big ≡ n
          → or_else Sites s (or_else Inner i (or_else Outer o (or_else Edges e (or_else Nodes n None)))) ≡ Some (part, at, code)
          → IsFirstFault signature big part at code
      by (Some f) s_is i i_is o o_is e e_is n n_is same =
          told (Sites, f.0, f.1) part at code same (record { first = sites_first f.0 f.1 s_is; parts_before = tt })
      by None s_is (Some f) i_is o o_is e e_is n n_is same =
          told (Inner, f.0, f.1) part at code same (record { first = inner_first f.0 f.1 i_is; parts_before = sites_kept s_is })
      by None s_is None i_is (Some f) o_is e e_is n n_is same =
          told (Outer, f.0, f.1) part at code same (record { first = outer_first f.0 f.1 o_is; parts_before = (sites_kept s_is, inner_kept i_is) })
      by None s_is None i_is None o_is (Some f) e_is n n_is same =
          told (Edges, f.0, f.1) part at code same
          (record { first = edges_first f.0 f.1 e_is; parts_before = (sites_kept s_is, inner_kept i_is, outer_kept o_is) })
      by None s_is None i_is None o_is None e_is (Some f) n_is same =
          told (Nodes, f.0, f.1) part at code same
          (record { first = nodes_first f.0 f.1 n_is; parts_before = (sites_kept s_is, inner_kept i_is, outer_kept o_is, edges_kept e_is) })
      by None s_is None i_is None o_is None e_is None n_is same = cc
