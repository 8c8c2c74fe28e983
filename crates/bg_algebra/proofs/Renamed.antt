-- A valid bigraph whose nodes and edges are numbered anew is valid.
use Rattle.std.proofs.Common.{◌≡◌, ℕ, ◌==◌, true, false, Bool, List, [], ◌∷◌, map, length, nat_cmp, Less, refl, sym, subst, ◌∙◌, arith, eq-eqb, get_or, MatchResult, Result, Ok, Err, Some, is_some, eqb-true, ap}
use Rattle.std.specs.Ordering.{eq_by_cmp}
use Rattle.std.specs.List.{IsDistinct}
use Rattle.std.specs.List.Sorted.{IsStrictlySortedBy}
use Rattle.std.proofs.lemmas.Bool.{cond_both, cond-true, cond-false, false_from_ne_true, false≢true}
use Rattle.std.proofs.lemmas.Cmp.{nat_cmp_total}
use Rattle.std.proofs.lemmas.List.{length-map}
use Rattle.std.specs.List.Sorted.{IsSearchInRange, IsBinarySearchResult}
use Rattle.bg_lists.specs.Lists.{Mem, here, there, sort}
use Rattle.bg_lists.specs.Orders.{before}
use Rattle.bg_lists.proofs.Comparisons.{eqb-nat_cmp}
use Rattle.bg_lists.specs.Lists.{At, at_here, at_there}
use Rattle.bg_lists.proofs.Places.{Mem-from_At, At-total, At-same, At-map, get_or-At}
use Rattle.bg_lists.proofs.Searches.{find-search}
use Rattle.bg_lists.proofs.Members.{Mem-map, Mem-unmap, map_agree, map-map}
use Rattle.bg_lists.proofs.Ascents.{Ascending-from_sorted, sorted_from_Ascending, Ascending-map, all_of_members, member_of_all}
use Rattle.bg_lists.proofs.Sorting.{Mem-sort, Mem-unsort, Ascending-sort, IsDistinct-from_Ascending, IsDistinct-members}
use Rattle.bg_base.specs.declared.names.Link.{Link}
use Rattle.bg_base.specs.declared.names.Link.TheVariants.{Edge, Outer}
use Rattle.bg_base.specs.declared.big.NodeRow.{NodeRow}
use Rattle.bg_base.specs.declared.big.InnerRow.{InnerRow}
use Rattle.bg_base.specs.declared.big.Big.{Big}
use Rattle.bg_base.specs.declared.signature.Control.{Control}
use Rattle.bg_base.specs.Bigraph.{IsValid, IsValidUnder, node_cmp, inner_cmp, has_place, has_link, is_atomic}
use Rattle.bg_base.specs.Translation.{number_renamed, node_numbers, place_renamed, link_renamed, row_renamed, inner_renamed, rename}
use Rattle.bg_base.proofs.LookUps.{node_cmp_total, has_row, has_edge, has_region, member_from_has_edge, member_from_edge_of, row_from_row_of, row_of-search, edge_of-search}
use Rattle.bg_base.proofs.Climbs.{at_region}
use Rattle.bg_algebra.proofs.Parts.{IsPart, IsSound, Fits, valid_from_rows, valid_under_from_rows, row_sound, site_there, inner_link_there, row_fits, site_fits}
use Rattle.bg_algebra.proofs.Changes.{mapped}

-- ---- the number that stands where another does

along-here : (x y : ℕ) (xs ys : List ℕ) → number_renamed (x ∷ xs) (y ∷ ys) x ≡ y
unfolding number_renamed
along-here x y xs ys = cond-true (x == x) y (number_renamed xs ys x) (eq-eqb x x refl)

along-there : (x y old : ℕ) (xs ys : List ℕ) → (x == old) ≡ false → number_renamed (x ∷ xs) (y ∷ ys) old ≡ number_renamed xs ys old
unfolding number_renamed
along-there x y old xs ys e = cond-false (x == old) y (number_renamed xs ys old) e

pub Mem-along : {x : ℕ} (xs ys : List ℕ) → length xs ≡ length ys → Mem x xs → Mem (number_renamed xs ys x) ys
unfolding number_renamed
Mem-along [] ys long m = elim m [ ]
Mem-along (x ∷ xs) [] long m = absurd (omega arith)
Mem-along {x = z} (x ∷ xs) (y ∷ ys) long (here e) =
    subst (λ v. Mem (number_renamed (x ∷ xs) (y ∷ ys) v) (y ∷ ys)) e (here (sym (along-here x y xs ys)))
Mem-along {x = z} (x ∷ xs) (y ∷ ys) long (there m) =
    cond_both (x == z) y (number_renamed xs ys z) (λ v. Mem v (y ∷ ys)) (λ _. here refl) (λ _. there (Mem-along xs ys (omega arith) m))

numbers_apart : (x z : ℕ) → eq_by_cmp nat_cmp x z ≡ false → (x == z) ≡ false
numbers_apart x z e = eqb-nat_cmp x z ∙ e

-- the numbers of the first list become those of the second
pub map-along : (xs ys : List ℕ) → length xs ≡ length ys → IsDistinct (eq_by_cmp nat_cmp) xs → map (number_renamed xs ys) xs ≡ ys
map-along [] [] long distinct = refl
map-along [] (y ∷ ys) long distinct = absurd (omega arith)
map-along (x ∷ xs) [] long distinct = absurd (omega arith)
map-along (x ∷ xs) (y ∷ ys) long distinct =
    let w = IsDistinct-members (eq_by_cmp nat_cmp) x xs distinct in
    let head = along-here x y xs ys in
    let tail = map_agree (number_renamed (x ∷ xs) (y ∷ ys)) (number_renamed xs ys) xs (λ z m. along-there x y z xs ys (numbers_apart x z (w.0 z m)))
    ∙ map-along xs ys (omega arith) w.1 in cc

-- ---- members that are apart by a key

pub IsDistinct-unmap : {X Y : Type 0} (same : X → X → Bool) (alike : Y → Y → Bool) (f : X → Y) (xs : List X)
    → ((x y : X) → same x y ≡ alike (f x) (f y)) → IsDistinct alike (map f xs) → IsDistinct same xs
unfolding IsDistinct
IsDistinct-unmap same alike f [] keeps d = tt
IsDistinct-unmap same alike f (x ∷ xs) keeps d = (
  all_of_members (λ y. same x y ≡ false) xs (λ y m. keeps x y ∙ member_of_all (λ z. alike (f x) z ≡ false) (map f xs) d.0 (f y) (Mem-map f m)),
  IsDistinct-unmap same alike f xs keeps d.1,
)

module _ (big : Big) (nodes edges : List ℕ) (valid : IsValid big) (nodes_long : length big.nodes ≡ length nodes)
    (edges_long : length big.edges ≡ length edges) where
  pub renamed_numbers : map (λ (row : NodeRow). row.id) (map (row_renamed big nodes edges) big.nodes) ≡ nodes
  renamed_numbers =
      let ids = node_numbers big.nodes in
      let up = Ascending-map {Under = λ x y. nat_cmp x y ≡ Less} (λ (row : NodeRow). row.id) big.nodes (λ x y less. less) (Ascending-from_sorted big.nodes valid.nodes_ascend) in
      map-map (row_renamed big nodes edges) (λ (row : NodeRow). row.id) big.nodes
      ∙ sym (map-map (λ (row : NodeRow). row.id) (number_renamed ids nodes) big.nodes)
      ∙ map-along ids nodes (length-map big.nodes (λ (row : NodeRow). row.id) ∙ nodes_long) (IsDistinct-from_Ascending ids up)

  module _ (nodes_differ : IsDistinct (eq_by_cmp nat_cmp) nodes) (edges_differ : IsDistinct (eq_by_cmp nat_cmp) edges) where
    pub renamed_distinct : IsDistinct (eq_by_cmp node_cmp) (map (row_renamed big nodes edges) big.nodes)
    renamed_distinct =
        IsDistinct-unmap (eq_by_cmp node_cmp) (eq_by_cmp nat_cmp) (λ (row : NodeRow). row.id) (map (row_renamed big nodes edges) big.nodes)
        (λ x y. refl) (subst (IsDistinct (eq_by_cmp nat_cmp)) (sym renamed_numbers) nodes_differ)

    renamed_up : IsStrictlySortedBy node_cmp (rename big nodes edges).nodes
    unfolding rename
    renamed_up =
        sorted_from_Ascending (sort (before node_cmp) (map (row_renamed big nodes edges) big.nodes))
        (Ascending-sort node_cmp_total (map (row_renamed big nodes edges) big.nodes) renamed_distinct)

    renamed_link : (link : Link) → has_link big link ≡ true → has_link (rename big nodes edges) (link_renamed big edges link) ≡ true
    unfolding rename
    renamed_link (Edge edge) has =
        has_edge (sort (before nat_cmp) edges)
        (Mem-sort (before nat_cmp) edges (Mem-along big.edges edges edges_long (member_from_has_edge big.edges edge has)))
    renamed_link (Outer name) has = has

    renamed_part : IsPart big (rename big nodes edges) (place_renamed big nodes) (link_renamed big edges) (row_renamed big nodes edges)
    unfolding rename
    renamed_part =
        record {
          row_there = λ row m. Mem-sort (before node_cmp) (map (row_renamed big nodes edges) big.nodes) (Mem-map (row_renamed big nodes edges) m);
          number = λ row m. refl;
          control = λ row. refl;
          parent = λ row. refl;
          links = λ row. refl;
          region_there = λ region below. has_region (rename big nodes edges) below;
          region_climb = λ region below. at_region refl below;
          link_there = λ row link m k has. renamed_link link has;
          inner_link_there = λ row m has. renamed_link row.link has;
        }

    each_row : (P : NodeRow → Type 0) → ((row : NodeRow) → Mem row big.nodes → P (row_renamed big nodes edges row))
        → (row : NodeRow) → Mem row (rename big nodes edges).nodes → P row
    unfolding rename
    each_row P each row m =
        mapped (row_renamed big nodes edges) P big.nodes each row (Mem-unsort (before node_cmp) (map (row_renamed big nodes edges) big.nodes) m)

    pub rename_valid : IsValid (rename big nodes edges)
    unfolding rename
    rename_valid =
        valid_from_rows (rename big nodes edges) renamed_up
        (sorted_from_Ascending (sort (before nat_cmp) edges) (Ascending-sort nat_cmp_total edges edges_differ))
        (sorted_from_Ascending {cmp = inner_cmp} (map (inner_renamed big edges) big.inner)
        (Ascending-map (inner_renamed big edges) big.inner (λ x y less. less) (Ascending-from_sorted big.inner valid.inner_ascends)))
        valid.outer_ascends
        (each_row (IsSound (rename big nodes edges)) (row_sound renamed_up renamed_part valid))
        (mapped (place_renamed big nodes) (λ place. has_place (rename big nodes edges) place ≡ true) big.sites (site_there renamed_up renamed_part valid))
        (mapped (inner_renamed big edges) (λ (row : InnerRow). has_link (rename big nodes edges) row.link ≡ true) big.inner
        (inner_link_there renamed_up renamed_part valid))

    pub rename_valid_under : (signature : List Control) → IsValidUnder signature big → IsValidUnder signature (rename big nodes edges)
    unfolding rename
    rename_valid_under signature fits =
        valid_under_from_rows signature (rename big nodes edges) rename_valid
        (each_row (Fits signature (rename big nodes edges)) (row_fits renamed_up renamed_part signature fits (λ region below. refl)))
        (mapped (place_renamed big nodes) (λ place. is_atomic signature (rename big nodes edges) place ≡ false) big.sites
        (site_fits renamed_up renamed_part signature fits (λ region below. refl)))

-- ---- as a binary search finds it

pub along-at : {x i : ℕ} (xs ys : List ℕ) (d : ℕ) → IsDistinct (eq_by_cmp nat_cmp) xs → length xs ≡ length ys → At x i xs → number_renamed xs ys x ≡ get_or ys i d
along-at [] ys d distinct long a = elim a [ ]
along-at (x ∷ xs) [] d distinct long a = absurd (omega arith)
along-at (x ∷ xs) (y ∷ ys) d distinct long (at_here e) = subst (λ v. number_renamed (x ∷ xs) (y ∷ ys) v ≡ y) e (along-here x y xs ys)
along-at {x = z} (x ∷ xs) (y ∷ ys) d distinct long (at_there a) =
    let w = IsDistinct-members (eq_by_cmp nat_cmp) x xs distinct in
    along-there x y z xs ys (numbers_apart x z (w.0 z (Mem-from_At a))) ∙ along-at xs ys d w.1 (omega arith) a

pub along-nowhere : (xs ys : List ℕ) (x : ℕ) → (Mem x xs → ⊥) → number_renamed xs ys x ≡ x
unfolding number_renamed
along-nowhere [] ys x none = refl
along-nowhere (z ∷ zs) [] x none = refl
along-nowhere (z ∷ zs) (y ∷ ys) x none =
    along-there z y x zs ys (false_from_ne_true (z == x) (λ e. none (here (eqb-true z x e)))) ∙ along-nowhere zs ys x (λ m. none (there m))

pub along-node : (rows : List NodeRow) (ys : List ℕ) (node d : ℕ) → IsStrictlySortedBy node_cmp rows → length rows ≡ length ys → (r : Result ℕ ℕ)
    → IsSearchInRange r (length rows) → IsBinarySearchResult (λ (row : NodeRow). nat_cmp row.id node) rows r
    → MatchResult r (λ at. number_renamed (node_numbers rows) ys node ≡ get_or ys at d) (λ _. number_renamed (node_numbers rows) ys node ≡ node)
along-node rows ys node d up long (Ok at) range answer =
    let w = At-total rows at range in
    let found = row_of-search rows node up (Ok at) range answer in
    let first : get_or rows at w.0 ≡ w.0 = get_or-At rows w.0 w.1 in
    let same : w.0.id ≡ node = (row_from_row_of rows node (found w.0 ∙ ap Some first)).1 in
    let ids_up = Ascending-map {Under = λ x y. nat_cmp x y ≡ Less} (λ (row : NodeRow). row.id) rows (λ x y less. less) (Ascending-from_sorted rows up) in
    along-at (node_numbers rows) ys d (IsDistinct-from_Ascending (node_numbers rows) ids_up) (length-map rows (λ (row : NodeRow). row.id) ∙ long)
    (At-same same (At-map (λ (row : NodeRow). row.id) w.1))
along-node rows ys node d up long (Err at) range answer =
    let none = row_of-search rows node up (Err at) range answer in
    along-nowhere (node_numbers rows) ys node
    (λ m. let w = Mem-unmap (λ (row : NodeRow). row.id) rows m in
    false≢true (sym (ap is_some none) ∙ has_row rows w.1 w.2))

pub along-edge : (xs ys : List ℕ) (edge d : ℕ) → IsStrictlySortedBy nat_cmp xs → length xs ≡ length ys → (r : Result ℕ ℕ)
    → IsSearchInRange r (length xs) → IsBinarySearchResult (λ other. nat_cmp other edge) xs r
    → MatchResult r (λ at. number_renamed xs ys edge ≡ get_or ys at d) (λ _. number_renamed xs ys edge ≡ edge)
along-edge xs ys edge d up long (Ok at) range answer =
    let w = At-total xs at range in
    let found = find-search nat_cmp_total (λ other. other) edge (λ (other : ℕ). other == edge) (λ other. eqb-nat_cmp other edge) xs (Ascending-from_sorted xs up) (Ok at) range answer in
    let first : get_or xs at w.0 ≡ w.0 = get_or-At xs w.0 w.1 in
    let same : w.0 ≡ edge = (member_from_edge_of xs edge (found w.0 ∙ ap Some first)).1 in
    along-at xs ys d (IsDistinct-from_Ascending xs (Ascending-from_sorted xs up)) long (At-same same w.1)
along-edge xs ys edge d up long (Err at) range answer =
    let none = edge_of-search xs edge up (Err at) range answer in
    along-nowhere xs ys edge (λ m. false≢true (none ∙ has_edge xs m))
