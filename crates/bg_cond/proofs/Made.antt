-- How a piece is made.
use Rattle.std.proofs.Common.{◌≡◌, ℕ, ◌+◌, ◌<◌, ◌==◌, true, false, Some, None, is_some, is_ok, Result, List, [], ◌∷◌, ◌++◌, length, get_or, drop, map, nat_cmp, if◌then◌else◌, refl, sym, ap, subst, ◌∙◌, arith}
use Rattle.std.specs.List.Sorted.{IsSorted, IsSearchInRange, IsBinarySearchResult}
use Rattle.std.proofs.lemmas.List.{append_assoc, append-nil, drop_more}
use Rattle.std.proofs.lemmas.List.Sorted.{list_any-IsPermutation, IsPermutation-refl}
use Rattle.bg_lists.specs.Lists.{Mem}
use Rattle.bg_lists.proofs.Words.{found_any}
use Rattle.bg_base.specs.declared.names.Name.TheVariants.{Opened}
use Rattle.bg_base.specs.declared.names.Place.{Place}
use Rattle.bg_base.specs.declared.names.Link.{Link}
use Rattle.bg_base.specs.declared.names.Link.TheVariants.{Edge, Outer}
use Rattle.bg_base.specs.declared.big.NodeRow.{NodeRow}
use Rattle.bg_base.specs.Bigraph.{row_of}
use Rattle.bg_base.specs.Lookup.{IsSortedCopy}
use Rattle.bg_base.specs.Translation.{node_numbers}
use Rattle.bg_base.proofs.LookUps.{row_from_row_of, has_row}
use Rattle.bg_base.proofs.SearchLaws.{edge_searched}
use Rattle.bg_rules.specs.Instantiation.{is_among}
use Rattle.bg_rules.proofs.Patterns.{number_mem, number_row}
use Rattle.bg_rules.proofs.Upwards.{is_among-member, is_among-none}
use Rattle.bg_cond.specs.Pieces.{hole_control, holes, link_opened, links_at, piece_row}

-- ---- searches

pub has_searched : (sorted : List ℕ) (number : ℕ) (r : Result ℕ ℕ) → IsSorted nat_cmp sorted
    → IsSearchInRange r (length sorted) → IsBinarySearchResult (λ y. nat_cmp y number) sorted r → is_ok r ≡ is_among number sorted
has_searched sorted number r up range at =
    edge_searched sorted sorted number r (record { same = IsPermutation-refl sorted; sorted = up }) range at
    ∙ found_any (λ other. other == number) sorted

pub found_among : {row : NodeRow} (rows : List NodeRow) (node : ℕ) → row_of rows node ≡ Some row → true ≡ is_among node (node_numbers rows)
found_among rows node e =
    let w = row_from_row_of rows node e in
    sym (is_among-member (node_numbers rows) (subst (λ n. Mem n (node_numbers rows)) w.1 (number_mem w.0)))

pub lost_among : (rows : List NodeRow) (node : ℕ) → row_of rows node ≡ None → false ≡ is_among node (node_numbers rows)
lost_among rows node e =
    sym (is_among-none (node_numbers rows) node
    (λ m. let w = number_row rows m in
    let bad : true ≡ false = sym (has_row rows w.1 w.2) ∙ ap is_some e in cc))

-- ---- a sorted copy opens the same edges

module _ (xs ys : List ℕ) (copy : IsSortedCopy nat_cmp xs ys) where
  pub same_among : (number : ℕ) → is_among number ys ≡ is_among number xs
  same_among number = sym (list_any-IsPermutation (λ other. other == number) xs ys copy.same)

  opened_same : (link : Link) → link_opened ys link ≡ link_opened xs link
  opened_same (Edge edge) = ap (λ b. if b then Outer (Opened edge) else Edge edge) (same_among edge)
  opened_same (Outer name) = refl

  pub rows_same : (rows part : List NodeRow) → map (piece_row rows ys) part ≡ map (piece_row rows xs) part
  rows_same rows part =
      λ t. map (λ (row : NodeRow). record row { links = map (λ link. opened_same link t) (links_at rows row.id) }) part

-- ---- holes

pub holes_next : (first at : ℕ) (places : List Place) (default : Place) (links : List Link) (rows new whole : List NodeRow) → at < length places → links ≡ []
    → rows ++ holes (first + at) (drop at places) ≡ whole
    → new ≡ rows ++ record { id = first + at; control = hole_control; parent = get_or places at default; links = links } ∷ []
    → new ++ holes (first + (at + 1)) (drop (at + 1) places) ≡ whole
unfolding holes
holes_next first at places default links rows new whole below none before pushed =
    let place = get_or places at default in
    let hole : NodeRow = record { id = first + at; control = hole_control; parent = place; links = [] } in
    let number : first + (at + 1) ≡ first + at + 1 = omega arith in
    ap (λ rs. rs ++ holes (first + (at + 1)) (drop (at + 1) places))
    (pushed ∙ ap (λ ls. rows ++ record { id = first + at; control = hole_control; parent = place; links = ls } ∷ []) none)
    ∙ append_assoc rows (hole ∷ []) (holes (first + (at + 1)) (drop (at + 1) places))
    ∙ ap (λ n. rows ++ hole ∷ holes n (drop (at + 1) places)) number
    ∙ ap (λ ps. rows ++ holes (first + at) ps) (sym (drop_more places at default below)) ∙ before

pub holes_end : (first at : ℕ) (places : List Place) (rows whole : List NodeRow) → drop at places ≡ [] → rows ++ holes (first + at) (drop at places) ≡ whole → rows ≡ whole
unfolding holes
holes_end first at places rows whole none before =
    sym (append-nil rows) ∙ ap (λ ps. rows ++ holes (first + at) ps) (sym none) ∙ before
