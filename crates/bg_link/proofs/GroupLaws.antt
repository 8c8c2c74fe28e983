-- Laws of points in groups by their links: the points of one link are a part of the points by the positions of links.
use Rattle.std.proofs.Common.{◌≡◌, ℕ, ◌+◌, ◌-◌, ◌<◌, ◌≤◌, ◌==◌, Bool, true, false, List, length, map, filter, take, drop, get_or, sym, ap, subst, ◌∙◌, arith, ltb, leb, is_lt, nat_cmp}
use Rattle.std.specs.List.Sorted.{IsPartitionPoint, IsPartitionedBy, IsNonDecreasingBy, IsStableBy}
use Rattle.std.proofs.lemmas.List.{length-map, get_or-map, drop-map, take-map}
use Rattle.std.proofs.lemmas.List.Sorted.{IsPartitionedBy-ltb, IsPartitionedBy-leb, IsNonDecreasingBy-drop, IsNonDecreasingBy-take}
use Rattle.std.proofs.Math.ListN.{get_or-map as get_or-mapped}
use Rattle.bg_lists.proofs.Members.{map-map, filter_agree_on, filter-map}
use Rattle.bg_lists.proofs.Places.{At-total}
use Rattle.bg_lists.proofs.Groups.{stable_group, group_found}
use Rattle.bg_lists.proofs.Words.{All-member}
use Rattle.bg_base.specs.declared.names.Name.{Name}
use Rattle.bg_base.specs.declared.names.Link.{Link}
use Rattle.bg_base.specs.Products.{same_link}
use Rattle.bg_link.specs.declared.graph.Links.{Links}
use Rattle.bg_link.specs.declared.graph.Point.{Point}
use Rattle.bg_link.specs.declared.graph.Point.TheVariants.{Port}
use Rattle.bg_link.specs.declared.points.RankedPoint.{RankedPoint}
use Rattle.bg_link.specs.Links.{all_points, point_of, points_of}
use Rattle.bg_link.specs.Rows.{is_there, link_rank, ranked, ranked_points, rank_of, point_alone, IsGrouped, IsLinked, IsWired}
use Rattle.bg_link.proofs.RankLaws.{same_rank}

-- ---- the points of one position are those of the link

pub points_of_rank : (links : Links) (link : Link) → IsLinked links
    → map point_alone (filter (λ (row : RankedPoint). row.rank == link_rank links.edges links.outer link) (ranked_points links)) ≡ points_of links link
points_of_rank links link linked =
    let place = link_rank links.edges links.outer in
    let tie = ranked links.edges links.outer in
    let at : Point × Link → Bool = λ tied. place tied.1 == place link in
    let same : Point × Link → Bool = λ tied. same_link tied.1 link in
    ap (map point_alone) (filter-map tie (λ (row : RankedPoint). row.rank == place link) (all_points links))
    ∙ map-map tie point_alone (filter at (all_points links))
    ∙ ap (map point_of) (filter_agree_on at same (all_points links)
    (λ tied m. sym (same_rank links.edges links.outer tied.1 link
    (All-member (λ (t : Point × Link). is_there links.edges links.outer t.1 ≡ true) (all_points links) linked.tied_there m))))

-- ---- two searches of the positions

on_rows : (P Q : ℕ → Type 0) (rows : List RankedPoint) (ranks : List ℕ) (count : ℕ) → ranks ≡ map rank_of rows → IsPartitionPoint P Q ranks count
    → IsPartitionPoint (λ (row : RankedPoint). P (rank_of row)) (λ (row : RankedPoint). Q (rank_of row)) rows count
on_rows P Q rows ranks count e parts =
    let moved : IsPartitionPoint P Q (map rank_of rows) count = subst (λ xs. IsPartitionPoint P Q xs count) e parts in
    let long = length-map rows rank_of in (
      λ k d from less. subst P (get_or-mapped rank_of rows k d) (moved.0 k (rank_of d) from less),
      λ k d least below. subst Q (get_or-mapped rank_of rows k d) (moved.1 k (rank_of d) least (omega (arith, below, long))),
    )

ranks_rise : (rows : List RankedPoint) → IsNonDecreasingBy rank_of rows → IsNonDecreasingBy (λ (rank : ℕ). rank) (map rank_of rows)
ranks_rise rows rise =
    λ i j d le below.
    let inside : j < length rows = omega (arith, below, length-map rows rank_of) in
    let row = (At-total rows j inside).0 in
    let low : get_or (map rank_of rows) i d ≡ rank_of (get_or rows i row) = get_or-map rank_of rows i row d (omega arith) in
    let high : get_or (map rank_of rows) j d ≡ rank_of (get_or rows j row) = get_or-map rank_of rows j row d inside in
    let order : rank_of (get_or rows i row) ≤ rank_of (get_or rows j row) = rise i j row le inside in
    omega (arith, low, high, order)

-- the part of the points that two searches of the positions find
pub found_part : (links : Links) (ranks : List ℕ) (points : List Point) (wanted start count : ℕ) → IsGrouped links ranks points → start ≤ length ranks
    → (IsPartitionedBy (λ (rank : ℕ). ltb rank wanted) ranks
    → IsPartitionPoint (λ (rank : ℕ). ltb rank wanted ≡ true) (λ (rank : ℕ). ltb rank wanted ≡ false) ranks start)
    → (IsPartitionedBy (λ (rank : ℕ). leb rank wanted) (take (length ranks - start) (drop start ranks))
    → IsPartitionPoint (λ (rank : ℕ). leb rank wanted ≡ true) (λ (rank : ℕ). leb rank wanted ≡ false) (take (length ranks - start) (drop start ranks)) count)
    → take (start + count - start) (drop start points) ≡ map point_alone (filter (λ (row : RankedPoint). row.rank == wanted) (ranked_points links))
found_part links ranks points wanted start count grouped inside lower upper =
    let rows = grouped.rows in
    let rise : IsNonDecreasingBy (λ (rank : ℕ). rank) ranks
    = subst (IsNonDecreasingBy (λ (rank : ℕ). rank)) (sym grouped.ranks_are) (ranks_rise rows grouped.rise) in
    let long : length ranks ≡ length rows = ap length grouped.ranks_are ∙ length-map rows rank_of in
    let part = take (length rows - start) (drop start rows) in
    let part_ranks = take (length ranks - start) (drop start ranks) in
    let same_part : part_ranks ≡ map rank_of part
    = ap (λ n. take (n - start) (drop start ranks)) long ∙ ap (λ xs. take (length rows - start) (drop start xs)) grouped.ranks_are
    ∙ ap (take (length rows - start)) (drop-map rank_of start rows) ∙ take-map rank_of (length rows - start) (drop start rows) in
    let low = lower (IsPartitionedBy-ltb (λ (rank : ℕ). rank) ranks wanted rise) in
    let high = upper (IsPartitionedBy-leb (λ (rank : ℕ). rank) part_ranks wanted
    (IsNonDecreasingBy-take (λ (rank : ℕ). rank) (length ranks - start) (drop start ranks) (IsNonDecreasingBy-drop (λ (rank : ℕ). rank) start ranks rise))) in
    group_found rank_of point_alone rows points grouped.rise grouped.points_are wanted start count (omega (arith, inside, long))
    (λ _. on_rows (λ rank. ltb rank wanted ≡ true) (λ rank. ltb rank wanted ≡ false) rows ranks start grouped.ranks_are low)
    (λ _. on_rows (λ rank. leb rank wanted ≡ true) (λ rank. leb rank wanted ≡ false) part part_ranks count same_part high)
    ∙ ap (map point_alone) (grouped.same wanted)

-- what a stable sort by the positions leaves
pub grouped_by : (links : Links) (sorted : List RankedPoint) (ranks : List ℕ) (points : List Point)
    → IsNonDecreasingBy rank_of sorted → IsStableBy (λ x y. is_lt (nat_cmp (rank_of x) (rank_of y))) (ranked_points links) sorted
    → ranks ≡ map rank_of sorted → points ≡ map point_alone sorted → IsGrouped links ranks points
grouped_by links sorted ranks points rise stable ranks_are points_are =
    record {
      rows = sorted;
      rise = rise;
      ranks_are = ranks_are;
      points_are = points_are;
      same = λ rank. let row : RankedPoint = record { point = Port 0 0; rank = rank } in stable_group rank_of (ranked_points links) sorted stable row;
    }

-- the points are as many as their positions
pub as_many : (links : Links) (ranks : List ℕ) (points : List Point) → IsGrouped links ranks points → length points ≡ length ranks
as_many links ranks points grouped =
    ap length grouped.points_are ∙ length-map grouped.rows point_alone ∙ sym (length-map grouped.rows rank_of) ∙ sym (ap length grouped.ranks_are)

-- the same, as two searches answer
pub found_points : (links : Links) (all : List ℕ) (points : List Point) (ranks : List ℕ) (parts : List Point) (edges : List ℕ) (outer : List Name) (link : Link)
    (wanted start count : ℕ) → IsWired links all points → ranks ≡ all → parts ≡ points → edges ≡ links.edges → outer ≡ links.outer
    → wanted ≡ link_rank edges outer link → start ≤ length ranks
    → (IsPartitionedBy (λ (rank : ℕ). ltb rank wanted) ranks
    → IsPartitionPoint (λ (rank : ℕ). ltb rank wanted ≡ true) (λ (rank : ℕ). ltb rank wanted ≡ false) ranks start)
    → (IsPartitionedBy (λ (rank : ℕ). leb rank wanted) (take (length ranks - start) (drop start ranks))
    → IsPartitionPoint (λ (rank : ℕ). leb rank wanted ≡ true) (λ (rank : ℕ). leb rank wanted ≡ false) (take (length ranks - start) (drop start ranks)) count)
    → take (start + count - start) (drop start parts) ≡ points_of links link
found_points links all points ranks parts edges outer link wanted start count wired same_ranks same_points same_edges same_outer is inside lower upper =
    let grouped : IsGrouped links ranks points = subst (λ xs. IsGrouped links xs points) (sym same_ranks) wired.grouped in
    let at : wanted ≡ link_rank links.edges links.outer link
    = is ∙ ap (λ xs. link_rank xs outer link) same_edges ∙ ap (λ names. link_rank links.edges names link) same_outer in
    ap (λ xs. take (start + count - start) (drop start xs)) same_points
    ∙ found_part links ranks points wanted start count grouped inside lower upper
    ∙ ap (λ rank. map point_alone (filter (λ (row : RankedPoint). row.rank == rank) (ranked_points links))) at
    ∙ points_of_rank links link wired.linked
