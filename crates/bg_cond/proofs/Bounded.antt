-- A piece is a ground bigraph: it is valid whatever part of the host it is made of, where that part is valid and its
-- nodes are nodes of the host.
use Rattle.std.proofs.Common.{◌≡◌, true, List, [], ◌++◌, unwrap_or, option_map, nat_cmp, Less, refl, sym, ap, subst, inl, inr}
use Rattle.std.specs.List.{list_all}
use Rattle.std.specs.List.Sorted.{IsStrictlySortedBy}
use Rattle.std.proofs.lemmas.Cmp.{nat_cmp_total}
use Rattle.std.proofs.lemmas.Map.Lookups.{exact_unsigned}
use Rattle.bg_lists.specs.Lists.{Mem}
use Rattle.bg_lists.specs.Orders.{Ascending}
use Rattle.bg_lists.proofs.Members.{Mem-map, Mem-unmap, Mem-append_left, Mem-append_cases}
use Rattle.bg_lists.proofs.Ascents.{Ascending-append, Ascending-map, Ascending-from_sorted, sorted_from_Ascending}
use Rattle.bg_lists.proofs.Words.{list_all-from_members}
use Rattle.bg_base.specs.declared.names.Place.{Place}
use Rattle.bg_base.specs.declared.names.Link.{Link}
use Rattle.bg_base.specs.declared.names.Link.TheVariants.{Edge, Outer}
use Rattle.bg_base.specs.declared.big.NodeRow.{NodeRow}
use Rattle.bg_base.specs.declared.big.Big.{Big}
use Rattle.bg_base.specs.Order.{name_cmp}
use Rattle.bg_base.specs.Bigraph.{IsValid, IsGround, node_cmp, has_place, has_link}
use Rattle.bg_base.specs.Translation.{node_numbers}
use Rattle.bg_base.proofs.LookUps.{has_edge, has_outer, row_of-member, row_from_row_of}
use Rattle.bg_base.proofs.Climbs.{Climb, at_region, at_node, Climb-from_place}
use Rattle.bg_algebra.proofs.Parts.{IsSound, valid_from_rows}
use Rattle.bg_rules.proofs.Parameters.{place_of_climb}
use Rattle.bg_rules.proofs.Patterns.{parent_there}
use Rattle.bg_base.proofs.NameLaws.{same_name}
use Rattle.bg_base.specs.OrderLaws.{name_cmp_total}
use Rattle.bg_lists.proofs.Sets.{Mem-set_of, Ascending-set_of}
use Rattle.bg_cond.specs.Pieces.{tied_edges, tied_names, edges_outside, links_at, piece_row, piece_rows, piece}
use Rattle.bg_cond.proofs.Openings.{edge_in_rows, name_in_rows}

-- what may bound a part: the rows of the part are rows of the host by their numbers, the holes come after them, lie in
-- places of the part and have no port
pub record IsPartOf (host part : Big) (holed : List NodeRow) : Type 0 where
  pub valid : IsValid part
  pub rows_there : (row : NodeRow) → Mem row part.nodes → (other : NodeRow) × Mem other host.nodes × (other.id ≡ row.id)
  pub holes_ascend : Ascending (λ x y. node_cmp x y ≡ Less) holed
  pub holes_after : (row hole : NodeRow) → Mem row part.nodes → Mem hole holed → node_cmp row hole ≡ Less
  pub hole_place : (hole : NodeRow) → Mem hole holed → has_place part hole.parent ≡ true
  pub no_ports : (hole : NodeRow) → Mem hole holed → hole.links ≡ []

-- the links of a row of the part are those of its row in the host
pub links_are : (host : Big) → IsValid host → (row other : NodeRow) → Mem other host.nodes → other.id ≡ row.id → links_at host.nodes row.id ≡ other.links
links_are host valid row other m e =
    ap (λ o. unwrap_or (option_map (λ (r : NodeRow). r.links) o) []) (row_of-member host.nodes valid.nodes_ascend m e)

pub row_there : (host part : Big) (holed : List NodeRow) {row : NodeRow} → Mem row part.nodes
    → Mem (piece_row host.nodes (edges_outside host.nodes (node_numbers part.nodes)) row) (piece host part holed).nodes
row_there host part holed m =
    Mem-append_left (piece_rows host.nodes part.nodes) holed (Mem-map (piece_row host.nodes (edges_outside host.nodes (node_numbers part.nodes))) m)

module _ (host part : Big) (holed : List NodeRow) (host_valid : IsValid host)
    (is : IsPartOf host part holed) where
  abbrev rows : List NodeRow
  rows = piece_rows host.nodes part.nodes ++ holed

  abbrev made : Big
  made = piece host part holed

  pub piece_up : IsStrictlySortedBy node_cmp made.nodes
  piece_up =
      sorted_from_Ascending {cmp = node_cmp} rows
      (Ascending-append (piece_rows host.nodes part.nodes) holed
      (Ascending-map (piece_row host.nodes (edges_outside host.nodes (node_numbers part.nodes))) part.nodes (λ x y less. less) (Ascending-from_sorted part.nodes is.valid.nodes_ascend))
      is.holes_ascend
      (λ row hole m n. let w = Mem-unmap (piece_row host.nodes (edges_outside host.nodes (node_numbers part.nodes))) part.nodes m in
      subst (λ (r : NodeRow). node_cmp r hole ≡ Less) w.2 (is.holes_after w.0 hole w.1 n)))

  -- a climb in the part is one in the piece
  climb_there : {place : Place} → Climb part.nodes part.regions place → Climb made.nodes made.regions place
  climb_there (at_region is_region below) = at_region is_region below
  climb_there (at_node {node = node} {row = row} is_node row_is climb) =
      let found = row_from_row_of part.nodes node row_is in
      at_node is_node (row_of-member made.nodes piece_up (row_there host part holed found.0) found.1) (climb_there climb)

  -- what a port of a row has is a link of the piece
  made_link : {row : NodeRow} → Mem row rows → (link : Link) → Mem link row.links → has_link made link ≡ true
  made_link m (Edge edge) k = has_edge made.edges (Mem-set_of nat_cmp_total exact_unsigned (tied_edges rows) (edge_in_rows rows m k))
  made_link m (Outer name) k = has_outer made.outer (Mem-set_of name_cmp_total same_name (tied_names rows) (name_in_rows rows m k))

  sound : (row : NodeRow) → Mem row made.nodes → IsSound made row
  sound row m =
      elim (Mem-append_cases (piece_rows host.nodes part.nodes) holed m) [
        | inl n ↦ (let w = Mem-unmap (piece_row host.nodes (edges_outside host.nodes (node_numbers part.nodes))) part.nodes n in
            let climb = climb_there (Climb-from_place part is.valid w.0.parent (parent_there part is.valid w.1)) in
            subst (IsSound made) w.2
            (record {
              parent_there = place_of_climb made climb;
              links_there = list_all-from_members (has_link made) (piece_row host.nodes (edges_outside host.nodes (node_numbers part.nodes)) w.0).links (λ link k. made_link (row_there host part holed w.1) link k);
              climb = climb;
            }))
        | inr n ↦ (let climb = climb_there (Climb-from_place part is.valid row.parent (is.hole_place row n)) in
            record {
              parent_there = place_of_climb made climb;
              links_there = subst (λ links. list_all (has_link made) links ≡ true) (sym (is.no_ports row n)) refl;
              climb = climb;
            })
      ]

  edges_up : IsStrictlySortedBy nat_cmp made.edges
  edges_up = sorted_from_Ascending {cmp = nat_cmp} made.edges (Ascending-set_of nat_cmp_total exact_unsigned (tied_edges rows))

  outer_up : IsStrictlySortedBy name_cmp made.outer
  outer_up = sorted_from_Ascending {cmp = name_cmp} made.outer (Ascending-set_of name_cmp_total same_name (tied_names rows))

  pub piece_valid : IsValid made
  unfolding IsStrictlySortedBy
  piece_valid = valid_from_rows made piece_up edges_up tt outer_up sound (λ place m. elim m [ ]) (λ row m. elim m [ ])

  pub piece_ground : IsGround made
  piece_ground = record { valid = piece_valid; no_sites = refl; no_inner = refl }
