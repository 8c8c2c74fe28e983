-- Instantiation and reaction, computed on small cases.
use Rattle.std.proofs.Common.{◌≡◌, ◌<◌, [], ◌∷◌, refl, arith}
use Rattle.std.proofs.lemmas.List.Elements.{All-from_recursion}
use Rattle.bg_lists.specs.Lists.{put, sort}
use Rattle.bg_base.specs.declared.names.Name.TheVariants.{Port}
use Rattle.bg_base.specs.declared.names.Place.TheVariants.{Node, Region}
use Rattle.bg_base.specs.declared.names.Link.TheVariants.{Edge, Outer}
use Rattle.bg_base.specs.declared.big.Big.{Big}
use Rattle.bg_base.specs.Composition.{compose}
use Rattle.bg_base.specs.Elementary.{counted, identity}
use Rattle.bg_base.specs.Faults.{fault_of, sites_fault, inner_fault, outer_fault, edges_fault, nodes_fault}
use Rattle.bg_base.specs.Translation.{number_renamed, rename}
use Rattle.bg_base.specs.Products.{tensor, lean}
use Rattle.bg_rules.specs.Instantiation.{part, late_nodes, number_in_copy, copies_from, instantiate, next_after}
use Rattle.bg_rules.specs.Reaction.{Reacts}
use Rattle.bg_rules.specs.Rules.{AreSides}
use Rattle.bg_cases.proofs.CaseTests.{valid_by, pattern_by, parameter_by, decomposes_by, reacts_by}
use Rattle.bg_cases.proofs.CaseRows.{four_controls, node_a, node_b, node_k, in_places, with_links, context_of, parameter_of, tied, nothing, x, y, a_open, k_on_x, rule_of}

-- ---- instantiation

-- A.B.1 || K{x}, the name of the port its own: node 4 in region 0, node 7 in node 4, node 5 in region 1
abbrev two_parts : Big
two_parts =
    parameter_of (node_a 4 (Region 0) ∷ node_k 5 (Region 1) (Outer (Port 5 0)) ∷ node_b 7 (Node 4) ∷ []) 2 (Port 5 0 ∷ [])

-- the first copy of a part keeps its numbers, later ones get the next free numbers; a copy of a port keeps the name
four_copies : instantiate two_parts (1 ∷ 0 ∷ 0 ∷ 1 ∷ []) 10
    ≡ parameter_of (node_a 4 (Region 1) ∷ node_k 5 (Region 0) (Outer (Port 5 0)) ∷ node_b 7 (Node 4) ∷ node_a 10 (Region 2) ∷ node_b 11 (Node 10)
    ∷ node_k 12 (Region 3) (Outer (Port 5 0)) ∷ []) 4 (Port 5 0 ∷ [])
unfolding instantiate copies_from number_in_copy late_nodes part sort put
four_copies = refl

next_after_four : next_after two_parts (1 ∷ 0 ∷ 0 ∷ 1 ∷ []) 10 ≡ 13
unfolding late_nodes part
next_after_four = refl

-- no entry, no copy; the names stay
no_copy : instantiate two_parts [] 10 ≡ parameter_of [] 0 (Port 5 0 ∷ [])
unfolding instantiate copies_from sort
no_copy = refl

next_after_none : next_after two_parts [] 10 ≡ 10
unfolding late_nodes
next_after_none = refl

-- ---- reaction

-- A.id | A.id
abbrev two_open : Big
two_open = in_places (node_a 0 (Region 0) ∷ node_a 1 (Region 0) ∷ []) (Node 0 ∷ Node 1 ∷ []) 1

copying_sides : AreSides a_open two_open (0 ∷ 0 ∷ [])
unfolding counted fault_of sites_fault inner_fault outer_fault edges_fault nodes_fault
copying_sides =
    record {
      is_pattern = pattern_by four_controls a_open refl refl;
      reactum_valid = valid_by four_controls two_open refl;
      agree = record { regions_agree = refl; outer_agree = refl; reactum_inner = refl };
      fits = record { as_many = refl; entries_there = All-from_recursion (λ entry. entry < 1) (0 ∷ 0 ∷ []) (omega arith, (omega arith, tt)) };
    }

-- A.id, with map 0, 0, becomes A.id | A.id: A.B.1 at node 0 becomes A.B.1 | A.B.1. The nodes of the reactum get the next
-- numbers, 2 and 3, then the late copy of the B, 4
copied : Reacts (record { big = in_places (node_a 0 (Region 0) ∷ node_b 1 (Node 0) ∷ []) [] 1; next_node = 2; next_edge = 0 })
    (rule_of a_open two_open (0 ∷ 0 ∷ [])) (0 ∷ [])
    (record {
      big = in_places (node_b 1 (Node 2) ∷ node_a 2 (Region 0) ∷ node_a 3 (Region 0) ∷ node_b 4 (Node 3) ∷ []) [] 1;
      next_node = 5;
      next_edge = 0;
    })
unfolding compose tensor identity rename number_renamed counted sort put lean instantiate copies_from number_in_copy late_nodes part fault_of sites_fault inner_fault outer_fault edges_fault nodes_fault
copied =
    reacts_by _ _ _ _ (in_places [] (Region 0 ∷ []) 1) [] (in_places (node_b 1 (Region 0) ∷ []) [] 1)
    (decomposes_by four_controls _ _ _ _ _ _ (valid_by four_controls _ refl) (valid_by four_controls _ refl) (parameter_by four_controls _ refl refl (refl, tt) refl) refl refl)
    refl refl

-- K{x}.1 becomes /y (K{x} | K{y}): K{y} at node 0 becomes K{y} | /z K{z}, with a new edge, 7
tied_anew : Reacts (record { big = with_links (node_k 0 (Region 0) (Outer y) ∷ []) [] (y ∷ []) 1; next_node = 5; next_edge = 7 })
    (rule_of k_on_x (with_links (node_k 0 (Region 0) (Outer x) ∷ node_k 1 (Region 0) (Edge 0) ∷ []) (0 ∷ []) (x ∷ []) 1) []) (0 ∷ [])
    (record {
      big = with_links (node_k 5 (Region 0) (Outer y) ∷ node_k 6 (Region 0) (Edge 7) ∷ []) (7 ∷ []) (y ∷ []) 1;
      next_node = 7;
      next_edge = 8;
    })
unfolding compose tensor identity rename number_renamed counted sort put lean instantiate copies_from number_in_copy late_nodes part fault_of sites_fault inner_fault outer_fault edges_fault nodes_fault
tied_anew =
    reacts_by _ _ _ _ (context_of [] [] (Region 0 ∷ []) (tied x (Outer y) ∷ []) 1 (y ∷ [])) [] nothing
    (decomposes_by four_controls _ _ _ _ _ _ (valid_by four_controls _ refl) (valid_by four_controls _ refl) (parameter_by four_controls _ refl refl tt refl) refl refl)
    refl refl

-- K{x}.1 becomes A.1 with x idle: /z K{z} | B.1 at node 0 becomes A.1 | B.1, without the edge that has lost its point
edge_dropped : Reacts (record { big = with_links (node_k 0 (Region 0) (Edge 3) ∷ node_b 1 (Region 0) ∷ []) (3 ∷ []) [] 1; next_node = 2; next_edge = 4 })
    (rule_of k_on_x (with_links (node_a 0 (Region 0) ∷ []) [] (x ∷ []) 1) []) (0 ∷ [])
    (record {
      big = in_places (node_b 1 (Region 0) ∷ node_a 2 (Region 0) ∷ []) [] 1;
      next_node = 3;
      next_edge = 4;
    })
unfolding compose tensor identity rename number_renamed counted sort put lean instantiate copies_from number_in_copy late_nodes part fault_of sites_fault inner_fault outer_fault edges_fault nodes_fault
edge_dropped =
    reacts_by _ _ _ _ (context_of (node_b 1 (Region 0) ∷ []) (3 ∷ []) (Region 0 ∷ []) (tied x (Edge 3) ∷ []) 1 []) [] nothing
    (decomposes_by four_controls _ _ _ _ _ _ (valid_by four_controls _ refl) (valid_by four_controls _ refl) (parameter_by four_controls _ refl refl tt refl) refl refl)
    refl refl

-- a part of the parameter that no entry asks for is discarded, and an edge that only it was tied to goes with it:
-- A.id, with no entry, becomes B.1: /z A.K{z} at node 0 becomes B.1
part_discarded : Reacts (record { big = with_links (node_a 0 (Region 0) ∷ node_k 1 (Node 0) (Edge 3) ∷ []) (3 ∷ []) [] 1; next_node = 2; next_edge = 4 })
    (rule_of a_open (in_places (node_b 0 (Region 0) ∷ []) [] 1) []) (0 ∷ [])
    (record { big = in_places (node_b 2 (Region 0) ∷ []) [] 1; next_node = 3; next_edge = 4 })
unfolding compose tensor identity rename number_renamed counted sort put lean instantiate copies_from number_in_copy late_nodes part fault_of sites_fault inner_fault outer_fault edges_fault nodes_fault
part_discarded =
    reacts_by _ _ _ _ (context_of [] (3 ∷ []) (Region 0 ∷ []) (tied (Port 1 0) (Edge 3) ∷ []) 1 []) [] (parameter_of (node_k 1 (Region 0) (Outer (Port 1 0)) ∷ []) 1 (Port 1 0 ∷ []))
    (decomposes_by four_controls _ _ _ _ _ _ (valid_by four_controls _ refl) (valid_by four_controls _ refl) (parameter_by four_controls _ refl refl (refl, tt) refl) refl refl)
    refl refl
