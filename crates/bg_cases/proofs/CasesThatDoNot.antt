-- Cases where a pattern does not occur since one of the local conditions fails, and only that one.
use Rattle.std.proofs.Common.{◌≡◌, ℕ, length, List, [], ◌∷◌, false, refl, sym, ap, subst, ◌∙◌, inl, inr, eqb}
use Rattle.std.specs.List.{IsDistinct}
use Rattle.std.proofs.lemmas.Bool.{false≢true}
use Rattle.bg_lists.specs.Lists.{here, there, At, at_here, at_there}
use Rattle.bg_lists.proofs.Members.{Mem-cons_cases}
use Rattle.bg_base.specs.declared.names.Place.TheVariants.{Node, Region}
use Rattle.bg_base.specs.declared.names.Link.{Link}
use Rattle.bg_base.specs.declared.names.Link.TheVariants.{Edge, Outer}
use Rattle.bg_base.specs.declared.big.NodeRow.{NodeRow}
use Rattle.bg_base.specs.declared.big.Big.{Big}
use Rattle.bg_base.specs.declared.signature.Control.{Control}
use Rattle.bg_base.specs.Elementary.{counted}
use Rattle.bg_base.specs.Faults.{fault_of, sites_fault, inner_fault, outer_fault, edges_fault, nodes_fault}
use Rattle.bg_base.specs.Translation.{number_renamed}
use Rattle.bg_base.specs.Products.{same_link}
use Rattle.bg_place.specs.Places.{same_place}
use Rattle.bg_rules.specs.Decomposition.{Occurs}
use Rattle.bg_rules.specs.LocalConditions.{at_place, above, image_of}
use Rattle.bg_rules.proofs.Occurrences.{occurs_locally}
use Rattle.bg_cases.proofs.CaseConditions.{Conditions, conditions, all_hold}
use Rattle.bg_cases.proofs.CaseTests.{pattern_by, ground_by, unlike, not_among, the_only, locally_by, no_image}
use Rattle.bg_cases.proofs.CaseRows.{control_of, four_controls, node_a, node_b, node_k, node_l, in_places, with_links, x, y, z, a_alone, b_in_a, a_beside_b, a_with_b, two_k_on_x, two_k_closed, l_half_closed, two_closed_links}

-- the pattern does not occur at these nodes of the host; of the local conditions, those that hold are told by their tests
pub record DoesNotOccur (host pattern : Big) (nodes : List ℕ) (hold : Conditions) : Type 0 where
  pub never : Occurs host pattern nodes → ⊥
  pub others : conditions host pattern nodes ≡ hold

-- ---- 1 the images: nodes of the host, with the controls of the pattern's nodes

-- A.1 in B.1: another control
pub another_control : DoesNotOccur (in_places (node_b 0 (Region 0) ∷ []) [] 1) a_alone (0 ∷ []) (record all_hold { images = false })
unfolding number_renamed counted fault_of sites_fault inner_fault outer_fault edges_fault nodes_fault
another_control =
    record {
      never = λ occurs. let local = locally_by four_controls occurs refl refl refl refl in
          let w = local.images (node_a 0 (Region 0)) (here refl) in
          unlike (eqb 1) 1 0 refl refl (ap (λ (row : NodeRow). row.control) (the_only (node_b 0 (Region 0)) w.0 w.1.of_host) ∙ w.2);
      others = refl;
    }

-- the pattern of another signature, in which the third control has no port
abbrev other_controls : List Control
other_controls = control_of 65 0 ∷ control_of 66 0 ∷ control_of 75 0 ∷ []

abbrev k_without_port : Big
k_without_port = in_places (record { id = 0; control = 2; parent = Region 0; links = [] } ∷ []) [] 1

-- K without a port in K{y}: another number of ports
another_number_of_ports : DoesNotOccur (with_links (node_k 0 (Region 0) (Outer y) ∷ []) [] (y ∷ []) 1) k_without_port (0 ∷ [])
    (record all_hold { images = false })
unfolding number_renamed counted fault_of sites_fault inner_fault outer_fault edges_fault nodes_fault
another_number_of_ports =
    record {
      never = λ occurs. let local = occurs_locally _ _ (pattern_by other_controls k_without_port refl refl) (ground_by four_controls _ refl refl) (0 ∷ []) occurs in
          let w = local.images (record { id = 0; control = 2; parent = Region 0; links = [] }) (here refl) in
          unlike (eqb 1) 1 0 refl refl (ap (λ (row : NodeRow). length row.links) (the_only (node_k 0 (Region 0) (Outer y)) w.0 w.1.of_host) ∙ w.3);
      others = refl;
    }

-- A.1 in A.1 at node 7, which is not there
node_not_there : DoesNotOccur (in_places (node_a 0 (Region 0) ∷ []) [] 1) a_alone (7 ∷ []) (record all_hold { images = false })
unfolding number_renamed counted fault_of sites_fault inner_fault outer_fault edges_fault nodes_fault
node_not_there =
    record {
      never = λ occurs. let local = locally_by four_controls occurs refl refl refl refl in
          let w = local.images (node_a 0 (Region 0)) (here refl) in
          unlike (eqb 0) 0 7 refl refl (ap (λ (row : NodeRow). row.id) (the_only (node_a 0 (Region 0)) w.0 w.1.of_host) ∙ w.1.same);
      others = refl;
    }

-- A.1 | B.1 in A.1 | B.1 at node 0 alone: not as many nodes as the pattern has
too_few_nodes : DoesNotOccur (in_places (node_a 0 (Region 0) ∷ node_b 1 (Region 0) ∷ []) [] 1)
    a_with_b (0 ∷ []) (record all_hold { nodes_new = false })
unfolding number_renamed counted fault_of sites_fault inner_fault outer_fault edges_fault nodes_fault
too_few_nodes =
    record {
      never = λ occurs. let local = locally_by four_controls occurs refl refl refl refl in
          unlike (eqb 2) 2 1 refl refl local.nodes_new.as_many;
      others = refl;
    }

-- A.1 | A.1 in A.1 at node 0 twice
pub one_node_twice : DoesNotOccur (in_places (node_a 0 (Region 0) ∷ []) [] 1)
    (in_places (node_a 0 (Region 0) ∷ node_a 1 (Region 0) ∷ []) [] 1) (0 ∷ 0 ∷ []) (record all_hold { nodes_new = false })
unfolding number_renamed counted fault_of sites_fault inner_fault outer_fault edges_fault nodes_fault IsDistinct
one_node_twice =
    record {
      never = λ occurs. let local = locally_by four_controls occurs refl refl refl refl in
          false≢true (sym local.nodes_new.differ.0.0);
      others = refl;
    }

-- ---- 2 a node in a node

-- A.B.1 in A.1 | B.1: the B does not lie in the A
pub not_nested : DoesNotOccur (in_places (node_a 0 (Region 0) ∷ node_b 1 (Region 0) ∷ []) [] 1)
    b_in_a (0 ∷ 1 ∷ []) (record all_hold { nested = false })
unfolding number_renamed counted fault_of sites_fault inner_fault outer_fault edges_fault nodes_fault
not_nested =
    record {
      never = λ occurs. let local = locally_by four_controls occurs refl refl refl refl in
          unlike (same_place (Region 0)) (Region 0) (Node 0) refl refl
          (local.nested (node_b 1 (Node 0)) (node_b 1 (Region 0)) 0 (record { of_pattern = there (here refl); of_host = there (here refl); same = refl }) refl);
      others = refl;
    }

-- ---- 3 what else lies in an image

-- A.1 in A.B.1: the A has a child, and the pattern no site for it. With the site it occurs (`child_in_the_parameter`)
pub child_without_a_site : DoesNotOccur (in_places (node_a 0 (Region 0) ∷ node_b 1 (Node 0) ∷ []) [] 1)
    a_alone (0 ∷ []) (record all_hold { children = false })
unfolding number_renamed counted fault_of sites_fault inner_fault outer_fault edges_fault nodes_fault
child_without_a_site =
    record {
      never = λ occurs. let local = locally_by four_controls occurs refl refl refl refl in
          elim (local.children (node_b 1 (Node 0)) 0 (there (here refl)) (here refl) refl)
          [ inl m ↦ not_among 1 (0 ∷ []) refl m | inr m ↦ elim m [ ] ];
      others = refl;
    }

-- ---- 4 the places of the pattern's regions

-- A.1 | B.1 in A.1 || B.1: the nodes of one region lie in two places. As A.1 || B.1 they occur (`regions_in_two_places`)
pub region_in_two_places : DoesNotOccur (in_places (node_a 0 (Region 0) ∷ node_b 1 (Region 1) ∷ []) [] 2)
    a_with_b (0 ∷ 1 ∷ []) (record all_hold { one_parent = false })
unfolding number_renamed counted fault_of sites_fault inner_fault outer_fault edges_fault nodes_fault
region_in_two_places =
    record {
      never = λ occurs. let local = locally_by four_controls occurs refl refl refl refl in
          unlike (same_place (Region 0)) (Region 0) (Region 1) refl refl
          (local.one_parent (node_a 0 (Region 0)) (node_a 0 (Region 0)) (node_b 1 (Region 0)) (node_b 1 (Region 1)) 0
          (record { of_pattern = here refl; of_host = here refl; same = refl }) (record { of_pattern = there (here refl); of_host = there (here refl); same = refl }) refl refl);
      others = refl;
    }

-- A.1 || B.1 in A.B.1: a region lies in an image of the pattern. That the A has a child is no hindrance, since the child is an image
pub region_in_an_image : DoesNotOccur (in_places (node_a 0 (Region 0) ∷ node_b 1 (Node 0) ∷ []) [] 1)
    a_beside_b (0 ∷ 1 ∷ []) (record all_hold { clear = false })
unfolding number_renamed counted fault_of sites_fault inner_fault outer_fault edges_fault nodes_fault
region_in_an_image =
    record {
      never = λ occurs. let local = locally_by four_controls occurs refl refl refl refl in
          local.clear (node_b 1 (Region 1)) (node_b 1 (Node 0)) 1 0 (record { of_pattern = there (here refl); of_host = there (here refl); same = refl }) refl (here refl) (at_place refl);
      others = refl;
    }

-- A.id || B.1 in A.A.B.1, at the outer A: an image lies further up
region_deep_in_an_image : DoesNotOccur (in_places (node_a 0 (Region 0) ∷ node_a 1 (Node 0) ∷ node_b 2 (Node 1) ∷ []) [] 1)
    (in_places (node_a 0 (Region 0) ∷ node_b 1 (Region 1) ∷ []) (Node 0 ∷ []) 2) (0 ∷ 2 ∷ []) (record all_hold { clear = false })
unfolding number_renamed counted fault_of sites_fault inner_fault outer_fault edges_fault nodes_fault
region_deep_in_an_image =
    record {
      never = λ occurs. let local = locally_by four_controls occurs refl refl refl refl in
          local.clear (node_b 1 (Region 1)) (node_b 2 (Node 1)) 1 0 (record { of_pattern = there (here refl); of_host = there (there (here refl)); same = refl }) refl (here refl)
          (above (there (here refl)) refl (at_place refl));
      others = refl;
    }

-- ---- 5 ports with one link

-- K{x} | K{x} in K{y} | K{z}: the host ties the ports to two links. As K{x} | K{y} they occur (`two_names_on_two_links`)
pub one_name_on_two_links : DoesNotOccur (with_links (node_k 0 (Region 0) (Outer y) ∷ node_k 1 (Region 0) (Outer z) ∷ []) [] (y ∷ z ∷ []) 1)
    two_k_on_x (0 ∷ 1 ∷ []) (record all_hold { shared = false })
unfolding number_renamed counted fault_of sites_fault inner_fault outer_fault edges_fault nodes_fault
one_name_on_two_links =
    record {
      never = λ occurs. let local = locally_by four_controls occurs refl refl refl refl in
          unlike (same_link (Outer y)) (Outer y) (Outer z) refl refl
          (local.shared (node_k 0 (Region 0) (Outer x)) (node_k 0 (Region 0) (Outer y)) (node_k 1 (Region 0) (Outer x)) (node_k 1 (Region 0) (Outer z)) 0 0 (Outer x) (Outer y) (Outer z)
          (record { of_pattern = here refl; of_host = here refl; same = refl }) (record { of_pattern = there (here refl); of_host = there (here refl); same = refl })
          (at_here refl) (at_here refl) (at_here refl) (at_here refl));
      others = refl;
    }

-- ---- 6 closed links

-- /x (K{x} | K{x}) in K{z} | K{z}: the host has an outer name there, which a context could tie further
pub closed_link_on_an_outer_name : DoesNotOccur (with_links (node_k 0 (Region 0) (Outer z) ∷ node_k 1 (Region 0) (Outer z) ∷ []) [] (z ∷ []) 1)
    two_k_closed (0 ∷ 1 ∷ []) (record all_hold { closed = false })
unfolding number_renamed counted fault_of sites_fault inner_fault outer_fault edges_fault nodes_fault
closed_link_on_an_outer_name =
    record {
      never = λ occurs. let local = locally_by four_controls occurs refl refl refl refl in
          let w = local.closed 0 (here refl) in
          unlike (same_link (Outer z)) (Outer z) (Edge w.0) refl refl
          (w.1.onto (node_k 0 (Region 0) (Edge 0)) (node_k 0 (Region 0) (Outer z)) 0 (Outer z) (record { of_pattern = here refl; of_host = here refl; same = refl }) (at_here refl) (at_here refl));
      others = refl;
    }

-- /x (K{x} | K{x}) in /z (K{z} | K{z} | K{z}): the edge has a further point. With the pattern open they occur (`one_name_on_one_edge`)
closed_link_with_a_further_point : DoesNotOccur (with_links (node_k 0 (Region 0) (Edge 4) ∷ node_k 1 (Region 0) (Edge 4) ∷ node_k 2 (Region 0) (Edge 4) ∷ []) (4 ∷ []) [] 1)
    two_k_closed (0 ∷ 1 ∷ []) (record all_hold { closed = false })
unfolding number_renamed counted fault_of sites_fault inner_fault outer_fault edges_fault nodes_fault
closed_link_with_a_further_point =
    record {
      never = λ occurs. let local = locally_by four_controls occurs refl refl refl refl in
          let w = local.closed 0 (here refl) in
          let same = w.1.onto (node_k 0 (Region 0) (Edge 0)) (node_k 0 (Region 0) (Edge 4)) 0 (Edge 4) (record { of_pattern = here refl; of_host = here refl; same = refl }) (at_here refl) (at_here refl) in
          let v = w.1.only (node_k 2 (Region 0) (Edge 4)) 0 (there (there (here refl))) (at_here same) in
          no_image four_controls v.1 refl local.nodes_new refl;
      others = refl;
    }

-- /x K{x}.id in /z K{z}.K{z}.1, at node 0: the further point lies in the parameter
closed_link_with_a_point_below : DoesNotOccur (with_links (node_k 0 (Region 0) (Edge 4) ∷ node_k 1 (Node 0) (Edge 4) ∷ []) (4 ∷ []) [] 1)
    (record (with_links (node_k 0 (Region 0) (Edge 0) ∷ []) (0 ∷ []) [] 1) { sites = Node 0 ∷ [] }) (0 ∷ []) (record all_hold { closed = false })
unfolding number_renamed counted fault_of sites_fault inner_fault outer_fault edges_fault nodes_fault
closed_link_with_a_point_below =
    record {
      never = λ occurs. let local = locally_by four_controls occurs refl refl refl refl in
          let w = local.closed 0 (here refl) in
          let same = w.1.onto (node_k 0 (Region 0) (Edge 0)) (node_k 0 (Region 0) (Edge 4)) 0 (Edge 4) (record { of_pattern = here refl; of_host = here refl; same = refl }) (at_here refl) (at_here refl) in
          let v = w.1.only (node_k 1 (Node 0) (Edge 4)) 0 (there (here refl)) (at_here same) in
          no_image four_controls v.1 refl local.nodes_new refl;
      others = refl;
    }

second_link : (first second link : Link) → At link 1 (first ∷ second ∷ []) → second ≡ link
second_link first second link (at_there (at_here e)) = e

-- /x L{x, y} in /z L{z, z}: the further point is another port of the same node
closed_link_with_a_further_port : DoesNotOccur (with_links (node_l 0 (Region 0) (Edge 5) (Edge 5) ∷ []) (5 ∷ []) [] 1)
    l_half_closed (0 ∷ []) (record all_hold { closed = false })
unfolding number_renamed counted fault_of sites_fault inner_fault outer_fault edges_fault nodes_fault
closed_link_with_a_further_port =
    record {
      never = λ occurs. let local = locally_by four_controls occurs refl refl refl refl in
          let w = local.closed 0 (here refl) in
          let same = w.1.onto (node_l 0 (Region 0) (Edge 0) (Outer y)) (node_l 0 (Region 0) (Edge 5) (Edge 5)) 0 (Edge 5)
          (record { of_pattern = here refl; of_host = here refl; same = refl }) (at_here refl) (at_here refl) in
          let v = w.1.only (node_l 0 (Region 0) (Edge 5) (Edge 5)) 1 (here refl) (at_there (at_here same)) in
          let row = the_only (node_l 0 (Region 0) (Edge 0) (Outer y)) v.0 v.1.of_pattern in
          unlike (same_link (Outer y)) (Outer y) (Edge 0) refl refl
          (second_link (Edge 0) (Outer y) (Edge 0) (subst (λ (r : NodeRow). At (Edge 0) 1 r.links) (sym row) v.2));
      others = refl;
    }

first_link : (first link : Link) → At link 0 (first ∷ []) → first ≡ link
first_link first link (at_here e) = e

-- /x /y (K{x} | K{y}) in /z (K{z} | K{z}): two closed links on one edge
two_closed_links_on_one_edge : DoesNotOccur (with_links (node_k 0 (Region 0) (Edge 4) ∷ node_k 1 (Region 0) (Edge 4) ∷ []) (4 ∷ []) [] 1)
    two_closed_links (0 ∷ 1 ∷ [])
    (record all_hold { closed = false })
unfolding number_renamed counted fault_of sites_fault inner_fault outer_fault edges_fault nodes_fault
two_closed_links_on_one_edge =
    record {
      never = λ occurs. let local = locally_by four_controls occurs refl refl refl refl in
          let w = local.closed 0 (here refl) in
          let same = w.1.onto (node_k 0 (Region 0) (Edge 0)) (node_k 0 (Region 0) (Edge 4)) 0 (Edge 4)
          (record { of_pattern = here refl; of_host = here refl; same = refl }) (at_here refl) (at_here refl) in
          let v = w.1.only (node_k 1 (Region 0) (Edge 4)) 0 (there (here refl)) (at_here same) in
          elim (Mem-cons_cases v.1.of_pattern) [
            | inl row ↦ unlike (eqb 1) 1 0 refl refl
                (v.1.same ∙ ap (λ (r : NodeRow). image_of two_closed_links (0 ∷ 1 ∷ []) r.id) (sym row))
            | inr more ↦ unlike (same_link (Edge 1)) (Edge 1) (Edge 0) refl refl
                (first_link (Edge 1) (Edge 0) (subst (λ (r : NodeRow). At (Edge 0) 0 r.links)
                (sym (the_only (node_k 1 (Region 0) (Edge 1)) v.0 more)) v.2))
          ];
      others = refl;
    }
