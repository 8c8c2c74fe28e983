-- Cases where a pattern occurs: context, edges and parameter are given, and the whole is computed from them.
use Rattle.std.proofs.Common.{[], ◌∷◌, refl}
use Rattle.bg_lists.specs.Lists.{put, sort}
use Rattle.bg_base.specs.declared.names.Name.TheVariants.{Port}
use Rattle.bg_base.specs.declared.names.Place.TheVariants.{Node, Region}
use Rattle.bg_base.specs.declared.names.Link.TheVariants.{Edge, Outer}
use Rattle.bg_base.specs.Composition.{compose}
use Rattle.bg_base.specs.Elementary.{counted, identity}
use Rattle.bg_base.specs.Faults.{fault_of, sites_fault, inner_fault, outer_fault, edges_fault, nodes_fault}
use Rattle.bg_base.specs.Translation.{number_renamed, rename}
use Rattle.bg_base.specs.Products.{tensor}
use Rattle.bg_rules.specs.Decomposition.{Occurs}
use Rattle.bg_cases.proofs.CaseTests.{occurs_by}
use Rattle.bg_cases.proofs.CaseRows.{four_controls, node_a, node_b, node_k, node_l, in_places, with_links, context_of, parameter_of, tied, nothing, x, y, z, a_open, b_in_a, a_beside_b, a_with_b, k_on_x, two_k_on_x, k_on_x_and_y, two_k_closed, l_on_x_and_y, l_closed, l_half_closed}

-- ---- places

-- A.id in A.B.1, at node 0: the parameter has the B
child_in_the_parameter : Occurs (in_places (node_a 0 (Region 0) ∷ node_b 1 (Node 0) ∷ []) [] 1) a_open (0 ∷ [])
unfolding compose tensor identity rename number_renamed counted sort put fault_of sites_fault inner_fault outer_fault edges_fault nodes_fault
child_in_the_parameter =
    occurs_by four_controls _ _ _ (in_places [] (Region 0 ∷ []) 1) [] (in_places (node_b 1 (Region 0) ∷ []) [] 1)
    refl refl refl refl (refl, tt) refl refl refl

-- A.id in A.(A.B.1 | B.1), at node 1: the context has node 0 and its B, the parameter the B in node 1
context_above_parameter_below : Occurs (in_places (node_a 0 (Region 0) ∷ node_a 1 (Node 0) ∷ node_b 2 (Node 1) ∷ node_b 3 (Node 0) ∷ []) [] 1)
    a_open (1 ∷ [])
unfolding compose tensor identity rename number_renamed counted sort put fault_of sites_fault inner_fault outer_fault edges_fault nodes_fault
context_above_parameter_below =
    occurs_by four_controls _ _ _ (in_places (node_a 0 (Region 0) ∷ node_b 3 (Node 0) ∷ []) (Node 0 ∷ []) 1) [] (in_places (node_b 2 (Region 0) ∷ []) [] 1)
    refl refl refl refl (refl, tt) refl refl refl

-- A.id in A.1: a site may stay empty
nothing_in_the_site : Occurs (in_places (node_a 0 (Region 0) ∷ []) [] 1) a_open (0 ∷ [])
unfolding compose tensor identity rename number_renamed counted sort put fault_of sites_fault inner_fault outer_fault edges_fault nodes_fault
nothing_in_the_site =
    occurs_by four_controls _ _ _ (in_places [] (Region 0 ∷ []) 1) [] (in_places [] [] 1)
    refl refl refl refl tt refl refl refl

-- A.id | B.id, the first site in B, in A.(A.1 | A.1) | B.B.1, the nodes counted downwards: each site takes what lies in its node
two_sites : Occurs (in_places (node_a 2 (Node 9) ∷ node_a 3 (Node 9) ∷ node_b 4 (Node 7) ∷ node_b 7 (Region 0) ∷ node_a 9 (Region 0) ∷ []) [] 1)
    (in_places (node_a 0 (Region 0) ∷ node_b 1 (Region 0) ∷ []) (Node 1 ∷ Node 0 ∷ []) 1) (9 ∷ 7 ∷ [])
unfolding compose tensor identity rename number_renamed counted sort put fault_of sites_fault inner_fault outer_fault edges_fault nodes_fault
two_sites =
    occurs_by four_controls _ _ _ (in_places [] (Region 0 ∷ []) 1) [] (in_places (node_a 2 (Region 1) ∷ node_a 3 (Region 1) ∷ node_b 4 (Region 0) ∷ []) [] 2)
    refl refl refl refl (refl, (refl, (refl, tt))) refl refl refl

-- A.B.1 in A.B.1: a pattern without sites, where nothing else lies in its images
nested_nodes : Occurs b_in_a b_in_a (0 ∷ 1 ∷ [])
unfolding compose tensor identity rename number_renamed counted sort put fault_of sites_fault inner_fault outer_fault edges_fault nodes_fault
nested_nodes =
    occurs_by four_controls _ _ _ (in_places [] (Region 0 ∷ []) 1) [] nothing
    refl refl refl refl tt refl refl refl

-- A.1 || B.1 in A.1 | B.1: the regions of a pattern may come to lie in one place
regions_in_one_place : Occurs (in_places (node_a 0 (Region 0) ∷ node_b 1 (Region 0) ∷ []) [] 1) a_beside_b (0 ∷ 1 ∷ [])
unfolding compose tensor identity rename number_renamed counted sort put fault_of sites_fault inner_fault outer_fault edges_fault nodes_fault
regions_in_one_place =
    occurs_by four_controls _ _ _ (in_places [] (Region 0 ∷ Region 0 ∷ []) 1) [] nothing
    refl refl refl refl tt refl refl refl

-- A.1 || B.1 in A.A.1 | A.B.1, at the inner nodes: in two places
regions_in_two_places : Occurs (in_places (node_a 0 (Region 0) ∷ node_a 1 (Region 0) ∷ node_a 2 (Node 0) ∷ node_b 3 (Node 1) ∷ []) [] 1)
    a_beside_b (2 ∷ 3 ∷ [])
unfolding compose tensor identity rename number_renamed counted sort put fault_of sites_fault inner_fault outer_fault edges_fault nodes_fault
regions_in_two_places =
    occurs_by four_controls _ _ _ (in_places (node_a 0 (Region 0) ∷ node_a 1 (Region 0) ∷ []) (Node 0 ∷ Node 1 ∷ []) 1) [] nothing
    refl refl refl refl tt refl refl refl

-- A.1 || B.1 in B.1 || A.A.1, at nodes 2 and 0: in a place of another depth, and in another region
regions_in_two_regions : Occurs (in_places (node_b 0 (Region 0) ∷ node_a 1 (Region 1) ∷ node_a 2 (Node 1) ∷ []) [] 2)
    a_beside_b (2 ∷ 0 ∷ [])
unfolding compose tensor identity rename number_renamed counted sort put fault_of sites_fault inner_fault outer_fault edges_fault nodes_fault
regions_in_two_regions =
    occurs_by four_controls _ _ _ (in_places (node_a 1 (Region 1) ∷ []) (Node 1 ∷ Region 0 ∷ []) 2) [] nothing
    refl refl refl refl tt refl refl refl

-- A.1 | B.1 in A.(A.1 | B.1 | B.1): what else lies in the place of a region stays in the context
more_in_the_place_of_a_region : Occurs (in_places (node_a 0 (Region 0) ∷ node_a 1 (Node 0) ∷ node_b 2 (Node 0) ∷ node_b 3 (Node 0) ∷ []) [] 1)
    a_with_b (1 ∷ 3 ∷ [])
unfolding compose tensor identity rename number_renamed counted sort put fault_of sites_fault inner_fault outer_fault edges_fault nodes_fault
more_in_the_place_of_a_region =
    occurs_by four_controls _ _ _ (in_places (node_a 0 (Region 0) ∷ node_b 2 (Node 0) ∷ []) (Node 0 ∷ []) 1) [] nothing
    refl refl refl refl tt refl refl refl

-- ---- links

-- K{x} in K{y}: a name of the pattern on an outer name of the host
name_on_an_outer_name : Occurs (with_links (node_k 0 (Region 0) (Outer y) ∷ []) [] (y ∷ []) 1) k_on_x (0 ∷ [])
unfolding compose tensor identity rename number_renamed counted sort put fault_of sites_fault inner_fault outer_fault edges_fault nodes_fault
name_on_an_outer_name =
    occurs_by four_controls _ _ _ (context_of [] [] (Region 0 ∷ []) (tied x (Outer y) ∷ []) 1 (y ∷ [])) [] nothing
    refl refl refl refl tt refl refl refl

-- K{x} in B.1 || K{y} || A.1 with an idle name z and an idle edge 9: regions, idle names and idle edges stay in the context
idle_links_stay : Occurs (with_links (node_b 0 (Region 0) ∷ node_k 1 (Region 1) (Outer y) ∷ node_a 2 (Region 2) ∷ []) (9 ∷ []) (y ∷ z ∷ []) 3)
    k_on_x (1 ∷ [])
unfolding compose tensor identity rename number_renamed counted sort put fault_of sites_fault inner_fault outer_fault edges_fault nodes_fault
idle_links_stay =
    occurs_by four_controls _ _ _ (context_of (node_b 0 (Region 0) ∷ node_a 2 (Region 2) ∷ []) (9 ∷ []) (Region 1 ∷ []) (tied x (Outer y) ∷ []) 3 (y ∷ z ∷ [])) [] nothing
    refl refl refl refl tt refl refl refl

-- K{x} in /y (K{y} | K{y}), at node 1: a name of the pattern on an edge that has further points
name_on_an_edge : Occurs (with_links (node_k 0 (Region 0) (Edge 5) ∷ node_k 1 (Region 0) (Edge 5) ∷ []) (5 ∷ []) [] 1) k_on_x (1 ∷ [])
unfolding compose tensor identity rename number_renamed counted sort put fault_of sites_fault inner_fault outer_fault edges_fault nodes_fault
name_on_an_edge =
    occurs_by four_controls _ _ _ (context_of (node_k 0 (Region 0) (Edge 5) ∷ []) (5 ∷ []) (Region 0 ∷ []) (tied x (Edge 5) ∷ []) 1 []) [] nothing
    refl refl refl refl tt refl refl refl

-- K{x} | K{y} in K{y} | K{z}: two names of the pattern on two links of the host
two_names_on_two_links : Occurs (with_links (node_k 0 (Region 0) (Outer y) ∷ node_k 1 (Region 0) (Outer z) ∷ []) [] (y ∷ z ∷ []) 1)
    k_on_x_and_y (0 ∷ 1 ∷ [])
unfolding compose tensor identity rename number_renamed counted sort put fault_of sites_fault inner_fault outer_fault edges_fault nodes_fault
two_names_on_two_links =
    occurs_by four_controls _ _ _ (context_of [] [] (Region 0 ∷ []) (tied x (Outer y) ∷ tied y (Outer z) ∷ []) 1 (y ∷ z ∷ [])) [] nothing
    refl refl refl refl tt refl refl refl

-- K{x} | K{y} in K{z} | K{z}: two names of the pattern on one outer name of the host
two_names_on_one_name : Occurs (with_links (node_k 0 (Region 0) (Outer z) ∷ node_k 1 (Region 0) (Outer z) ∷ []) [] (z ∷ []) 1)
    k_on_x_and_y (0 ∷ 1 ∷ [])
unfolding compose tensor identity rename number_renamed counted sort put fault_of sites_fault inner_fault outer_fault edges_fault nodes_fault
two_names_on_one_name =
    occurs_by four_controls _ _ _ (context_of [] [] (Region 0 ∷ []) (tied x (Outer z) ∷ tied y (Outer z) ∷ []) 1 (z ∷ [])) [] nothing
    refl refl refl refl tt refl refl refl

-- K{x} | K{y} in /z (K{z} | K{z}): two names of the pattern on one edge of the host, which is in the context
two_names_on_one_edge : Occurs (with_links (node_k 0 (Region 0) (Edge 3) ∷ node_k 1 (Region 0) (Edge 3) ∷ []) (3 ∷ []) [] 1)
    k_on_x_and_y (0 ∷ 1 ∷ [])
unfolding compose tensor identity rename number_renamed counted sort put fault_of sites_fault inner_fault outer_fault edges_fault nodes_fault
two_names_on_one_edge =
    occurs_by four_controls _ _ _ (context_of [] (3 ∷ []) (Region 0 ∷ []) (tied x (Edge 3) ∷ tied y (Edge 3) ∷ []) 1 []) [] nothing
    refl refl refl refl tt refl refl refl

-- K{x} | K{x} in /z (K{z} | K{z} | K{z}): one name of the pattern on an edge of the host
one_name_on_one_edge : Occurs (with_links (node_k 0 (Region 0) (Edge 4) ∷ node_k 1 (Region 0) (Edge 4) ∷ node_k 2 (Region 0) (Edge 4) ∷ []) (4 ∷ []) [] 1)
    two_k_on_x (0 ∷ 2 ∷ [])
unfolding compose tensor identity rename number_renamed counted sort put fault_of sites_fault inner_fault outer_fault edges_fault nodes_fault
one_name_on_one_edge =
    occurs_by four_controls _ _ _ (context_of (node_k 1 (Region 0) (Edge 4) ∷ []) (4 ∷ []) (Region 0 ∷ []) (tied x (Edge 4) ∷ []) 1 []) [] nothing
    refl refl refl refl tt refl refl refl

-- /x (K{x} | K{x}) in itself with other numbers: a closed link of the pattern is an edge of the host, with just its points
closed_link_on_an_edge : Occurs (with_links (node_k 3 (Region 0) (Edge 6) ∷ node_k 8 (Region 0) (Edge 6) ∷ []) (6 ∷ []) [] 1)
    two_k_closed (8 ∷ 3 ∷ [])
unfolding compose tensor identity rename number_renamed counted sort put fault_of sites_fault inner_fault outer_fault edges_fault nodes_fault
closed_link_on_an_edge =
    occurs_by four_controls _ _ _ (in_places [] (Region 0 ∷ []) 1) (6 ∷ []) nothing
    refl refl refl refl tt refl refl refl

-- A.id in A.K{z}: a port of the parameter is tied by its own name
port_of_the_parameter : Occurs (with_links (node_a 0 (Region 0) ∷ node_k 1 (Node 0) (Outer z) ∷ []) [] (z ∷ []) 1) a_open (0 ∷ [])
unfolding compose tensor identity rename number_renamed counted sort put fault_of sites_fault inner_fault outer_fault edges_fault nodes_fault
port_of_the_parameter =
    occurs_by four_controls _ _ _ (context_of [] [] (Region 0 ∷ []) (tied (Port 1 0) (Outer z) ∷ []) 1 (z ∷ [])) [] (parameter_of (node_k 1 (Region 0) (Outer (Port 1 0)) ∷ []) 1 (Port 1 0 ∷ []))
    refl refl refl refl (refl, tt) refl refl refl

-- K{x}.id in /y (K{y} | K{y}.K{y}), at node 1: an edge with a point in the context, one in the pattern and one in the parameter
edge_through_all_three : Occurs (with_links (node_k 0 (Region 0) (Edge 5) ∷ node_k 1 (Region 0) (Edge 5) ∷ node_k 2 (Node 1) (Edge 5) ∷ []) (5 ∷ []) [] 1)
    (record k_on_x { sites = Node 0 ∷ [] }) (1 ∷ [])
unfolding compose tensor identity rename number_renamed counted sort put fault_of sites_fault inner_fault outer_fault edges_fault nodes_fault
edge_through_all_three =
    occurs_by four_controls _ _ _ (context_of (node_k 0 (Region 0) (Edge 5) ∷ []) (5 ∷ []) (Region 0 ∷ []) (tied x (Edge 5) ∷ tied (Port 2 0) (Edge 5) ∷ []) 1 []) [] (parameter_of (node_k 2 (Region 0) (Outer (Port 2 0)) ∷ []) 1 (Port 2 0 ∷ []))
    refl refl refl refl (refl, tt) refl refl refl

-- L{x, y} in /z L{z, z}: two names at one node, on one edge
two_names_at_one_node : Occurs (with_links (node_l 0 (Region 0) (Edge 5) (Edge 5) ∷ []) (5 ∷ []) [] 1) l_on_x_and_y (0 ∷ [])
unfolding compose tensor identity rename number_renamed counted sort put fault_of sites_fault inner_fault outer_fault edges_fault nodes_fault
two_names_at_one_node =
    occurs_by four_controls _ _ _ (context_of [] (5 ∷ []) (Region 0 ∷ []) (tied x (Edge 5) ∷ tied y (Edge 5) ∷ []) 1 []) [] nothing
    refl refl refl refl tt refl refl refl

-- /x L{x, x} in /z L{z, z}: a closed link with two ports of one node
closed_link_at_one_node : Occurs (with_links (node_l 0 (Region 0) (Edge 5) (Edge 5) ∷ []) (5 ∷ []) [] 1) l_closed (0 ∷ [])
unfolding compose tensor identity rename number_renamed counted sort put fault_of sites_fault inner_fault outer_fault edges_fault nodes_fault
closed_link_at_one_node =
    occurs_by four_controls _ _ _ (in_places [] (Region 0 ∷ []) 1) (5 ∷ []) nothing
    refl refl refl refl tt refl refl refl

-- /x L{x, y} in /x L{x, z}: a closed link and a name at one node
closed_link_beside_a_name : Occurs (with_links (node_l 0 (Region 0) (Edge 5) (Outer z) ∷ []) (5 ∷ []) (z ∷ []) 1) l_half_closed (0 ∷ [])
unfolding compose tensor identity rename number_renamed counted sort put fault_of sites_fault inner_fault outer_fault edges_fault nodes_fault
closed_link_beside_a_name =
    occurs_by four_controls _ _ _ (context_of [] [] (Region 0 ∷ []) (tied y (Outer z) ∷ []) 1 (z ∷ [])) (5 ∷ []) nothing
    refl refl refl refl tt refl refl refl

-- A.id in A.(L{z, y} | K{z}): three ports of the parameter, each tied by its own name, in the order of the names
ports_of_the_parameter : Occurs (with_links (node_a 0 (Region 0) ∷ node_l 1 (Node 0) (Outer z) (Outer y) ∷ node_k 2 (Node 0) (Outer z) ∷ []) [] (y ∷ z ∷ []) 1)
    a_open (0 ∷ [])
unfolding compose tensor identity rename number_renamed counted sort put fault_of sites_fault inner_fault outer_fault edges_fault nodes_fault
ports_of_the_parameter =
    occurs_by four_controls _ _ _ (context_of [] [] (Region 0 ∷ []) (tied (Port 1 0) (Outer z) ∷ tied (Port 1 1) (Outer y) ∷ tied (Port 2 0) (Outer z) ∷ []) 1 (y ∷ z ∷ [])) [] (parameter_of (node_l 1 (Region 0) (Outer (Port 1 0)) (Outer (Port 1 1)) ∷ node_k 2 (Region 0) (Outer (Port 2 0)) ∷ []) 1 (Port 1 0 ∷ Port 1 1 ∷ Port 2 0 ∷ []))
    refl refl refl refl (refl, (refl, tt)) refl refl refl
