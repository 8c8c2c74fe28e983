-- Why a pattern is solid, and has no idle edge: for a clause left out, a bigraph that meets all the others, and a host that
-- has two decompositions at the same nodes.
use Rattle.std.proofs.Common.{◌≡◌, ℕ, Bool, true, false, ltb, eqb, List, [], ◌∷◌, length, refl, sym}
use Rattle.std.specs.List.{list_all, list_any}
use Rattle.bg_lists.specs.Lists.{put, sort}
use Rattle.bg_base.specs.declared.names.Name.{Name}
use Rattle.bg_base.specs.declared.names.Place.{Place}
use Rattle.bg_base.specs.declared.names.Place.TheVariants.{Node, Region}
use Rattle.bg_base.specs.declared.names.Link.TheVariants.{Outer}
use Rattle.bg_base.specs.declared.big.NodeRow.{NodeRow}
use Rattle.bg_base.specs.declared.big.InnerRow.{InnerRow}
use Rattle.bg_base.specs.declared.big.Big.{Big}
use Rattle.bg_base.specs.Bigraph.{IsValid, IsGround}
use Rattle.bg_base.specs.Composition.{compose}
use Rattle.bg_base.specs.Elementary.{counted, identity}
use Rattle.bg_base.specs.Faults.{fault_of, sites_fault, inner_fault, outer_fault, edges_fault, nodes_fault}
use Rattle.bg_base.specs.Translation.{number_renamed, rename}
use Rattle.bg_base.specs.Products.{same_link, has_point, tensor}
use Rattle.bg_place.specs.Places.{same_place}
use Rattle.bg_algebra.specs.Frame.{is_plain}
use Rattle.bg_rules.specs.Solid.{is_node}
use Rattle.bg_cases.specs.Clauses.{HasTwoDecompositions}
use Rattle.bg_cases.proofs.CaseTests.{differ, is_nil, regions_are_filled, edges_are_good, valid_by, ground_by, parameter_by, decomposes_by, unlike}
use Rattle.bg_cases.proofs.CaseRows.{four_controls, node_a, node_b, in_places, with_links, context_of, tied, nothing, x, y, z}

-- the clauses: each region has a child node, each outer name a point, no two sites lie in one place, each lies in a node,
-- there is a node, no inner name, each outer name is plain, each edge has a point
abbrev pub clauses : Big → List Bool
clauses big =
    regions_are_filled big ∷ list_all (λ (name : Name). has_point big (Outer name)) big.outer ∷ differ same_place big.sites
    ∷ list_all (λ (place : Place). is_node place) big.sites ∷ ltb 0 (length big.nodes) ∷ is_nil big.inner
    ∷ list_all (λ (name : Name). is_plain name) big.outer ∷ edges_are_good big ∷ []

-- the bigraph is valid and meets just these clauses, and a ground host has two decompositions with it
pub record ShowsCase (host pattern : Big) (nodes : List ℕ) (met : List Bool) : Type 0 where
  pub valid : IsValid pattern
  pub ground : IsGround host
  pub clauses_met : clauses pattern ≡ met
  pub two : HasTwoDecompositions host pattern nodes

-- A.1 || 1 in A.1 || 1: the empty region may lie in each region of the host
pub empty_region : ShowsCase (in_places (node_a 0 (Region 0) ∷ []) [] 2) (in_places (node_a 0 (Region 0) ∷ []) [] 2) (0 ∷ []) (false ∷ true ∷ true ∷ true ∷ true ∷ true ∷ true ∷ true ∷ [])
unfolding compose tensor identity rename number_renamed counted sort put fault_of sites_fault inner_fault outer_fault edges_fault nodes_fault
empty_region =
    record {
      valid = valid_by four_controls _ refl;
      ground = ground_by four_controls _ refl refl;
      clauses_met = refl;
      two = record {
        context = in_places [] (Region 0 ∷ Region 0 ∷ []) 2;
        edges = [];
        parameter = nothing;
        other_context = in_places [] (Region 0 ∷ Region 1 ∷ []) 2;
        other_edges = [];
        other_parameter = nothing;
        one = decomposes_by four_controls _ _ _ _ _ _ (valid_by four_controls _ refl) (valid_by four_controls _ refl) (parameter_by four_controls _ refl refl tt refl) refl refl;
        other = decomposes_by four_controls _ _ _ _ _ _ (valid_by four_controls _ refl) (valid_by four_controls _ refl) (parameter_by four_controls _ refl refl tt refl) refl refl;
        not_the_same = λ same. unlike (λ (big : Big). differ same_place big.sites) (in_places [] (Region 0 ∷ Region 1 ∷ []) 2) (in_places [] (Region 0 ∷ Region 0 ∷ []) 2) refl refl (sym same.0);
      };
    }

-- A.1 with an idle name x in A.1 with idle names y and z: x may be tied to y or to z
pub idle_name : ShowsCase (with_links (node_a 0 (Region 0) ∷ []) [] (y ∷ z ∷ []) 1) (with_links (node_a 0 (Region 0) ∷ []) [] (x ∷ []) 1) (0 ∷ []) (true ∷ false ∷ true ∷ true ∷ true ∷ true ∷ true ∷ true ∷ [])
unfolding compose tensor identity rename number_renamed counted sort put fault_of sites_fault inner_fault outer_fault edges_fault nodes_fault
idle_name =
    record {
      valid = valid_by four_controls _ refl;
      ground = ground_by four_controls _ refl refl;
      clauses_met = refl;
      two = record {
        context = context_of [] [] (Region 0 ∷ []) (tied x (Outer y) ∷ []) 1 (y ∷ z ∷ []);
        edges = [];
        parameter = nothing;
        other_context = context_of [] [] (Region 0 ∷ []) (tied x (Outer z) ∷ []) 1 (y ∷ z ∷ []);
        other_edges = [];
        other_parameter = nothing;
        one = decomposes_by four_controls _ _ _ _ _ _ (valid_by four_controls _ refl) (valid_by four_controls _ refl) (parameter_by four_controls _ refl refl tt refl) refl refl;
        other = decomposes_by four_controls _ _ _ _ _ _ (valid_by four_controls _ refl) (valid_by four_controls _ refl) (parameter_by four_controls _ refl refl tt refl) refl refl;
        not_the_same = λ same. unlike (λ (big : Big). list_any (λ (row : InnerRow). same_link row.link (Outer y)) big.inner) (context_of [] [] (Region 0 ∷ []) (tied x (Outer y) ∷ []) 1 (y ∷ z ∷ [])) (context_of [] [] (Region 0 ∷ []) (tied x (Outer z) ∷ []) 1 (y ∷ z ∷ [])) refl refl same.0;
      };
    }

-- A.(id | id) in A.B.1: the B may lie in the first site or in the second
pub two_sites_in_one_node : ShowsCase (in_places (node_a 0 (Region 0) ∷ node_b 1 (Node 0) ∷ []) [] 1) (in_places (node_a 0 (Region 0) ∷ []) (Node 0 ∷ Node 0 ∷ []) 1) (0 ∷ []) (true ∷ true ∷ false ∷ true ∷ true ∷ true ∷ true ∷ true ∷ [])
unfolding compose tensor identity rename number_renamed counted sort put fault_of sites_fault inner_fault outer_fault edges_fault nodes_fault
two_sites_in_one_node =
    record {
      valid = valid_by four_controls _ refl;
      ground = ground_by four_controls _ refl refl;
      clauses_met = refl;
      two = record {
        context = in_places [] (Region 0 ∷ []) 1;
        edges = [];
        parameter = in_places (node_b 1 (Region 0) ∷ []) [] 2;
        other_context = in_places [] (Region 0 ∷ []) 1;
        other_edges = [];
        other_parameter = in_places (node_b 1 (Region 1) ∷ []) [] 2;
        one = decomposes_by four_controls _ _ _ _ _ _ (valid_by four_controls _ refl) (valid_by four_controls _ refl) (parameter_by four_controls _ refl refl (refl, tt) refl) refl refl;
        other = decomposes_by four_controls _ _ _ _ _ _ (valid_by four_controls _ refl) (valid_by four_controls _ refl) (parameter_by four_controls _ refl refl (refl, tt) refl) refl refl;
        not_the_same = λ same. unlike (λ (big : Big). list_any (λ (row : NodeRow). same_place row.parent (Region 0)) big.nodes) (in_places (node_b 1 (Region 0) ∷ []) [] 2) (in_places (node_b 1 (Region 1) ∷ []) [] 2) refl refl same.2;
      };
    }

-- A.1 | id in A.1 | B.1: the B may belong to the context or to the parameter
pub site_in_a_region : ShowsCase (in_places (node_a 0 (Region 0) ∷ node_b 1 (Region 0) ∷ []) [] 1) (in_places (node_a 0 (Region 0) ∷ []) (Region 0 ∷ []) 1) (0 ∷ []) (true ∷ true ∷ true ∷ false ∷ true ∷ true ∷ true ∷ true ∷ [])
unfolding compose tensor identity rename number_renamed counted sort put fault_of sites_fault inner_fault outer_fault edges_fault nodes_fault
site_in_a_region =
    record {
      valid = valid_by four_controls _ refl;
      ground = ground_by four_controls _ refl refl;
      clauses_met = refl;
      two = record {
        context = in_places (node_b 1 (Region 0) ∷ []) (Region 0 ∷ []) 1;
        edges = [];
        parameter = in_places [] [] 1;
        other_context = in_places [] (Region 0 ∷ []) 1;
        other_edges = [];
        other_parameter = in_places (node_b 1 (Region 0) ∷ []) [] 1;
        one = decomposes_by four_controls _ _ _ _ _ _ (valid_by four_controls _ refl) (valid_by four_controls _ refl) (parameter_by four_controls _ refl refl tt refl) refl refl;
        other = decomposes_by four_controls _ _ _ _ _ _ (valid_by four_controls _ refl) (valid_by four_controls _ refl) (parameter_by four_controls _ refl refl (refl, tt) refl) refl refl;
        not_the_same = λ same. unlike (λ (big : Big). is_nil big.nodes) (in_places [] (Region 0 ∷ []) 1) (in_places (node_b 1 (Region 0) ∷ []) (Region 0 ∷ []) 1) refl refl (sym same.0);
      };
    }

-- A.1 with an idle edge in A.1 with two idle edges: each may be its image
pub idle_edge : ShowsCase (with_links (node_a 0 (Region 0) ∷ []) (3 ∷ 4 ∷ []) [] 1) (with_links (node_a 0 (Region 0) ∷ []) (0 ∷ []) [] 1) (0 ∷ []) (true ∷ true ∷ true ∷ true ∷ true ∷ true ∷ true ∷ false ∷ [])
unfolding compose tensor identity rename number_renamed counted sort put fault_of sites_fault inner_fault outer_fault edges_fault nodes_fault
idle_edge =
    record {
      valid = valid_by four_controls _ refl;
      ground = ground_by four_controls _ refl refl;
      clauses_met = refl;
      two = record {
        context = context_of [] (4 ∷ []) (Region 0 ∷ []) [] 1 [];
        edges = 3 ∷ [];
        parameter = nothing;
        other_context = context_of [] (3 ∷ []) (Region 0 ∷ []) [] 1 [];
        other_edges = 4 ∷ [];
        other_parameter = nothing;
        one = decomposes_by four_controls _ _ _ _ _ _ (valid_by four_controls _ refl) (valid_by four_controls _ refl) (parameter_by four_controls _ refl refl tt refl) refl refl;
        other = decomposes_by four_controls _ _ _ _ _ _ (valid_by four_controls _ refl) (valid_by four_controls _ refl) (parameter_by four_controls _ refl refl tt refl) refl refl;
        not_the_same = λ same. unlike (list_any (λ edge. eqb edge 3)) (3 ∷ []) (4 ∷ []) refl refl same.1;
      };
    }
