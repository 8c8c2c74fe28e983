-- Lists as a reaction leaves them are those of the host after.
use Rattle.std.proofs.Common.{◌≡◌, ℕ, Bool, not, List, ◌++◌, filter, sym, ap, ◌∙◌}
use Rattle.bg_lists.proofs.Members.{Mem-same}
use Rattle.bg_lists.proofs.Places.{Mem-from_At}
use Rattle.bg_base.specs.declared.names.Place.{Place}
use Rattle.bg_base.specs.declared.names.Place.TheVariants.{Node, Region}
use Rattle.bg_base.specs.declared.names.Link.{Link}
use Rattle.bg_base.specs.declared.names.Link.TheVariants.{Edge, Outer}
use Rattle.bg_base.specs.declared.big.NodeRow.{NodeRow}
use Rattle.bg_algebra.proofs.CompositionLaws.{same_edges}
use Rattle.bg_place.specs.Places.{places_of, children_of}
use Rattle.bg_link.specs.declared.graph.Point.{Point}
use Rattle.bg_link.specs.Links.{links_of, points_of}
use Rattle.bg_rewriting.specs.Boundaries.{Boundary, IsBoundary}
use Rattle.bg_rewriting.specs.Keeping.{ports_on, stays_at}
use Rattle.bg_rules.specs.Lookups.{nodes_with}
use Rattle.bg_rewriting.proofs.Keeps.{nodes_after, ports_after, points_are}
use Rattle.bg_rewriting.proofs.Members.{Mem-children, child_row, children_up}
use Rattle.bg_rewriting.proofs.Reacted.{children_stay, roots_stay, points_stay}
use Rattle.bg_rules.specs.Hosts.{IsHost}
use Rattle.bg_rules.specs.Instantiation.{is_among}
use Rattle.bg_rules.specs.Reaction.{HostState, IsNumbered, Reacts}
use Rattle.bg_rules.specs.Rules.{RuleParts, IsRule}
use Rattle.bg_index.specs.declared.entries.Index.{Index}
use Rattle.bg_index.specs.Indexed.{IsIndexOf}
use Rattle.bg_index.specs.Steps.{AreChildren, ChildrenFrom, as_before, made_anew, RegionFrom, region_before, region_anew, PointsFrom, points_before, kept_and_new, IsStep}

module _ (host : HostState) (rule : RuleParts) (nodes : List ℕ) (boundary : Boundary) (after : HostState) (numbered : IsNumbered host)
    (is_rule : IsRule rule) (is_boundary : IsBoundary host.big rule nodes boundary) (r : Reacts host rule nodes after) (is_host : IsHost after) where
  -- a list with the right members is the list of the children
  children_of_list : (place : Place) (list : List ℕ) → AreChildren after.big.nodes place list → list ≡ children_of (places_of after.big) place
  children_of_list place list are =
      same_edges list (children_of (places_of after.big) place) are.ascend (children_up after.big place is_host.numbered.ground.valid)
      (λ n m. let w = are.only n m in Mem-same w.2 (Mem-children after.big place w.1 w.3))
      (λ n m. let w = child_row after.big place m in Mem-same w.2 (are.all w.0 w.1 w.3))

  node_children : (node : ℕ) (list : List ℕ) → ChildrenFrom host.big after.big boundary node list → list ≡ children_of (places_of after.big) (Node node)
  node_children node list (as_before {was} {row} m n e f apart same) =
      same ∙ ap (λ k. children_of (places_of host.big) (Node k)) (sym f)
      ∙ children_stay host rule nodes boundary after numbered is_rule is_boundary r was row m n (e ∙ sym f) (λ k. apart (Mem-same (ap Node f) k))
      ∙ ap (λ k. children_of (places_of after.big) (Node k)) f
  node_children node list (made_anew are) = children_of_list (Node node) list are

  region_children : (region : ℕ) (list : List ℕ) → RegionFrom host.big after.big boundary region list
      → list ≡ children_of (places_of after.big) (Region region)
  region_children region list (region_before apart same) =
      same ∙ roots_stay host rule nodes boundary after numbered is_rule is_boundary r region apart
  region_children region list (region_anew are) = children_of_list (Region region) list are

  module _ (gone : List ℕ) (move : NodeRow → NodeRow) (new : List NodeRow) (index : Index)
      (step : IsStep host rule nodes boundary after gone move new index) where
    abbrev stay : ℕ → Bool
    stay node = not (is_among node gone)

    link_points : (link : Link) (list : List Point) → PointsFrom host rule nodes after.big gone new link list → list ≡ points_of (links_of after.big) link
    link_points link list (points_before lost got same) =
        same ∙ points_stay host rule nodes boundary after numbered is_rule is_boundary r link lost got
    link_points link list (kept_and_new same) =
        same
        ∙ ap (λ ps. filter (stays_at stay) ps ++ ports_on link new) (points_are host.big link numbered.ground.no_inner)
        ∙ sym (ports_after host.big.nodes new stay move step.same_id step.same_control step.same_links link)
        ∙ sym (ap (ports_on link) step.rows)
        ∙ sym (points_are after.big link is_host.numbered.ground.no_inner)

    control_nodes : (control : ℕ) → filter stay (nodes_with control host.big.nodes) ++ nodes_with control new ≡ nodes_with control after.big.nodes
    control_nodes control =
        sym (nodes_after host.big.nodes new stay move step.same_id step.same_control step.same_links control) ∙ sym (ap (nodes_with control) step.rows)

    pub step_indexed : IsIndexOf after index
    step_indexed =
        record {
          is_host = is_host;
          nested = record {
            slots_ascend = step.slots_ascend;
            kept = λ slot m. let w = step.entries_are slot m in
                record { entry = w.0; found = w.1; number = w.2; children = node_children slot.node w.0.children.items w.3 };
            regions_are = λ region entry a. region_children region entry.children.items (step.regions_are region entry a);
            regions_few = step.regions_few;
          };
          tied = record {
            edges_are = λ entry m. record {
              points = link_points (Edge entry.edge) entry.points.items (step.edges_are entry m);
              few = step.edges_few entry m;
            };
            names_many = step.names_many;
            names_are = λ i name entry a b. record {
              points = link_points (Outer name) entry.points.items (step.names_are i name entry a b);
              few = step.names_few entry (Mem-from_At b);
            };
          };
          sorted = record {
            controls_ascend = step.controls_ascend;
            controls_are = λ entry m. step.controls_are entry m ∙ control_nodes entry.control;
            each_there = step.each_there;
          };
        }
