-- What the rows of the example's bigraphs are, computed: they make a host, a pattern, and the side of a rule.
use Rattle.std.proofs.Common.{◌≡◌, length, refl, sym, subst, arith}
use Rattle.std.specs.Prelude.{IsTrue, All}
use Rattle.std.proofs.lemmas.List.Elements.{All-from_recursion}
use Rattle.bg_lists.specs.Lists.{put, sort}
use Rattle.bg_lists.specs.Orders.{put_once, set_of}
use Rattle.bg_base.specs.declared.names.Name.{Name}
use Rattle.bg_base.specs.declared.names.Link.TheVariants.{Edge}
use Rattle.bg_base.specs.declared.big.Big.{Big}
use Rattle.bg_base.specs.Bigraph.{IsValid}
use Rattle.bg_base.specs.Composition.{compose}
use Rattle.bg_base.specs.Elementary.{counted, identity, ion, atom}
use Rattle.bg_base.specs.Products.{parallel, merge, nest, close, has_point}
use Rattle.bg_algebra.specs.Frame.{is_plain}
use Rattle.bg_rules.specs.Hosts.{IsHostBig, fresh_host}
use Rattle.bg_rules.specs.Limits.{IsWithinLimits}
use Rattle.bg_rules.specs.Rules.{IsNumberedFromZero}
use Rattle.library_example.specs.Terms.{rooms, inside, wired, building, redex, agent_beside, reactum}

-- ---- the host

building_fits : IsValid building → IsHostBig building
unfolding building wired inside rooms close nest compose merge parallel identity counted ion atom set_of put_once sort put
building_fits valid =
    record {
      ground = record { valid = valid; no_sites = refl; no_inner = refl };
      names_plain = All-from_recursion (λ (name : Name). IsTrue (is_plain name)) building.outer tt;
      edges_used = All-from_recursion (λ edge. IsTrue (has_point building (Edge edge))) building.edges (refl, tt);
    }

building_nodes : length building.nodes ≡ 4
unfolding building wired inside rooms close nest compose merge parallel identity counted ion atom set_of put_once sort put
building_nodes = refl

building_edges : length building.edges ≡ 1
unfolding building wired inside rooms close nest compose merge parallel identity counted ion atom set_of put_once sort put
building_edges = refl

building_next_node : (fresh_host building).next_node ≡ 4
unfolding building wired inside rooms close nest compose merge parallel identity counted ion atom set_of put_once sort put
building_next_node = refl

building_next_edge : (fresh_host building).next_edge ≡ 1
unfolding building wired inside rooms close nest compose merge parallel identity counted ion atom set_of put_once sort put
building_next_edge = refl

building_within : IsWithinLimits (fresh_host building)
building_within =
    record {
      few_nodes = omega (arith, building_nodes);
      few_edges = omega (arith, building_edges);
      counters_small = record {
        next_node_small = omega (arith, building_next_node);
        next_edge_small = omega (arith, building_next_edge);
      };
    }

pub is_host_big : (big : Big) → big ≡ building → IsValid big → IsHostBig big
is_host_big big e valid = subst IsHostBig (sym e) (building_fits (subst IsValid e valid))

pub is_within : (big : Big) → big ≡ building → IsWithinLimits (fresh_host big)
is_within big e = subst (λ (other : Big). IsWithinLimits (fresh_host other)) (sym e) building_within

-- ---- the redex

pub redex_used : (big : Big) → big ≡ redex → All (λ edge. IsTrue (has_point big (Edge edge))) big.edges
unfolding redex merge parallel ion atom sort
redex_used big e =
    subst (λ (other : Big). All (λ edge. IsTrue (has_point other (Edge edge))) other.edges) (sym e)
    (All-from_recursion (λ edge. IsTrue (has_point redex (Edge edge))) redex.edges tt)

-- ---- the reactum

reactum_numbered : IsNumberedFromZero reactum
unfolding reactum agent_beside nest compose merge parallel identity counted ion atom set_of put_once sort put
reactum_numbered = record { nodes_counted = refl; edges_counted = refl }

pub is_numbered : (big : Big) → big ≡ reactum → IsNumberedFromZero big
is_numbered big e = subst IsNumberedFromZero (sym e) reactum_numbered
