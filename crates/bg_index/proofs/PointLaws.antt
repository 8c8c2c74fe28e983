-- Points and their nodes.
use Rattle.std.proofs.Common.{◌≡◌, ℕ, ◌<◌, Bool, ◌++◌, ◌∷◌, [], List, length, map, filter, unwrap_or, option_map, append_assoc, refl, sym, ap, subst, ◌∙◌, inl, inr}
use Rattle.bg_lists.specs.Lists.{Mem, here, there}
use Rattle.bg_lists.proofs.Members.{Mem-append_cases, Mem-append_left, Mem-append_right, Mem-cons_cases, Mem-unfilter, Mem-unmap}
use Rattle.bg_lists.proofs.Places.{At-total, slice_get-At}
use Rattle.bg_base.specs.declared.names.Link.{Link}
use Rattle.bg_base.specs.declared.names.Link.TheVariants.{Edge, Outer}
use Rattle.bg_base.specs.declared.names.Name.{Name}
use Rattle.bg_base.specs.declared.big.NodeRow.{NodeRow}
use Rattle.bg_base.specs.Products.{same_link}
use Rattle.bg_link.specs.declared.graph.Point.{Point}
use Rattle.bg_link.specs.declared.graph.Point.TheVariants.{Port, Inner}
use Rattle.bg_link.specs.declared.graph.PortRow.{PortRow}
use Rattle.bg_link.specs.Links.{point_of, port_row, ports_in}
use Rattle.bg_link.proofs.PointLaws.{port_in}
use Rattle.bg_rewriting.specs.Keeping.{ports_on}
use Rattle.bg_index.specs.declared.plans.Bundle.{Bundle}
use Rattle.bg_index.specs.declared.plans.LinkKey.{LinkKey}
use Rattle.bg_index.specs.declared.plans.LinkKey.TheVariants.{Edge as EdgeKey, Name as NameKey}
use Rattle.bg_index.specs.Noting.{link_at}
use Rattle.bg_index.specs.Plans.{IsKeyOf}
use Rattle.bg_index.specs.PortNodes.{port_node, port_nodes}
use Rattle.bg_index.specs.Telling.{name_keyed, names_bundled}

pub point_in : {node index : ℕ} (points : List Point) → Mem (Port node index) points → Mem node (port_nodes points)
point_in [] m = elim m [ ]
point_in {node} (other ∷ points) (here same) =
    Mem-append_left (port_node other) (port_nodes points) (subst (λ p. Mem node (port_node p)) (sym same) (here refl))
point_in (other ∷ points) (there m) = Mem-append_right (port_node other) (port_nodes points) (point_in points m)

port_is : {node : ℕ} (point : Point) → Mem node (port_node point) → (index : ℕ) × (point ≡ Port node index)
port_is (Port other index) m = elim (Mem-cons_cases m) [ inl e ↦ (index, ap (λ n. Port n index) e) | inr k ↦ elim k [ ] ]
port_is (Inner name) m = elim m [ ]

pub point_in_points : {node : ℕ} (points : List Point) → Mem node (port_nodes points) → (index : ℕ) × Mem (Port node index) points
point_in_points [] m = elim m [ ]
point_in_points (point ∷ points) m =
    elim (Mem-append_cases (port_node point) (port_nodes points) m) [
      | inl k ↦ (let w = port_is point k in (w.0, here w.1))
      | inr k ↦ (let w = point_in_points points k in (w.0, there w.1))
    ]

-- a port of rows on a link is one of a row
pub row_of_port : {node index : ℕ} (link : Link) (rows : List NodeRow) → Mem (Port node index) (ports_on link rows)
    → (row : NodeRow) × Mem row rows × (row.id ≡ node)
row_of_port {node} {index} link rows m =
    let test : Point × Link → Bool = λ tied. same_link tied.1 link in
    let t = Mem-unmap point_of (filter test (ports_in (map port_row rows))) m in
    let p = port_in (map port_row rows) (Mem-unfilter test (ports_in (map port_row rows)) t.1).0 in
    let r = Mem-unmap port_row rows p.1 in
    let both : Port p.0.node p.2 ≡ Port node index = p.3 ∙ t.2 in
    let one : p.0.node ≡ node = cc in
    (r.0, r.1, ap (λ (row : PortRow). row.node) r.2 ∙ one)

pub port_nodes-append : (xs ys : List Point) → port_nodes (xs ++ ys) ≡ port_nodes xs ++ port_nodes ys
port_nodes-append [] ys = refl
port_nodes-append (x ∷ xs) ys =
    ap (λ ns. port_node x ++ ns) (port_nodes-append xs ys) ∙ sym (append_assoc (port_node x) (port_nodes xs) (port_nodes ys))

-- nodes that are put behind in two turns
pub nodes_in_turn : (old middle new : List ℕ) (first seen second : List Point) → middle ≡ old ++ port_nodes first → new ≡ middle ++ port_nodes second
    → first ≡ seen → new ≡ old ++ port_nodes (seen ++ second)
nodes_in_turn old middle new first seen second one two same =
    two ∙ ap (λ ns. ns ++ port_nodes second) (one ∙ ap (λ ps. old ++ port_nodes ps) same)
    ∙ append_assoc old (port_nodes seen) (port_nodes second) ∙ ap (λ ns. old ++ ns) (sym (port_nodes-append seen second))

-- ---- links of bundles

-- a key that is no position past the outer names is that of a link
pub key_there : (outer : List Name) (key : LinkKey) → ((at : ℕ) → key ≡ NameKey at → at < length outer) → IsKeyOf outer key (link_at outer key)
key_there outer (EdgeKey edge) below = refl
key_there outer (NameKey at) below =
    let w = At-total outer at (below at refl) in
    (w.0, w.1, ap (λ o. unwrap_or (option_map Outer o) (Edge 0)) (slice_get-At outer w.1))

name_in : {at : ℕ} (key : LinkKey) → key ≡ NameKey at → Mem at (name_keyed key)
name_in {at} key e = subst (λ k. Mem at (name_keyed k)) (sym e) (here refl)

-- the name of a bundle is among the names of all
pub name_in_bundles : {bundle : Bundle} {at : ℕ} (bundles : List Bundle) → Mem bundle bundles → bundle.key ≡ NameKey at → Mem at (names_bundled bundles)
name_in_bundles [] m e = elim m [ ]
name_in_bundles (other ∷ bundles) (here same) e =
    Mem-append_left (name_keyed other.key) (names_bundled bundles) (name_in other.key (ap (λ (b : Bundle). b.key) same ∙ e))
name_in_bundles (other ∷ bundles) (there m) e = Mem-append_right (name_keyed other.key) (names_bundled bundles) (name_in_bundles bundles m e)
