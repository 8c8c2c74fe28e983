-- When a concrete bigraph is valid, and when it is valid under a signature (Milner, chapter 2).
use Rattle.std.specs.Prelude.{◌≡◌, ℕ, zero, suc, ◌<◌, Bool, true, false, nat_lt, ◌==◌, Option, IsTrue, is_some, unwrap_or, option_map, find, List, [], length, slice_get, All}
use Rattle.std.specs.List.{list_all}
use Rattle.std.specs.List.Sorted.{IsStrictlySortedBy}
use Rattle.std.specs.Ordering.{nat_cmp, is_eq, on}
use Rattle.std.specs.declared.cmp.Ordering.{Ordering}
use Rattle.bg_base.specs.declared.names.Name.{Name}
use Rattle.bg_base.specs.declared.names.Place.{Place}
use Rattle.bg_base.specs.declared.names.Place.TheVariants.{Node, Region}
use Rattle.bg_base.specs.declared.names.Link.{Link}
use Rattle.bg_base.specs.declared.names.Link.TheVariants.{Edge, Outer}
use Rattle.bg_base.specs.declared.big.NodeRow.{NodeRow}
use Rattle.bg_base.specs.declared.big.InnerRow.{InnerRow}
use Rattle.bg_base.specs.declared.big.Big.{Big}
use Rattle.bg_base.specs.declared.signature.Control.{Control}
use Rattle.bg_base.specs.declared.signature.Kind.{Kind}
use Rattle.bg_base.specs.declared.signature.Kind.TheVariants.{Normal, Atomic}
use Rattle.bg_base.specs.Order.{name_cmp}

-- node rows by their numbers
abbrev pub node_cmp : NodeRow → NodeRow → Ordering
node_cmp = on (λ (row : NodeRow). row.id) nat_cmp

-- inner rows by their names
abbrev pub inner_cmp : InnerRow → InnerRow → Ordering
inner_cmp = on (λ (row : InnerRow). row.name) name_cmp

-- the row of a node: the first of that number
abbrev pub row_of : List NodeRow → ℕ → Option NodeRow
row_of rows node = find (λ (row : NodeRow). row.id == node) rows

-- the edge of that number, where it is there
abbrev pub edge_of : List ℕ → ℕ → Option ℕ
edge_of edges edge = find (λ (other : ℕ). other == edge) edges

-- the outer name that is this name, where it is there
abbrev pub outer_of : List Name → Name → Option Name
outer_of names name = find (λ (other : Name). is_eq (name_cmp other name)) names

-- the row of an inner name: the first of that name
abbrev pub inner_of : List InnerRow → Name → Option InnerRow
inner_of rows name = find (λ (row : InnerRow). is_eq (name_cmp row.name name)) rows

-- the place is there: a node of the bigraph, or one of its regions
abbrev pub has_place : Big → Place → Bool
has_place big (Node node) = is_some (row_of big.nodes node)
has_place big (Region region) = nat_lt region big.regions

-- the link is there: an edge of the bigraph, or one of its outer names
abbrev pub has_link : Big → Link → Bool
has_link big (Edge edge) = is_some (edge_of big.edges edge)
has_link big (Outer name) = is_some (outer_of big.outer name)

-- from the place the parents reach a region that is there, in at most so many moves
abbrev pub reaches : List NodeRow → ℕ → ℕ → Place → Bool
reaches rows regions zero (Node node) = false
reaches rows regions zero (Region region) = nat_lt region regions
reaches rows regions (suc moves) (Node node) =
    unwrap_or (option_map (λ (row : NodeRow). reaches rows regions moves row.parent) (row_of rows node)) false
reaches rows regions (suc moves) (Region region) = nat_lt region regions

-- the node has a root: its parents reach a region in at most as many moves as there are nodes
abbrev pub is_rooted : Big → ℕ → Bool
is_rooted big node = reaches big.nodes big.regions (length big.nodes) (Node node)

-- a valid bigraph
pub record IsValid (big : Big) : Type 0 where
  pub nodes_ascend : IsStrictlySortedBy node_cmp big.nodes
  pub edges_ascend : IsStrictlySortedBy nat_cmp big.edges
  pub inner_ascends : IsStrictlySortedBy inner_cmp big.inner
  pub outer_ascends : IsStrictlySortedBy name_cmp big.outer
  pub parents_there : All (λ (row : NodeRow). IsTrue (has_place big row.parent)) big.nodes
  pub sites_there : All (λ (place : Place). IsTrue (has_place big place)) big.sites
  pub links_there : All (λ (row : NodeRow). IsTrue (list_all (has_link big) row.links)) big.nodes
  pub inner_links_there : All (λ (row : InnerRow). IsTrue (has_link big row.link)) big.inner
  pub rooted : All (λ (row : NodeRow). IsTrue (is_rooted big row.id)) big.nodes

-- the kind is atomic
abbrev pub is_atomic_kind : Kind → Bool
is_atomic_kind Normal = false
is_atomic_kind Atomic = true

-- the number is that of an atomic control
abbrev pub is_atomic_control : List Control → ℕ → Bool
is_atomic_control signature control =
    unwrap_or (option_map (λ (found : Control). is_atomic_kind found.kind) (slice_get signature control)) false

-- the place is a node of an atomic control
abbrev pub is_atomic : List Control → Big → Place → Bool
is_atomic signature big (Node node) =
    unwrap_or (option_map (λ (row : NodeRow). is_atomic_control signature row.control) (row_of big.nodes node)) false
is_atomic signature big (Region region) = false

-- the arity of the control of that number, 0 where there is none
abbrev pub arity_of : List Control → ℕ → ℕ
arity_of signature control = unwrap_or (option_map (λ (found : Control). found.arity) (slice_get signature control)) 0

-- a valid bigraph whose nodes are as the signature asks
pub record IsValidUnder (signature : List Control) (big : Big) : Type 0 where
  pub valid : IsValid big
  pub controls_there : All (λ (row : NodeRow). row.control < length signature) big.nodes
  pub ports_fit : All (λ (row : NodeRow). length row.links ≡ arity_of signature row.control) big.nodes
  pub no_atomic_parent : All (λ (row : NodeRow). is_atomic signature big row.parent ≡ false) big.nodes
  pub no_atomic_site : All (λ (place : Place). is_atomic signature big place ≡ false) big.sites

-- a ground bigraph: it is valid and has no site and no inner name, so that nothing can be put into it
pub record IsGround (big : Big) : Type 0 where
  pub valid : IsValid big
  pub no_sites : big.sites ≡ []
  pub no_inner : big.inner ≡ []
