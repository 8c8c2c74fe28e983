-- What a plan tells of a reaction.
use Rattle.std.specs.Prelude.{◌≡◌, ◌↔◌, ℕ, ◌==◌, not, List, [], ◌∷◌, ◌++◌, length, map, filter, Bool}
use Rattle.std.specs.List.Sorted.{IsStrictlySortedBy}
use Rattle.std.specs.Ordering.{nat_cmp}
use Rattle.bg_lists.specs.Lists.{Mem}
use Rattle.bg_base.specs.declared.names.Link.{Link}
use Rattle.bg_base.specs.declared.names.Link.TheVariants.{Edge}
use Rattle.bg_base.specs.declared.big.Big.{Big}
use Rattle.bg_link.specs.Links.{links_of, degree_of}
use Rattle.bg_rules.specs.Decomposition.{Occurs}
use Rattle.bg_rules.specs.Reaction.{HostState}
use Rattle.bg_rules.specs.Rules.{RuleParts, IsRule}
use Rattle.bg_index.specs.declared.causes.Causes.{Causes}
use Rattle.bg_index.specs.declared.causes.Relinked.{Relinked}
use Rattle.bg_index.specs.declared.entries.NodeEntry.{NodeEntry}
use Rattle.bg_index.specs.declared.plans.Bundle.{Bundle}
use Rattle.bg_index.specs.declared.plans.LinkKey.{LinkKey}
use Rattle.bg_index.specs.declared.plans.LinkKey.TheVariants.{Edge as EdgeKey, Name as NameKey}
use Rattle.bg_index.specs.declared.plans.Move.{Move}
use Rattle.bg_index.specs.declared.plans.Plan.{Plan}
use Rattle.bg_index.specs.Indexed.{edges_of}
use Rattle.bg_index.specs.Noting.{name_at, nests_noted}
use Rattle.bg_index.specs.Plans.{IsReactionPlan}

-- a plan of a reaction of the host by some rule
pub record IsPlanned (host : HostState) (plan : Plan) : Type 0 where
  pub rule : RuleParts
  pub nodes : List ℕ
  pub is_rule : IsRule rule
  pub occurs : Occurs host.big rule.redex nodes
  pub is_plan : IsReactionPlan host rule nodes plan

-- ---- nodes

abbrev pub nodes_moved : List Move → List ℕ
nodes_moved moves = map (λ (move : Move). move.node) moves

-- something is to lie in the new node
abbrev pub has_children : NodeEntry → Bool
has_children entry = not (length entry.children.items == 0)

abbrev pub entries_filled : List NodeEntry → List ℕ
entries_filled entries = map (λ (entry : NodeEntry). entry.row.id) (filter has_children entries)

-- the new nodes in which something is to lie, and those that get other children
abbrev pub reshaped_by : Plan → List ℕ
reshaped_by plan = entries_filled plan.entries.items ++ nests_noted plan.nests.items

-- ---- links

abbrev pub edge_keyed : LinkKey → List ℕ
edge_keyed (EdgeKey edge) = edge ∷ []
edge_keyed (NameKey at) = []

abbrev pub name_keyed : LinkKey → List ℕ
name_keyed (EdgeKey edge) = []
name_keyed (NameKey at) = at ∷ []

-- the edges among the links that get other points
abbrev pub edges_bundled : List Bundle → List ℕ
edges_bundled [] = []
edges_bundled (bundle ∷ bundles) = edge_keyed bundle.key ++ edges_bundled bundles

-- the outer names among them, by their positions
abbrev pub names_bundled : List Bundle → List ℕ
names_bundled [] = []
names_bundled (bundle ∷ bundles) = name_keyed bundle.key ++ names_bundled bundles

-- the edges that get other points, those that go, and those that come
abbrev pub edges_relinked : Plan → List ℕ
edges_relinked plan = edges_bundled plan.bundles.items ++ (plan.idle.items ++ edges_of plan.used.items)

-- a link with its degree
abbrev pub told_of : Big → Link → Relinked
told_of big link = record { link = link; degree = degree_of (links_of big) link }

abbrev pub edges_told : Big → List ℕ → List Relinked
edges_told big edges = map (λ edge. told_of big (Edge edge)) edges

abbrev pub names_told : Big → List ℕ → List Relinked
names_told big names = map (λ at. told_of big (name_at big.outer at)) names

-- the edges in order, and then the outer names in order, each with its degree in the host
pub record AreTold (big : Big) (plan : Plan) (relinked : List Relinked) : Type 0 where
  pub edges : List ℕ
  pub names : List ℕ
  pub edges_ascend : IsStrictlySortedBy nat_cmp edges
  pub edges_are : (edge : ℕ) → Mem edge edges ↔ Mem edge (edges_relinked plan)
  pub names_ascend : IsStrictlySortedBy nat_cmp names
  pub names_are : (at : ℕ) → Mem at names ↔ Mem at (names_bundled plan.bundles.items)
  pub are : relinked ≡ edges_told big edges ++ names_told big names

-- what is told of a reaction of the host by the plan
pub record IsToldBy (host : HostState) (plan : Plan) (causes : Causes) : Type 0 where
  pub gone : causes.gone.items ≡ plan.gone.items
  pub next_node : causes.next_node ≡ host.next_node
  pub moved : causes.moved.items ≡ nodes_moved plan.moves.items
  pub reshaped_ascends : IsStrictlySortedBy nat_cmp causes.reshaped.items
  pub reshaped_are : (node : ℕ) → Mem node causes.reshaped.items ↔ Mem node (reshaped_by plan)
  pub relinked : AreTold host.big plan causes.relinked.items
