-- The definitions, tried on small expressions.
use Rattle.std.proofs.Common.{◌≡◌, true, false, [], ◌∷◌, Ok, refl}
use Rattle.bg_lists.specs.Lists.{sort, put}
use Rattle.bg_lists.specs.Orders.{set_of, put_once}
use Rattle.bg_base.specs.declared.names.Place.TheVariants.{Node, Region}
use Rattle.bg_base.specs.declared.names.Link.TheVariants.{Edge}
use Rattle.bg_base.specs.declared.signature.Control.{Control}
use Rattle.bg_base.specs.declared.signature.Kind.TheVariants.{Normal, Atomic}
use Rattle.bg_base.specs.Elementary.{barren, ion, atom}
use Rattle.bg_base.specs.Products.{parallel, merge, close}
use Rattle.bg_values.specs.declared.refusal.Cause.TheVariants.{AtomicHasChild, WidthsDiffer}
use Rattle.bg_values.specs.Outcome.{refused}
use Rattle.bg_terms.specs.declared.shape.BinaryOperation.TheVariants.{Merge}
use Rattle.bg_terms.specs.Terms as terms
use Rattle.bg_terms.specs.Values.{Come, Reached, value}

-- atomic controls A and L, of arity 0 and 2, and a normal control R of arity 0
agent : Control
agent = record { label = record { name = 65 ∷ []; args = [] }; arity = 0; kind = Atomic }

line : Control
line = record { label = record { name = 76 ∷ []; args = [] }; arity = 2; kind = Atomic }

room : Control
room = record { label = record { name = 82 ∷ []; args = [] }; arity = 0; kind = Normal }

start : Reached
start = record { signature = []; nodes = 0; edges = 0; terms = 0 }

-- `A.1` is refused at the dot, and `(A).1` too, for another cause
atom_dot : value 0 (terms.nesting 1 true (terms.node 0 agent []) (terms.barren 2)) start ≡ refused AtomicHasChild 1
unfolding atom barren set_of start agent
atom_dot = refl

brackets_dot : value 0 (terms.nesting 3 false (terms.counted 0 (terms.node 1 agent [])) (terms.barren 4)) start ≡ refused WidthsDiffer 3
unfolding atom barren set_of start agent
brackets_dot = refl

-- `A | R`: node 0 is an agent and node 1 a room with a site, both in one region
beside_each_other : Come
beside_each_other = value 0 (terms.binary Merge 1 (terms.node 0 agent []) (terms.node 2 room [])) start

beside_is : beside_each_other ≡ Ok (
  record {
    nodes = record { id = 0; control = 0; parent = Region 0; links = [] } ∷ record { id = 1; control = 1; parent = Region 0; links = [] } ∷ [];
    edges = [];
    sites = Node 1 ∷ [];
    inner = [];
    regions = 1;
    outer = [];
  },
  record { signature = agent ∷ room ∷ []; nodes = 2; edges = 0; terms = 2 },
)
unfolding beside_each_other merge parallel ion atom set_of sort start agent room put
beside_is = refl

-- in `/x /y L{x,y}` x is edge 0 and y edge 1
closed_twice : value 0 (terms.closure 0 (120 ∷ []) (terms.closure 2 (121 ∷ []) (terms.node 4 line ((120 ∷ []) ∷ (121 ∷ []) ∷ [])))) start ≡ Ok (
  record {
    nodes = record { id = 0; control = 0; parent = Region 0; links = Edge 0 ∷ Edge 1 ∷ [] } ∷ [];
    edges = 0 ∷ 1 ∷ [];
    sites = [];
    inner = [];
    regions = 1;
    outer = [];
  },
  record { signature = line ∷ []; nodes = 1; edges = 2; terms = 1 },
)
unfolding close atom set_of put start line put_once
closed_twice = refl

-- in `/a Agent{a}` the agent is node 0 and its port is tied to edge 0
tied : Control
tied = record { label = record { name = 65 ∷ 103 ∷ 101 ∷ 110 ∷ 116 ∷ []; args = [] }; arity = 1; kind = Atomic }

closed_agent : value 0 (terms.closure 0 (97 ∷ []) (terms.node 2 tied ((97 ∷ []) ∷ []))) start ≡ Ok (
  record {
    nodes = record { id = 0; control = 0; parent = Region 0; links = Edge 0 ∷ [] } ∷ [];
    edges = 0 ∷ [];
    sites = [];
    inner = [];
    regions = 1;
    outer = [];
  },
  record { signature = tied ∷ []; nodes = 1; edges = 1; terms = 1 },
)
unfolding close atom set_of put start tied put_once
closed_agent = refl
