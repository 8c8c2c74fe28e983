-- The definitions, tried on small bigraphs.
use Rattle.std.proofs.Common.{◌≡◌, ℕ, List, [], ◌∷◌, Some, None, refl}
use Rattle.bg_base.specs.declared.names.Place.TheVariants.{Node, Region}
use Rattle.bg_base.specs.declared.big.Big.{Big}
use Rattle.bg_base.specs.declared.signature.Control.{Control}
use Rattle.bg_base.specs.declared.signature.Kind.TheVariants.{Normal, Atomic}
use Rattle.bg_base.specs.declared.check.Part.TheVariants.{Nodes}
use Rattle.bg_lists.specs.Lists.{sort, put}
use Rattle.bg_base.specs.Composition.{compose}
use Rattle.bg_base.specs.Faults.{fault_of, sites_fault, inner_fault, outer_fault, edges_fault, nodes_fault}

-- a control named by one upper-case letter
control_of : ℕ → ℕ → Control
control_of letter arity = record { label = record { name = letter ∷ []; args = [] }; arity = arity; kind = Normal }

two_controls : List Control
two_controls =
    control_of 65 0 ∷ record { label = record { name = 66 ∷ []; args = [] }; arity = 0; kind = Atomic } ∷ []

-- a room with a site in it
room : Big
room =
    record {
      nodes = record { id = 0; control = 0; parent = Region 0; links = [] } ∷ [];
      edges = [];
      sites = Node 0 ∷ [];
      inner = [];
      regions = 1;
      outer = [];
    }

-- an agent alone
agent : Big
agent =
    record {
      nodes = record { id = 1; control = 1; parent = Region 0; links = [] } ∷ [];
      edges = [];
      sites = [];
      inner = [];
      regions = 1;
      outer = [];
    }

-- the agent in the room
agent_in_room : Big
agent_in_room =
    record {
      nodes = record { id = 0; control = 0; parent = Region 0; links = [] } ∷ record { id = 1; control = 1; parent = Node 0; links = [] } ∷ [];
      edges = [];
      sites = [];
      inner = [];
      regions = 1;
      outer = [];
    }

composed_room : compose room agent ≡ agent_in_room
unfolding compose sort put room agent agent_in_room
composed_room = refl

valid_room : fault_of two_controls room ≡ None
unfolding fault_of sites_fault inner_fault outer_fault edges_fault nodes_fault two_controls control_of room
valid_room = refl

valid_agent : fault_of two_controls agent_in_room ≡ None
unfolding fault_of sites_fault inner_fault outer_fault edges_fault nodes_fault two_controls control_of agent_in_room
valid_agent = refl

-- nodes 5 and 3 do not ascend, and node 3 is there all the same for the site
unsorted : Big
unsorted =
    record {
      nodes = record { id = 5; control = 0; parent = Region 0; links = [] } ∷ record { id = 3; control = 0; parent = Region 0; links = [] } ∷ [];
      edges = [];
      sites = Node 3 ∷ [];
      inner = [];
      regions = 1;
      outer = [];
    }

unsorted_fault : fault_of two_controls unsorted ≡ Some (Nodes, 1, 3)
unfolding fault_of sites_fault inner_fault outer_fault edges_fault nodes_fault two_controls control_of unsorted
unsorted_fault = refl

-- a node below one whose parent is not there has no root, and comes first
below_missing : Big
below_missing =
    record {
      nodes = record { id = 0; control = 0; parent = Node 1; links = [] } ∷ record { id = 1; control = 0; parent = Node 7; links = [] } ∷ [];
      edges = [];
      sites = [];
      inner = [];
      regions = 1;
      outer = [];
    }

below_missing_fault : fault_of two_controls below_missing ≡ Some (Nodes, 0, 7)
unfolding fault_of sites_fault inner_fault outer_fault edges_fault nodes_fault two_controls control_of below_missing
below_missing_fault = refl

-- a node that is its own parent and atomic: the atomic parent comes before the cycle
own_parent : Big
own_parent =
    record {
      nodes = record { id = 0; control = 1; parent = Node 0; links = [] } ∷ [];
      edges = [];
      sites = [];
      inner = [];
      regions = 1;
      outer = [];
    }

own_parent_fault : fault_of two_controls own_parent ≡ Some (Nodes, 0, 6)
unfolding fault_of sites_fault inner_fault outer_fault edges_fault nodes_fault two_controls own_parent
own_parent_fault = refl
