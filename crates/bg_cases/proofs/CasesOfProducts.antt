-- The products and elementary bigraphs on small cases, computed.
use Rattle.std.proofs.Common.{◌≡◌, [], ◌∷◌, refl}
use Rattle.bg_lists.specs.Lists.{put, sort}
use Rattle.bg_lists.specs.Orders.{put_once, set_of}
use Rattle.bg_base.specs.declared.names.Name.{Name}
use Rattle.bg_base.specs.declared.names.Name.TheVariants.{Plain}
use Rattle.bg_base.specs.declared.names.Place.TheVariants.{Node, Region}
use Rattle.bg_base.specs.declared.names.Link.TheVariants.{Edge, Outer}
use Rattle.bg_base.specs.Composition.{compose}
use Rattle.bg_base.specs.Elementary.{counted, identity, merger, idle, barren, empty, ion, atom}
use Rattle.bg_base.specs.Products.{tensor, parallel, merge, nest, close, lean}
use Rattle.bg_base.specs.Translation.{number_renamed, rename}

-- the names x and y
abbrev x : Name
x = Plain (120 ∷ [])

abbrev y : Name
y = Plain (121 ∷ [])

-- node 1 in node 0
nested : nest (ion 0 0 []) (atom 1 1 []) ≡ record {
  nodes = record { id = 0; control = 0; parent = Region 0; links = [] } ∷ record { id = 1; control = 1; parent = Node 0; links = [] } ∷ [];
  edges = [];
  sites = [];
  inner = [];
  regions = 1;
  outer = [];
}
unfolding nest compose parallel identity counted ion atom put sort put_once set_of
nested = refl

-- two nodes in one region
merged : compose (merger 2) (tensor (atom 0 0 []) (atom 1 1 [])) ≡ record {
  nodes = record { id = 0; control = 0; parent = Region 0; links = [] } ∷ record { id = 1; control = 1; parent = Region 0; links = [] } ∷ [];
  edges = [];
  sites = [];
  inner = [];
  regions = 1;
  outer = [];
}
unfolding compose tensor merger counted atom put sort put_once set_of
merged = refl

-- a name that both have stands once
shared : parallel (atom 2 0 (x ∷ [])) (atom 2 1 (x ∷ [])) ≡ record {
  nodes = record { id = 0; control = 2; parent = Region 0; links = Outer x ∷ [] } ∷ record { id = 1; control = 2; parent = Region 1; links = Outer x ∷ [] } ∷ [];
  edges = [];
  sites = [];
  inner = [];
  regions = 2;
  outer = x ∷ [];
}
unfolding parallel atom put sort put_once set_of
shared = refl

-- no region, and one made of it
nothing : merge empty empty ≡ barren
unfolding merge parallel empty barren sort set_of
nothing = refl

-- names may repeat at the ports of a node
repeated : atom 3 0 (y ∷ x ∷ y ∷ []) ≡ record {
  nodes = record { id = 0; control = 3; parent = Region 0; links = Outer y ∷ Outer x ∷ Outer y ∷ [] } ∷ [];
  edges = [];
  sites = [];
  inner = [];
  regions = 1;
  outer = x ∷ y ∷ [];
}
unfolding atom put_once set_of
repeated = refl

-- a closed name; the edge stays when nothing is tied to it, until idle edges are dropped
closed : close (parallel (atom 2 3 (x ∷ [])) (idle (y ∷ []))) x 7 ≡ record {
  nodes = record { id = 3; control = 2; parent = Region 0; links = Edge 7 ∷ [] } ∷ [];
  edges = 7 ∷ [];
  sites = [];
  inner = [];
  regions = 1;
  outer = y ∷ [];
}
unfolding close parallel idle atom put sort put_once set_of
closed = refl

dropped : lean (close (idle (x ∷ y ∷ [])) x 7) ≡ idle (y ∷ [])
unfolding lean close idle put
dropped = refl

-- nodes numbered anew, in the order of their new numbers
renamed : rename (nest (ion 0 0 []) (atom 1 1 [])) (9 ∷ 4 ∷ []) [] ≡ record {
  nodes = record { id = 4; control = 1; parent = Node 9; links = [] } ∷ record { id = 9; control = 0; parent = Region 0; links = [] } ∷ [];
  edges = [];
  sites = [];
  inner = [];
  regions = 1;
  outer = [];
}
unfolding rename number_renamed nest compose parallel identity counted ion atom put sort put_once set_of
renamed = refl
