-- Instantiation and reaction on small cases, computed.
use Rattle.std.proofs.Common.{◌≡◌, ℕ, List, [], ◌∷◌, refl}
use Rattle.bg_lists.specs.Lists.{put, sort}
use Rattle.bg_base.specs.declared.names.Place.{Place}
use Rattle.bg_base.specs.declared.names.Place.TheVariants.{Node, Region}
use Rattle.bg_base.specs.declared.big.NodeRow.{NodeRow}
use Rattle.bg_base.specs.declared.big.Big.{Big}
use Rattle.bg_base.specs.Composition.{compose}
use Rattle.bg_base.specs.Elementary.{counted, identity}
use Rattle.bg_base.specs.Translation.{number_renamed, rename}
use Rattle.bg_base.specs.Products.{tensor, lean}
use Rattle.bg_rules.specs.Instantiation.{part, late_nodes, number_in_copy, copies_from, instantiate, next_after}
use Rattle.bg_rules.specs.Reaction.{HostState, recomposed}
use Rattle.bg_rules.specs.Rules.{RuleParts}
use Rattle.bg_cases.proofs.CaseRows.{rule_of}

-- a node without ports
abbrev node : ℕ → ℕ → Place → NodeRow
node id control parent = record { id = id; control = control; parent = parent; links = [] }

-- places without links
abbrev places : List NodeRow → List Place → ℕ → Big
places rows sites regions = record { nodes = rows; edges = []; sites = sites; inner = []; regions = regions; outer = [] }

-- node 4 in node 3 in region 0, and node 7 in region 1
abbrev two_parts : Big
two_parts = places (node 3 0 (Region 0) ∷ node 4 1 (Node 3) ∷ node 7 2 (Region 1) ∷ []) [] 2

-- the first part, the second, and the first again: the second copy of the first is late
first_twice : instantiate two_parts (0 ∷ 1 ∷ 0 ∷ []) 10
    ≡ places (node 3 0 (Region 0) ∷ node 4 1 (Node 3) ∷ node 7 2 (Region 1) ∷ node 10 0 (Region 2) ∷ node 11 1 (Node 10) ∷ []) [] 3
unfolding instantiate copies_from number_in_copy late_nodes part sort put
first_twice = refl

-- two late copies of one part have a range each
second_thrice : instantiate two_parts (1 ∷ 1 ∷ 1 ∷ []) 10 ≡ places (node 7 2 (Region 0) ∷ node 10 2 (Region 1) ∷ node 11 2 (Region 2) ∷ []) [] 3
unfolding instantiate copies_from number_in_copy late_nodes part sort put
second_thrice = refl

next_after_three : next_after two_parts (0 ∷ 1 ∷ 0 ∷ []) 10 ≡ 12
unfolding late_nodes part
next_after_three = refl

-- no part: nothing is left of the parameter
none_asked : instantiate two_parts [] 10 ≡ places [] [] 0
unfolding instantiate copies_from sort
none_asked = refl

-- what is in node 0 is copied beside it: redex 0 with a site in it, reactum 3 with a site in it and one beside it
abbrev host : HostState
host = record { big = places (node 0 0 (Region 0) ∷ node 1 1 (Node 0) ∷ node 2 2 (Node 1) ∷ []) [] 1; next_node = 3; next_edge = 0 }

abbrev rule : RuleParts
rule = rule_of (places (node 0 0 (Region 0) ∷ []) (Node 0 ∷ []) 1) (places (node 0 3 (Region 0) ∷ []) (Node 0 ∷ Region 0 ∷ []) 1) (0 ∷ 0 ∷ [])

abbrev context : Big
context = places [] (Region 0 ∷ []) 1

abbrev parameter : Big
parameter = places (node 1 1 (Region 0) ∷ node 2 2 (Node 1) ∷ []) [] 1

copied_beside : recomposed host rule context parameter
    ≡ places (node 1 1 (Node 3) ∷ node 2 2 (Node 1) ∷ node 3 3 (Region 0) ∷ node 4 1 (Region 0) ∷ node 5 2 (Node 4) ∷ []) [] 1
unfolding lean compose tensor rename identity counted number_renamed instantiate copies_from number_in_copy late_nodes part sort put
copied_beside = refl
