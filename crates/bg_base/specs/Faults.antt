-- The first row of a bigraph that breaks a rule, and which rule: what a check of a bigraph answers.
use Rattle.std.specs.Prelude.{◌≡◌, ℕ, ◌+◌, Bool, true, not, ◌&&◌, nat_lt, ◌==◌, Option, None, Some, option_map, List, [], ◌∷◌, length, map, if◌then◌else◌, Result, Ok, Err}
use Rattle.std.specs.List.{list_all}
use Rattle.std.specs.Ordering.{nat_cmp, is_lt}
use Rattle.std.specs.declared.cmp.Ordering.{Ordering}
use Rattle.bg_base.specs.declared.names.Name.{Name}
use Rattle.bg_base.specs.declared.names.Place.{Place}
use Rattle.bg_base.specs.declared.big.NodeRow.{NodeRow}
use Rattle.bg_base.specs.declared.big.InnerRow.{InnerRow}
use Rattle.bg_base.specs.declared.big.Big.{Big}
use Rattle.bg_base.specs.declared.signature.Control.{Control}
use Rattle.bg_base.specs.declared.check.Part.{Part}
use Rattle.bg_base.specs.declared.check.CheckFault.{CheckFault}
use Rattle.bg_base.specs.declared.check.CheckFault.TheVariants.{Malformed, OutOfMemory}
use Rattle.bg_base.specs.declared.check.Part.TheVariants.{Sites, Inner, Outer, Edges, Nodes}
use Rattle.bg_base.specs.Order.{name_cmp}
use Rattle.bg_base.specs.Bigraph.{has_place, has_link, is_rooted, is_atomic, arity_of}

-- the row stands after the row before it, where there is one
abbrev pub rises : {K : Type 0} → (K → K → Ordering) → Option K → K → Bool
rises cmp None key = true
rises cmp (Some last) key = is_lt (cmp last key)

-- the least code of a rule that the site breaks, 0 where it breaks none:
-- 4 its place is not there, 6 it lies in a node of an atomic control
abbrev pub site_code : List Control → Big → Place → ℕ
site_code signature big place =
    if not (has_place big place) then 4 else (if is_atomic signature big place then 6 else 0)

-- 3 the name does not come after the one before, 4 the link is not there
abbrev pub inner_code : Big → Option Name → InnerRow → ℕ
inner_code big last row =
    if not (rises name_cmp last row.name) then 3 else (if not (has_link big row.link) then 4 else 0)

-- 3 the name does not come after the one before
abbrev pub outer_code : Option Name → Name → ℕ
outer_code last name = if not (rises name_cmp last name) then 3 else 0

-- 3 the edge does not come after the one before
abbrev pub edge_code : Option ℕ → ℕ → ℕ
edge_code last edge = if not (rises nat_cmp last edge) then 3 else 0

-- the control, the parent and the links of the node are there
abbrev pub is_known : List Control → Big → NodeRow → Bool
is_known signature big row =
    nat_lt row.control (length signature) && has_place big row.parent && list_all (has_link big) row.links

-- 3 the node does not come after the one before, 4 its control, parent or a link is not there,
-- 5 it has not as many links as ports, 6 its parent is of an atomic control, 7 it has no root
abbrev pub node_code : List Control → Big → Option ℕ → NodeRow → ℕ
node_code signature big last row =
    if not (rises nat_cmp last row.id) then 3 else (if not (is_known signature big row) then 4
    else (if not (length row.links == arity_of signature row.control) then 5
    else (if is_atomic signature big row.parent then 6 else (if not (is_rooted big row.id) then 7 else 0))))

-- the codes of all rows, each judged beside the key of the row before it
abbrev pub codes_from : {K X : Type 0} → (X → K) → (Option K → X → ℕ) → Option K → List X → List ℕ
codes_from key code last [] = []
codes_from key code last (x ∷ xs) = code last x ∷ codes_from key code (Some (key x)) xs

-- the fault, at a position that so many rows more stand before
abbrev pub shifted : ℕ → Option (ℕ × ℕ) → Option (ℕ × ℕ)
shifted count fault = option_map (λ (found : ℕ × ℕ). (count + found.0, found.1)) fault

-- the position, counted from 0, and the code of the first row that breaks a rule
abbrev pub first_fault : List ℕ → Option (ℕ × ℕ)
first_fault [] = None
first_fault (code ∷ codes) = if code == 0 then shifted 1 (first_fault codes) else Some (0, code)

-- the fault of the part, or else what the later parts give
abbrev pub or_else : Part → Option (ℕ × ℕ) → Option (Part × ℕ × ℕ) → Option (Part × ℕ × ℕ)
or_else part None later = later
or_else part (Some fault) later = Some (part, fault.0, fault.1)

-- the position and the code of the first site that breaks a rule
unfoldable pub sites_fault : List Control → Big → Option (ℕ × ℕ)
sites_fault signature big = first_fault (map (site_code signature big) big.sites)

-- the position and the code of the first inner name that breaks a rule
unfoldable pub inner_fault : Big → Option (ℕ × ℕ)
inner_fault big = first_fault (codes_from (λ (row : InnerRow). row.name) (inner_code big) None big.inner)

-- the position and the code of the first outer name that breaks a rule
unfoldable pub outer_fault : Big → Option (ℕ × ℕ)
outer_fault big = first_fault (codes_from (λ (name : Name). name) outer_code None big.outer)

-- the position and the code of the first edge that breaks a rule
unfoldable pub edges_fault : Big → Option (ℕ × ℕ)
edges_fault big = first_fault (codes_from (λ (edge : ℕ). edge) edge_code None big.edges)

-- the position and the code of the first node that breaks a rule
unfoldable pub nodes_fault : List Control → Big → Option (ℕ × ℕ)
nodes_fault signature big =
    first_fault (codes_from (λ (row : NodeRow). row.id) (node_code signature big) None big.nodes)

-- the first row that breaks a rule, in the order sites, inner names, outer names, edges, nodes: its part, its position
-- in that part, counted from 0, and the least code of the rules that it breaks; none where the bigraph is valid
unfoldable pub fault_of : List Control → Big → Option (Part × ℕ × ℕ)
fault_of signature big =
    or_else Sites (sites_fault signature big) (or_else Inner (inner_fault big) (or_else Outer (outer_fault big)
    (or_else Edges (edges_fault big) (or_else Nodes (nodes_fault signature big) None))))

-- the answer of a check that had its memory
abbrev pub answer_of : Option (Part × ℕ × ℕ) → Result (Unit {0}) CheckFault
answer_of None = Ok tt
answer_of (Some fault) = Err (Malformed fault.2 fault.0 fault.1)

-- the answer of a check tells the fault
abbrev pub TellsMalformed : CheckFault → Option (Part × ℕ × ℕ) → Type 0
TellsMalformed (Malformed code part row) fault = fault ≡ Some (part, row, code)
TellsMalformed OutOfMemory fault = Unit {0}

abbrev pub IsAnswer : {T : Type 0} → Result T CheckFault → Option (Part × ℕ × ℕ) → Type 0
IsAnswer (Ok done) fault = fault ≡ None
IsAnswer (Err refusal) fault = TellsMalformed refusal fault

-- the answer tells a fault, and not want of memory
abbrev pub IsMalformed : CheckFault → Type 0
IsMalformed (Malformed code part row) = Unit {0}
IsMalformed OutOfMemory = ⊥
