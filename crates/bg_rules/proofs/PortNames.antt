-- The names of ports: they ascend, and each tells its node and its port.
use Rattle.std.proofs.Common.{◌≡◌, ℕ, ◌+◌, ◌<◌, true, false, List, [], ◌∷◌, length, nat_cmp, Less, refl, sym, ap, subst, ◌∙◌, inl, inr, arith, Ordering}
use Rattle.std.specs.Ordering.{ordering_then}
use Rattle.std.proofs.lemmas.Cmp.{tied_itself, nat_cmp_total}
use Rattle.std.proofs.lemmas.List.{length-map}
use Rattle.bg_lists.specs.Lists.{Mem, here, there, At}
use Rattle.bg_lists.specs.Orders.{Ascending, asc_nil, asc_cons}
use Rattle.bg_lists.proofs.Members.{Mem-same, Mem-append_left, Mem-append_right, Mem-append_cases, Mem-unmap}
use Rattle.bg_lists.proofs.Places.{Mem-from_At, At-total, At-unmap}
use Rattle.bg_lists.proofs.Ascents.{Ascending-append, Ascending-map}
use Rattle.bg_base.specs.declared.names.Name.{Name}
use Rattle.bg_base.specs.declared.names.Name.TheVariants.{Plain, Port, Opened}
use Rattle.bg_base.specs.declared.big.NodeRow.{NodeRow}
use Rattle.bg_base.specs.Order.{name_cmp}
use Rattle.bg_base.specs.Bigraph.{node_cmp}
use Rattle.bg_base.specs.Elementary.{counted}
use Rattle.bg_base.proofs.Counted.{Mem-counted, length-counted, counted_ascends}
use Rattle.bg_algebra.specs.Frame.{is_plain}
use Rattle.bg_algebra.proofs.CompositionLaws.{At-counted}
use Rattle.bg_rules.specs.Decomposition.{port_names, names_of}

-- ---- the ports of a node

pub length-port_names : (node count : ℕ) → length (port_names node count) ≡ count
length-port_names node count = length-map (counted 0 count) (Port node) ∙ length-counted 0 count

pub At-port_names : {name : Name} {i : ℕ} (node count : ℕ) → At name i (port_names node count) → name ≡ Port node i
At-port_names {name} {i} node count a =
    let w = At-unmap (Port node) (counted 0 count) a in
    let n : w.0 ≡ 0 + i = At-counted 0 count i w.0 w.1 in
    let same : w.0 ≡ i = omega (arith, n) in
    sym w.2 ∙ ap (Port node) same

pub port_name_there : (node count port : ℕ) → port < count → Mem (Port node port) (port_names node count)
port_name_there node count port below =
    let long = length-port_names node count in
    let w = At-total (port_names node count) port (omega (arith, below, long)) in
    Mem-same (At-port_names node count w.1) (Mem-from_At w.1)

pub port_of_name : {name : Name} (node count : ℕ) → Mem name (port_names node count) → (port : ℕ) × (port < count) × (name ≡ Port node port)
port_of_name node count m =
    let w = Mem-unmap (Port node) (counted 0 count) m in
    let k = Mem-counted 0 count w.0 w.1 in
    (w.0, omega (arith, k.1), sym w.2)

port_less : (node i j : ℕ) → nat_cmp i j ≡ Less → name_cmp (Port node i) (Port node j) ≡ Less
port_less node i j less =
    ap (λ (o : Ordering). ordering_then o (nat_cmp i j)) (tied_itself nat_cmp_total node) ∙ less

node_less : (v w i j : ℕ) → nat_cmp v w ≡ Less → name_cmp (Port v i) (Port w j) ≡ Less
node_less v w i j less = ap (λ (o : Ordering). ordering_then o (nat_cmp i j)) less

port_names_ascend : (node count : ℕ) → Ascending (λ x y. name_cmp x y ≡ Less) (port_names node count)
port_names_ascend node count = Ascending-map (Port node) (counted 0 count) (port_less node) (counted_ascends 0 count)

-- ---- the ports of all nodes

pub Mem-names_of : {row : NodeRow} {port : ℕ} (rows : List NodeRow) → Mem row rows → port < length row.links → Mem (Port row.id port) (names_of rows)
Mem-names_of [] m below = elim m [ ]
Mem-names_of {row} {port} (first ∷ rows) (here e) below =
    Mem-append_left (port_names first.id (length first.links)) (names_of rows)
    (subst (λ (r : NodeRow). Mem (Port row.id port) (port_names r.id (length r.links))) (sym e) (port_name_there row.id (length row.links) port below))
Mem-names_of (first ∷ rows) (there m) below =
    Mem-append_right (port_names first.id (length first.links)) (names_of rows) (Mem-names_of rows m below)

pub port_from_name : {name : Name} (rows : List NodeRow) → Mem name (names_of rows)
    → (row : NodeRow) × (port : ℕ) × Mem row rows × (port < length row.links) × (name ≡ Port row.id port)
port_from_name [] m = elim m [ ]
port_from_name (first ∷ rows) m =
    elim (Mem-append_cases (port_names first.id (length first.links)) (names_of rows) m) [
      | inl k ↦ (let w = port_of_name first.id (length first.links) k in (first, w.0, here refl, w.1, w.2))
      | inr k ↦ (let w = port_from_name rows k in (w.0, w.1, there w.2, w.3, w.4))
    ]

pub names_of_ascend : (rows : List NodeRow) → Ascending (λ x y. node_cmp x y ≡ Less) rows → Ascending (λ x y. name_cmp x y ≡ Less) (names_of rows)
names_of_ascend [] up = asc_nil
names_of_ascend (row ∷ rows) (asc_cons low rest) =
    Ascending-append (port_names row.id (length row.links)) (names_of rows) (port_names_ascend row.id (length row.links)) (names_of_ascend rows rest)
    (λ x y m n.
    let v = port_of_name row.id (length row.links) m in
    let w = port_from_name rows n in
    let less : name_cmp (Port row.id v.0) (Port w.0.id w.1) ≡ Less = node_less row.id w.0.id v.0 w.1 (low w.0 w.2) in
    ap (λ z. name_cmp z y) v.2 ∙ ap (λ z. name_cmp (Port row.id v.0) z) w.4 ∙ less)

-- ---- plain names come before names of ports, and none is both

pub plain_not_port : {name : Name} {node port : ℕ} → is_plain name ≡ true → name ≡ Port node port → ⊥
plain_not_port plain e = let bad : true ≡ false = sym plain ∙ ap is_plain e in cc

plain_less : (name : Name) (node port : ℕ) → is_plain name ≡ true → name_cmp name (Port node port) ≡ Less
plain_less (Plain word) node port plain = refl
plain_less (Port v i) node port plain = cc
plain_less (Opened e) node port plain = cc

pub plain_before_ports : (name other : Name) (rows : List NodeRow) → is_plain name ≡ true → Mem other (names_of rows) → name_cmp name other ≡ Less
plain_before_ports name other rows plain m =
    let w = port_from_name rows m in ap (λ z. name_cmp name z) w.4 ∙ plain_less name w.0.id w.1 plain
