-- Entries put behind the others, and an index made of its parts.
use Rattle.std.proofs.Common.{◌≡◌, ℕ, suc, Less, Option, Some, None, unwrap_or, option_map, List, [], ◌∷◌, ◌++◌, ◌⊎◌, inl, inr, length, map, nat_cmp, refl, sym, ap, subst, ◌∙◌}
use Rattle.std.specs.List.Sorted.{IsStrictlySortedBy}
use Rattle.std.proofs.lemmas.List.{map-append}
use Rattle.slab.specs.Slab.{Slab, get}
use Rattle.bg_lists.specs.Lists.{Mem, At, at_here, at_there}
use Rattle.bg_lists.specs.Orders.{Ascending}
use Rattle.bg_lists.proofs.Ascents.{Ascending-from_sorted, sorted_from_Ascending, Ascending-map, Ascending-unmap}
use Rattle.bg_lists.proofs.Members.{Mem-cons_cases, Mem-append_cases, map_agree, map-map}
use Rattle.bg_lists.proofs.Places.{not_At-nil, At-one}
use Rattle.bg_base.specs.declared.names.Name.{Name}
use Rattle.bg_base.specs.declared.names.Place.TheVariants.{Node, Region}
use Rattle.bg_base.specs.declared.big.NodeRow.{NodeRow}
use Rattle.bg_base.specs.Bigraph.{node_cmp}
use Rattle.bg_place.specs.declared.graph.Places.{Places}
use Rattle.bg_place.specs.Places.{places_of, children_of}
use Rattle.bg_link.specs.declared.graph.Links.{Links}
use Rattle.bg_link.specs.Links.{links_of}
use Rattle.bg_rules.specs.Hosts.{IsHost}
use Rattle.bg_rules.specs.Reaction.{HostState}
use Rattle.bg_index.specs.declared.entries.EdgeEntry.{EdgeEntry}
use Rattle.bg_index.specs.declared.entries.Index.{Index}
use Rattle.bg_index.specs.declared.entries.NameEntry.{NameEntry}
use Rattle.bg_index.specs.declared.entries.NodeEntry.{NodeEntry}
use Rattle.bg_index.specs.declared.entries.RegionEntry.{RegionEntry}
use Rattle.bg_index.specs.declared.entries.Slot.{Slot}
use Rattle.bg_index.specs.Indexed.{slot_cmp, no_row, row_at, rows_of, edges_of, host_of, IsSlotOf, AreSlotsOf, AreRegions, AreNested, IsEdgeTied, IsNameTied, AreTied, AreSorted, IsIndexOf, IsIndex}
use Rattle.bg_index.specs.Making.{IsPushed}
use Rattle.bg_index.proofs.IndexLaws.{row_kept}

-- what stands in a list with one item more
last_cases : {X : Type 0} {x y : X} {i : ℕ} (xs : List X) → At x i (xs ++ y ∷ []) → At x i xs ⊎ ((i ≡ length xs) × (y ≡ x))
last_cases [] (at_here e) = inr (refl, e)
last_cases [] (at_there a) = absurd (not_At-nil a)
last_cases (z ∷ zs) (at_here e) = inl (at_here e)
last_cases (z ∷ zs) (at_there a) = elim (last_cases zs a) [ inl b ↦ inl (at_there b) | inr w ↦ inr (ap suc w.0, w.1) ]

-- what stands beside what, with one item more
pub beside_more : {X Y : Type 0} (R : X → Y → Type 0) (xs : List X) (ys : List Y) (x : X) (y : Y)
    → ((i : ℕ) (a : X) (b : Y) → At a i xs → At b i ys → R a b) → At x (length ys) xs → R x y
    → (i : ℕ) (a : X) (b : Y) → At a i xs → At b i (ys ++ y ∷ []) → R a b
beside_more R xs ys x y are stands is i other more a b =
    elim (last_cases ys b) [
      | inl c ↦ are i other more a c
      | inr w ↦ subst (R other) w.1 (subst (λ z. R z y) (At-one stands (subst (λ n. At other n xs) w.0 a)) is)
    ]

-- ---- nodes

module _ (places : Places) (nodes new_nodes : Slab NodeEntry) (slots new_slots : List Slot) (entry : NodeEntry)
    (kept : AreSlotsOf places nodes slots) (pushed : IsPushed nodes slots entry new_nodes new_slots) where
  abbrev last : Slot
  last = record { node = entry.row.id; at = pushed.at }

  stays : (slot : Slot) → Mem slot slots → get new_nodes slot.at ≡ get nodes slot.at
  stays slot m =
      let k = kept slot m in
      pushed.updates.others slot.at (λ e. let bad : Some k.entry ≡ None = sym k.found ∙ ap (get nodes) e ∙ pushed.was_vacant in cc)

  pub push_kept : entry.children.items ≡ children_of places (Node entry.row.id) → AreSlotsOf places new_nodes new_slots
  push_kept children slot m =
      elim (Mem-append_cases slots (last ∷ []) (subst (λ xs. Mem slot xs) pushed.slots_are m)) [
        | inl n ↦ (let k = kept slot n in record { entry = k.entry; found = stays slot n ∙ k.found; number = k.number; children = k.children })
        | inr n ↦ (let e : last ≡ slot = elim (Mem-cons_cases n) [ inl e ↦ e | inr k ↦ elim k [ ] ] in
            subst (IsSlotOf places new_nodes) e (record { entry = entry; found = pushed.updates.changed; number = refl; children = children }))
      ]

  pub push_rows : rows_of new_nodes new_slots ≡ rows_of nodes slots ++ entry.row ∷ []
  push_rows =
      ap (rows_of new_nodes) pushed.slots_are ∙ map-append (row_at new_nodes) slots (last ∷ [])
      ∙ (let old = map_agree (row_at new_nodes) (row_at nodes) slots
      (λ slot m. ap (λ (o : Option NodeEntry). unwrap_or (option_map (λ (entry : NodeEntry). entry.row) o) no_row) (stays slot m)) in
      let one : row_at new_nodes last ≡ entry.row =
      ap (λ (o : Option NodeEntry). unwrap_or (option_map (λ (entry : NodeEntry). entry.row) o) no_row) pushed.updates.changed in
      λ t. old t ++ one t ∷ [])

-- slots ascend as the rows do to which they lead
pub slots_ascend : (places : Places) (nodes : Slab NodeEntry) (slots : List Slot) → AreSlotsOf places nodes slots
    → IsStrictlySortedBy node_cmp (rows_of nodes slots) → IsStrictlySortedBy slot_cmp slots
slots_ascend places nodes slots kept up =
    sorted_from_Ascending {cmp = slot_cmp} slots
    (Ascending-unmap (λ (slot : Slot). slot.node) slots
    (subst (λ ns. Ascending (λ a b. nat_cmp a b ≡ Less) ns) numbers
    (Ascending-map (λ (row : NodeRow). row.id) (rows_of nodes slots) (λ x y less. less) (Ascending-from_sorted (rows_of nodes slots) up))))
  where
    numbers : map (λ (row : NodeRow). row.id) (rows_of nodes slots) ≡ map (λ (slot : Slot). slot.node) slots
    numbers =
        map-map (row_at nodes) (λ (row : NodeRow). row.id) slots
        ∙ map_agree (λ (slot : Slot). (row_at nodes slot).id) (λ (slot : Slot). slot.node) slots
        (λ slot m. let k = kept slot m in ap (λ (row : NodeRow). row.id) (row_kept places nodes slot k) ∙ k.number)

-- ---- regions, edges, names

pub regions_more : (places : Places) (regions : List RegionEntry) (entry : RegionEntry) → AreRegions places regions
    → entry.children.items ≡ children_of places (Region (length regions)) → AreRegions places (regions ++ entry ∷ [])
regions_more places regions entry are is region other a =
    elim (last_cases regions a) [
      | inl b ↦ are region other b
      | inr w ↦ ap (λ (e : RegionEntry). e.children.items) (sym w.1) ∙ is ∙ ap (λ n. children_of places (Region n)) (sym w.0)
    ]

pub edges_more : (links : Links) (edges : List EdgeEntry) (entry : EdgeEntry) → ((e : EdgeEntry) → Mem e edges → IsEdgeTied links e)
    → IsEdgeTied links entry → (e : EdgeEntry) → Mem e (edges ++ entry ∷ []) → IsEdgeTied links e
edges_more links edges entry are is e m =
    elim (Mem-append_cases edges (entry ∷ []) m) [
      | inl k ↦ are e k
      | inr k ↦ (let same : entry ≡ e = elim (Mem-cons_cases k) [ inl same ↦ same | inr l ↦ elim l [ ] ] in subst (IsEdgeTied links) same is)
    ]

abbrev pub AreNames : Links → List Name → List NameEntry → Type 0
AreNames links outer names = (i : ℕ) (name : Name) (entry : NameEntry) → At name i outer → At entry i names → IsNameTied links name entry

pub names_more : (links : Links) (outer : List Name) (names : List NameEntry) (name : Name) (entry : NameEntry) → AreNames links outer names
    → ((other : Name) → At other (length names) outer → name ≡ other) → IsNameTied links name entry → AreNames links outer (names ++ entry ∷ [])
names_more links outer names name entry are one is i other found a b =
    elim (last_cases names b) [
      | inl c ↦ are i other found a c
      | inr w ↦ subst (λ e. IsNameTied links other e) w.1
          (subst (λ n. IsNameTied links n entry) (one other (subst (λ n. At other n outer) w.0 a)) is)
    ]

-- ---- an index of its parts

module _ (host : HostState) (index : Index) (is_host : IsHost host) (rows : rows_of index.nodes index.slots.items ≡ host.big.nodes)
    (regions : length index.regions.items ≡ host.big.regions) (edges : edges_of index.edges.items ≡ host.big.edges)
    (outer : index.outer ≡ host.big.outer) (next_node : index.next_node ≡ host.next_node) (next_edge : index.next_edge ≡ host.next_edge) where
  pub made_host : host_of index ≡ host
  made_host =
      let no_sites = sym is_host.numbered.ground.no_sites in
      let no_inner = sym is_host.numbered.ground.no_inner in
      λ t. record {
        big = record { nodes = rows t; edges = edges t; sites = no_sites t; inner = no_inner t; regions = regions t; outer = outer t };
        next_node = next_node t;
        next_edge = next_edge t;
      }

  pub made_index : AreNested (places_of host.big) index.nodes index.slots.items index.regions.items
      → AreTied (links_of host.big) index.edges.items host.big.outer index.names.items
      → AreSorted host.big.nodes index.controls.items → IsIndex index
  made_index nested tied sorted =
      subst (λ (h : HostState). IsIndexOf h index) (sym made_host) (record { is_host = is_host; nested = nested; tied = tied; sorted = sorted })
