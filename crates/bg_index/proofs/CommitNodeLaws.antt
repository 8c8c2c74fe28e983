-- Nodes that are taken out, moved, given other children, and put behind the others.
use Rattle.std.proofs.Common.{◌≡◌, ℕ, zero, suc, ◌<◌, ◌≤◌, ◌==◌, Bool, true, false, Less, Option, Some, None, unwrap_or, option_map, List, [], ◌∷◌, ◌++◌, ◌⊎◌, inl, inr, length, map, filter, take, find, not, slice_set, nat_cmp, refl, sym, ap, subst, ◌∙◌, arith, eqb-true, eq-eqb, append_assoc}
use Rattle.std.specs.List.Sorted.{IsStrictlySortedBy}
use Rattle.std.proofs.lemmas.Bool.{cases_Bool, cases_eq, false≢true, cond-true, cond-false, not-true, false_from_ne_true}
use Rattle.std.proofs.lemmas.List.{map-append}
use Rattle.slab.specs.Slab.{Slab, get, Updates}
use Rattle.bg_lists.specs.Lists.{Mem, here, there, At, at_there}
use Rattle.bg_lists.specs.Orders.{Ascending, asc_nil, asc_cons}
use Rattle.bg_lists.proofs.Ascents.{Ascending-from_sorted, sorted_from_Ascending, Ascending-append, Ascending-filter, same_member}
use Rattle.bg_lists.proofs.Comparisons.{nat_cmp-lt, tied_numbers}
use Rattle.bg_lists.proofs.Members.{Mem-cons_cases, Mem-append_left, Mem-append_right, Mem-append_cases, Mem-unfilter, filter_agree_on, filter-map, map_agree, map-map}
use Rattle.bg_lists.proofs.Places.{not_At-nil, Mem-from_At, At-one, At-below, At-total}
use Rattle.bg_lists.proofs.Words.{member_from_find, fails_from_find}
use Rattle.bg_base.specs.declared.names.Place.{Place}
use Rattle.bg_base.specs.declared.names.Place.TheVariants.{Node, Region}
use Rattle.bg_base.specs.declared.big.NodeRow.{NodeRow}
use Rattle.bg_rules.specs.Instantiation.{is_among}
use Rattle.bg_index.specs.declared.entries.NodeEntry.{NodeEntry}
use Rattle.bg_index.specs.declared.entries.RegionEntry.{RegionEntry}
use Rattle.bg_index.specs.declared.entries.Slot.{Slot}
use Rattle.bg_index.specs.declared.plans.Move.{Move}
use Rattle.bg_index.specs.declared.plans.Nest.{Nest}
use Rattle.bg_index.specs.Commits.{AreBeside, AreHeld, AreLeft, LeadOn, IsPut, IsMoved, IsNested, by_nest, by_none, IsFilled, IsRegionFilled, ArePushed, IsNodeLeft, AreNodesAfter}
use Rattle.bg_index.specs.Indexed.{slot_cmp, no_row, row_at, rows_of}
use Rattle.bg_index.specs.Making.{IsPushed}
use Rattle.bg_index.specs.Plans.{moved}
use Rattle.bg_index.proofs.ControlLaws.{set_cases, length-set}

-- ---- lists

module _ {X : Type 0} (test : X → Bool) where
  pub find_last : (xs : List X) (y : X) → ((x : X) → Mem x xs → test x ≡ false) → test y ≡ true → find test (xs ++ y ∷ []) ≡ Some y
  find_last [] y none e = cond-true (test y) (Some y) None e
  find_last (x ∷ xs) y none e =
      cond-false (test x) (Some x) (find test (xs ++ y ∷ [])) (none x (here refl)) ∙ find_last xs y (λ z m. none z (there m)) e

  pub find_front : (xs : List X) (y : X) → test y ≡ false → find test (xs ++ y ∷ []) ≡ find test xs
  find_front [] y e = cond-false (test y) (Some y) None e
  find_front (x ∷ xs) y e =
      elim (cases_Bool (test x)) [
        | inl t ↦ cond-true (test x) (Some x) (find test (xs ++ y ∷ [])) t ∙ sym (cond-true (test x) (Some x) (find test xs) t)
        | inr t ↦ cond-false (test x) (Some x) (find test (xs ++ y ∷ [])) t ∙ find_front xs y e ∙ sym (cond-false (test x) (Some x) (find test xs) t)
      ]

-- those in front stand below
pub front_below : {X : Type 0} {Below : X → X → Type 0} {x y : X} (i : ℕ) (xs : List X) → Ascending Below xs → At x i xs → Mem y (take i xs) → Below y x
front_below zero xs up a m = elim m [ ]
front_below (suc i) [] up a m = absurd (not_At-nil a)
front_below {Below} {x} (suc i) (z ∷ zs) (asc_cons below rest) (at_there a) m =
    elim (Mem-cons_cases m) [ inl e ↦ subst (λ w. Below w x) e (below x (Mem-from_At a)) | inr k ↦ front_below i zs rest a k ]

-- ---- lists beside lists

module _ {X : Type 0} where
  pub beside_same : (R : ℕ → X → X → Type 0) (xs : List X) → ((i : ℕ) (x : X) → R i x x) → AreBeside R xs xs
  beside_same R xs same = record { many = refl; each = λ i was x a b. subst (R i was) (At-one a b) (same i was) }

  pub beside_on : (R S T : ℕ → X → X → Type 0) (xs ys zs : List X) → AreBeside R xs ys → AreBeside S ys zs
      → ((i : ℕ) (x y z : X) → R i x y → S i y z → T i x z) → AreBeside T xs zs
  beside_on R S T xs ys zs r s both =
      record {
        many = s.many ∙ r.many;
        each = λ i was x a b. let w = At-total ys i (subst (λ n. i < n) s.many (At-below b)) in both i was w.0 x (r.each i was w.0 a w.1) (s.each i w.0 x w.1 b);
      }

  pub beside_set : (R : ℕ → X → X → Type 0) (xs : List X) (at : ℕ) (stood new : X) → At stood at xs → R at stood new
      → ((i : ℕ) (x : X) → (i ≡ at → ⊥) → R i x x) → AreBeside R xs (slice_set xs at new)
  beside_set R xs at stood new there_at is others =
      record {
        many = length-set xs at new;
        each = λ i was x a b. elim (set_cases xs at new b) [
          | inl w ↦ subst (R i was) w.1 (subst (λ n. R n was new) (sym w.0) (subst (λ s. R at s new) (At-one there_at (subst (λ n. At was n xs) w.0 a)) is))
          | inr w ↦ subst (R i was) (At-one a w.1) (others i was w.0)
        ];
      }

-- ---- slots

module _ (nodes : Slab NodeEntry) (slots : List Slot) (held : AreHeld nodes slots) where
  pub held_number : (slot : Slot) (entry : NodeEntry) → Mem slot slots → get nodes slot.at ≡ Some entry → entry.row.id ≡ slot.node
  held_number slot entry m found =
      let k = held.held slot m in
      let both : Some k.entry ≡ Some entry = sym k.found ∙ found in
      let one : k.entry ≡ entry = cc in ap (λ (e : NodeEntry). e.row.id) (sym one) ∙ k.number

  pub held_row : (slot : Slot) (entry : NodeEntry) → get nodes slot.at ≡ Some entry → row_at nodes slot ≡ entry.row
  held_row slot entry found = ap (λ (o : Option NodeEntry). unwrap_or (option_map (λ (e : NodeEntry). e.row) o) no_row) found

  -- two slots that lead to one place are those of one node
  pub same_node : (slot other : Slot) → Mem slot slots → Mem other slots → slot.at ≡ other.at → slot.node ≡ other.node
  same_node slot other m n e =
      let k = held.held slot m in
      sym k.number ∙ held_number other k.entry n (ap (get nodes) (sym e) ∙ k.found)

  pub same_slot : (slot other : Slot) → Mem slot slots → Mem other slots → slot.node ≡ other.node → slot ≡ other
  same_slot slot other m n e =
      same_member {cmp = slot_cmp} (Ascending-from_sorted slots held.ascend) m n (tied_numbers slot.node other.node e) (tied_numbers other.node slot.node (sym e))

-- ---- nodes taken out

pub take_left : (first now next : Slab NodeEntry) (slots : List Slot) (gone : List ℕ) (node : ℕ) (taken : Slot) → AreHeld first slots
    → AreLeft first slots gone now
    → find (λ (slot : Slot). slot.node == node) slots ≡ Some taken → is_among node gone ≡ true
    → ((other : ℕ) → (other ≡ taken.at → ⊥) → get next other ≡ get now other)
    → AreLeft first slots gone next
take_left first now next slots gone node taken held so_far found among others slot m none =
    let w = member_from_find (λ (slot : Slot). slot.node == node) slots taken found in
    others slot.at
    (λ e. false≢true (sym none ∙ ap (λ n. is_among n gone) (same_node first slots held slot taken m w.0 e ∙ eqb-true taken.node node w.1) ∙ among))
    ∙ so_far slot m none

module _ (nodes new_nodes : Slab NodeEntry) (slots : List Slot) (gone : List ℕ) (held : AreHeld nodes slots) where
  abbrev pub staying : List Slot
  staying = filter (λ (slot : Slot). not (is_among slot.node gone)) slots

  pub left_so : AreLeft nodes slots gone new_nodes
      → (slot : Slot) → Mem slot staying → get new_nodes slot.at ≡ get nodes slot.at
  left_so left slot m =
      let w = Mem-unfilter (λ (slot : Slot). not (is_among slot.node gone)) slots m in left slot w.0 (not-true (is_among slot.node gone) w.1)

  module _ (left : (slot : Slot) → Mem slot staying → get new_nodes slot.at ≡ get nodes slot.at) where
    was_there : (slot : Slot) → Mem slot staying → Mem slot slots
    was_there slot m = (Mem-unfilter (λ (slot : Slot). not (is_among slot.node gone)) slots m).0

    pub drop_held : AreHeld new_nodes staying
    drop_held =
        record {
          ascend = sorted_from_Ascending {cmp = slot_cmp} staying
              (Ascending-filter (λ (slot : Slot). not (is_among slot.node gone)) slots (Ascending-from_sorted slots held.ascend));
          held = λ slot m. let k = held.held slot (was_there slot m) in record { entry = k.entry; found = left slot m ∙ k.found; number = k.number };
        }

    pub drop_rows : rows_of new_nodes staying ≡ filter (λ (row : NodeRow). not (is_among row.id gone)) (rows_of nodes slots)
    drop_rows =
        map_agree (row_at new_nodes) (row_at nodes) staying
        (λ slot m. ap (λ (o : Option NodeEntry). unwrap_or (option_map (λ (e : NodeEntry). e.row) o) no_row) (left slot m))
        ∙ sym (filter-map (row_at nodes) (λ (row : NodeRow). not (is_among row.id gone)) slots
        ∙ ap (map (row_at nodes)) (filter_agree_on (λ (slot : Slot). not (is_among (row_at nodes slot).id gone)) (λ (slot : Slot). not (is_among slot.node gone)) slots
        (λ slot m. let k = held.held slot m in
        ap (λ n. not (is_among n gone)) (ap (λ (r : NodeRow). r.id) (held_row nodes slots held slot k.entry k.found) ∙ k.number))))

-- ---- entries that change

module _ (R : NodeEntry → NodeEntry → Type 0) (nodes new_nodes : Slab NodeEntry) (slots : List Slot) (held : AreHeld nodes slots) where
  pub lead_held : LeadOn R nodes new_nodes slots → ((entry after : NodeEntry) → R entry after → after.row.id ≡ entry.row.id) → AreHeld new_nodes slots
  lead_held lead same =
      record {
        ascend = held.ascend;
        held = λ slot m. let k = held.held slot m in let w = lead slot m k.entry k.found in
            record { entry = w.0; found = w.1; number = same k.entry w.0 w.2 ∙ k.number };
      }

  pub lead_rows : LeadOn R nodes new_nodes slots → (change : NodeRow → NodeRow) → ((entry after : NodeEntry) → R entry after → after.row ≡ change entry.row)
      → rows_of new_nodes slots ≡ map change (rows_of nodes slots)
  lead_rows lead change changes =
      map_agree (row_at new_nodes) (λ (slot : Slot). change (row_at nodes slot)) slots
      (λ slot m. let k = held.held slot m in let w = lead slot m k.entry k.found in
      ap (λ (o : Option NodeEntry). unwrap_or (option_map (λ (e : NodeEntry). e.row) o) no_row) w.1 ∙ changes k.entry w.0 w.2
      ∙ ap change (sym (held_row nodes slots held slot k.entry k.found)))
      ∙ sym (map-map (row_at nodes) change slots)

  -- the entry of one node is another
  pub lead_changed : (node : ℕ) (slot : Slot) (entry after : NodeEntry) → find (λ (slot : Slot). slot.node == node) slots ≡ Some slot
      → get nodes slot.at ≡ Some entry → Updates nodes new_nodes slot.at (Some after) → (entry.row.id ≡ node → R entry after)
      → ((other : NodeEntry) → (other.row.id ≡ node → ⊥) → R other other) → LeadOn R nodes new_nodes slots
  lead_changed node slot entry after found there_entry updates this others other m was e =
      let w = member_from_find (λ (slot : Slot). slot.node == node) slots slot found in
      elim (cases_eq other.at slot.at) [
        | inl same ↦ (let both : Some entry ≡ Some was = sym there_entry ∙ ap (get nodes) (sym same) ∙ e in
            let one : entry ≡ was = cc in (
              after,
              ap (get new_nodes) same ∙ updates.changed,
              subst (λ x. R x after) one (this (held_number nodes slots held slot entry w.0 there_entry ∙ eqb-true slot.node node w.1)),
            ))
        | inr differ ↦ (
          was,
          updates.others other.at differ ∙ e,
          others was (λ id. differ (ap (λ (s : Slot). s.at) (same_slot nodes slots held other slot m w.0
              (sym (held_number nodes slots held other was m e) ∙ id ∙ sym (eqb-true slot.node node w.1))))),
        )
      ]

  -- so where the node is not there
  pub lead_same : (node : ℕ) → find (λ (slot : Slot). slot.node == node) slots ≡ None → new_nodes ≡ nodes
      → ((other : NodeEntry) → (other.row.id ≡ node → ⊥) → R other other) → LeadOn R nodes new_nodes slots
  lead_same node none same others slot m entry e = (
    entry,
    ap (λ (s : Slab NodeEntry). get s slot.at) same ∙ e,
    others entry (λ id. false≢true (sym (fails_from_find (λ (slot : Slot). slot.node == node) slots none m)
        ∙ eq-eqb slot.node node (sym (held_number nodes slots held slot entry m e) ∙ id))),
  )

-- a slot leads to something
pub never_none : (nodes : Slab NodeEntry) (slots : List Slot) → AreHeld nodes slots → (node : ℕ) (slot : Slot)
    → find (λ (slot : Slot). slot.node == node) slots ≡ Some slot → get nodes slot.at ≡ None → ⊥
never_none nodes slots held node slot found none =
    let k = held.held slot (member_from_find (λ (slot : Slot). slot.node == node) slots slot found).0 in
    let bad : None ≡ Some k.entry = sym none ∙ k.found in absurd (cc)

pub lead_none : (R : NodeEntry → NodeEntry → Type 0) (nodes : Slab NodeEntry) (slots : List Slot) → ((entry : NodeEntry) → R entry entry) → LeadOn R nodes nodes slots
lead_none R nodes slots same slot m entry e = (entry, e, same entry)

pub lead_on : (R S T : NodeEntry → NodeEntry → Type 0) (first second third : Slab NodeEntry) (slots : List Slot) → LeadOn R first second slots
    → LeadOn S second third slots → ((x y z : NodeEntry) → R x y → S y z → T x z) → LeadOn T first third slots
lead_on R S T first second third slots r s both slot m entry e =
    let v = r slot m entry e in let w = s slot m v.0 v.1 in (w.0, w.1, both entry v.0 w.0 v.2 w.2)

-- ---- moves

pub not_moved : (entry : NodeEntry) → IsMoved [] entry entry
not_moved entry = record { row = refl; children = refl }

pub moved_id : (moves : List Move) (entry after : NodeEntry) → IsMoved moves entry after → after.row.id ≡ entry.row.id
moved_id moves entry after is = ap (λ (r : NodeRow). r.id) is.row

-- one move more
pub moved_more : (front : List Move) (move : Move) → ((x : Move) → Mem x front → x.node < move.node) → (x y z : NodeEntry) → IsMoved front x y
    → IsPut move.node move.place y z → IsMoved (front ++ move ∷ []) x z
moved_more front move below x y z so_far put =
    record {
      row = elim (cases_eq x.row.id move.node) [
        | inl e ↦ put.this (ap (λ (r : NodeRow). r.id) so_far.row ∙ e) ∙ ap (λ (r : NodeRow). record r { parent = move.place }) so_far.row
            ∙ ap (λ (o : Option Move). record x.row { parent = unwrap_or (option_map (λ (m : Move). m.place) o) x.row.parent })
            (sym (find_last (λ (m : Move). m.node == x.row.id) front move
            (λ m k. false_from_ne_true (m.node == x.row.id) (λ t. let same = eqb-true m.node x.row.id t in let less = below m k in absurd (omega arith)))
            (eq-eqb move.node x.row.id (sym e))))
        | inr differ ↦ put.other (λ e. differ (sym (ap (λ (r : NodeRow). r.id) so_far.row) ∙ e)) ∙ so_far.row
            ∙ ap (λ (o : Option Move). record x.row { parent = unwrap_or (option_map (λ (m : Move). m.place) o) x.row.parent })
            (sym (find_front (λ (m : Move). m.node == x.row.id) front move
            (false_from_ne_true (move.node == x.row.id) (λ t. differ (sym (eqb-true move.node x.row.id t))))))
      ];
      children = put.children ∙ so_far.children;
    }

pub put_other : (node : ℕ) (place : Place) (entry : NodeEntry) → (entry.row.id ≡ node → ⊥) → IsPut node place entry entry
put_other node place entry differ = record { this = λ e. absurd (differ e); other = λ _. refl; children = refl }

-- ---- nests

pub nested_on : (xs ys : List Nest) (place : Place) (before middle list : List ℕ) → IsNested xs place before middle → IsNested ys place middle list
    → IsNested (xs ++ ys) place before list
nested_on xs ys place before middle list first (by_nest m e l) = by_nest (Mem-append_right xs ys m) e l
nested_on xs ys place before middle list (by_nest m e l) (by_none none same) = by_nest (Mem-append_left xs ys m) e (same ∙ l)
nested_on xs ys place before middle list (by_none none same) (by_none later stays) =
    by_none (λ nest m e. elim (Mem-append_cases xs ys m) [ inl k ↦ none nest k e | inr k ↦ later nest k e ]) (stays ∙ same)

pub filled_none : (entry : NodeEntry) → IsFilled [] entry entry
filled_none entry = record { row = refl; children = by_none (λ nest m. elim m [ ]) refl }

pub filled_id : (nests : List Nest) (entry after : NodeEntry) → IsFilled nests entry after → after.row.id ≡ entry.row.id
filled_id nests entry after is = ap (λ (r : NodeRow). r.id) is.row

pub filled_on : (xs ys : List Nest) (x y z : NodeEntry) → IsFilled xs x y → IsFilled ys y z → IsFilled (xs ++ ys) x z
filled_on xs ys x y z first second =
    record {
      row = second.row ∙ first.row;
      children = nested_on xs ys (Node x.row.id) x.children.items y.children.items z.children.items first.children
          (subst (λ (r : NodeRow). IsNested ys (Node r.id) y.children.items z.children.items) first.row second.children);
    }

-- one nest
module _ (nest : Nest) (node : ℕ) (is : nest.place ≡ Node node) where
  pub node_filled : (entry after : NodeEntry) → after.row ≡ entry.row → after.children.items ≡ nest.children.items → entry.row.id ≡ node → IsFilled (nest ∷ []) entry after
  node_filled entry after row children e = record { row = row; children = by_nest (here refl) (is ∙ ap Node (sym e)) children }

  node_differs : (other : ℕ) → (other ≡ node → ⊥) → nest.place ≡ Node other → ⊥
  node_differs other differ e = let both : Node other ≡ Node node = sym e ∙ is in differ (cc)

  pub node_other : (entry : NodeEntry) → (entry.row.id ≡ node → ⊥) → IsFilled (nest ∷ []) entry entry
  node_other entry differ =
      record {
        row = refl;
        children = by_none (λ n m e. elim (Mem-cons_cases m) [
          | inl same ↦ node_differs entry.row.id differ (ap (λ (x : Nest). x.place) same ∙ e)
          | inr k ↦ elim k [ ]
        ]) refl;
      }

  pub no_region : (region : ℕ) (entry : RegionEntry) → IsRegionFilled (nest ∷ []) region entry entry
  no_region region entry =
      by_none (λ n m e. elim (Mem-cons_cases m) [
        | inl same ↦ (let both : Node node ≡ Region region = sym is ∙ ap (λ (x : Nest). x.place) same ∙ e in absurd (cc))
        | inr k ↦ elim k [ ]
      ]) refl

module _ (nest : Nest) (region : ℕ) (is : nest.place ≡ Region region) where
  pub no_node : (entry : NodeEntry) → IsFilled (nest ∷ []) entry entry
  no_node entry =
      record {
        row = refl;
        children = by_none (λ n m e. elim (Mem-cons_cases m) [
          | inl same ↦ (let both : Region region ≡ Node entry.row.id = sym is ∙ ap (λ (x : Nest). x.place) same ∙ e in absurd (cc))
          | inr k ↦ elim k [ ]
        ]) refl;
      }

  pub region_other : (other : ℕ) (entry : RegionEntry) → (other ≡ region → ⊥) → IsRegionFilled (nest ∷ []) other entry entry
  region_other other entry differ =
      by_none (λ n m e. elim (Mem-cons_cases m) [
        | inl same ↦ (let both : Region region ≡ Region other = sym is ∙ ap (λ (x : Nest). x.place) same ∙ e in
            let one : region ≡ other = cc in absurd (differ (sym one)))
        | inr k ↦ elim k [ ]
      ]) refl

  pub region_set : (regions : List RegionEntry) (stood new : RegionEntry) → At stood region regions → new.children.items ≡ nest.children.items
      → AreBeside (IsRegionFilled (nest ∷ [])) regions (slice_set regions region new)
  region_set regions stood new there_at children =
      beside_set (IsRegionFilled (nest ∷ [])) regions region stood new there_at (by_nest (here refl) is children)
      (λ i x differ. region_other i x differ)

  -- where there is no such region
  pub region_past : (regions : List RegionEntry) → length regions ≤ region → AreBeside (IsRegionFilled (nest ∷ [])) regions regions
  region_past regions past =
      record {
        many = refl;
        each = λ i was x a b. subst (IsRegionFilled (nest ∷ []) i was) (At-one a b)
            (region_other i was (λ e. let below = At-below a in absurd (omega arith)));
      }

pub region_on : (xs ys : List Nest) (first second third : List RegionEntry) → AreBeside (IsRegionFilled xs) first second → AreBeside (IsRegionFilled ys) second third
    → AreBeside (IsRegionFilled (xs ++ ys)) first third
region_on xs ys first second third r s =
    beside_on (IsRegionFilled xs) (IsRegionFilled ys) (IsRegionFilled (xs ++ ys)) first second third r s
    (λ i x y z p q. nested_on xs ys (Region i) x.children.items y.children.items z.children.items p q)

pub region_none : (regions : List RegionEntry) → AreBeside (IsRegionFilled []) regions regions
region_none regions = beside_same (IsRegionFilled []) regions (λ i x. by_none (λ nest m. elim m [ ]) refl)

-- ---- entries put behind

module _ (nodes new_nodes : Slab NodeEntry) (slots new_slots : List Slot) (entry : NodeEntry) (held : AreHeld nodes slots)
    (pushed : IsPushed nodes slots entry new_nodes new_slots) (above : (slot : Slot) → Mem slot slots → slot.node < entry.row.id) where
  abbrev last : Slot
  last = record { node = entry.row.id; at = pushed.at }

  stays : (slot : Slot) → Mem slot slots → get new_nodes slot.at ≡ get nodes slot.at
  stays slot m =
      let k = held.held slot m in
      pushed.updates.others slot.at (λ e. let bad : Some k.entry ≡ None = sym k.found ∙ ap (get nodes) e ∙ pushed.was_vacant in absurd (cc))

  pub push_cases : (slot : Slot) → Mem slot new_slots → (Mem slot slots × (get new_nodes slot.at ≡ get nodes slot.at)) ⊎ ((last ≡ slot) × (get new_nodes slot.at ≡ Some entry))
  push_cases slot m =
      elim (Mem-append_cases slots (last ∷ []) (subst (λ xs. Mem slot xs) pushed.slots_are m)) [
        | inl n ↦ inl (n, stays slot n)
        | inr n ↦ (let e : last ≡ slot = elim (Mem-cons_cases n) [ inl e ↦ e | inr k ↦ elim k [ ] ] in
            inr (e, ap (λ (s : Slot). get new_nodes s.at) (sym e) ∙ pushed.updates.changed))
      ]

  pub push_held : AreHeld new_nodes new_slots
  push_held =
      record {
        ascend = subst (IsStrictlySortedBy slot_cmp) (sym pushed.slots_are)
            (sorted_from_Ascending {cmp = slot_cmp} (slots ++ last ∷ [])
            (Ascending-append slots (last ∷ []) (Ascending-from_sorted slots held.ascend) (asc_cons (λ y m. elim m [ ]) asc_nil)
            (λ x y m n. let e : last ≡ y = elim (Mem-cons_cases n) [ inl e ↦ e | inr k ↦ elim k [ ] ] in
            subst (λ (slot : Slot). nat_cmp x.node slot.node ≡ Less) e (nat_cmp-lt x.node entry.row.id (above x m)))));
        held = λ slot m. elim (push_cases slot m) [
          | inl w ↦ (let k = held.held slot w.0 in record { entry = k.entry; found = w.1 ∙ k.found; number = k.number })
          | inr w ↦ record { entry = entry; found = w.1; number = ap (λ (s : Slot). s.node) w.0 }
        ];
      }

  pub push_rows : rows_of new_nodes new_slots ≡ rows_of nodes slots ++ entry.row ∷ []
  push_rows =
      ap (rows_of new_nodes) pushed.slots_are ∙ map-append (row_at new_nodes) slots (last ∷ [])
      ∙ (let old = map_agree (row_at new_nodes) (row_at nodes) slots
      (λ slot m. ap (λ (o : Option NodeEntry). unwrap_or (option_map (λ (e : NodeEntry). e.row) o) no_row) (stays slot m)) in
      let one : row_at new_nodes last ≡ entry.row =
      ap (λ (o : Option NodeEntry). unwrap_or (option_map (λ (e : NodeEntry). e.row) o) no_row) pushed.updates.changed in
      λ t. old t ++ one t ∷ [])

pub pushed_none : (nodes : Slab NodeEntry) (slots : List Slot) → AreHeld nodes slots → rows_of nodes slots ≡ rows_of nodes slots ++ [] → ArePushed nodes slots [] nodes slots
pushed_none nodes slots held same = record { held = held; rows = same; kept = λ slot m. inl (m, refl) }

-- one entry more
pub pushed_more : (nodes middle new_nodes : Slab NodeEntry) (slots middle_slots new_slots : List Slot) (entries : List NodeEntry) (entry : NodeEntry)
    → ArePushed nodes slots entries middle middle_slots → IsPushed middle middle_slots entry new_nodes new_slots
    → ((slot : Slot) → Mem slot slots → slot.node < entry.row.id) → ((made : NodeEntry) → Mem made entries → made.row.id < entry.row.id)
    → ArePushed nodes slots (entries ++ entry ∷ []) new_nodes new_slots
pushed_more nodes middle new_nodes slots middle_slots new_slots entries entry so_far pushed above later =
    let up : (slot : Slot) → Mem slot middle_slots → slot.node < entry.row.id = λ slot m. elim (so_far.kept slot m) [
      | inl w ↦ above slot w.0
      | inr w ↦ subst (λ n. n < entry.row.id) (held_number middle middle_slots so_far.held slot w.0 m w.2) (later w.0 w.1)
    ] in
    record {
      held = push_held middle new_nodes middle_slots new_slots entry so_far.held pushed up;
      rows = push_rows middle new_nodes middle_slots new_slots entry so_far.held pushed up ∙ ap (λ rows. rows ++ entry.row ∷ []) so_far.rows
          ∙ append_assoc (rows_of nodes slots) (map (λ (e : NodeEntry). e.row) entries) (entry.row ∷ [])
          ∙ ap (λ rows. rows_of nodes slots ++ rows) (sym (map-append (λ (e : NodeEntry). e.row) entries (entry ∷ [])));
      kept = λ slot m. elim (push_cases middle new_nodes middle_slots new_slots entry so_far.held pushed up slot m) [
        | inl w ↦ elim (so_far.kept slot w.0) [
          | inl v ↦ inl (v.0, w.1 ∙ v.1)
          | inr v ↦ inr (v.0, Mem-append_left entries (entry ∷ []) v.1, w.1 ∙ v.2)
        ]
        | inr w ↦ inr (entry, Mem-append_right entries (entry ∷ []) (here refl), w.1)
      ];
    }

-- ---- all of it

module _ (nodes dropped shifted filled new_nodes : Slab NodeEntry) (slots new_slots : List Slot) (gone : List ℕ) (moves : List Move) (nests : List Nest)
    (entries : List NodeEntry) (held : AreHeld nodes slots)
    (left : (slot : Slot) → Mem slot (staying nodes dropped slots gone held) → get dropped slot.at ≡ get nodes slot.at)
    (shift : LeadOn (IsMoved moves) dropped shifted (staying nodes dropped slots gone held))
    (fill : LeadOn (IsFilled nests) shifted filled (staying nodes dropped slots gone held))
    (pushed : ArePushed filled (staying nodes dropped slots gone held) entries new_nodes new_slots) where
  abbrev stay : List Slot
  stay = staying nodes dropped slots gone held

  dropped_held : AreHeld dropped stay
  dropped_held = drop_held nodes dropped slots gone held left

  shifted_held : AreHeld shifted stay
  shifted_held = lead_held (IsMoved moves) dropped shifted stay dropped_held shift (moved_id moves)

  pub all_after : AreNodesAfter nodes slots gone moves nests entries new_nodes new_slots
  all_after =
      record {
        rows = pushed.rows
            ∙ ap (λ rows. rows ++ map (λ (e : NodeEntry). e.row) entries)
            (lead_rows (IsFilled nests) shifted filled stay shifted_held fill (λ (r : NodeRow). r) (λ entry after is. is.row)
            ∙ same_rows (rows_of shifted stay)
            ∙ lead_rows (IsMoved moves) dropped shifted stay dropped_held shift (moved moves) (λ entry after is. is.row)
            ∙ ap (map (moved moves)) (drop_rows nodes dropped slots gone held left));
        ascend = pushed.held.ascend;
        are = λ slot m. let k = pushed.held.held slot m in
            elim (pushed.kept slot m) [
              | inl w ↦ (k.entry, k.found, k.number, inl (left_node slot k.entry w.0 (sym w.1 ∙ k.found)))
              | inr w ↦ (
                k.entry,
                k.found,
                k.number,
                inr (
                  w.0,
                  w.1,
                  held_number new_nodes new_slots pushed.held slot w.0 m w.2,
                  (let both : Some k.entry ≡ Some w.0 = sym k.found ∙ w.2 in
                      let one : k.entry ≡ w.0 = cc in ap (λ (e : NodeEntry). e.children.items) one),
                ),
              )
            ];
      }
    where
      same_rows : (rows : List NodeRow) → map (λ (r : NodeRow). r) rows ≡ rows
      same_rows [] = refl
      same_rows (row ∷ rows) = ap (λ xs. row ∷ xs) (same_rows rows)

      left_node : (slot : Slot) (entry : NodeEntry) → Mem slot stay → get filled slot.at ≡ Some entry → IsNodeLeft nodes slots nests slot entry.children.items
      left_node slot entry m e =
          let stood = (Mem-unfilter (λ (slot : Slot). not (is_among slot.node gone)) slots m).0 in
          let k = held.held slot stood in
          let first = shift slot m k.entry (left slot m ∙ k.found) in
          let second = fill slot m first.0 first.1 in
          let both : Some second.0 ≡ Some entry = sym second.1 ∙ e in
          let one : second.0 ≡ entry = cc in
          let id : first.0.row.id ≡ slot.node = moved_id moves k.entry first.0 first.2 ∙ k.number in
          let over : first.0.children.items ≡ k.entry.children.items = first.2.children in
          record {
            was = slot;
            stood = stood;
            number = refl;
            entry = k.entry;
            found = k.found;
            children = subst (λ (x : NodeEntry). IsNested nests (Node slot.node) k.entry.children.items x.children.items) one
                (subst (λ xs. IsNested nests (Node slot.node) xs second.0.children.items) over
                (subst (λ n. IsNested nests (Node n) first.0.children.items second.0.children.items) id second.2.children));
          }

-- what a loop has gone through is all
pub went_through : {X : Type 0} (xs all : List X) → map (λ x. x) xs ≡ all → xs ≡ all
went_through xs all e = sym (same xs) ∙ e
  where
    same : {X : Type 0} (xs : List X) → map (λ x. x) xs ≡ xs
    same [] = refl
    same (x ∷ xs) = ap (λ ys. x ∷ ys) (same xs)
