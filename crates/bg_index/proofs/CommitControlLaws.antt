-- The nodes of each control, as nodes are taken out and put behind.
use Rattle.std.proofs.Common.{◌≡◌, ℕ, ◌≤◌, ◌+◌, ◌==◌, Less, Some, None, List, [], ◌∷◌, ◌++◌, inl, inr, length, map, filter, find, not, nat_cmp, vec_capacity, refl, sym, ap, subst, ◌∙◌, arith, eqb-true, eq-eqb, append_assoc, append-nil, length-append}
use Rattle.std.specs.List.Sorted.{IsStrictlySortedBy}
use Rattle.std.proofs.lemmas.Bool.{false≢true}
use Rattle.std.proofs.lemmas.List.{map-append}
use Rattle.bg_lists.proofs.Comparisons.{tied_numbers}
use Rattle.slab.specs.Slab.{Slab, get}
use Rattle.bg_lists.specs.Lists.{Mem, here}
use Rattle.bg_lists.proofs.Ascents.{Ascending-from_sorted, sorted_from_Ascending, Ascending-filter, Ascending-map, Ascending-map_on, same_member}
use Rattle.bg_lists.proofs.Members.{Mem-cons_cases, Mem-append_cases, Mem-append_left, Mem-append_right, Mem-unmap, Mem-unfilter}
use Rattle.bg_lists.proofs.Words.{fails_from_find, length-filter}
use Rattle.bg_base.specs.declared.big.NodeRow.{NodeRow}
use Rattle.bg_rules.specs.Lookups.{nodes_with}
use Rattle.bg_rules.specs.Instantiation.{is_among}
use Rattle.bg_rules.proofs.Upwards.{member_from_is_among}
use Rattle.bg_index.specs.declared.entries.ControlEntry.{ControlEntry}
use Rattle.bg_index.specs.declared.entries.NodeEntry.{NodeEntry}
use Rattle.bg_index.specs.declared.entries.Slot.{Slot}
use Rattle.bg_index.specs.Commits.{AreFrom, AreHeld, IsLessened, IsWithout, IsTakenOut, HasMore, HasRoomy, AreRoomy, control_key}
use Rattle.bg_index.specs.Indexed.{control_cmp, row_at, rows_of, AreSorted}
use Rattle.bg_index.proofs.CommitNodeLaws.{held_row, same_slot}
use Rattle.bg_index.proofs.ControlLaws.{filter-append, with_its, with_other}
use Rattle.bg_index.proofs.KeyLaws.{from_same, from_on, from_ascends, from_there, thinned_same, thinned_on, thinned_all}

-- ---- nodes of a control

pub with_both : (control : ℕ) (rows more : List NodeRow) → nodes_with control (rows ++ more) ≡ nodes_with control rows ++ nodes_with control more
with_both control rows more =
    ap (map (λ (r : NodeRow). r.id)) (filter-append (λ (r : NodeRow). r.control == control) rows more)
    ∙ map-append (λ (r : NodeRow). r.id) (filter (λ (r : NodeRow). r.control == control) rows) (filter (λ (r : NodeRow). r.control == control) more)

module _ (nodes : Slab NodeEntry) (slots : List Slot) (held : AreHeld nodes slots) where
  -- the row of a control that has the number is that of a slot
  row_of_slot : (control node : ℕ) → Mem node (nodes_with control (rows_of nodes slots))
      → (slot : Slot) × (entry : NodeEntry) × Mem slot slots × (slot.node ≡ node) × (get nodes slot.at ≡ Some entry) × (entry.row.control ≡ control)
  row_of_slot control node m =
      let w = Mem-unmap (λ (r : NodeRow). r.id) (filter (λ (r : NodeRow). r.control == control) (rows_of nodes slots)) m in
      let v = Mem-unfilter (λ (r : NodeRow). r.control == control) (rows_of nodes slots) w.1 in
      let s = Mem-unmap (row_at nodes) slots v.0 in
      let k = held.held s.0 s.1 in
      let row_is : k.entry.row ≡ w.0 = sym (held_row nodes slots held s.0 k.entry k.found) ∙ s.2 in
      (s.0, k.entry, s.1, sym k.number ∙ ap (λ (r : NodeRow). r.id) row_is ∙ w.2, k.found, ap (λ (r : NodeRow). r.control) row_is ∙ eqb-true w.0.control control v.1)

  -- a node is among those of one control
  pub one_control : (control node : ℕ) (slot : Slot) (entry : NodeEntry) → Mem slot slots → slot.node ≡ node → get nodes slot.at ≡ Some entry
      → Mem node (nodes_with control (rows_of nodes slots)) → control ≡ entry.row.control
  one_control control node slot entry m its found n =
      let w = row_of_slot control node n in
      let same : slot ≡ w.0 = same_slot nodes slots held slot w.0 m w.2 (its ∙ sym w.3) in
      let both : Some entry ≡ Some w.1 = sym found ∙ ap (λ (s : Slot). get nodes s.at) same ∙ w.4 in
      let one : entry ≡ w.1 = cc in
      sym (ap (λ (e : NodeEntry). e.row.control) one ∙ w.5)

  pub no_control : (control node : ℕ) → find (λ (slot : Slot). slot.node == node) slots ≡ None → Mem node (nodes_with control (rows_of nodes slots)) → ⊥
  no_control control node none n =
      let w = row_of_slot control node n in
      false≢true (sym (fails_from_find (λ (slot : Slot). slot.node == node) slots none w.2) ∙ eq-eqb w.0.node node w.3)

  pub with_ascends : (control : ℕ) → IsStrictlySortedBy nat_cmp (nodes_with control (rows_of nodes slots))
  with_ascends control =
      sorted_from_Ascending {cmp = nat_cmp} (nodes_with control (rows_of nodes slots))
      (Ascending-map (λ (r : NodeRow). r.id) (filter (λ (r : NodeRow). r.control == control) (rows_of nodes slots)) (λ x y less. less)
      (Ascending-filter (λ (r : NodeRow). r.control == control) (rows_of nodes slots)
      (Ascending-map_on {Under = λ (a b : NodeRow). nat_cmp a.id b.id ≡ Less} (row_at nodes) slots
      (λ x y m n less. subst (λ a. nat_cmp a (row_at nodes y).id ≡ Less) (sym (number x m)) (subst (λ b. nat_cmp x.node b ≡ Less) (sym (number y n)) less))
      (Ascending-from_sorted slots held.ascend))))
    where
      number : (slot : Slot) → Mem slot slots → (row_at nodes slot).id ≡ slot.node
      number slot m = let k = held.held slot m in ap (λ (r : NodeRow). r.id) (held_row nodes slots held slot k.entry k.found) ∙ k.number

-- ---- nodes taken out

module _ (nodes : Slab NodeEntry) (slots : List Slot) (held : AreHeld nodes slots) (first now : List ControlEntry) (gone done : List ℕ)
    (sorted : AreSorted (rows_of nodes slots) first) (so_far : AreFrom control_key (IsLessened gone done) first now) where
  pub now_ascends : IsStrictlySortedBy control_cmp now
  now_ascends = from_ascends control_key (IsLessened gone done) first now so_far sorted.controls_ascend

  pub nodes_up : (entry : ControlEntry) → Mem entry now → IsStrictlySortedBy nat_cmp entry.nodes.items
  nodes_up entry m =
      let w = so_far.each entry m in
      w.3.thinned.ascends (subst (IsStrictlySortedBy nat_cmp) (sym (sorted.controls_are w.0 w.1)) (with_ascends nodes slots held w.0.control))

  -- one node more is taken out
  pub less_more : (node : ℕ) (slot : Slot) (entry : NodeEntry) (next : List ControlEntry) → Mem slot slots → slot.node ≡ node → get nodes slot.at ≡ Some entry
      → AreFrom control_key (IsWithout gone entry.row.control node) now next → AreFrom control_key (IsLessened gone (done ++ node ∷ [])) first next
  less_more node slot entry next m its found step =
      from_on control_key (IsLessened gone done) (IsWithout gone entry.row.control node) (IsLessened gone (done ++ node ∷ [])) first now next so_far step
      (λ x y z p q xy yz r s. record {
        thinned = thinned_on gone x.nodes.items y.nodes.items z.nodes.items r.thinned s.thinned;
        out = λ n k l. elim (Mem-append_cases done (node ∷ []) k) [
          | inl d ↦ r.out n d (s.thinned.fewer n l)
          | inr d ↦ (let e : node ≡ n = elim (Mem-cons_cases d) [ inl e ↦ e | inr o ↦ elim o [ ] ] in
              let mine : Mem node z.nodes.items = subst (λ a. Mem a z.nodes.items) (sym e) l in
              let was : Mem node (nodes_with x.control (rows_of nodes slots)) = subst (λ xs. Mem node xs) (sorted.controls_are x p)
              (r.thinned.fewer node (s.thinned.fewer node mine)) in
              s.out (sym yz ∙ sym xy ∙ one_control nodes slots held x.control node slot entry m its found was) mine)
        ];
        capacity = s.capacity ∙ r.capacity;
      })

  -- one that is not there
  pub less_none : (node : ℕ) → find (λ (slot : Slot). slot.node == node) slots ≡ None → AreFrom control_key (IsLessened gone (done ++ node ∷ [])) first now
  less_none node none =
      record {
        keys = so_far.keys;
        each = λ z m. let w = so_far.each z m in (
          w.0,
          w.1,
          w.2,
          record {
            thinned = w.3.thinned;
            out = λ n k l. elim (Mem-append_cases done (node ∷ []) k) [
              | inl d ↦ w.3.out n d l
              | inr d ↦ (let e : node ≡ n = elim (Mem-cons_cases d) [ inl e ↦ e | inr o ↦ elim o [ ] ] in
                  no_control nodes slots held w.0.control node none
                  (subst (λ xs. Mem node xs) (sorted.controls_are w.0 w.1) (w.3.thinned.fewer node (subst (λ a. Mem a z.nodes.items) (sym e) l))))
            ];
            capacity = w.3.capacity;
          },
        );
      }

pub less_start : (gone : List ℕ) (controls : List ControlEntry) → AreFrom control_key (IsLessened gone []) controls controls
less_start gone controls =
    from_same control_key (IsLessened gone []) controls
    (λ x m. record { thinned = thinned_same gone x.nodes.items; out = λ n k l. elim k [ ]; capacity = refl })

pub less_end : (gone done : List ℕ) (first now : List ControlEntry) → done ≡ gone → AreFrom control_key (IsLessened gone done) first now
    → AreFrom control_key (IsTakenOut gone) first now
less_end gone done first now all from =
    record {
      keys = from.keys;
      each = λ z m. let w = from.each z m in (
        w.0,
        w.1,
        w.2,
        record {
          nodes = thinned_all gone w.0.nodes.items z.nodes.items w.3.thinned
              (λ n among l. w.3.out n (subst (λ xs. Mem n xs) (sym all) (member_from_is_among gone n among)) l);
          capacity = w.3.capacity;
        },
      );
    }

pub without_other : (gone : List ℕ) (control node : ℕ) (entry : ControlEntry) → (entry.control ≡ control → ⊥) → IsWithout gone control node entry entry
without_other gone control node entry differ = record { thinned = thinned_same gone entry.nodes.items; out = λ e. absurd (differ e); capacity = refl }

-- ---- nodes put in

pub more_none : (controls : List ControlEntry) → AreFrom control_key (HasMore []) controls controls
more_none controls = from_same control_key (HasMore []) controls (λ x m. record { nodes = sym (append-nil x.nodes.items); capacity = refl })

pub more_on : (rows more : List NodeRow) (first now next : List ControlEntry) → AreFrom control_key (HasMore rows) first now
    → AreFrom control_key (HasMore more) now next → AreFrom control_key (HasMore (rows ++ more)) first next
more_on rows more first now next r s =
    from_on control_key (HasMore rows) (HasMore more) (HasMore (rows ++ more)) first now next r s
    (λ x y z p q xy yz a b. record {
      nodes = b.nodes ∙ ap (λ xs. xs ++ nodes_with z.control more) (a.nodes ∙ ap (λ n. x.nodes.items ++ nodes_with n rows) yz)
          ∙ append_assoc x.nodes.items (nodes_with z.control rows) (nodes_with z.control more)
          ∙ ap (λ xs. x.nodes.items ++ xs) (sym (with_both z.control rows more));
      capacity = b.capacity ∙ a.capacity;
    })

pub more_its : (row : NodeRow) (was entry : ControlEntry) → entry.control ≡ was.control → row.control ≡ was.control → entry.nodes.items ≡ was.nodes.items ++ row.id ∷ []
    → vec_capacity entry.nodes ≡ vec_capacity was.nodes → HasMore (row ∷ []) was entry
more_its row was entry named its nodes capacity =
    record { nodes = nodes ∙ ap (λ xs. was.nodes.items ++ xs) (sym (with_its [] row entry.control (its ∙ sym named))); capacity = capacity }

pub more_other : (row : NodeRow) (entry : ControlEntry) → (entry.control ≡ row.control → ⊥) → HasMore (row ∷ []) entry entry
more_other row entry differ =
    record { nodes = sym (append-nil entry.nodes.items) ∙ ap (λ xs. entry.nodes.items ++ xs) (sym (with_other [] row entry.control (λ e. differ (sym e)))); capacity = refl }

-- there is one entry of a control
pub one_key : (controls : List ControlEntry) → IsStrictlySortedBy control_cmp controls → (x y : ControlEntry) → Mem x controls → Mem y controls
    → x.control ≡ y.control → x ≡ y
one_key controls up x y m n e =
    same_member {cmp = control_cmp} (Ascending-from_sorted controls up) m n (tied_numbers x.control y.control e) (tied_numbers y.control x.control (sym e))

-- there is room left
pub roomy_now : (done rest : List NodeRow) (row : NodeRow) (first now : List ControlEntry) → IsStrictlySortedBy control_cmp first
    → AreRoomy ((done ++ row ∷ []) ++ rest) ((done ++ row ∷ []) ++ rest) first → AreFrom control_key (HasMore done) first now → HasRoomy row.control 1 now
roomy_now done rest row first now up roomy so_far =
    let w = roomy row (Mem-append_left (done ++ row ∷ []) rest (Mem-append_right done (row ∷ []) (here refl))) in
    let v = from_there control_key (HasMore done) first now so_far up w.0 w.1 in
    let named : v.0.control ≡ row.control = v.2 ∙ w.2.named in
    let long : length v.0.nodes.items ≡ length w.0.nodes.items + length (nodes_with row.control done)
    = ap length v.3.nodes ∙ length-append w.0.nodes.items (nodes_with v.0.control done)
    ∙ ap (λ n. length w.0.nodes.items + length (nodes_with n done)) named in
    let all = ap length (with_both row.control (done ++ row ∷ []) rest) ∙ length-append (nodes_with row.control (done ++ row ∷ [])) (nodes_with row.control rest) in
    let mine = ap length (with_its done row row.control refl) ∙ length-append (nodes_with row.control done) (row.id ∷ []) in
    let now_long = v.0.nodes.ok.0 in
    let was_long = w.0.nodes.ok.0 in
    let room = w.2.room in
    let same = v.3.capacity in
    (v.0, v.1, record { named = named; room = omega arith })

-- so after nodes were taken out
pub roomy_out : (rows all : List NodeRow) (gone : List ℕ) (first now : List ControlEntry) → IsStrictlySortedBy control_cmp first
    → AreRoomy rows all first → AreFrom control_key (IsTakenOut gone) first now → AreRoomy rows all now
roomy_out rows all gone first now up roomy out row m =
    let w = roomy row m in
    let v = from_there control_key (IsTakenOut gone) first now out up w.0 w.1 in
    let few : length v.0.nodes.items ≤ length w.0.nodes.items
    = subst (λ (xs : List ℕ). length xs ≤ length w.0.nodes.items) (sym v.3.nodes) (length-filter (λ (n : ℕ). not (is_among n gone)) w.0.nodes.items) in
    let now_long = v.0.nodes.ok.0 in
    let was_long = w.0.nodes.ok.0 in
    let room = w.2.room in
    let same = v.3.capacity in
    (v.0, v.1, record { named = v.2 ∙ w.2.named; room = omega arith })
