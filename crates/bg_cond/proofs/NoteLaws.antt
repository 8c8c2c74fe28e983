-- Notes at the nodes of a host: how they are made, and that there is one at each node in which the first node of a map lies.
use Rattle.std.proofs.Common.{◌≡◌, ℕ, ◌+◌, ◌<◌, ◌≤◌, cond, Bool, true, false, Option, Some, None, is_some, not, slice_get, List, [], ◌∷◌, length, get_or, All, nat_cmp, refl, sym, ap, subst, ◌∙◌, ◌⊎◌, inl, inr, arith, eqb-true, eq-eqb}
use Rattle.std.specs.BTreeMap.{BTreeMap, get}
use Rattle.std.specs.Ordering.{eq_by_cmp}
use Rattle.std.specs.List.Sorted.{IsStrictlySortedBy}
use Rattle.std.specs.Cmp.{unsigned_tied}
use Rattle.std.specs.List.{list_all, list_any}
use Rattle.std.proofs.lemmas.Bool.{and_parts, not-true, false_from_ne_true, false≢true}
use Rattle.bg_lists.specs.Lists.{Mem}
use Rattle.bg_lists.proofs.Places.{At-slice_get, Mem-from_At}
use Rattle.bg_lists.proofs.Words.{All-member, All-from_members, member_from_list_any, list_any-from_member}
use Rattle.bg_base.specs.declared.names.Place.{Place}
use Rattle.bg_base.specs.declared.names.Place.TheVariants.{Node}
use Rattle.bg_base.specs.declared.big.NodeRow.{NodeRow}
use Rattle.bg_base.specs.declared.big.Big.{Big}
use Rattle.bg_base.specs.Bigraph.{IsGround, node_cmp, row_of}
use Rattle.bg_base.proofs.LookUps.{row_from_row_of, has_row, same_row}
use Rattle.bg_rules.specs.declared.condition.Side.TheVariants.{Param}
use Rattle.bg_rules.specs.Instantiation.{is_among}
use Rattle.bg_rules.specs.LocalConditions.{Meets, at_place, above}
use Rattle.bg_rules.specs.Occurrences.{AreOccurrences}
use Rattle.bg_rules.specs.Solid.{IsPattern}
use Rattle.bg_rules.proofs.Occurrences.{occurs_locally}
use Rattle.bg_rules.proofs.Upwards.{not_among, meets_some, IsMet, IsMet-from_meets_some}
use Rattle.bg_cond.specs.Lists.{is_noted, IsNotedAt, AreUpward, IsNotedUp, IsNotedFor, AreNotedFor}
use Rattle.bg_decompose.specs.Marks.{is_covered}
use Rattle.bg_cond.specs.Sides.{lies_on}
use Rattle.bg_cond.proofs.Upto.{HoldsUpto, upto_none, upto_next, upto_all}

-- ---- one note more

kept_case : (b : Bool) (value : ℕ) (o : Option ℕ) → is_some o ≡ true → is_some (cond b (Some value) o) ≡ true
kept_case true value o e = refl
kept_case false value o e = e

before_case : (b : Bool) (value : ℕ) (o : Option ℕ) → is_some (cond b (Some value) o) ≡ true → (b ≡ true) ⊎ (is_some o ≡ true)
before_case true value o e = inl refl
before_case false value o e = inr e

module _ (notes new : BTreeMap ℕ ℕ) (key value : ℕ)
    (updates : (node : ℕ) → get nat_cmp new node ≡ cond (eq_by_cmp nat_cmp key node) (Some value) (get nat_cmp notes node)) where
  noted_there : is_noted new key ≡ true
  noted_there =
      ap is_some (updates key)
      ∙ ap (λ b. is_some (cond b (Some value) (get nat_cmp notes key))) (unsigned_tied key key ∙ eq-eqb key key refl)

  noted_kept : (node : ℕ) → is_noted notes node ≡ true → is_noted new node ≡ true
  noted_kept node e = ap is_some (updates node) ∙ kept_case (eq_by_cmp nat_cmp key node) value (get nat_cmp notes node) e

  noted_before : (node : ℕ) → is_noted new node ≡ true → (key ≡ node) ⊎ (is_noted notes node ≡ true)
  noted_before node e =
      elim (before_case (eq_by_cmp nat_cmp key node) value (get nat_cmp notes node) (sym (ap is_some (updates node)) ∙ e)) [
        | inl same ↦ inl (eqb-true key node (sym (unsigned_tied key node) ∙ same))
        | inr old ↦ inr old
      ]

-- ---- going up

-- there is a note where that lies, or the climb has come there
abbrev IsReached : BTreeMap ℕ ℕ → Place → Place → Type 0
IsReached notes below place = (node : ℕ) → below ≡ Node node → (is_noted notes node ≡ true) ⊎ (place ≡ Node node)

-- the climb from the start has come to the place
pub record AreNotedTo (host : Big) (old now : BTreeMap ℕ ℕ) (start place : Place) : Type 0 where
  pub upward : (row : NodeRow) → Mem row host.nodes → is_noted now row.id ≡ true → IsReached now row.parent place
  pub there : IsReached now start place
  pub kept : (node : ℕ) → is_noted old node ≡ true → is_noted now node ≡ true

module _ (host : Big) (old : BTreeMap ℕ ℕ) (start : Place) where
  pub to_begins : AreUpward host old → AreNotedTo host old old start start
  to_begins up = record { upward = λ row m e node p. inl (up row m e node p); there = λ node e. inr e; kept = λ node e. e }

  pub to_ends : (now : BTreeMap ℕ ℕ) (place : Place) → ((node : ℕ) → place ≡ Node node → ⊥) → AreNotedTo host old now start place → IsNotedUp host old now start
  to_ends now place none are =
      record {
        upward = λ row m e node p. elim (are.upward row m e node p) [ inl n ↦ n | inr q ↦ absurd (none node q) ];
        there = λ node e. elim (are.there node e) [ inl n ↦ n | inr q ↦ absurd (none node q) ];
        kept = are.kept;
      }

  pub to_meets : (now : BTreeMap ℕ ℕ) (node : ℕ) → is_noted now node ≡ true → AreNotedTo host old now start (Node node) → IsNotedUp host old now start
  to_meets now node noted are =
      let at : (other : ℕ) → Node node ≡ Node other → is_noted now other ≡ true
      = λ other q. let same : node ≡ other = cc in subst (λ n. is_noted now n ≡ true) same noted in
      record {
        upward = λ row m e other p. elim (are.upward row m e other p) [ inl n ↦ n | inr q ↦ at other q ];
        there = λ other e. elim (are.there other e) [ inl n ↦ n | inr q ↦ at other q ];
        kept = are.kept;
      }

  module _ (now new : BTreeMap ℕ ℕ) (node value : ℕ)
      (updates : (other : ℕ) → get nat_cmp new other ≡ cond (eq_by_cmp nat_cmp node other) (Some value) (get nat_cmp now other))
      (are : AreNotedTo host old now start (Node node)) where
    at_node : (other : ℕ) → Node node ≡ Node other → is_noted new other ≡ true
    at_node other q =
        let same : node ≡ other = cc in subst (λ n. is_noted new n ≡ true) same (noted_there now new node value updates)

    pub to_next : (row : NodeRow) → IsStrictlySortedBy node_cmp host.nodes → row_of host.nodes node ≡ Some row → AreNotedTo host old new start row.parent
    to_next row up found =
        let w = row_from_row_of host.nodes node found in
        record {
          upward = λ other m e upper p. elim (noted_before now new node value updates other.id e) [
            | inl same ↦ (let one : row ≡ other = same_row host.nodes up w.0 m (w.1 ∙ same) in inr (ap (λ (r : NodeRow). r.parent) one ∙ p))
            | inr before ↦ elim (are.upward other m before upper p) [
              | inl n ↦ inl (noted_kept now new node value updates upper n)
              | inr q ↦ inl (at_node upper q)
            ]
          ];
          there = λ upper e. elim (are.there upper e) [
            | inl n ↦ inl (noted_kept now new node value updates upper n)
            | inr q ↦ inl (at_node upper q)
          ];
          kept = λ other e. noted_kept now new node value updates other (are.kept other e);
        }

    pub to_lost : row_of host.nodes node ≡ None → IsNotedUp host old new start
    to_lost lost =
        record {
          upward = λ other m e upper p. elim (noted_before now new node value updates other.id e) [
            | inl same ↦ absurd (false≢true (sym (ap is_some lost) ∙ has_row host.nodes m (sym same)))
            | inr before ↦ elim (are.upward other m before upper p) [
              | inl n ↦ noted_kept now new node value updates upper n
              | inr q ↦ at_node upper q
            ]
          ];
          there = λ upper e. elim (are.there upper e) [
            | inl n ↦ noted_kept now new node value updates upper n
            | inr q ↦ at_node upper q
          ];
          kept = λ other e. noted_kept now new node value updates other (are.kept other e);
        }

-- ---- one map

first_is : (map : List ℕ) (first other : ℕ) (others : List ℕ) → Some first ≡ slice_get map 0 → map ≡ other ∷ others → first ≡ other
first_is map first other others there e =
    let both : Some first ≡ Some other = there ∙ ap (λ m. slice_get m 0) e in cc

module _ (host : Big) (old : BTreeMap ℕ ℕ) where
  pub for_none : (map : List ℕ) (first : ℕ) → Some first ≡ slice_get map 0 → row_of host.nodes first ≡ None → AreUpward host old → IsNotedFor host old old map
  for_none map first head lost up =
      record {
        upward = up;
        there = λ row others m e. absurd (false≢true (sym (ap is_some lost) ∙ has_row host.nodes m (sym (first_is map first row.id others head e))));
        kept = λ node e. e;
      }

  pub for_first : (new : BTreeMap ℕ ℕ) (map : List ℕ) (first : ℕ) (row : NodeRow) → IsStrictlySortedBy node_cmp host.nodes → row_of host.nodes first ≡ Some row
      → Some first ≡ slice_get map 0 → IsNotedUp host old new row.parent → IsNotedFor host old new map
  for_first new map first row up found head noted =
      let w = row_from_row_of host.nodes first found in
      record {
        upward = noted.upward;
        there = λ other others m e. let one : row ≡ other = same_row host.nodes up w.0 m (w.1 ∙ first_is map first other.id others head e) in
            subst (λ (r : NodeRow). IsNotedAt new r.parent) one noted.there;
        kept = noted.kept;
      }

-- ---- all maps

abbrev IsDone : Big → BTreeMap ℕ ℕ → List ℕ → Type 0
IsDone host notes map = (row : NodeRow) (others : List ℕ) → Mem row host.nodes → map ≡ row.id ∷ others → IsNotedAt notes row.parent

pub record AreNotedUpto (host : Big) (maps : List (List ℕ)) (notes : BTreeMap ℕ ℕ) (place : ℕ) : Type 0 where
  pub upward : AreUpward host notes
  pub done : HoldsUpto (IsDone host notes) maps place

module _ (host : Big) (maps : List (List ℕ)) where
  pub all_begin : (notes : BTreeMap ℕ ℕ) → ((node : ℕ) → get nat_cmp notes node ≡ None) → AreNotedUpto host maps notes 0
  all_begin notes none =
      record {
        upward = λ row m e. absurd (false≢true (sym (ap is_some (none row.id)) ∙ e));
        done = upto_none (IsDone host notes) maps;
      }

  pub all_next : (old new : BTreeMap ℕ ℕ) (place : ℕ) (map : List ℕ) → place < length maps → map ≡ get_or maps place map → IsNotedFor host old new map
      → AreNotedUpto host maps old place → AreNotedUpto host maps new (place + 1)
  all_next old new place map below is noted are =
      record {
        upward = noted.upward;
        done = upto_next (IsDone host new) maps place map below is noted.there
            (record { upto = λ at other a less row others m e node p. noted.kept node (are.done.upto at other a less row others m e node p) });
      }

  noted_above : (notes : BTreeMap ℕ ℕ) (upper : ℕ) {place : Place} → AreUpward host notes → IsNotedAt notes place → Meets host.nodes upper place
      → is_noted notes upper ≡ true
  noted_above notes upper up there (at_place e) = there upper e
  noted_above notes upper up there (above {row = row} m e over) = noted_above notes upper up (up row m (there row.id e)) over

  pub all_end : (notes : BTreeMap ℕ ℕ) (place : ℕ) → length maps ≤ place → AreNotedUpto host maps notes place → AreNotedFor host maps notes
  all_end notes place ended are =
      record {
        above = λ upper row others m k over. noted_above notes upper are.upward
            (All-member (IsDone host notes) maps (upto_all (IsDone host notes) maps place ended are.done) k row others m refl) over;
      }

-- ---- asked

-- an occurrence has a node
pub maps_have_nodes : (host pattern : Big) (maps : List (List ℕ)) → IsGround host → IsPattern pattern → AreOccurrences host pattern maps
    → All (λ map. 0 < length map) maps
maps_have_nodes host pattern maps ground is all =
    All-from_members (λ map. 0 < length map) maps
    (λ map m. let many = (occurs_locally host pattern is ground map (all.occur map m)).nodes_new.as_many in
    let some = is.solid.some_node in omega (arith, many, some))

module _ (host : Big) (images : List ℕ) (maps : List (List ℕ)) where
  no_up : (notes : BTreeMap ℕ ℕ) → AreNotedFor host maps notes → (first : ℕ) (others : List ℕ) → Mem (first ∷ others) maps → is_among first images ≡ false
      → (upper : ℕ) → Mem upper images → is_noted notes upper ≡ false → {place : Place} → place ≡ Node first → Meets host.nodes upper place → ⊥
  no_up notes noted first others m other upper k unnoted is (at_place e) =
      let both : Node first ≡ Node upper = sym is ∙ e in
      let same : upper ≡ first = cc in not_among images other (subst (λ n. Mem n images) same k)
  no_up notes noted first others m other upper k unnoted is (above {row = row} r e up) =
      let both : Node first ≡ Node row.id = sym is ∙ e in
      let same : first ≡ row.id = cc in
      false≢true (sym unnoted ∙ noted.above upper row others r (subst (λ n. Mem (n ∷ others) maps) same m) up)

  no_first : (notes : BTreeMap ℕ ℕ) → AreNotedFor host maps notes → All (λ node. is_noted notes node ≡ false) images → (first : ℕ) (others : List ℕ)
      → Mem (first ∷ others) maps → is_among first images ≡ false → IsMet host.nodes images (Node first) → ⊥
  no_first notes noted none first others m other met =
      no_up notes noted first others m other met.node met.member (All-member (λ node. is_noted notes node ≡ false) images none met.member) refl met.meets

  no_map : (notes : BTreeMap ℕ ℕ) → AreNotedFor host maps notes → All (λ map. 0 < length map) maps → All (λ node. is_noted notes node ≡ false) images
      → (map : List ℕ) → Mem map maps → list_all (lies_on Param host images) map ≡ true → ⊥
  unfolding is_covered
  no_map notes noted some none [] m lies = let short = All-member (λ map. 0 < length map) maps some m in omega (arith, short)
  no_map notes noted some none (first ∷ others) m lies =
      let one = (and_parts (lies_on Param host images first) (list_all (lies_on Param host images) others) lies).0 in
      let both = and_parts (not (is_among first images)) (meets_some host images (Node first)) one in
      no_first notes noted none first others m (not-true (is_among first images) both.0) (IsMet-from_meets_some host images (Node first) both.1)

  -- where nothing is noted at the images, no map lies inside
  pub none_inside : (notes : BTreeMap ℕ ℕ) → AreNotedFor host maps notes → All (λ map. 0 < length map) maps → All (λ node. is_noted notes node ≡ false) images
      → false ≡ list_any (λ map. list_all (lies_on Param host images) map) maps
  none_inside notes noted some none =
      sym (false_from_ne_true (list_any (λ map. list_all (lies_on Param host images) map) maps)
      (λ e. let w = member_from_list_any (λ map. list_all (lies_on Param host images) map) maps e in no_map notes noted some none w.0 w.1 w.2))

  -- where one lies inside, one does
  pub one_inside : (number : ℕ) (map : List ℕ) → slice_get maps number ≡ Some map → list_all (lies_on Param host images) map ≡ true
      → list_any (λ map. list_all (lies_on Param host images) map) maps ≡ true
  one_inside number map there lies =
      list_any-from_member (λ map. list_all (lies_on Param host images) map) maps (Mem-from_At (At-slice_get number maps there)) lies
