-- What search trees of names hold, as the lists that a bigraph has: outer names as a set, inner names as rows in order.
use Rattle.std.proofs.Common.{◌≡◌, ℕ, Equal, Bool, true, false, ◌||◌, List, [], ◌∷◌, ◌++◌, map, filter, not, Less, is_eq, Option, Some, None, is_some, All, IsNone, refl, sym, ap, subst, ◌∙◌, ◌⊎◌, inl, inr, ◌↔◌}
use Rattle.std.specs.Option.{option_or}
use Rattle.std.specs.Ordering.{eq_by_cmp}
use Rattle.std.specs.Cmp.Lexicographic.{slice_cmp}
use Rattle.std.specs.Cmp.{eq_by_cmp_equiv}
use Rattle.std.specs.List.{list_all, list_any}
use Rattle.std.specs.List.Sorted.{IsStrictlySortedBy}
use Rattle.std.specs.Map.{keys_of, lookup, update_all}
use Rattle.std.specs.Set.{IsUnion, remove_key}
use Rattle.std.proofs.lemmas.Bool.{cond-true, cond-false, cases_Bool, or_cases, or_left, or_right, true≢false, false≢true}
use Rattle.std.proofs.lemmas.Cmp.{on_total, lists_total, tied_itself}
use Rattle.std.proofs.lemmas.Map.Keys.{IsDistinct-from_sorted}
use Rattle.std.proofs.lemmas.Map.Made.{update_all_distinct, update_all_none}
use Rattle.std.proofs.lemmas.Map.Views.{Contains-from_lookup, lookup-from_Contains, tells_apart}
use Rattle.bg_lists.specs.Lists.{Mem, here, there, sort}
use Rattle.bg_lists.specs.Orders.{before, set_of, Ascending, asc_cons}
use Rattle.bg_lists.proofs.Comparisons.{Less-not_back, Equal-from_is_eq, apart_back, both_equal}
use Rattle.bg_lists.proofs.Members.{map-map, Mem-same, Mem-map, Mem-unmap, Mem-append_left, Mem-append_right, Mem-append_cases}
use Rattle.bg_lists.proofs.Ascents.{Ascending-from_sorted, sorted_from_Ascending, Ascending-map, Ascending-unmap, same_ascending}
use Rattle.bg_lists.proofs.Sorting.{sort-same, IsDistinct-from_Ascending, IsDistinct-append}
use Rattle.bg_lists.proofs.Sets.{set_of-same}
use Rattle.bg_lists.proofs.Words.{list_all-member, list_all-from_members, list_any-from_member, member_from_list_any, Mem-from_Contains, Contains-member, All-member, All-from_members}
use Rattle.bg_base.specs.OrderLaws.{name_cmp_total}
use Rattle.bg_base.specs.declared.names.Name.{Name}
use Rattle.bg_base.specs.declared.names.Link.{Link}
use Rattle.bg_base.specs.declared.big.InnerRow.{InnerRow}
use Rattle.bg_base.specs.Order.{name_cmp}
use Rattle.bg_base.specs.Bigraph.{inner_cmp, inner_of, outer_of}
use Rattle.bg_base.proofs.NameLaws.{same_name, same_name_from_test, test_same_name}
use Rattle.bg_base.proofs.LookUps.{inner_cmp_total, has_inner}
use Rattle.bg_algebra.proofs.Beside.{apart_names}
use Rattle.bg_base.specs.Composition.{inner_names}
use Rattle.bg_base.specs.Products.{inner_closed}
use Rattle.bg_builder.specs.Inside.{inner_by}
use Rattle.bg_builder.specs.Frames.{inner_row, inner_rows}

-- ---- outer names

any_from_member : (name : Name) (names : List Name) → Mem name names → list_any (eq_by_cmp name_cmp name) names ≡ true
any_from_member name names m = list_any-from_member (eq_by_cmp name_cmp name) names m (test_same_name name name refl)

member_from_any : (name : Name) (names : List Name) → list_any (eq_by_cmp name_cmp name) names ≡ true → Mem name names
member_from_any name names any =
    let w = member_from_list_any (eq_by_cmp name_cmp name) names any in Mem-same (sym (same_name_from_test name w.0 w.2)) w.1

-- a tree with the names of a list that ascends has that list
pub names_in_tree : (names keys : List Name) → IsStrictlySortedBy name_cmp names → IsStrictlySortedBy name_cmp keys
    → ((q : Name) → list_any (eq_by_cmp name_cmp q) keys ≡ list_any (eq_by_cmp name_cmp q) names) → keys ≡ names
names_in_tree names keys up keys_up same =
    same_ascending (Less-not_back name_cmp_total) keys names (Ascending-from_sorted keys keys_up) (Ascending-from_sorted names up)
    (λ x m. member_from_any x names (sym (same x) ∙ any_from_member x keys m))
    (λ x m. member_from_any x keys (same x ∙ any_from_member x names m))

-- a tree with the names of a list has their set
pub set_in_tree : (names keys : List Name) → IsStrictlySortedBy name_cmp keys
    → ((q : Name) → list_any (eq_by_cmp name_cmp q) keys ≡ list_any (eq_by_cmp name_cmp q) names) → keys ≡ set_of name_cmp names
set_in_tree names keys up same =
    sym (set_of-same name_cmp_total same_name names keys (Ascending-from_sorted keys up)
    (λ x m. member_from_any x keys (same x ∙ any_from_member x names m))
    (λ x m. member_from_any x names (sym (same x) ∙ any_from_member x keys m)))

-- a tree with the names of both has their set
pub names_of_both : (xs ys keys : List Name) → IsStrictlySortedBy name_cmp keys → IsUnion (eq_by_cmp name_cmp) xs ys keys → keys ≡ set_of name_cmp (xs ++ ys)
names_of_both xs ys keys up union =
    sym (set_of-same name_cmp_total same_name (xs ++ ys) keys (Ascending-from_sorted keys up)
    (λ x m. member_from_any x keys (union x ∙ elim (Mem-append_cases xs ys m) [
      | inl left ↦ or_left (list_any (eq_by_cmp name_cmp x) xs) (list_any (eq_by_cmp name_cmp x) ys) (any_from_member x xs left)
      | inr right ↦ or_right (list_any (eq_by_cmp name_cmp x) xs) (list_any (eq_by_cmp name_cmp x) ys) (any_from_member x ys right)
    ]))
    (λ x m. elim (or_cases (list_any (eq_by_cmp name_cmp x) xs) (list_any (eq_by_cmp name_cmp x) ys) (sym (union x) ∙ any_from_member x keys m)) [
      | inl left ↦ Mem-append_left xs ys (member_from_any x xs left)
      | inr right ↦ Mem-append_right xs ys (member_from_any x ys right)
    ]))

-- ---- inner names

entries_rise : (es : List (Name × Link)) → IsStrictlySortedBy name_cmp (keys_of es) → Ascending (λ x y. name_cmp x.0 y.0 ≡ Less) es
entries_rise es up = Ascending-unmap (λ (e : Name × Link). e.0) es (Ascending-from_sorted (keys_of es) up)

pub rows_rise : (es : List (Name × Link)) → IsStrictlySortedBy name_cmp (keys_of es) → Ascending (λ x y. inner_cmp x y ≡ Less) (inner_rows es)
rows_rise es up = Ascending-map inner_row es (λ x y less. less) (entries_rise es up)

-- the names of rows that ascend ascend
pub keys_ascend : (es : List (Name × Link)) → IsStrictlySortedBy inner_cmp (inner_rows es) → IsStrictlySortedBy name_cmp (keys_of es)
keys_ascend es up =
    sorted_from_Ascending (keys_of es)
    (Ascending-map (λ (e : Name × Link). e.0) es (λ x y less. less) (Ascending-unmap inner_row es (Ascending-from_sorted (inner_rows es) up)))

found_at : (es : List (Name × Link)) → IsStrictlySortedBy name_cmp (keys_of es) → (e : Name × Link) → Mem e es
    → lookup (eq_by_cmp name_cmp e.0) es ≡ Some e.1
found_at es up e m =
    lookup-from_Contains (eq_by_cmp_equiv name_cmp_total) e.0 e.1 es (IsDistinct-from_sorted name_cmp (keys_of es) up) (Contains-member es m)

at_found : (es : List (Name × Link)) (name : Name) (link : Link) → lookup (eq_by_cmp name_cmp name) es ≡ Some link → Mem (name, link) es
at_found es name link e = Mem-from_Contains es (name, link) (Contains-from_lookup (tells_apart same_name) name link es e)

-- entries with the same look-ups are the same
pub same_entries : (es fs : List (Name × Link)) → IsStrictlySortedBy name_cmp (keys_of es) → IsStrictlySortedBy name_cmp (keys_of fs)
    → ((q : Name) → lookup (eq_by_cmp name_cmp q) es ≡ lookup (eq_by_cmp name_cmp q) fs) → es ≡ fs
same_entries es fs up vp same =
    same_ascending (Less-not_back (on_total (λ (e : Name × Link). e.0) name_cmp_total)) es fs (entries_rise es up) (entries_rise fs vp)
    (λ e m. at_found fs e.0 e.1 (sym (same e.0) ∙ found_at es up e m))
    (λ e m. at_found es e.0 e.1 (same e.0 ∙ found_at fs vp e m))

-- a tree made of entries whose names ascend has those entries
pub entries_in_tree : (es ns : List (Name × Link)) → IsStrictlySortedBy name_cmp (keys_of es) → IsStrictlySortedBy name_cmp (keys_of ns)
    → ((q : Name) → lookup (eq_by_cmp name_cmp q) ns ≡ update_all (eq_by_cmp name_cmp) (λ _. None) es q) → ns ≡ es
entries_in_tree es ns up ns_up made =
    same_entries ns es ns_up up
    (λ q. made q ∙ update_all_none (eq_by_cmp_equiv name_cmp_total) (eq_by_cmp name_cmp) (λ x y. refl) es q (IsDistinct-from_sorted name_cmp (keys_of es) up))

-- a tree that took the entries of another, whose names are others, has the rows of both in order
module _ (es fs ns : List (Name × Link)) (up : IsStrictlySortedBy name_cmp (keys_of es)) (vp : IsStrictlySortedBy name_cmp (keys_of fs))
    (ns_up : IsStrictlySortedBy name_cmp (keys_of ns))
    (apart : (row other : InnerRow) → Mem row (inner_rows es) → Mem other (inner_rows fs) → row.name ≡ other.name → ⊥)
    (took : (q : Name) → lookup (eq_by_cmp name_cmp q) ns ≡ update_all (eq_by_cmp name_cmp) (λ q. lookup (eq_by_cmp name_cmp q) es) fs q) where
  either : (q : Name) → lookup (eq_by_cmp name_cmp q) ns ≡ option_or (lookup (eq_by_cmp name_cmp q) fs) (lookup (eq_by_cmp name_cmp q) es)
  either q =
      took q ∙ update_all_distinct (eq_by_cmp_equiv name_cmp_total) (eq_by_cmp name_cmp) (λ x y. refl) (λ q. lookup (eq_by_cmp name_cmp q) es) fs q
      (IsDistinct-from_sorted name_cmp (keys_of fs) vp)

  first_stays : (e : Name × Link) → Mem e es → Mem e ns
  first_stays e m =
      at_found ns e.0 e.1 (either e.0 ∙ by (lookup (eq_by_cmp name_cmp e.0) fs) refl)
    where
      by : (o : Option Link) → lookup (eq_by_cmp name_cmp e.0) fs ≡ o → option_or o (lookup (eq_by_cmp name_cmp e.0) es) ≡ Some e.1
      by None none = found_at es up e m
      by (Some link) some = absurd (apart (inner_row e) (inner_row (e.0, link)) (Mem-map inner_row m) (Mem-map inner_row (at_found fs e.0 link some)) refl)

  second_comes : (e : Name × Link) → Mem e fs → Mem e ns
  second_comes e m = at_found ns e.0 e.1 (either e.0 ∙ ap (λ o. option_or o (lookup (eq_by_cmp name_cmp e.0) es)) (found_at fs vp e m))

  of_either : (e : Name × Link) → Mem e ns → (Mem e es) ⊎ (Mem e fs)
  of_either e m = by (lookup (eq_by_cmp name_cmp e.0) fs) refl (sym (either e.0) ∙ found_at ns ns_up e m)
    where
      by : (o : Option Link) → lookup (eq_by_cmp name_cmp e.0) fs ≡ o → option_or o (lookup (eq_by_cmp name_cmp e.0) es) ≡ Some e.1 → (Mem e es) ⊎ (Mem e fs)
      by None none is = inl (at_found es e.0 e.1 is)
      by (Some link) some is = inr (at_found fs e.0 e.1 (some ∙ is))

  pub rows_of_both : inner_rows ns ≡ sort (before inner_cmp) (inner_rows es ++ inner_rows fs)
  rows_of_both =
      sym (sort-same inner_cmp_total (inner_rows es ++ inner_rows fs) (inner_rows ns)
      (IsDistinct-append (eq_by_cmp inner_cmp) (inner_rows es) (inner_rows fs)
      (IsDistinct-from_Ascending (inner_rows es) (rows_rise es up)) (IsDistinct-from_Ascending (inner_rows fs) (rows_rise fs vp))
      (λ x y m n. apart_names x.name y.name (λ e. apart x y m n e)))
      (rows_rise ns ns_up)
      (λ x m. elim (Mem-append_cases (inner_rows es) (inner_rows fs) m) [
        | inl left ↦ (let w = Mem-unmap inner_row es left in Mem-same w.2 (Mem-map inner_row (first_stays w.0 w.1)))
        | inr right ↦ (let w = Mem-unmap inner_row fs right in Mem-same w.2 (Mem-map inner_row (second_comes w.0 w.1)))
      ])
      (λ x m. let w = Mem-unmap inner_row ns m in
      elim (of_either w.0 w.1) [
        | inl left ↦ Mem-append_left (inner_rows es) (inner_rows fs) (Mem-same w.2 (Mem-map inner_row left))
        | inr right ↦ Mem-append_right (inner_rows es) (inner_rows fs) (Mem-same w.2 (Mem-map inner_row right))
      ]))

-- the same, where no row's name is looked up in the other tree
pub rows_in_both : (es fs ns : List (Name × Link)) → IsStrictlySortedBy name_cmp (keys_of es) → IsStrictlySortedBy name_cmp (keys_of fs)
    → IsStrictlySortedBy name_cmp (keys_of ns) → All (λ (row : InnerRow). IsNone (inner_of (inner_rows es) row.name)) (inner_rows fs)
    → ((q : Name) → lookup (eq_by_cmp name_cmp q) ns ≡ update_all (eq_by_cmp name_cmp) (λ q. lookup (eq_by_cmp name_cmp q) es) fs q)
    → inner_rows ns ≡ sort (before inner_cmp) (inner_rows es ++ inner_rows fs)
rows_in_both es fs ns up vp ns_up none took =
    rows_of_both es fs ns up vp ns_up
    (λ row other m n e. false≢true (sym (All-member (λ (r : InnerRow). IsNone (inner_of (inner_rows es) r.name)) (inner_rows fs) none n) ∙ has_inner (inner_rows es) m e))
    took

-- ---- a look-up in a tree and in the rows

turned : (x y : Name) → is_eq (name_cmp x y) ≡ is_eq (name_cmp y x)
turned x y = apart_back name_cmp_total x y

pub inner_found : (es : List (Name × Link)) (name : Name)
    → is_some (lookup (λ k. is_eq (name_cmp name k)) es) ≡ is_some (inner_of (inner_rows es) name)
inner_found [] name = refl
inner_found (e ∷ es) name =
    elim (cases_Bool (is_eq (name_cmp e.0 name))) [
      | inl same ↦ ap is_some (cond-true (is_eq (name_cmp name e.0)) _ _ (turned name e.0 ∙ same)) ∙ sym (ap is_some (cond-true (is_eq (name_cmp e.0 name)) _ _ same))
      | inr other ↦ ap is_some (cond-false (is_eq (name_cmp name e.0)) _ _ (turned name e.0 ∙ other)) ∙ inner_found es name
          ∙ sym (ap is_some (cond-false (is_eq (name_cmp e.0 name)) _ _ other))
    ]

pub outer_found : (names : List Name) (name : Name) → list_any (λ k. is_eq (name_cmp name k)) names ≡ is_some (outer_of names name)
outer_found [] name = refl
outer_found (x ∷ xs) name =
    elim (cases_Bool (is_eq (name_cmp x name))) [
      | inl same ↦ ap (λ b. b || list_any (λ k. is_eq (name_cmp name k)) xs) (turned name x ∙ same) ∙ sym (ap is_some (cond-true (is_eq (name_cmp x name)) _ _ same))
      | inr other ↦ ap (λ b. b || list_any (λ k. is_eq (name_cmp name k)) xs) (turned name x ∙ other) ∙ outer_found xs name
          ∙ sym (ap is_some (cond-false (is_eq (name_cmp x name)) _ _ other))
    ]

-- the names of the one tree are not in the other: each is tested
all_tested : (test : Name → Bool) (names : List Name) → (list_all (λ (name : Name). not (test name)) names ≡ true) ↔ ((name : Name) → Mem name names → test name ≡ false)
all_tested test names = (
  λ all name m. false_from_not (test name) (list_all-member (λ (n : Name). not (test n)) names all m),
  λ each. list_all-from_members (λ (n : Name). not (test n)) names (λ name m. ap not (each name m)),
)
  where
    false_from_not : (b : Bool) → not b ≡ true → b ≡ false
    false_from_not true e = cc
    false_from_not false e = refl

pub inner_names_apart : (es fs : List (Name × Link))
    → (list_all (λ (name : Name). not (is_some (lookup (λ k. is_eq (name_cmp name k)) es))) (keys_of fs) ≡ true)
    ↔ All (λ (row : InnerRow). IsNone (inner_of (inner_rows es) row.name)) (inner_rows fs)
inner_names_apart es fs =
    let tested = all_tested (λ name. is_some (lookup (λ k. is_eq (name_cmp name k)) es)) (keys_of fs) in (
      λ all. All-from_members (λ (row : InnerRow). IsNone (inner_of (inner_rows es) row.name)) (inner_rows fs)
          (λ row m. let w = Mem-unmap inner_row fs m in
          subst (λ (r : InnerRow). IsNone (inner_of (inner_rows es) r.name)) w.2
          (sym (inner_found es w.0.0) ∙ tested.0 all w.0.0 (Mem-map (λ (e : Name × Link). e.0) w.1))),
      λ all. tested.1 (λ name m. let w = Mem-unmap (λ (e : Name × Link). e.0) fs m in
          subst (λ n. is_some (lookup (λ k. is_eq (name_cmp n k)) es) ≡ false) w.2
          (inner_found es w.0.0
          ∙ All-member (λ (row : InnerRow). IsNone (inner_of (inner_rows es) row.name)) (inner_rows fs) all (Mem-map inner_row w.1))),
    )

pub outer_names_apart : (xs ys : List Name)
    → (list_all (λ (name : Name). not (list_any (λ k. is_eq (name_cmp name k)) xs)) ys ≡ true) ↔ All (λ (name : Name). IsNone (outer_of xs name)) ys
outer_names_apart xs ys =
    let tested = all_tested (λ name. list_any (λ k. is_eq (name_cmp name k)) xs) ys in (
      λ all. All-from_members (λ (name : Name). IsNone (outer_of xs name)) ys (λ name m. sym (outer_found xs name) ∙ tested.0 all name m),
      λ all. tested.1 (λ name m. outer_found xs name ∙ All-member (λ (name : Name). IsNone (outer_of xs name)) ys all m),
    )

-- ---- a name taken out

keep_all : (test : Name → Bool) (xs : List Name) → ((x : Name) → Mem x xs → test x ≡ true) → filter test xs ≡ xs
keep_all test [] each = refl
keep_all test (x ∷ xs) each =
    cond-true (test x) _ _ (each x (here refl)) ∙ ap (λ zs. x ∷ zs) (keep_all test xs (λ y m. each y (there m)))

without_first : (name : Name) (xs : List Name) → Ascending (λ x y. name_cmp x y ≡ Less) xs
    → remove_key (λ k. is_eq (name_cmp name k)) xs ≡ filter (λ (other : Name). not (is_eq (name_cmp other name))) xs
without_first name [] rise = refl
without_first name (x ∷ xs) (asc_cons low rise) =
    elim (cases_Bool (is_eq (name_cmp x name))) [
      | inl same ↦ cond-true (is_eq (name_cmp name x)) _ _ (turned name x ∙ same)
          ∙ sym (cond-false (not (is_eq (name_cmp x name))) _ _ (ap not same)
          ∙ keep_all (λ (other : Name). not (is_eq (name_cmp other name))) xs
          (λ y m. elim (cases_Bool (is_eq (name_cmp y name))) [
            | inl again ↦ (let less : name_cmp x name ≡ Less = subst (λ z. name_cmp x z ≡ Less) (same_name_from_test y name again) (low y m) in
                absurd (true≢false (sym same ∙ ap is_eq less)))
            | inr other ↦ ap not other
          ]))
      | inr other ↦ cond-false (is_eq (name_cmp name x)) _ _ (turned name x ∙ other)
          ∙ ap (λ zs. x ∷ zs) (without_first name xs rise)
          ∙ sym (cond-true (not (is_eq (name_cmp x name))) _ _ (ap not other))
    ]

-- of names that ascend, those without the first that is this one are those that are not this one
pub without_name : (name : Name) (names : List Name) → IsStrictlySortedBy name_cmp names
    → remove_key (λ k. is_eq (name_cmp name k)) names ≡ filter (λ (other : Name). not (is_eq (name_cmp other name))) names
without_name name names up = without_first name names (Ascending-from_sorted names up)

-- ---- names and rows, compared and changed

equal_lists : (xs ys : List Name) → slice_cmp name_cmp xs ys ≡ Equal → xs ≡ ys
equal_lists [] [] e = refl
equal_lists [] (y ∷ ys) e = absurd cc
equal_lists (x ∷ xs) [] e = absurd cc
equal_lists (x ∷ xs) (y ∷ ys) e =
    let parts = both_equal (name_cmp x y) (slice_cmp name_cmp xs ys) e in
    let head = same_name x y parts.0 in
    let tail = equal_lists xs ys parts.1 in cc

-- lists of names that compare as equal are the same
pub same_lists : (xs ys : List Name) → (is_eq (slice_cmp name_cmp xs ys) ≡ true) ↔ (xs ≡ ys)
same_lists xs ys = (
  λ e. equal_lists xs ys (Equal-from_is_eq (slice_cmp name_cmp xs ys) e),
  λ e. ap (λ zs. is_eq (slice_cmp name_cmp xs zs)) (sym e) ∙ ap is_eq (tied_itself (lists_total name_cmp_total) xs),
)

pub names_of_rows : (es : List (Name × Link)) → inner_names (inner_rows es) ≡ keys_of es
names_of_rows es = map-map inner_row (λ (row : InnerRow). row.name) es

pub rows_ascend : (es : List (Name × Link)) → IsStrictlySortedBy name_cmp (keys_of es) → IsStrictlySortedBy inner_cmp (inner_rows es)
rows_ascend es up = sorted_from_Ascending (inner_rows es) (rows_rise es up)

-- rows that keep their names ascend still
pub tied_anew_ascend : (inner rows : List InnerRow) → IsStrictlySortedBy inner_cmp rows → IsStrictlySortedBy inner_cmp (map (inner_by inner) rows)
tied_anew_ascend inner rows up =
    sorted_from_Ascending {cmp = inner_cmp} (map (inner_by inner) rows) (Ascending-map (inner_by inner) rows (λ x y less. less) (Ascending-from_sorted rows up))

pub closed_ascend : (name : Name) (edge : ℕ) (rows : List InnerRow) → IsStrictlySortedBy inner_cmp rows
    → IsStrictlySortedBy inner_cmp (map (inner_closed name edge) rows)
closed_ascend name edge rows up =
    sorted_from_Ascending {cmp = inner_cmp} (map (inner_closed name edge) rows)
    (Ascending-map (inner_closed name edge) rows (λ x y less. less) (Ascending-from_sorted rows up))
