-- Names found in a map with their bytes as keys.
use Rattle.std.proofs.Common.{◌≡◌, ◌+◌, ℕ, cond, not, nat_lt, Option, Some, None, nat_eq, Vec, Global, List, [], ◌∷◌, map, length, refl, sym, ap, ◌∙◌, Bool, false, is_some, ◌++◌}
use Rattle.std.proofs.lemmas.List.{length-map, map-append}
use Rattle.std.specs.Prelude.{position}
use Rattle.std.specs.List.{prefix_len, position_or_len}
use Rattle.std.specs.Cmp.Lexicographic.{pointwise}
use Rattle.indexmap.specs.IndexMap.{IndexMap, get, get_by, insert_entry}
use Rattle.indexmap.proofs.CallerLemmas.{insert_entry-new}
use Rattle.bg_values.specs.Names.{NamedValue, words, name_number}

module _ {A B : Type 0} (test : B → Bool) (f : A → B) where
  prefix_of_map : (xs : List A) → prefix_len (λ x. not (test (f x))) xs ≡ prefix_len (λ y. not (test y)) (map f xs)
  prefix_of_map [] = refl
  prefix_of_map (x ∷ xs) = ap (λ n. cond (not (test (f x))) (1 + n) 0) (prefix_of_map xs)

  pub found_by_words : (xs : List A) → position (λ x. test (f x)) xs ≡ position test (map f xs)
  found_by_words xs =
      ap (λ n. cond (nat_lt n (length xs)) (Some n) None) (prefix_of_map xs)
      ∙ ap (λ m. cond (nat_lt (position_or_len test (map f xs)) m) (Some (position_or_len test (map f xs))) None) (sym (length-map xs f))

is_none : {X : Type 0} (found : Option X) → is_some found ≡ false → found ≡ None
is_none None is = refl
is_none (Some x) is = absurd cc

module _ {T : Type 0} where
  -- an entry of the map, as the table shows it
  abbrev pub shown : Vec ℕ Global × T → NamedValue T
  shown e = (e.0.items, e.1)

  names_shown : (es : List (Vec ℕ Global × T)) → map (λ k. k.items) (map (λ (e : Vec ℕ Global × T). e.0) es) ≡ words (map shown es)
  names_shown [] = refl
  names_shown (e ∷ es) = ap (λ ws. e.0.items ∷ ws) (names_shown es)

  found_in : (word : List ℕ) (es : List (Vec ℕ Global × T))
      → position (λ k. pointwise nat_eq word k.items) (map (λ (e : Vec ℕ Global × T). e.0) es) ≡ name_number word (map shown es)
  found_in word es =
      found_by_words (pointwise nat_eq word) (λ k. k.items) (map (λ (e : Vec ℕ Global × T). e.0) es)
      ∙ ap (position (pointwise nat_eq word)) (names_shown es)

  pub found_number : (word : List ℕ) (es : List (Vec ℕ Global × T)) (entries : List (NamedValue T)) (result : Option ℕ)
      → result ≡ position (λ k. pointwise nat_eq word k.items) (map (λ (e : Vec ℕ Global × T). e.0) es) → map shown es ≡ entries
      → result ≡ name_number word entries
  found_number word es entries result is same = is ∙ found_in word es ∙ ap (name_number word) same

  -- a word that is not there goes last
  pub added_last : {S : Type 0} (m : IndexMap (Vec ℕ Global) T S) (word : List ℕ) (key : Vec ℕ Global) (value : T) (entries : List (NamedValue T))
      (result : Option ℕ) (new : List (Vec ℕ Global × T))
      → key.items ≡ word → is_some result ≡ is_some (get_by (λ k. pointwise nat_eq word k.items) m) → result ≡ None
      → map shown m.entries ≡ entries → new ≡ insert_entry (λ a b. pointwise nat_eq a.items b.items) m.entries key value
      → map shown new ≡ entries ++ (word, value) ∷ []
  added_last m word key value entries result new same found none old made =
      let absent : get (λ a b. pointwise nat_eq a.items b.items) m key ≡ None =
      is_none _ (ap (λ w. is_some (get_by (λ k. pointwise nat_eq w k.items) m)) same ∙ sym found ∙ ap is_some none) in
      ap (map shown) (made ∙ insert_entry-new (λ a b. pointwise nat_eq a.items b.items) m key value absent)
      ∙ map-append shown m.entries ((key, value) ∷ [])
      ∙ ap (λ es. es ++ (key.items, value) ∷ []) old
      ∙ ap (λ w. entries ++ (w, value) ∷ []) same
