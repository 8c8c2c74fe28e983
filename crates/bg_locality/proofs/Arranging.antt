-- Each map of a pattern is a map of its twin in another order, and back.
use Rattle.std.proofs.Common.{◌≡◌, ℕ, ◌==◌, Bool, true, false, List, [], ◌∷◌, map, length, refl, sym, ap, subst, ◌∙◌, eqb-true, nat_cmp, cond, inl, inr, eq-eqb, arith}
use Rattle.std.specs.Ordering.{eq_by_cmp}
use Rattle.std.specs.List.{IsDistinct}
use Rattle.std.proofs.lemmas.Bool.{false≢true, false_from_ne_true}
use Rattle.std.proofs.lemmas.List.{length-map}
use Rattle.bg_lists.specs.Lists.{Mem}
use Rattle.bg_lists.proofs.Members.{Mem-same, Mem-cons_cases, map_agree, map-map}
use Rattle.bg_lists.proofs.Places.{At-one, At-from_Mem}
use Rattle.bg_lists.proofs.Comparisons.{eqb-nat_cmp, tied_numbers}
use Rattle.bg_lists.proofs.Sorting.{IsDistinct-map_on}
use Rattle.bg_base.specs.declared.big.NodeRow.{NodeRow}
use Rattle.bg_base.specs.declared.big.Big.{Big}
use Rattle.bg_base.specs.Bigraph.{IsValid}
use Rattle.bg_base.specs.Translation.{number_renamed, node_numbers}
use Rattle.bg_algebra.proofs.Renamed.{map-along}
use Rattle.bg_rules.specs.Decomposition.{AreNew}
use Rattle.bg_rules.specs.LocalConditions.{image_of}
use Rattle.bg_rules.proofs.Patterns.{along_at_place, along_mem, along_onto, node_numbers_differ, number_row, number_mem, images_along, image_injective}
use Rattle.bg_locality.specs.Twins.{twin_of, put_back, AreRearranged}
use Rattle.bg_locality.proofs.TwinLaws.{along_itself, to_renamed, from_renamed, renamed_count, twin_valid}

-- ---- numbers that stand for others, and a function of these

chosen_map : (g : ℕ → ℕ) (test : Bool) (y first second : ℕ) → (test ≡ false → first ≡ g second) → cond test (g y) first ≡ g (cond test y second)
chosen_map g true y first second agree = refl
chosen_map g false y first second agree = agree refl

along-map : (g : ℕ → ℕ) (xs ys : List ℕ) (x : ℕ) → length xs ≡ length ys → Mem x xs → number_renamed xs (map g ys) x ≡ g (number_renamed xs ys x)
unfolding number_renamed
along-map g [] ys x long m = elim m [ ]
along-map g (z ∷ zs) [] x long m = absurd (omega arith)
along-map g (z ∷ zs) (y ∷ ys) x long m =
    chosen_map g (z == x) y (number_renamed zs (map g ys) x) (number_renamed zs ys x)
    (λ other. elim (Mem-cons_cases m) [
      | inl e ↦ absurd (false≢true (sym other ∙ eq-eqb z x e))
      | inr n ↦ along-map g zs ys x (omega arith) n
    ])

-- there and back
along-back : (xs ys : List ℕ) → length xs ≡ length ys → IsDistinct (eq_by_cmp nat_cmp) xs → IsDistinct (eq_by_cmp nat_cmp) ys
    → (x : ℕ) → Mem x xs → number_renamed ys xs (number_renamed xs ys x) ≡ x
along-back xs ys long d e x m =
    let a = At-from_Mem m in At-one (along_at_place ys xs (sym long) e (along_at_place xs ys long d a.1)) a.1

-- a function that keeps the members apart makes a list of members that are apart
IsDistinct-map_apart : (g : ℕ → ℕ) (xs : List ℕ) → ((x y : ℕ) → Mem x xs → Mem y xs → g x ≡ g y → x ≡ y)
    → IsDistinct (eq_by_cmp nat_cmp) xs → IsDistinct (eq_by_cmp nat_cmp) (map g xs)
IsDistinct-map_apart g xs one d =
    IsDistinct-map_on (eq_by_cmp nat_cmp) (eq_by_cmp nat_cmp) g xs
    (λ x y m n apart. false_from_ne_true (eq_by_cmp nat_cmp (g x) (g y))
    (λ e. false≢true (sym apart ∙ tied_numbers x y (one x y m n (eqb-true (g x) (g y) (eqb-nat_cmp (g x) (g y) ∙ e)))))) d

-- ---- the map of the twin that lists what a map of the pattern lists

abbrev pub arranged : Big → List ℕ → List ℕ → List ℕ
arranged pattern numbers nodes =
    map (λ number. image_of pattern nodes (number_renamed numbers (node_numbers pattern.nodes) number)) (node_numbers (twin_of pattern numbers).nodes)

module _ (pattern : Big) (numbers : List ℕ) (valid : IsValid pattern) (new : AreNew numbers (length pattern.nodes)) where
  pub as_many_new : length (node_numbers pattern.nodes) ≡ length numbers
  as_many_new = length-map pattern.nodes (λ (row : NodeRow). row.id) ∙ new.as_many

  own_differ : IsDistinct (eq_by_cmp nat_cmp) (node_numbers pattern.nodes)
  own_differ = node_numbers_differ pattern.nodes valid.nodes_ascend

  pub twin_differ : IsDistinct (eq_by_cmp nat_cmp) (node_numbers (twin_of pattern numbers).nodes)
  twin_differ = node_numbers_differ (twin_of pattern numbers).nodes (twin_valid pattern numbers valid new).nodes_ascend

  twin_number : {node : ℕ} → Mem node (node_numbers pattern.nodes)
      → Mem (number_renamed (node_numbers pattern.nodes) numbers node) (node_numbers (twin_of pattern numbers).nodes)
  twin_number {node} m =
      let w = number_row pattern.nodes m in
      Mem-same (ap (number_renamed (node_numbers pattern.nodes) numbers) w.2) (number_mem (to_renamed pattern numbers pattern.edges w.1))

  -- each number of the twin is the new number of a node
  own_number : {number : ℕ} → Mem number (node_numbers (twin_of pattern numbers).nodes)
      → (node : ℕ) × Mem node (node_numbers pattern.nodes) × (number_renamed (node_numbers pattern.nodes) numbers node ≡ number)
  own_number m =
      let w = number_row (twin_of pattern numbers).nodes m in
      let v = from_renamed pattern numbers pattern.edges w.1 in
      (v.0.id, number_mem v.1, ap (λ (r : NodeRow). r.id) v.2 ∙ w.2)

  -- the numbers of the twin are the new numbers
  pub twin_from_new : {number : ℕ} → Mem number numbers → Mem number (node_numbers (twin_of pattern numbers).nodes)
  twin_from_new m = let w = along_onto (node_numbers pattern.nodes) numbers as_many_new own_differ m in Mem-same w.2 (twin_number w.1)

  pub new_from_twin : {number : ℕ} → Mem number (node_numbers (twin_of pattern numbers).nodes) → Mem number numbers
  new_from_twin m =
      let w = own_number m in Mem-same w.2 (along_mem (node_numbers pattern.nodes) numbers as_many_new own_differ w.1)

  pub old_number : {number : ℕ} → Mem number (node_numbers (twin_of pattern numbers).nodes)
      → (node : ℕ) × Mem node (node_numbers pattern.nodes) × (number_renamed numbers (node_numbers pattern.nodes) number ≡ node)
      × (number_renamed (node_numbers pattern.nodes) numbers node ≡ number)
  old_number m =
      let w = own_number m in (
        w.0,
        w.1,
        ap (number_renamed numbers (node_numbers pattern.nodes)) (sym w.2)
            ∙ along-back (node_numbers pattern.nodes) numbers as_many_new own_differ new.differ w.0 w.1,
        w.2,
      )

  -- ---- the two ways

  pub arranged_agree : (nodes : List ℕ) → AreRearranged pattern numbers nodes (arranged pattern numbers nodes)
  arranged_agree nodes =
      record {
        agree = λ node m.
            let own = node_numbers (twin_of pattern numbers).nodes in
            let number = number_renamed (node_numbers pattern.nodes) numbers node in
            let old = λ (number : ℕ). image_of pattern nodes (number_renamed numbers (node_numbers pattern.nodes) number) in
            along-map old own own number refl (twin_number m)
            ∙ ap old (along_itself own number)
            ∙ ap (image_of pattern nodes) (along-back (node_numbers pattern.nodes) numbers as_many_new own_differ new.differ node m);
      }

  pub put_back_agree : (others : List ℕ) → AreRearranged pattern numbers (put_back pattern numbers others) others
  put_back_agree others =
      record {
        agree = λ node m. sym (along-map (image_of (twin_of pattern numbers) others) (node_numbers pattern.nodes) numbers node as_many_new m);
      }

  -- ---- they are maps

  pub put_back_new : (others : List ℕ) → AreNew others (length pattern.nodes) → AreNew (put_back pattern numbers others) (length pattern.nodes)
  put_back_new others others_new =
      record {
        as_many = new.as_many ∙ sym (length-map numbers (image_of (twin_of pattern numbers) others));
        differ = IsDistinct-map_apart (image_of (twin_of pattern numbers) others) numbers
            (λ x y m n e. image_injective (twin_of pattern numbers) (twin_valid pattern numbers valid new) others
            (subst (AreNew others) (sym (renamed_count pattern numbers pattern.edges)) others_new) (twin_from_new m) (twin_from_new n) e)
            new.differ;
      }

  pub arranged_new : (nodes : List ℕ) → AreNew nodes (length pattern.nodes) → AreNew (arranged pattern numbers nodes) (length pattern.nodes)
  arranged_new nodes nodes_new =
      let old = λ (number : ℕ). image_of pattern nodes (number_renamed numbers (node_numbers pattern.nodes) number) in
      record {
        as_many = sym (length-map (node_numbers (twin_of pattern numbers).nodes) old
            ∙ length-map (twin_of pattern numbers).nodes (λ (row : NodeRow). row.id) ∙ renamed_count pattern numbers pattern.edges);
        differ = IsDistinct-map_apart old (node_numbers (twin_of pattern numbers).nodes)
            (λ x y m n e. let v = old_number m in
            let w = old_number n in
            let one : v.0 ≡ w.0 = image_injective pattern valid nodes nodes_new v.1 w.1
            (ap (image_of pattern nodes) (sym v.2) ∙ e ∙ ap (image_of pattern nodes) w.2) in
            sym v.3 ∙ ap (number_renamed (node_numbers pattern.nodes) numbers) one ∙ w.3)
            twin_differ;
      }

  -- ---- and back again

  pub arranged_back : (nodes : List ℕ) → AreNew nodes (length pattern.nodes)
      → put_back pattern numbers (arranged pattern numbers nodes) ≡ nodes
  arranged_back nodes nodes_new =
      let own = node_numbers pattern.nodes in
      let image = image_of (twin_of pattern numbers) (arranged pattern numbers nodes) in
      ap (map image) (sym (map-along own numbers as_many_new own_differ))
      ∙ map-map (number_renamed own numbers) image own
      ∙ map_agree (λ node. image (number_renamed own numbers node)) (image_of pattern nodes) own (arranged_agree nodes).agree
      ∙ images_along pattern valid nodes nodes_new
