-- All occurrences of a pattern, listed.
use Rattle.std.proofs.Common.{◌≡◌, ℕ, Less, eqb, List, [], ◌∷◌, refl, sym, ap, ap₂, subst, ◌∙◌, ◌⊎◌, inl, inr, arith}
use Rattle.std.specs.Ordering.{nat_cmp, eq_by_cmp}
use Rattle.std.specs.Cmp.Lexicographic.{slice_cmp}
use Rattle.std.specs.List.{IsDistinct}
use Rattle.std.proofs.lemmas.Bool.{false≢true}
use Rattle.bg_lists.proofs.Comparisons.{tied_numbers}
use Rattle.bg_lists.specs.Lists.{Mem, here, there}
use Rattle.bg_lists.specs.Orders.{Ascending, asc_nil, asc_cons}
use Rattle.bg_lists.proofs.Ascents.{member_of_all}
use Rattle.bg_base.specs.declared.names.Place.TheVariants.{Node, Region}
use Rattle.bg_base.specs.declared.big.NodeRow.{NodeRow}
use Rattle.bg_base.specs.declared.big.Big.{Big}
use Rattle.bg_base.specs.Elementary.{counted}
use Rattle.bg_base.specs.Faults.{fault_of, sites_fault, inner_fault, outer_fault, edges_fault, nodes_fault}
use Rattle.bg_base.specs.Translation.{number_renamed}
use Rattle.bg_rules.specs.Decomposition.{Occurs}
use Rattle.bg_rules.specs.LocalConditions.{MeetsLocally}
use Rattle.bg_rules.specs.Occurrences.{AreOccurrences}
use Rattle.bg_rules.proofs.Occurrences.{locally_occurs}
use Rattle.bg_cases.proofs.CaseTests.{pattern_by, ground_by, locally_by, unlike, the_only}
use Rattle.bg_cases.proofs.CaseConditions.{all_tell}
use Rattle.bg_cases.proofs.CaseRows.{four_controls, node_a, node_b, in_places, a_open, a_alone}

abbrev Below : List ℕ → List ℕ → Type 0
Below x y = slice_cmp nat_cmp x y ≡ Less

one_ascends : (x : List ℕ) → Ascending Below (x ∷ [])
one_ascends x = asc_cons (λ nodes m. elim m [ ]) asc_nil

two_ascend : (x y : List ℕ) → Below x y → Ascending Below (x ∷ y ∷ [])
two_ascend x y below =
    asc_cons (λ nodes m. subst (λ (other : List ℕ). Below x other) (the_only y nodes m) below) (one_ascends y)

-- ---- one node

-- A.A.B.1
abbrev nested_host : Big
nested_host = in_places (node_a 0 (Region 0) ∷ node_a 1 (Node 0) ∷ node_b 2 (Node 1) ∷ []) [] 1

-- a node of A there is 0 or 1
image_is : (n : ℕ) (image : NodeRow) → Mem image nested_host.nodes → image.id ≡ n → image.control ≡ 0
    → Mem (n ∷ []) ((0 ∷ []) ∷ (1 ∷ []) ∷ [])
image_is n image (here e) number control = here (ap (λ k. k ∷ []) (ap (λ (row : NodeRow). row.id) e ∙ number))
image_is n image (there (here e)) number control =
    there (here (ap (λ k. k ∷ []) (ap (λ (row : NodeRow). row.id) e ∙ number)))
image_is n image (there (there (here e))) number control =
    absurd (unlike (eqb 1) 1 0 refl refl (ap (λ (row : NodeRow). row.control) e ∙ control))
image_is n image (there (there (there m))) number control = elim m [ ]

found : (nodes : List ℕ) → MeetsLocally nested_host a_open nodes → Mem nodes ((0 ∷ []) ∷ (1 ∷ []) ∷ [])
unfolding number_renamed
found [] local = let long = local.nodes_new.as_many in absurd (omega (arith, long))
found (n ∷ []) local =
    let w = local.images (node_a 0 (Region 0)) (here refl) in image_is n w.0 w.1.of_host w.1.same w.2
found (n ∷ m ∷ rest) local = let long = local.nodes_new.as_many in absurd (omega (arith, long))

-- A.id occurs in A.A.B.1 twice: at the outer A, and at the inner A
at_each_a : AreOccurrences nested_host a_open ((0 ∷ []) ∷ (1 ∷ []) ∷ [])
unfolding number_renamed counted fault_of sites_fault inner_fault outer_fault edges_fault nodes_fault
at_each_a =
    let is = pattern_by four_controls a_open refl refl in
    let ground = ground_by four_controls nested_host refl refl in
    record {
      ascend = two_ascend (0 ∷ []) (1 ∷ []) refl;
      occur = member_of_all (Occurs nested_host a_open) ((0 ∷ []) ∷ (1 ∷ []) ∷ []) (
        locally_occurs nested_host a_open is ground (0 ∷ []) (all_tell _ _ _ refl),
        (locally_occurs nested_host a_open is ground (1 ∷ []) (all_tell _ _ _ refl), tt),
      );
      all = λ nodes occurs. found nodes (locally_by four_controls occurs refl refl refl refl);
    }

-- ---- a pattern that is symmetric

-- A.1 | A.1
abbrev twins : Big
twins = in_places (node_a 0 (Region 0) ∷ node_a 1 (Region 0) ∷ []) [] 1

twin_is : (n : ℕ) (image : NodeRow) → Mem image twins.nodes → image.id ≡ n → (n ≡ 0) ⊎ (n ≡ 1)
twin_is n image (here e) number = inl (sym (ap (λ (row : NodeRow). row.id) e ∙ number))
twin_is n image (there (here e)) number = inr (sym (ap (λ (row : NodeRow). row.id) e ∙ number))
twin_is n image (there (there m)) number = elim m [ ]

not_twice : (n : ℕ) → IsDistinct (eq_by_cmp nat_cmp) (n ∷ n ∷ []) → ⊥
unfolding IsDistinct
not_twice n differ = false≢true (sym differ.0.0 ∙ tied_numbers n n refl)

in_both_orders : (m n : ℕ) → IsDistinct (eq_by_cmp nat_cmp) (m ∷ n ∷ []) → (m ≡ 0) ⊎ (m ≡ 1) → (n ≡ 0) ⊎ (n ≡ 1)
    → Mem (m ∷ n ∷ []) ((0 ∷ 1 ∷ []) ∷ (1 ∷ 0 ∷ []) ∷ [])
in_both_orders m n differ (inl a) (inl b) =
    absurd (not_twice m (subst (λ k. IsDistinct (eq_by_cmp nat_cmp) (m ∷ k ∷ [])) (b ∙ sym a) differ))
in_both_orders m n differ (inl a) (inr b) = here (ap₂ (λ j k. j ∷ k ∷ []) (sym a) (sym b))
in_both_orders m n differ (inr a) (inl b) = there (here (ap₂ (λ j k. j ∷ k ∷ []) (sym a) (sym b)))
in_both_orders m n differ (inr a) (inr b) =
    absurd (not_twice m (subst (λ k. IsDistinct (eq_by_cmp nat_cmp) (m ∷ k ∷ [])) (b ∙ sym a) differ))

found_twins : (nodes : List ℕ) → MeetsLocally twins twins nodes → Mem nodes ((0 ∷ 1 ∷ []) ∷ (1 ∷ 0 ∷ []) ∷ [])
unfolding number_renamed
found_twins [] local = let long = local.nodes_new.as_many in absurd (omega (arith, long))
found_twins (m ∷ []) local = let long = local.nodes_new.as_many in absurd (omega (arith, long))
found_twins (m ∷ n ∷ []) local =
    let v = local.images (node_a 0 (Region 0)) (here refl) in
    let w = local.images (node_a 1 (Region 0)) (there (here refl)) in
    in_both_orders m n local.nodes_new.differ (twin_is m v.0 v.1.of_host v.1.same) (twin_is n w.0 w.1.of_host w.1.same)
found_twins (m ∷ n ∷ k ∷ rest) local = let long = local.nodes_new.as_many in absurd (omega (arith, long))

-- A.1 | A.1 occurs in itself twice, in both orders of its nodes
both_orders : AreOccurrences twins twins ((0 ∷ 1 ∷ []) ∷ (1 ∷ 0 ∷ []) ∷ [])
unfolding number_renamed counted fault_of sites_fault inner_fault outer_fault edges_fault nodes_fault
both_orders =
    let is = pattern_by four_controls twins refl refl in
    let ground = ground_by four_controls twins refl refl in
    record {
      ascend = two_ascend (0 ∷ 1 ∷ []) (1 ∷ 0 ∷ []) refl;
      occur = member_of_all (Occurs twins twins) ((0 ∷ 1 ∷ []) ∷ (1 ∷ 0 ∷ []) ∷ []) (
        locally_occurs twins twins is ground (0 ∷ 1 ∷ []) (all_tell _ _ _ refl),
        (locally_occurs twins twins is ground (1 ∷ 0 ∷ []) (all_tell _ _ _ refl), tt),
      );
      all = λ nodes occurs. found_twins nodes (locally_by four_controls occurs refl refl refl refl);
    }

-- ---- no occurrence

-- B.1
abbrev b_alone : Big
b_alone = in_places (node_b 0 (Region 0) ∷ []) [] 1

-- A.1 does not occur in B.1, at no nodes at all
nowhere : AreOccurrences b_alone a_alone []
unfolding number_renamed counted fault_of sites_fault inner_fault outer_fault edges_fault nodes_fault
nowhere =
    record {
      ascend = asc_nil;
      occur = λ nodes m. elim m [ ];
      all = λ nodes occurs. let local = locally_by four_controls occurs refl refl refl refl in
          let w = local.images (node_a 0 (Region 0)) (here refl) in
          absurd (unlike (eqb 1) 1 0 refl refl (ap (λ (row : NodeRow). row.control) (the_only (node_b 0 (Region 0)) w.0 w.1.of_host) ∙ w.2));
    }
