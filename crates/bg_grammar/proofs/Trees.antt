-- Derivations and trees: each derivation has the steps of one tree.
use Rattle.std.proofs.Common.{◌≡◌, ℕ, suc, List, [], ◌∷◌, ◌++◌, map, refl, sym, ap, subst, ◌∙◌, append_assoc, append-nil}
use Rattle.bg_lists.specs.Lists.{At}
use Rattle.bg_lists.proofs.Places.{At-one}
use Rattle.bg_grammar.specs.Grammar.{Part, kind, symbol, Expected, expect, GrammarStep, opened, taken, Grammar, ways_of, depth_below, under, Derives, finished, take_kind, open_symbol, kinds_of, IsDerivation}
use Rattle.bg_grammar.specs.Trees.{Trees, no_tree, leaf, branch, AreTrees, no_part, a_kind, a_symbol, IsTree, steps_of, AreInTurn, IsOnlyTree}

taken_same : (k d n m : ℕ) (xs ys : List GrammarStep) → taken k d n ∷ xs ≡ taken k d m ∷ ys → (n ≡ m) × (xs ≡ ys)
taken_same k d n m xs ys e = (cc, cc)

opened_same : (s i j : ℕ) (xs ys : List GrammarStep) → opened s i ∷ xs ≡ opened s j ∷ ys → (i ≡ j) × (xs ≡ ys)
opened_same s i j xs ys e = (cc, cc)

same_leaf : (k : ℕ) {n m : ℕ} {one other : Trees} → n ≡ m → one ≡ other → leaf k n one ≡ leaf k m other
same_leaf k e f = cc

same_branch : (s : ℕ) {i j : ℕ} {below under one other : Trees} → i ≡ j → below ≡ under → one ≡ other → branch s i below one ≡ branch s j under other
same_branch s e f h = cc

-- the steps of trees of the same parts tell the trees, whatever stands behind the steps
pub trees_told : {g : Grammar} {parts : List Part} {one : Trees} → AreTrees g parts one → {other : Trees} → AreTrees g parts other → (d : ℕ) (xs ys : List GrammarStep)
    → steps_of g d one ++ xs ≡ steps_of g d other ++ ys → (one ≡ other) × (xs ≡ ys)
trees_told no_part no_part d xs ys e = (refl, e)
trees_told (a_kind {k = k} a) (a_kind b) d xs ys e =
    let same = taken_same k d _ _ _ _ e in
    let more = trees_told a b d xs ys same.1 in
    (same_leaf k same.0 more.0, more.1)
trees_told {g} (a_symbol {s = s} {i = i} {way = way} {below = below} {behind = behind} place a c) (a_symbol {i = j} {way = other} {below = under} {behind = after} there b f) d xs ys e =
    let same = opened_same s i j _ _ e in
    let way_same : other ≡ way = At-one (subst (λ z. At other z (ways_of g s)) (sym same.0) there) place in
    let inner = trees_told a (subst (λ z. AreTrees g z under) way_same b) (depth_below g s d) (steps_of g d behind ++ xs) (steps_of g d after ++ ys)
    (sym (append_assoc (steps_of g (depth_below g s d) below) (steps_of g d behind) xs) ∙ same.1 ∙ append_assoc (steps_of g (depth_below g s d) under) (steps_of g d after) ys) in
    let outer = trees_told c f d xs ys inner.1 in
    (same_branch s same.0 inner.0 outer.0, outer.1)

pub one_tree : (g : Grammar) (s d : ℕ) (one other : Trees) → IsTree g s one → IsTree g s other → steps_of g d one ≡ steps_of g d other → one ≡ other
one_tree g s d one other a b e = (trees_told a b d [] [] (ap (λ z. z ++ []) e)).0

-- what a stack grows into: the steps of a tree for each part that is expected
data Grown (g : Grammar) : List Expected → List GrammarStep → Type 0 where
  grown_none : Grown g [] []
  grown_kind : {d k n : ℕ} {es : List Expected} {ss : List GrammarStep} → Grown g es ss → Grown g (record { depth = d; part = kind k } ∷ es) (taken k d n ∷ ss)
  grown_symbol : {d s i : ℕ} {way : List Part} {below : Trees} {es : List Expected} {ss : List GrammarStep} → At way i (ways_of g s) → AreTrees g way below → Grown g es ss
      → Grown g (record { depth = d; part = symbol s } ∷ es) (opened s i ∷ (steps_of g (depth_below g s d) below ++ ss))

-- the trees of the parts in front of a stack, and what is left
record Cut (g : Grammar) (d : ℕ) (parts : List Part) (es : List Expected) (ss : List GrammarStep) : Type 0 where
  trees : Trees
  rest : List GrammarStep
  are : AreTrees g parts trees
  is : ss ≡ steps_of g d trees ++ rest
  grown : Grown g es rest

cut : {g : Grammar} (d : ℕ) (parts : List Part) {es : List Expected} {ss : List GrammarStep} → Grown g (map (expect d) parts ++ es) ss → Cut g d parts es ss
cut d [] {es} {ss} w = record { trees = no_tree; rest = ss; are = no_part; is = refl; grown = w }
cut d (kind k ∷ parts) (grown_kind {n = n} w) =
    let c = cut d parts w in record { trees = leaf k n c.trees; rest = c.rest; are = a_kind c.are; is = ap (λ z. taken k d n ∷ z) c.is; grown = c.grown }
cut {g} d (symbol s ∷ parts) (grown_symbol {i = i} {below = below} place a w) =
    let c = cut d parts w in
    record {
      trees = branch s i below c.trees;
      rest = c.rest;
      are = a_symbol place a c.are;
      grown = c.grown;
      is = ap (λ z. opened s i ∷ (steps_of g (depth_below g s d) below ++ z)) c.is
          ∙ ap (λ z. opened s i ∷ z) (sym (append_assoc (steps_of g (depth_below g s d) below) (steps_of g d c.trees) c.rest));
    }

grows : {g : Grammar} {n : ℕ} {es : List Expected} {ss : List GrammarStep} → Derives g n es ss → Grown g es ss
grows finished = grown_none
grows (take_kind x) = grown_kind (grows x)
grows {g} (open_symbol {d = d} {s = s} {i = i} {way = way} {parts = es} place x) =
    let c = cut (depth_below g s d) way (grows x) in
    subst (λ z. Grown g (record { depth = d; part = symbol s } ∷ es) (opened s i ∷ z)) (sym c.is) (grown_symbol place c.are c.grown)

nothing_left : {g : Grammar} {ss : List GrammarStep} → Grown g [] ss → ss ≡ []
nothing_left grown_none = refl

pub tree_of_derivation : (g : Grammar) (s : ℕ) (kinds : List ℕ) (steps : List GrammarStep) → IsDerivation g s kinds steps → (tree : Trees) × IsOnlyTree g s steps tree
tree_of_derivation g s kinds steps d =
    let c = cut 0 (symbol s ∷ []) (grows d.derives) in
    let e : steps_of g 0 c.trees ≡ steps = sym (c.is ∙ ap (λ z. steps_of g 0 c.trees ++ z) (nothing_left c.grown) ∙ append-nil (steps_of g 0 c.trees)) in
    (c.trees, record { by_grammar = c.are; has_steps = e; once = λ other a same. one_tree g s 0 other c.trees a c.are (same ∙ sym e) })

-- trees whose tokens are numbered in a row derive what their steps take, in front of what else derives

pub trees_derive : {g : Grammar} {parts : List Part} {trees : Trees} → AreTrees g parts trees → (d n : ℕ) (es : List Expected) (ss : List GrammarStep)
    → AreInTurn n (steps_of g d trees ++ ss) → ((m : ℕ) → AreInTurn m ss → Derives g m es ss) → Derives g n (map (expect d) parts ++ es) (steps_of g d trees ++ ss)
trees_derive no_part d n es ss t more = more n t
trees_derive {g} (a_kind {k = k} {n = m} {parts = parts} {behind = behind} a) d n es ss t more =
    subst (λ z. Derives g n (record { depth = d; part = kind k } ∷ (map (expect d) parts ++ es)) (taken k d z ∷ (steps_of g d behind ++ ss))) (sym t.0)
    (take_kind (trees_derive a d (suc n) es ss t.1 more))
trees_derive {g} (a_symbol {s = s} {i = i} {way = way} {parts = parts} {below = below} {behind = behind} place a b) d n es ss t more =
    let joined = append_assoc (steps_of g (depth_below g s d) below) (steps_of g d behind) ss in
    subst (λ z. Derives g n (record { depth = d; part = symbol s } ∷ (map (expect d) parts ++ es)) (opened s i ∷ z)) (sym joined)
    (open_symbol place (trees_derive a (depth_below g s d) n (map (expect d) parts ++ es) (steps_of g d behind ++ ss) (subst (AreInTurn n) joined t)
    (λ m u. trees_derive b d m es ss u more)))

nothing_derives : {g : Grammar} (m : ℕ) → AreInTurn m [] → Derives g m [] []
nothing_derives m t = finished

pub tree_derives : (g : Grammar) (s : ℕ) (tree : Trees) → IsTree g s tree → AreInTurn 0 (steps_of g 0 tree) → IsDerivation g s (kinds_of (steps_of g 0 tree)) (steps_of g 0 tree)
tree_derives g s tree a t =
    let e = append-nil (steps_of g 0 tree) in
    record {
      spells = refl;
      derives = subst (Derives g 0 (expect 0 (symbol s) ∷ [])) e (trees_derive a 0 0 [] [] (subst (AreInTurn 0) (sym e) t) (λ m u. nothing_derives m u));
    }

-- the tokens of a derivation are numbered in a row
pub derivation_in_turn : {g : Grammar} {n : ℕ} {es : List Expected} {ss : List GrammarStep} → Derives g n es ss → AreInTurn n ss
derivation_in_turn finished = tt
derivation_in_turn (take_kind x) = (refl, derivation_in_turn x)
derivation_in_turn (open_symbol place x) = derivation_in_turn x
