-- A list of kinds has one first fault, or is derived with no token too deep.
use Rattle.std.proofs.Common.{◌≡◌, ℕ, zero, suc, ◌<◌, ◌≤◌, Bool, true, false, ltb, List, [], ◌∷◌, ◌++◌, length, take, drop, refl, sym, ap, subst, ◌∙◌, arith, append_assoc, length-append}
use Rattle.std.proofs.lemmas.List.{take-append-drop}
use Rattle.bg_lists.specs.Lists.{At}
use Rattle.bg_lists.proofs.Places.{At-total}
use Rattle.bg_grammar.specs.Grammar.{GrammarStep, Grammar, depths_of, IsDerivation, IsSentence, BeginsSentence}
use Rattle.bg_grammar.specs.Faults.{Fault, unexpected, too_deep, IsShallow, IsShallowBefore, IsUnexpected, IsTooDeep, IsFault, is_unexpected, is_too_deep, IsOnlyFault}
use Rattle.bg_grammar.proofs.Predictions.{as_many_depths}

-- a longer front is a shorter one, and more
longer_front : {X : Type 0} (n m : ℕ) (xs : List X) → n ≤ m → take m xs ≡ take n xs ++ drop n (take m xs)
longer_front zero m xs l = refl
longer_front (suc n) zero xs l = absurd (omega arith)
longer_front (suc n) (suc m) [] l = refl
longer_front (suc n) (suc m) (x ∷ xs) l = ap (λ z. x ∷ z) (longer_front n m xs (omega arith))

with_more : (n m : ℕ) (xs more : List ℕ) → n ≤ m → take m xs ++ more ≡ take n xs ++ (drop n (take m xs) ++ more)
with_more n m xs more l = ap (λ z. z ++ more) (longer_front n m xs l) ∙ append_assoc (take n xs) (drop n (take m xs)) more

module _ (g : Grammar) (s most : ℕ) (kinds : List ℕ) where
  -- what begins a sentence does so with its beginning too
  begins_less : (n m : ℕ) → n ≤ m → BeginsSentence g s (take m kinds) → BeginsSentence g s (take n kinds)
  begins_less n m l b = record {
    more = drop n (take m kinds) ++ b.more;
    sentence = subst (λ z. IsSentence g s z) (with_more n m kinds b.more l) b.sentence;
  }

  sentence_begins : (n : ℕ) → IsSentence g s kinds → BeginsSentence g s (take n kinds)
  sentence_begins n w = record { more = drop n kinds; sentence = subst (λ z. IsSentence g s z) (sym (take-append-drop n kinds)) w }

  -- where a token is unexpected, no sentence begins with it
  ends_there : (t : ℕ) → IsUnexpected g s most kinds t → (m : ℕ) → t < m → m ≤ length kinds → BeginsSentence g s (take m kinds) → ⊥
  ends_there t u m l within b = u.not_on (omega arith) (begins_less (suc t) m (omega arith) b)

  no_sentence : (t : ℕ) → IsUnexpected g s most kinds t → (b : Bool) → ltb t (length kinds) ≡ b → IsSentence g s kinds → ⊥
  no_sentence t u true e w = u.not_on (let h : t < length kinds = grind arith in h) (sentence_begins (suc t) w)
  no_sentence t u false e w = u.not_whole (let h = u.within in let f : t ≡ length kinds = grind arith in f) w

  depth_of : (steps : List GrammarStep) → IsDerivation g s kinds steps → (t : ℕ) → t < length kinds → (d : ℕ) × At d t (depths_of steps)
  depth_of steps d t l = At-total (depths_of steps) t (let h = as_many_depths steps in let e = ap length d.spells in omega arith)

  not_shallow : (t : ℕ) → IsTooDeep g s most kinds t → (steps : List GrammarStep) → IsDerivation g s kinds steps → IsShallow most steps → ⊥
  not_shallow t w steps d shallow =
      let a = depth_of steps d t w.within in
      let high = w.deep (drop (suc t) kinds) steps (subst (λ z. IsDerivation g s z steps) (sym (take-append-drop (suc t) kinds)) d) a.0 a.1 in
      let low = shallow t a.0 a.1 in omega arith

  -- a sentence that begins with the first t tokens has tokens too deep before t, or has none
  deep_or_not : (t u : ℕ) → IsTooDeep g s most kinds u → u < t → t ≤ length kinds → (more : List ℕ) (steps : List GrammarStep) → IsDerivation g s (take t kinds ++ more) steps → IsShallowBefore most t steps → ⊥
  deep_or_not t u w l within more steps d shallow =
      let long : length (take t kinds ++ more) ≡ length (depths_of steps) = ap length (sym d.spells) ∙ sym (as_many_depths steps) in
      let a = At-total (depths_of steps) u (let e = ap length (longer_front t (length kinds) kinds within) in let f = length-append (take t kinds) more in let q = front_length kinds t within in omega arith) in
      let high = w.deep (drop (suc u) (take t kinds) ++ more) steps (subst (λ z. IsDerivation g s z steps) (with_more (suc u) t kinds more (omega arith)) d) a.0 a.1 in
      let low = shallow u a.0 l a.1 in omega arith
    where
      front_length : (xs : List ℕ) (n : ℕ) → n ≤ length xs → length (take n xs) ≡ n
      front_length xs zero h = refl
      front_length [] (suc n) h = absurd (omega arith)
      front_length (x ∷ xs) (suc n) h = ap suc (front_length xs n (omega arith))

  one_unexpected : (t u : ℕ) → IsUnexpected g s most kinds t → IsUnexpected g s most kinds u → t < u → ⊥
  one_unexpected t u a b l = ends_there t a u l b.within b.begins

  one_too_deep : (t u : ℕ) → IsTooDeep g s most kinds t → IsTooDeep g s most kinds u → t < u → ⊥
  one_too_deep t u a b l =
      let w = b.begins.sentence in
      deep_or_not u t a l (let h = b.within in omega arith) _ w.steps
      (subst (λ z. IsDerivation g s z w.steps) (with_more u (suc u) kinds b.begins.more (omega arith)) w.derivation) (b.shallow b.begins.more w.steps w.derivation)

  not_both : (t u : ℕ) → IsUnexpected g s most kinds t → IsTooDeep g s most kinds u → (b : Bool) → ltb u t ≡ b → ⊥
  not_both t u a b true e =
      let w = a.begins.sentence in
      deep_or_not t u b (let h : u < t = grind arith in h) a.within a.begins.more w.steps w.derivation (a.shallow a.begins.more w.steps w.derivation)
  not_both t u a b false e = ends_there t a (suc u) (let h : t ≤ u = grind arith in omega arith) b.within b.begins

  between : (n m : ℕ) → (n < m → ⊥) → (m < n → ⊥) → n ≡ m
  between n m h k = omega arith

  one_fault : (fault other : Fault) → IsFault g s most kinds fault → IsFault g s most kinds other → other ≡ fault
  one_fault fault other (is_unexpected {t = t} a) (is_unexpected {t = u} b) = ap unexpected (between u t (one_unexpected u t b a) (one_unexpected t u a b))
  one_fault fault other (is_unexpected {t = t} a) (is_too_deep {t = u} b) = absurd (not_both t u a b (ltb u t) refl)
  one_fault fault other (is_too_deep {t = t} a) (is_unexpected {t = u} b) = absurd (not_both u t b a (ltb t u) refl)
  one_fault fault other (is_too_deep {t = t} a) (is_too_deep {t = u} b) = ap too_deep (between u t (one_too_deep u t b a) (one_too_deep t u a b))

  no_derivation_at : (fault : Fault) → IsFault g s most kinds fault → (steps : List GrammarStep) → IsDerivation g s kinds steps → IsShallow most steps → ⊥
  no_derivation_at fault (is_unexpected {t = t} a) steps d shallow = no_sentence t a (ltb t (length kinds)) refl (record { steps = steps; derivation = d })
  no_derivation_at fault (is_too_deep {t = t} a) steps d shallow = not_shallow t a steps d shallow

  pub only_fault : (fault : Fault) → IsFault g s most kinds fault → IsOnlyFault g s most kinds fault
  only_fault fault f = record { first = f; once = λ other h. one_fault fault other f h; no_derivation = λ steps d shallow. no_derivation_at fault f steps d shallow }
