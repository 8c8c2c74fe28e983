-- Choices by their numbers: a number's digits, where the bases are the lengths of the lists.
use Rattle.std.proofs.Common.{◌≡◌, Bool, true, false, ℕ, zero, suc, ◌+◌, ◌-◌, ◌*◌, ◌/◌, ◌%◌, ◌<◌, ◌≤◌, List, [], ◌∷◌, ◌++◌, map, length, drop, reverse, get_or, slice_get, Some, None, Option, refl, sym, ap, subst, ◌∙◌, arith, drop-cons}
use Rattle.std.proofs.Math.Arith.{mod-mul}
use Rattle.std.proofs.Math.Nat.{div-div-eq-div-mul, div-eq_of_lt, div-add-mod, div-one, mod-one, mod-lt, mod-eq_of_lt, mul_comm, mul-pos, suc-mul, zero-mul}
use Rattle.std.proofs.Math.Seq.{drop-length}
use Rattle.std.proofs.lemmas.Bool.{false≢true}
use Rattle.std.proofs.lemmas.List.{length-map, length-append, reverse-append}
use Rattle.bg_lists.specs.Lists.{At, at_here, at_there}
use Rattle.bg_lists.proofs.Places.{At-append_left, At-append_right, At-map, At-below, At-slice_get, slice_get-At}
use Rattle.bg_elab.specs.Choices.{choices, with_each}

-- a row of n items and m rows of n items are m + 1 rows
one_row_more : (m n : ℕ) → n + m * n ≡ suc m * n
one_row_more m n = let more = suc-mul m n in omega (arith, more)

-- a number whose quotient is 0 is below the divisor
whole : (n size : ℕ) → 0 < size → n / size ≡ 0 → n < size
whole n size some none =
    let less = mod-lt n some in
    let both : size * 0 + n % size ≡ n = subst (λ q. size * q + n % size ≡ n) none (div-add-mod n size) in
    omega (arith, less, both)

-- what is not empty has an item
pub some_there : (count : ℕ) (empty : Bool) → (count ≡ 0 → empty ≡ true) → empty ≡ false → 0 < count
some_there zero empty none is = absurd (false≢true (sym is ∙ none refl))
some_there (suc count) empty none is = omega arith

module _ {X : Type 0} where
  -- each of m items before each of n choices: these are m * n choices
  with_each_length : (xs : List X) (rest : List (List X)) → length (with_each xs rest) ≡ length xs * length rest
  unfolding with_each
  with_each_length [] rest = sym (zero-mul (length rest))
  with_each_length (x ∷ xs) rest =
      length-append (map (λ choice. x ∷ choice) rest) (with_each xs rest)
      ∙ ap (λ n. n + length (with_each xs rest)) (length-map rest (λ choice. x ∷ choice))
      ∙ ap (λ n. length rest + n) (with_each_length xs rest)
      ∙ one_row_more (length xs) (length rest)

  -- item k of the list with choice r of the others
  at_each : (xs : List X) (rest : List (List X)) (k r : ℕ) (x : X) (choice : List X) → At x k xs → At choice r rest
      → At (x ∷ choice) (k * length rest + r) (with_each xs rest)
  unfolding with_each
  at_each [] rest k r x choice at there = elim at [ ]
  at_each (y ∷ xs) rest zero r x choice (at_here same) there =
      let front : At (x ∷ choice) r (map (λ c. y ∷ c) rest) = subst (λ z. At (z ∷ choice) r (map (λ c. y ∷ c) rest)) same (At-map (λ c. y ∷ c) there) in
      subst (λ n. At (x ∷ choice) n (map (λ c. y ∷ c) rest ++ with_each xs rest)) (first (length rest))
      (At-append_left (map (λ c. y ∷ c) rest) (with_each xs rest) front)
    where
      first : (n : ℕ) → r ≡ 0 * n + r
      first n = let none = zero-mul n in omega (arith, none)
  at_each (y ∷ xs) rest (suc k) r x choice (at_there at) there =
      subst (λ n. At (x ∷ choice) n (map (λ c. y ∷ c) rest ++ with_each xs rest)) (behind (length (map (λ c. y ∷ c) rest)) (length rest) (length-map rest (λ c. y ∷ c)))
      (At-append_right (k * length rest + r) (map (λ c. y ∷ c) rest) (with_each xs rest) (at_each xs rest k r x choice at there))
    where
      behind : (m n : ℕ) → m ≡ n → m + (k * n + r) ≡ suc k * n + r
      behind m n same = let more = one_row_more k n in omega (arith, same, more)

  -- these items are the digits of the number, and this is left of it
  pub record Picks (lists : List (List X)) (number : ℕ) (picked : List X) (left : ℕ) : Type 0 where
    pub some : 0 < length (choices lists)
    pub stands : At picked (number % length (choices lists)) (choices lists)
    pub over : left ≡ number / length (choices lists)

  -- of no lists nothing is picked, and all of the number is left
  picks_none : (number : ℕ) → Picks [] number [] number
  unfolding choices
  picks_none number = record {
    some = omega arith;
    stands = subst (λ n. At {X = List X} [] n ([] ∷ [])) (sym (mod-one number)) (at_here refl);
    over = sym (div-one number);
  }

  -- the last digit of what is left picks from one list more, in front
  picks_more : (xs : List X) (lists : List (List X)) (number : ℕ) (picked : List X) (left : ℕ) (x : X) → Picks lists number picked left → 0 < length xs
      → slice_get xs (left % length xs) ≡ Some x → Picks (xs ∷ lists) number (x ∷ picked) (left / length xs)
  unfolding choices
  picks_more xs lists number picked left x picks some is =
      let size : ℕ = length (choices lists) in
      let long = with_each_length xs (choices lists) in
      let digit : At x (number / size % length xs) xs = subst (λ n. At x (n % length xs) xs) picks.over (At-slice_get (left % length xs) xs is) in
      record {
        some = subst (λ n. 0 < n) (sym long) (mul-pos some picks.some);
        stands = subst (λ n. At (x ∷ picked) n (with_each xs (choices lists))) (sym (ap (λ n. number % n) long ∙ mod-mul number some picks.some))
            (at_each xs (choices lists) (number / size % length xs) (number % size) x picked digit picks.stands);
        over = ap (λ n. n / length xs) picks.over ∙ div-div-eq-div-mul number size (length xs) ∙ ap (λ n. number / n) (mul_comm size (length xs) ∙ sym long);
      }

  -- nothing is left: the number is that of the choice
  pub picked_all : {lists : List (List X)} {number : ℕ} {wanted : List X} {left : ℕ} {picked : List X} → Picks lists number wanted left → left ≤ 0
      → picked ≡ wanted → Some picked ≡ slice_get (choices lists) number
  picked_all {lists} {number} {wanted} {left} picks none same =
      let over = picks.over in
      let no_more : number / length (choices lists) ≡ 0 = omega (arith, none, over) in
      let within = whole number (length (choices lists)) picks.some no_more in
      ap Some same ∙ sym (slice_get-At (choices lists) (subst (λ n. At wanted n (choices lists)) (mod-eq_of_lt within) picks.stands))

  -- something is left: the number is behind the last choice
  pub picked_none : {lists : List (List X)} {number : ℕ} {picked : List X} {left : ℕ} → Picks lists number picked left → 0 < left
      → None ≡ slice_get (choices lists) number
  picked_none {lists} {number} {picked} {left} picks some = by (slice_get (choices lists) number) refl
    where
      by : (o : Option (List X)) → slice_get (choices lists) number ≡ o → None ≡ o
      by None is = refl
      by (Some choice) is =
          let below = At-below (At-slice_get number (choices lists) is) in
          let zero_left : number / length (choices lists) ≡ 0 = div-eq_of_lt below in
          let over = picks.over in
          absurd (omega (arith, some, over, zero_left))

  -- where a list is empty there is no choice
  with_each_none : (xs : List X) → with_each xs [] ≡ []
  unfolding with_each
  with_each_none [] = refl
  with_each_none (x ∷ xs) = with_each_none xs

  empty_list : (list : List X) (rest : List (List X)) → length list ≡ 0 → with_each list rest ≡ []
  unfolding with_each
  empty_list [] rest none = refl
  empty_list (x ∷ xs) rest none = absurd cc

  no_choices : (lists : List (List X)) (at : ℕ) (list : List X) → at < length lists → list ≡ get_or lists at list → length list ≡ 0 → choices lists ≡ []
  unfolding choices
  no_choices [] at list below is none = absurd (omega (arith, below))
  no_choices (xs ∷ lists) zero list below is none = empty_list xs (choices lists) (ap length (sym is) ∙ none)
  no_choices (xs ∷ lists) (suc at) list below is none =
      ap (with_each xs) (no_choices lists at list (omega (arith, below)) is none) ∙ with_each_none xs

  -- the items of the lists from `at` on are picked, the last first
  pub record Going (lists : List (List X)) (number at : ℕ) (values : List X) (left : ℕ) : Type 0 where
    pub within : at ≤ length lists
    pub picks : Picks (drop at lists) number (reverse values) left

  -- before the first step
  pub going_first : (lists : List (List X)) (number : ℕ) (values : List X) → values ≡ [] → Going lists number (length lists) values number
  going_first lists number values none = record {
    within = omega arith;
    picks = subst (λ vs. Picks (drop (length lists) lists) number (reverse vs) number) (sym none)
        (subst (λ ls. Picks ls number [] number) (sym (drop-length lists)) (picks_none number));
  }

  -- after one step more
  pub going_on : (lists : List (List X)) (number at : ℕ) (values : List X) (left : ℕ) (list : List X) (x : X) (values' : List X) → Going lists number at values left
      → 0 < at → 0 < length list → list ≡ get_or lists (at - 1) list → slice_get list (left % length list) ≡ Some x → values' ≡ values ++ x ∷ []
      → Going lists number (at - 1) values' (left / length list)
  going_on lists number at values left list x values' going some long is digit pushed =
      let within = going.within in
      let below : at - 1 < length lists = omega (arith, some, within) in
      let again : suc (at - 1) ≡ at = omega (arith, some) in
      let opened : drop (at - 1) lists ≡ list ∷ drop at lists =
      drop-cons lists (at - 1) list below ∙ ap (λ l. l ∷ drop (suc (at - 1)) lists) (sym is) ∙ ap (λ n. list ∷ drop n lists) again in
      let turned : reverse values' ≡ x ∷ reverse values = ap reverse pushed ∙ reverse-append values (x ∷ []) in
      record {
        within = omega (arith, some, within);
        picks = subst (λ ls. Picks ls number (reverse values') (left / length list)) (sym opened)
            (subst (λ vs. Picks (list ∷ drop at lists) number vs (left / length list)) (sym turned)
            (picks_more list (drop at lists) number (reverse values) left x going.picks long digit));
      }

  -- after the last step
  pub going_last : {lists : List (List X)} {number at : ℕ} {values : List X} {left : ℕ} → Going lists number at values left → at ≤ 0
      → Picks lists number (reverse values) left
  going_last {lists} {number} {at} {values} {left} going none =
      let first : at ≡ 0 = omega (arith, none) in
      subst (λ n. Picks (drop n lists) number (reverse values) left) first going.picks

  -- an empty list was met
  pub picked_nothing : (lists : List (List X)) (number at : ℕ) (values : List X) (left : ℕ) (list : List X) → Going lists number at values left → 0 < at
      → list ≡ get_or lists (at - 1) list → length list ≡ 0 → None ≡ slice_get (choices lists) number
  picked_nothing lists number at values left list going some is none =
      let within = going.within in
      sym (ap (λ cs. slice_get cs number) (no_choices lists (at - 1) list (omega (arith, some, within)) is none))
