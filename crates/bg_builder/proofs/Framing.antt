-- Lists of which one stands behind another, cut at places.
use Rattle.std.proofs.Common.{◌≡◌, ℕ, zero, suc, ◌+◌, ◌≤◌, List, [], ◌∷◌, ◌++◌, length, take, drop, map, refl, sym, ap, ◌∙◌, arith}
use Rattle.std.proofs.lemmas.List.{map-append, append_assoc}

module _ {A : Type 0} where
  -- what is cut shorter still
  pub take_take : (m n : ℕ) (xs : List A) → m ≤ n → take m (take n xs) ≡ take m xs
  take_take zero n xs less = refl
  take_take (suc m) zero xs less = absurd (omega (arith, less))
  take_take (suc m) (suc n) [] less = refl
  take_take (suc m) (suc n) (x ∷ xs) less = ap (λ zs. x ∷ zs) (take_take m n xs (omega (arith, less)))

  pub length_take : (n : ℕ) (xs : List A) → n ≤ length xs → length (take n xs) ≡ n
  length_take zero xs less = refl
  length_take (suc n) [] less = absurd (omega (arith, less))
  length_take (suc n) (x ∷ xs) less = ap suc (length_take n xs (omega (arith, less)))

  -- a list that was changed behind a place
  pub take_front : (m n : ℕ) (xs zs : List A) → m ≤ n → n ≤ length xs → take m (take n xs ++ zs) ≡ take m (take n xs)
  take_front zero n xs zs less there = refl
  take_front (suc m) zero xs zs less there = absurd (omega (arith, less))
  take_front (suc m) (suc n) [] zs less there = absurd (omega (arith, there))
  take_front (suc m) (suc n) (x ∷ xs) zs less there = ap (λ ys. x ∷ ys) (take_front m n xs zs (omega (arith, less)) (omega (arith, there)))

  pub drop_front : (m n : ℕ) (xs zs : List A) → m ≤ n → n ≤ length xs → drop m (take n xs ++ zs) ≡ drop m (take n xs) ++ zs
  drop_front zero n xs zs less there = refl
  drop_front (suc m) zero xs zs less there = absurd (omega (arith, less))
  drop_front (suc m) (suc n) [] zs less there = absurd (omega (arith, there))
  drop_front (suc m) (suc n) (x ∷ xs) zs less there = drop_front m n xs zs (omega (arith, less)) (omega (arith, there))

  pub drop_whole : (m : ℕ) (xs zs : List A) → m ≤ length xs → drop m (take m xs ++ zs) ≡ zs
  drop_whole zero xs zs there = refl
  drop_whole (suc m) [] zs there = absurd (omega (arith, there))
  drop_whole (suc m) (x ∷ xs) zs there = drop_whole m xs zs (omega (arith, there))

  -- a list in two parts
  pub drop_parts : (m n : ℕ) (xs : List A) → m ≤ n → drop m xs ≡ drop m (take n xs) ++ drop n xs
  drop_parts zero zero xs less = refl
  drop_parts zero (suc n) [] less = refl
  drop_parts zero (suc n) (x ∷ xs) less = ap (λ zs. x ∷ zs) (drop_parts zero n xs (omega arith))
  drop_parts (suc m) zero xs less = absurd (omega (arith, less))
  drop_parts (suc m) (suc n) [] less = refl
  drop_parts (suc m) (suc n) (x ∷ xs) less = drop_parts m n xs (omega (arith, less))

  pub length_front : (m n : ℕ) (xs zs : List A) → m ≤ n → n ≤ length xs → m ≤ length (take n xs ++ zs)
  length_front zero n xs zs less there = omega arith
  length_front (suc m) zero xs zs less there = absurd (omega (arith, less))
  length_front (suc m) (suc n) [] zs less there = absurd (omega (arith, there))
  length_front (suc m) (suc n) (x ∷ xs) zs less there = let shorter = length_front m n xs zs (omega (arith, less)) (omega (arith, there)) in omega (arith, shorter)

  -- from that place on the list is other, and before it as another is
  pub record Lies (place : ℕ) (new old ys : List A) : Type 0 where
    pub there : place ≤ length new
    pub front : take place new ≡ take place old
    pub back : drop place new ≡ ys

  -- behind two lists the second of which was changed
  pub lies_in_two : (m n : ℕ) (xs new zs : List A) → m ≤ length (take n xs) → n ≤ length xs → new ≡ take n xs ++ zs → Lies m new (take n xs) (drop m (take n xs) ++ zs)
  lies_in_two m n xs new zs m_there n_there is =
      let less : m ≤ n = omega (arith, m_there, length_take n xs n_there) in
      record {
        there = let long = length_front m n xs zs less n_there in omega (arith, long, ap length is);
        front = ap (take m) is ∙ take_front m n xs zs less n_there;
        back = ap (drop m) is ∙ drop_front m n xs zs less n_there;
      }

  -- behind two lists of which none was changed
  pub lies_as_two : (m n : ℕ) (xs new : List A) → m ≤ length (take n xs) → n ≤ length xs → new ≡ xs → Lies m new (take n xs) (drop m (take n xs) ++ drop n xs)
  lies_as_two m n xs new m_there n_there is =
      let less : m ≤ n = omega (arith, m_there, length_take n xs n_there) in
      record {
        there = omega (arith, less, n_there, ap length is);
        front = ap (take m) is ∙ sym (take_take m n xs less);
        back = ap (drop m) is ∙ drop_parts m n xs less;
      }

  -- where the first of two was taken out, and the second changed
  pub lies_alone : (m n : ℕ) (xs new zs : List A) → m ≤ length (take n xs) → n ≤ length xs → new ≡ take m xs ++ zs → Lies m new (take n xs) zs
  lies_alone m n xs new zs m_there n_there is =
      let less : m ≤ n = omega (arith, m_there, length_take n xs n_there) in
      let within : m ≤ length xs = omega (arith, less, n_there) in
      record {
        there = let long = length_front m m xs zs (omega arith) within in omega (arith, long, ap length is);
        front = ap (take m) is ∙ take_front m m xs zs (omega arith) within ∙ take_take m m xs (omega arith) ∙ sym (take_take m n xs less);
        back = ap (drop m) is ∙ drop_whole m xs zs within;
      }

  -- one list that was changed
  pub lies_over : (m : ℕ) (xs new zs : List A) → m ≤ length xs → new ≡ take m xs ++ zs → Lies m new xs zs
  lies_over m xs new zs there is =
      record {
        there = let long = length_front m m xs zs (omega arith) there in omega (arith, long, ap length is);
        front = ap (take m) is ∙ take_front m m xs zs (omega arith) there ∙ take_take m m xs (omega arith);
        back = ap (drop m) is ∙ drop_whole m xs zs there;
      }

  pub take_all : (xs zs : List A) → take (length xs) (xs ++ zs) ≡ xs
  take_all [] zs = refl
  take_all (x ∷ xs) zs = ap (λ ys. x ∷ ys) (take_all xs zs)

  pub drop_all : (xs zs : List A) → drop (length xs) (xs ++ zs) ≡ zs
  drop_all [] zs = refl
  drop_all (x ∷ xs) zs = drop_all xs zs

  -- a list behind another
  pub length_more : (xs zs : List A) → length xs ≤ length (xs ++ zs)
  length_more [] zs = omega arith
  length_more (x ∷ xs) zs = let more = length_more xs zs in omega (arith, more)

  -- a list changed twice behind a place
  pub changed_twice : (n : ℕ) (xs ys new : List A) (f g : A → A) → n ≤ length xs → ys ≡ take n xs ++ map f (drop n xs)
      → new ≡ take n ys ++ map g (drop n ys) → new ≡ take n xs ++ map g (map f (drop n xs))
  changed_twice n xs ys new f g there first second =
      second ∙ ap (λ zs. take n zs ++ map g (drop n zs)) first
      ∙ ap (λ zs. zs ++ map g (drop n (take n xs ++ map f (drop n xs)))) (take_front n n xs (map f (drop n xs)) (omega arith) there ∙ take_take n n xs (omega arith))
      ∙ ap (λ zs. take n xs ++ map g zs) (drop_whole n xs (map f (drop n xs)) there)

  pub front_parts : (m n : ℕ) (xs : List A) → m ≤ n → take n xs ≡ take m xs ++ drop m (take n xs)
  front_parts zero n xs less = refl
  front_parts (suc m) zero xs less = absurd (omega (arith, less))
  front_parts (suc m) (suc n) [] less = refl
  front_parts (suc m) (suc n) (x ∷ xs) less = ap (λ zs. x ∷ zs) (front_parts m n xs (omega (arith, less)))

  pub all_parts : (n : ℕ) (xs : List A) → xs ≡ take n xs ++ drop n xs
  all_parts zero xs = refl
  all_parts (suc n) [] = refl
  all_parts (suc n) (x ∷ xs) = ap (λ zs. x ∷ zs) (all_parts n xs)

  -- a change of the second of two lists, where the first needs none
  pub second_changed : (change : A → A) (m n : ℕ) (xs new : List A) → m ≤ n → map change (drop m (take n xs)) ≡ drop m (take n xs)
      → new ≡ take n xs ++ map change (drop n xs) → new ≡ take m xs ++ map change (drop m xs)
  second_changed change m n xs new less same is =
      is ∙ ap (λ zs. zs ++ map change (drop n xs)) (front_parts m n xs less ∙ ap (λ zs. take m xs ++ zs) (sym same))
      ∙ append_assoc (take m xs) (map change (drop m (take n xs))) (map change (drop n xs))
      ∙ ap (λ zs. take m xs ++ zs) (sym (map-append change (drop m (take n xs)) (drop n xs)) ∙ ap (map change) (sym (drop_parts m n xs less)))

  -- and where none needs one
  pub none_changed : (change : A → A) (m n : ℕ) (xs : List A) → m ≤ n → map change (drop m (take n xs)) ≡ drop m (take n xs) → map change (drop n xs) ≡ drop n xs
      → xs ≡ take m xs ++ map change (drop m xs)
  none_changed change m n xs less first second =
      second_changed change m n xs xs less first (all_parts n xs ∙ ap (λ zs. take n xs ++ zs) (sym second))

  pub take_length : (xs : List A) → take (length xs) xs ≡ xs
  take_length [] = refl
  take_length (x ∷ xs) = ap (λ zs. x ∷ zs) (take_length xs)
