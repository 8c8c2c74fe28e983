-- What one read of a source in memory gives.
use Rattle.std.proofs.Common.{◌≡◌, ◌≤◌, ◌<◌, ◌+◌, ◌-◌, ℕ, List, [], ◌++◌, min, length, take, drop, sym, ◌∙◌, ap, subst, arith, take-append-drop, take-take, drop-drop, length-drop, length-take}
use Rattle.std.proofs.lemmas.List.{drop_all}

-- into holds the n bytes that stand past those given before
pub record GivesNext (given n : ℕ) (bytes into : List ℕ) : Type 0 where
  pub next : drop given bytes ≡ take n into ++ drop (given + n) bytes
  pub ended : n ≡ 0 → 0 < length into → drop (given + n) bytes ≡ []

gives_next_of : (given n most : ℕ) (bytes into : List ℕ) → given ≤ length bytes → 1 ≤ most
    → n ≡ min (min (length (take (length bytes - given) (drop given bytes))) (length into)) most
    → take n into ≡ take n (take (length bytes - given) (drop given bytes))
    → GivesNext given n bytes into
gives_next_of given n most bytes into within moves count front =
    let rest = drop given bytes in
    let rest_len : length rest ≡ length bytes - given = length-drop given bytes in
    let part_len : length (take (length bytes - given) rest) ≡ min (length bytes - given) (length rest) = length-take (length bytes - given) rest in
    let fits : n ≤ length bytes - given = omega arith in
    record {
      next = sym (take-append-drop n rest)
          ∙ ap (λ xs. xs ++ drop n rest) (sym (front ∙ take-take n (length bytes - given) rest fits))
          ∙ ap (λ xs. take n into ++ xs) (drop-drop n given bytes);
      ended = λ none room. drop_all (given + n) bytes (omega arith);
    }

-- the same where the bytes are lent as `held`
pub gives_next : (given n most : ℕ) (bytes held into : List ℕ) → held ≡ bytes → given ≤ length bytes → 1 ≤ most
    → n ≡ min (min (length (take (length held - given) (drop given held))) (length into)) most
    → take n into ≡ take n (take (length held - given) (drop given held))
    → GivesNext given n bytes into
gives_next given n most bytes held into same within moves count front =
    gives_next_of given n most bytes into within moves
    (subst (λ xs. n ≡ min (min (length (take (length xs - given) (drop given xs))) (length into)) most) same count)
    (subst (λ xs. take n into ≡ take n (take (length xs - given) (drop given xs))) same front)
