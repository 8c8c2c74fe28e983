-- Numbers in a row.
use Rattle.std.proofs.Common.{◌≡◌, ◌+◌, ◌-◌, ◌<◌, ◌≤◌, ◌∷◌, [], ℕ, suc, ap, ◌∙◌, arith}
use Rattle.bg_base.specs.Elementary.{counted}

-- the first number, and the others
pub counted_next : (first end : ℕ) → first < end → counted first (end - first) ≡ first ∷ counted (first + 1) (end - (first + 1))
unfolding counted
counted_next first end less =
    let count : end - first ≡ suc (end - (first + 1)) = omega (arith, less) in
    let next : suc first ≡ first + 1 = omega arith in
    ap (counted first) count ∙ ap (λ n. first ∷ counted n (end - (first + 1))) next

-- there is no number
pub counted_end : (first end : ℕ) → end ≤ first → counted first (end - first) ≡ []
unfolding counted
counted_end first end none =
    let count : end - first ≡ 0 = omega (arith, none) in
    ap (counted first) count
