-- The lines of the rules, one after the other.
use Rattle.std.proofs.Common.{◌≡◌, ℕ, zero, suc, ◌+◌, ◌<◌, ◌≤◌, List, [], ◌∷◌, ◌++◌, length, drop, get_or, refl, sym, ap, ap₂, subst, ◌∙◌, arith}
use Rattle.std.proofs.lemmas.List.{append_assoc, append-nil, drop_all}
use Rattle.bg_rules.specs.Rules.{RuleParts}
use Rattle.command_trial.specs.TrialText.{trial_rule_line, rule_lines}

-- the line at a place, and those behind it
lines_at : (first place : ℕ) (rules : List RuleParts) (counts : List ℕ) (rule : RuleParts) (count : ℕ) → place < length rules → length counts ≡ length rules
    → rule ≡ get_or rules place rule → count ≡ get_or counts place count
    → trial_rule_line (first + place) rule count ++ rule_lines (first + place + 1) (drop (suc place) rules) (drop (suc place) counts)
    ≡ rule_lines (first + place) (drop place rules) (drop place counts)
lines_at first place [] counts rule count less same e f = absurd (omega (arith, less))
lines_at first place (r ∷ rules) [] rule count less same e f = absurd (omega (arith, same))
lines_at first zero (r ∷ rules) (c ∷ counts) rule count less same e f =
    ap₂ (λ x n. trial_rule_line (first + 0) x n ++ rule_lines (first + 0 + 1) rules counts) e f
lines_at first (suc place) (r ∷ rules) (c ∷ counts) rule count less same e f =
    let here : first + suc place ≡ suc first + place = omega arith in
    ap (λ n. trial_rule_line n rule count ++ rule_lines (n + 1) (drop (suc place) rules) (drop (suc place) counts)) here
    ∙ lines_at (suc first) place rules counts rule count (omega (arith, less)) (omega (arith, same)) e f
    ∙ ap (λ n. rule_lines n (drop place rules) (drop place counts)) (sym here)

pub lines_next : (rules : List RuleParts) (counts : List ℕ) (place : ℕ) (rule : RuleParts) (count : ℕ) (out new start : List ℕ) → place < length rules
    → length counts ≡ length rules → rule ≡ get_or rules place rule → count ≡ get_or counts place count → new ≡ out ++ trial_rule_line place rule count
    → out ++ rule_lines place (drop place rules) (drop place counts) ≡ start
    → new ++ rule_lines (place + 1) (drop (place + 1) rules) (drop (place + 1) counts) ≡ start
lines_next rules counts place rule count out new start less same e f more so_far =
    let rest = rule_lines (place + 1) (drop (suc place) rules) (drop (suc place) counts) in
    let next : place + 1 ≡ suc place = omega arith in
    let none : 0 + place ≡ place = omega arith in
    let at = subst (λ n. trial_rule_line n rule count ++ rule_lines (n + 1) (drop (suc place) rules) (drop (suc place) counts) ≡ rule_lines n (drop place rules) (drop place counts))
    none (lines_at 0 place rules counts rule count less same e f) in
    ap (λ n. new ++ rule_lines (place + 1) (drop n rules) (drop n counts)) next
    ∙ ap (λ (xs : List ℕ). xs ++ rest) more ∙ append_assoc out (trial_rule_line place rule count) rest
    ∙ ap (λ (xs : List ℕ). out ++ xs) at ∙ so_far

pub lines_whole : (rules : List RuleParts) (counts : List ℕ) (place : ℕ) (out start : List ℕ) → length rules ≤ place
    → out ++ rule_lines place (drop place rules) (drop place counts) ≡ start → out ≡ start
lines_whole rules counts place out start past so_far =
    sym (append-nil out) ∙ ap (λ (rs : List RuleParts). out ++ rule_lines place rs (drop place counts)) (sym (drop_all place rules past)) ∙ so_far

-- the same count, whatever is told where there is none
pub got_again : (counts : List ℕ) (place : ℕ) (d : ℕ) → place < length counts → get_or counts place d ≡ get_or counts place (get_or counts place d)
got_again [] place d less = absurd (omega (arith, less))
got_again (c ∷ counts) zero d less = refl
got_again (c ∷ counts) (suc place) d less = got_again counts place d (omega (arith, less))
