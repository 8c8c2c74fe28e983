-- The model is short.
use Rattle.std.proofs.Common.{◌≡◌, ℕ, zero, suc, ◌+◌, ◌*◌, ◌-◌, ◌^◌, ◌≤◌, ◌<◌, List, ◌++◌, length, length-append, codes, ap, refl, sym, ◌∙◌, arith}
use Rattle.std.proofs.lemmas.List.{append_assoc, append-nil}
use Rattle.command_trial.specs.Model.{times, front, back, trial_model}

rooms_length : (count : ℕ) → length (times count (codes " | room")) ≡ 7 * count
rooms_length zero = refl
rooms_length (suc count) =
    let long = length-append (codes " | room") (times count (codes " | room")) in
    let rest = rooms_length count in
    omega (arith, long, rest)

agents_length : (count : ℕ) → length (times count (codes " | agent")) ≡ 8 * count
agents_length zero = refl
agents_length (suc count) =
    let long = length-append (codes " | agent") (times count (codes " | agent")) in
    let rest = agents_length count in
    omega (arith, long, rest)

front_length : length front ≡ 197
unfolding front
front_length = refl

back_length : length back ≡ 156
unfolding back
back_length = refl

pub model_small : (size : ℕ) → size ≤ 300 → length (trial_model size) < 2 ^ 32 - 1
model_small size few =
    let rooms = times (size - 1) (codes " | room") in
    let agents = times size (codes " | agent") in
    let room_count = rooms_length (size - 1) in
    let agent_count = agents_length size in
    let one = length-append front (codes "room" ++ (rooms ++ (agents ++ back))) in
    let two = length-append (codes "room") (rooms ++ (agents ++ back)) in
    let three = length-append rooms (agents ++ back) in
    let four = length-append agents back in
    let a = front_length in
    let b = back_length in
    omega (arith, few, room_count, agent_count, one, two, three, four, a, b)

-- the text once more
pub times_next : (count counter : ℕ) (text out new start : List ℕ) → counter < count → new ≡ out ++ text → out ++ times (count - counter) text ≡ start
    → new ++ times (count - (counter + 1)) text ≡ start
times_next count counter text out new start less more so_far =
    let rest = times (count - (counter + 1)) text in
    let next : suc (count - (counter + 1)) ≡ count - counter = omega (arith, less) in
    ap (λ (xs : List ℕ). xs ++ rest) more ∙ append_assoc out text rest ∙ ap (λ n. out ++ times n text) next ∙ so_far

pub times_whole : (count counter : ℕ) (text out start : List ℕ) → count ≤ counter → out ++ times (count - counter) text ≡ start → out ≡ start
times_whole count counter text out start past so_far =
    let none : 0 ≡ count - counter = omega (arith, past) in
    sym (append-nil out) ∙ ap (λ n. out ++ times n text) none ∙ so_far
