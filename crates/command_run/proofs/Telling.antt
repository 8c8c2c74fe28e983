-- The lines of predicates.
use Rattle.std.proofs.Common.{◌≡◌, ◌++◌, ℕ, zero, suc, ◌<◌, ◌≤◌, ◌+◌, List, [], ◌∷◌, Bool, take, length, zip, get_or, refl, sym, ap, ◌∙◌, arith}
use Rattle.std.specs.List.{flat_map}
use Rattle.std.proofs.lemmas.List.{append_assoc, append-nil}
use Rattle.bg_lists.proofs.Places.{At-get_or, get_or-At}
use Rattle.bg_base.specs.declared.big.Big.{Big}
use Rattle.bg_rules.specs.declared.predicate.Predicate.{Predicate}
use Rattle.command_run.specs.RunText.{predicate_line, AreTold, none_told, each_told}

pub told_count : {host : Big} {predicates : List Predicate} {truths : List Bool} → AreTold host predicates truths → length truths ≡ length predicates
told_count none_told = refl
told_count (each_told told rest) = ap suc (told_count rest)

abbrev pub line_of : Predicate × Bool → List ℕ
line_of told = predicate_line told.0 told.1

-- the line of the next one stands behind those of the ones before it
lines_next : (predicates : List Predicate) (truths : List Bool) (number : ℕ) (predicate : Predicate) (truth : Bool) → number < length predicates
    → number < length truths → predicate ≡ get_or predicates number predicate → truth ≡ get_or truths number truth
    → flat_map line_of (take (suc number) (zip predicates truths)) ≡ flat_map line_of (take number (zip predicates truths)) ++ predicate_line predicate truth
lines_next [] truths number predicate truth less below e f = absurd (omega (arith, less))
lines_next (p ∷ ps) [] number predicate truth less below e f = absurd (omega (arith, below))
lines_next (p ∷ ps) (t ∷ ts) zero predicate truth less below e f =
    append-nil (predicate_line p t) ∙ ap (λ (x : Predicate). predicate_line x t) (sym e) ∙ ap (λ (x : Bool). predicate_line predicate x) (sym f)
lines_next (p ∷ ps) (t ∷ ts) (suc number) predicate truth less below e f =
    ap (λ (xs : List ℕ). predicate_line p t ++ xs) (lines_next ps ts number predicate truth (omega (arith, less)) (omega (arith, below)) e f)
    ∙ sym (append_assoc (predicate_line p t) (flat_map line_of (take number (zip ps ts))) (predicate_line predicate truth))

pub lines_more : (predicates : List Predicate) (truths : List Bool) (number : ℕ) (predicate : Predicate) (truth : Bool) (old out new : List ℕ)
    → number < length predicates → length truths ≡ length predicates → predicate ≡ get_or predicates number predicate → truth ≡ get_or truths number truth
    → out ≡ old ++ flat_map line_of (take number (zip predicates truths)) → new ≡ out ++ predicate_line predicate truth
    → new ≡ old ++ flat_map line_of (take (number + 1) (zip predicates truths))
lines_more predicates truths number predicate truth old out new less count e f so_far more =
    let below : number < length truths = omega (arith, less, count) in
    let next : suc number ≡ number + 1 = omega arith in
    more ∙ ap (λ (xs : List ℕ). xs ++ predicate_line predicate truth) so_far
    ∙ append_assoc old (flat_map line_of (take number (zip predicates truths))) (predicate_line predicate truth)
    ∙ ap (λ (xs : List ℕ). old ++ xs) (sym (lines_next predicates truths number predicate truth less below e f))
    ∙ ap (λ n. old ++ flat_map line_of (take n (zip predicates truths))) next

taken_whole : (predicates : List Predicate) (truths : List Bool) (number : ℕ) → length predicates ≤ number → take number (zip predicates truths) ≡ zip predicates truths
taken_whole [] truths zero more = refl
taken_whole [] truths (suc number) more = refl
taken_whole (p ∷ ps) [] zero more = refl
taken_whole (p ∷ ps) [] (suc number) more = refl
taken_whole (p ∷ ps) (t ∷ ts) zero more = absurd (omega (arith, more))
taken_whole (p ∷ ps) (t ∷ ts) (suc number) more = ap (λ (xs : List (Predicate × Bool)). (p, t) ∷ xs) (taken_whole ps ts number (omega (arith, more)))

pub lines_whole : (predicates : List Predicate) (truths : List Bool) (number : ℕ) (old out : List ℕ) → length predicates ≤ number
    → out ≡ old ++ flat_map line_of (take number (zip predicates truths)) → out ≡ old ++ flat_map line_of (zip predicates truths)
lines_whole predicates truths number old out more so_far =
    so_far ∙ ap (λ (xs : List (Predicate × Bool)). old ++ flat_map line_of xs) (taken_whole predicates truths number more)

pub got_again : (truths : List Bool) (predicates : List Predicate) (number : ℕ) (d : Bool) → length truths ≡ length predicates → number < length predicates
    → get_or truths number d ≡ get_or truths number (get_or truths number d)
got_again truths predicates number d count less =
    let below : number < length truths = omega (arith, less, count) in
    sym (get_or-At truths (get_or truths number d) (At-get_or truths number d below))
