-- Laws of histories: the entries of a worker, workers below a number, and how histories grow.
use Rattle.std.proofs.Common.{◌≡◌, ℕ, suc, ◌+◌, ◌<◌, ◌≤◌, ◌≢◌, ◌==◌, Bool, true, false, List, [], ◌∷◌, ◌++◌, length, refl, sym, ap, subst, ◌∙◌, cond, eq-eqb, ne_eqb, length-append, append-nil, arith}
use Rattle.std.proofs.lemmas.List.Elements.{filter-append}
use Rattle.bg_base.specs.declared.history.Entry.{Entry}
use Rattle.bg_seats.specs.Histories.{entries_of, WorkersBelow, GrowsByOthers}

-- an entry of another worker is none of the worker's
pub entries-other : (entry : Entry) (worker : ℕ) → entry.worker ≢ worker → entries_of worker (entry ∷ []) ≡ []
entries-other entry worker other = ap (λ test. cond test (entry ∷ []) []) (ne_eqb entry.worker worker other)

-- and behind others it adds none
pub entries-none_more : (worker : ℕ) (rest : List Entry) (entry : Entry) → entry.worker ≢ worker → entries_of worker rest ≡ [] → entries_of worker (rest ++ entry ∷ []) ≡ []
entries-none_more worker rest entry other clear =
    filter-append (λ (x : Entry). x.worker == worker) rest (entry ∷ []) ∙ (ap (λ xs. xs ++ entries_of worker (entry ∷ [])) clear ∙ entries-other entry worker other)

-- workers below a number are below a larger one
pub below-larger : (number larger : ℕ) (entries : List Entry) → number ≤ larger → WorkersBelow number entries → WorkersBelow larger entries
below-larger number larger [] le below = tt
below-larger number larger (x ∷ xs) le below = (let first = below.0 in omega arith, below-larger number larger xs le below.1)

-- one entry more
pub below-snoc : (number : ℕ) (entries : List Entry) (entry : Entry) → WorkersBelow number entries → entry.worker < number → WorkersBelow number (entries ++ entry ∷ [])
below-snoc number [] entry below last = (last, tt)
below-snoc number (x ∷ xs) entry below last = (below.0, below-snoc number xs entry below.1 last)

-- ---- how histories grow

nothing_more : {A : Type 0} (xs rest : List A) → length (xs ++ rest) ≤ length xs → rest ≡ []
nothing_more xs [] le = refl
nothing_more xs (y ∷ rest) le = let long = length-append xs (y ∷ rest) in absurd (omega (arith, le, long))

-- where no entries are there but those that were seen, they are all
pub grown_whole : {worker : ℕ} {before after : List Entry} → GrowsByOthers worker before after → length after ≤ length before → after ≡ before
grown_whole {before = before} grows le =
    let none = nothing_more before grows.rest (subst (λ (entries : List Entry). length entries ≤ length before) grows.all le) in
    grows.all ∙ (ap (λ (rest : List Entry). before ++ rest) none ∙ append-nil before)

pub grown_longer : {worker : ℕ} {before after : List Entry} → GrowsByOthers worker before after → length before ≤ length after
grown_longer {before = before} grows = let long = ap length grows.all ∙ length-append before grows.rest in omega (arith, long)

-- ---- histories of one worker

-- an entry of the worker is one of its entries
pub entries-own : (entry : Entry) (worker : ℕ) → entry.worker ≡ worker → entries_of worker (entry ∷ []) ≡ entry ∷ []
entries-own entry worker own = ap (λ test. cond test (entry ∷ []) []) (eq-eqb entry.worker worker own)

kept_shorter : (x : Entry) (xs ys : List Entry) (test : Bool) → length ys ≤ length xs → length (cond test (x ∷ ys) ys) ≤ suc (length xs)
kept_shorter x xs ys true le = omega (arith, le)
kept_shorter x xs ys false le = omega (arith, le)

pub length-entries : (worker : ℕ) (history : List Entry) → length (entries_of worker history) ≤ length history
length-entries worker [] = omega arith
length-entries worker (x ∷ xs) = kept_shorter x xs (entries_of worker xs) (x.worker == worker) (length-entries worker xs)

kept_all : (worker : ℕ) (x : Entry) (xs : List Entry) (test : Bool) → (length (entries_of worker xs) ≡ length xs → entries_of worker xs ≡ xs)
    → length (cond test (x ∷ entries_of worker xs) (entries_of worker xs)) ≡ suc (length xs)
    → cond test (x ∷ entries_of worker xs) (entries_of worker xs) ≡ x ∷ xs
kept_all worker x xs true more long = ap (λ (entries : List Entry). x ∷ entries) (more (omega (arith, long)))
kept_all worker x xs false more long = let few = length-entries worker xs in absurd (omega (arith, few, long))

own_length : (worker : ℕ) (history : List Entry) → length (entries_of worker history) ≡ length history → entries_of worker history ≡ history
own_length worker [] long = refl
own_length worker (x ∷ xs) long = kept_all worker x xs (x.worker == worker) (own_length worker xs) long

-- where all entries are of one worker, so are those of a beginning
pub own_front : (worker : ℕ) (front rest : List Entry) → entries_of worker (front ++ rest) ≡ front ++ rest → entries_of worker front ≡ front
own_front worker front rest own =
    let a = ap length (sym own ∙ filter-append (λ (x : Entry). x.worker == worker) front rest) in
    let b = length-append (entries_of worker front) (entries_of worker rest) in
    let c = length-append front rest in
    let d = length-entries worker front in
    let e = length-entries worker rest in
    own_length worker front (omega (arith, a, b, c, d, e))

-- where all entries are of one worker, nothing came between those that it had seen and those that it sees
pub own_before : {worker : ℕ} {before between : List Entry} (rest after : List Entry) → GrowsByOthers worker before between → after ≡ between ++ rest
    → entries_of worker after ≡ after → between ≡ before
own_before {worker} {before} {between} rest after grows is own =
    let f : Entry → Bool = λ x. x.worker == worker in
    let all : entries_of worker after ≡ entries_of worker between ++ entries_of worker rest = ap (λ (xs : List Entry). entries_of worker xs) is ∙ filter-append f between rest in
    let seen : entries_of worker between ≡ entries_of worker before ++ [] =
    ap (λ (xs : List Entry). entries_of worker xs) grows.all ∙ (filter-append f before grows.rest ∙ ap (λ (xs : List Entry). entries_of worker before ++ xs) grows.none) in
    let a : length after ≡ length (entries_of worker between) + length (entries_of worker rest) =
    ap length (sym own) ∙ (ap length all ∙ length-append (entries_of worker between) (entries_of worker rest)) in
    let b : length (entries_of worker between) ≡ length (entries_of worker before) = ap length (seen ∙ append-nil (entries_of worker before)) in
    let c : length after ≡ length between + length rest = ap length is ∙ length-append between rest in
    let d = length-entries worker before in
    let e = length-entries worker rest in
    grown_whole grows (omega (arith, a, b, c, d, e))

none_else : (entry : Entry) (entries : List Entry) → entry.worker < 1 → entries_of 0 entries ≡ entries → entries_of 0 (entry ∷ entries) ≡ entry ∷ entries
none_else entry entries below own =
    ap (λ test. cond test (entry ∷ entries_of 0 entries) (entries_of 0 entries)) (eq-eqb entry.worker 0 (omega (arith, below)))
    ∙ ap (λ (xs : List Entry). entry ∷ xs) own

-- where there is one worker, all entries are its own
pub alone : (history : List Entry) → WorkersBelow 1 history → entries_of 0 history ≡ history
alone [] below = refl
alone (x ∷ xs) below = none_else x xs below.0 (alone xs below.1)
