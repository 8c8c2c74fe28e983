-- What the test of a plan says, fact by fact.
use Rattle.std.proofs.Common.{◌≡◌, ℕ, zero, suc, ◌+◌, ◌<◌, ◌≤◌, Bool, true, false, ◌&&◌, ◌||◌, eqb, ltb, leb, List, [], ◌∷◌, length, get_or, refl, ap, subst, ◌∙◌, arith}
use Rattle.bg_lists.specs.Lists.{At, at_here, at_there}
use Rattle.bg_grammar.specs.Grammar.{Part, kind, symbol, Expected, Grammar, ways_of}
use Rattle.bg_grammar.specs.Plan.{Plan, row, follow, rank, within, starts_within, head_fits, rest_fits, ways_fit, symbols_fit, is_low, some_low, ranks_fit, row_fits, rows_fit, fits}

pub both_left : (a b : Bool) → a && b ≡ true → a ≡ true
both_left true b e = refl
both_left false b e = cc

pub both_right : (a b : Bool) → a && b ≡ true → b ≡ true
both_right true b e = e
both_right false b e = cc

pub one_of : (a b : Bool) → a || b ≡ true → (a ≡ true → ⊥) → b ≡ true
one_of true b e n = absurd (n refl)
one_of false b e n = e

pub same_numbers : (a b : ℕ) → eqb a b ≡ true → a ≡ b
same_numbers a b e = grind arith

pub less_numbers : (a b : ℕ) → ltb a b ≡ true → a < b
less_numbers a b e = grind arith

pub at_most_numbers : (a b : ℕ) → leb a b ≡ true → a ≤ b
at_most_numbers a b e = grind arith

pub within_at : (v : ℕ) (xs ys : List ℕ) (k : ℕ) → within v xs ys ≡ true → (get_or xs k 0 ≡ 0 → ⊥) → get_or ys k 0 ≡ v
within_at v [] ys k e n = absurd (n refl)
within_at v (x ∷ xs) [] zero e n = absurd (n (same_numbers x 0 (both_left _ _ e)))
within_at v (x ∷ xs) [] (suc k) e n = within_at v xs [] k (both_right _ _ e) n
within_at v (x ∷ xs) (y ∷ ys) zero e n = same_numbers y v (one_of _ _ (both_left _ _ e) (λ q. n (same_numbers x 0 q)))
within_at v (x ∷ xs) (y ∷ ys) (suc k) e n = within_at v xs ys k (both_right _ _ e) n

-- the part can begin with the kind, by the table
abbrev pub StartsPart : Plan → Part → ℕ → Type 0
StartsPart p (kind t) k = k ≡ t
StartsPart p (symbol s) k = get_or (row p s) k 0 ≡ 0 → ⊥

-- and so can what the stack expects
abbrev pub Starts : Plan → List Expected → ℕ → Type 0
Starts p [] k = k ≡ p.end
Starts p (e ∷ es) k = StartsPart p e.part k

pub starts_at : (p : Plan) (v : ℕ) (q : Part) (xs : List ℕ) (k : ℕ) → starts_within p v q xs ≡ true → StartsPart p q k → get_or xs k 0 ≡ v
starts_at p v (kind t) xs k e f = ap (λ z. get_or xs z 0) f ∙ same_numbers _ v e
starts_at p v (symbol b) xs k e f = within_at v (row p b) xs k e f

-- what the test says of one alternative
pub record Way (p : Plan) (s i : ℕ) (way : List Part) : Type 0 where
  pub head : head_fits p s i way ≡ true
  pub rest : rest_fits p s way ≡ true

way_in : (p : Plan) (s i : ℕ) (ways : List (List Part)) (j n : ℕ) (way : List Part) → n ≡ i + j → ways_fit p s i ways ≡ true → At way j ways → Way p s n way
way_in p s i [] j n way e f a = elim a [ ]
way_in p s i (w ∷ ways) zero n way e f (at_here q) = record {
  head = subst (λ z. head_fits p s n z ≡ true) q (subst (λ z. head_fits p s z w ≡ true) (let h : i ≡ n = omega arith in h) (both_left _ _ f));
  rest = subst (λ z. rest_fits p s z ≡ true) q (both_left _ _ (both_right _ _ f));
}
way_in p s i (w ∷ ways) (suc j) n way e f (at_there a) = way_in p s (suc i) ways j n way (omega arith) (both_right _ _ (both_right _ _ f)) a

symbol_in : (p : Plan) (s : ℕ) (all : List (List (List Part))) (j n i : ℕ) (way : List Part) → n ≡ s + j → symbols_fit p s all ≡ true → At way i (get_or all j []) → Way p n i way
symbol_in p s [] j n i way e f a = elim a [ ]
symbol_in p s (ways ∷ all) zero n i way e f a =
    subst (λ z. Way p z i way) (let h : s ≡ n = omega arith in h) (way_in p s 0 ways i i way (omega arith) (both_left _ _ f) a)
symbol_in p s (ways ∷ all) (suc j) n i way e f a = symbol_in p (suc s) all j n i way (omega arith) (both_right _ _ f) a

-- an alternative of lower ranks
pub record Low (g : Grammar) (p : Plan) (s r : ℕ) : Type 0 where
  pub number : ℕ
  pub way : List Part
  pub place : At way number (ways_of g s)
  pub low : is_low p r way ≡ true

record Lower (p : Plan) (r : ℕ) (ways : List (List Part)) : Type 0 where
  number : ℕ
  way : List Part
  place : At way number ways
  low : is_low p r way ≡ true

some_low_by : (p : Plan) (r : ℕ) (way : List Part) (ways : List (List Part)) (b : Bool) → is_low p r way ≡ b → b || some_low p r ways ≡ true
    → (some_low p r ways ≡ true → Lower p r ways) → Lower p r (way ∷ ways)
some_low_by p r way ways true e f more = record { number = 0; way = way; place = at_here refl; low = e }
some_low_by p r way ways false e f more =
    let l = more f in record { number = suc l.number; way = l.way; place = at_there l.place; low = l.low }

some_low_in : (p : Plan) (r : ℕ) (ways : List (List Part)) → some_low p r ways ≡ true → Lower p r ways
some_low_in p r [] e = cc
some_low_in p r (way ∷ ways) e = some_low_by p r way ways (is_low p r way) refl e (λ f. some_low_in p r ways f)

rank_in : (p : Plan) (all : List (List (List Part))) (ranks : List ℕ) (s : ℕ) → ranks_fit p all ranks ≡ true → 0 < get_or ranks s 0
    → some_low p (get_or ranks s 0) (get_or all s []) ≡ true
rank_in p all [] s e low = absurd (omega arith)
rank_in p [] (r ∷ ranks) zero e low = let h : r ≡ 0 = same_numbers r 0 (both_left _ _ e) in absurd (omega arith)
rank_in p [] (r ∷ ranks) (suc s) e low = rank_in p [] ranks s (both_right _ _ e) low
rank_in p (ways ∷ more) (r ∷ ranks) zero e low = one_of _ _ (both_left _ _ e) (λ q. let h : r ≡ 0 = same_numbers r 0 q in omega arith)
rank_in p (ways ∷ more) (r ∷ ranks) (suc s) e low = rank_in p more ranks s (both_right _ _ e) low

row_in : (most : ℕ) (xs : List ℕ) (k i : ℕ) → row_fits most xs ≡ true → get_or xs k 0 ≡ suc i → i < most
row_in most [] k i e f = absurd (omega arith)
row_in most (x ∷ xs) zero i e f = let h = at_most_numbers x most (both_left _ _ e) in omega arith
row_in most (x ∷ xs) (suc k) i e f = row_in most xs k i (both_right _ _ e) f

rows_in : (all : List (List (List Part))) (rows : List (List ℕ)) (s k i : ℕ) → rows_fit all rows ≡ true → get_or (get_or rows s []) k 0 ≡ suc i → i < length (get_or all s [])
rows_in all [] s k i e f = absurd (omega arith)
rows_in [] (xs ∷ rows) zero k i e f = row_in 0 xs k i (both_left _ _ e) f
rows_in [] (xs ∷ rows) (suc s) k i e f = rows_in [] rows s k i (both_right _ _ e) f
rows_in (ways ∷ all) (xs ∷ rows) zero k i e f = row_in (length ways) xs k i (both_left _ _ e) f
rows_in (ways ∷ all) (xs ∷ rows) (suc s) k i e f = rows_in all rows s k i (both_right _ _ e) f

-- the five parts of the test
record Fits (g : Grammar) (p : Plan) : Type 0 where
  rows : rows_fit g.ways p.rows ≡ true
  symbols : symbols_fit p 0 g.ways ≡ true
  ranks : ranks_fit p g.ways p.ranks ≡ true
  ranked : ltb 0 (rank p p.start) ≡ true
  followed : eqb (get_or (follow p p.start) p.end 0) 1 ≡ true

five : (a b c d e : Bool) → a && (b && (c && (d && e))) ≡ true → (a ≡ true) × (b ≡ true) × (c ≡ true) × (d ≡ true) × (e ≡ true)
five a b c d e h =
    let i = both_right a (b && (c && (d && e))) h in
    let j = both_right b (c && (d && e)) i in
    let k = both_right c (d && e) j in
    (both_left a (b && (c && (d && e))) h, both_left b (c && (d && e)) i, both_left c (d && e) j, both_left d e k, both_right d e k)

fits_five : (g : Grammar) (p : Plan) → fits g p ≡ true → Fits g p
unfolding fits
fits_five g p ok =
    let h = five (rows_fit g.ways p.rows) (symbols_fit p 0 g.ways) (ranks_fit p g.ways p.ranks) (ltb 0 (rank p p.start)) (eqb (get_or (follow p p.start) p.end 0) 1) ok in
    record { rows = h.0; symbols = h.1; ranks = h.2; ranked = h.3; followed = h.4 }

module _ (g : Grammar) (p : Plan) (ok : fits g p ≡ true) where
  pub way_of : (s i : ℕ) (way : List Part) → At way i (ways_of g s) → Way p s i way
  way_of s i way a = symbol_in p 0 g.ways s s i way (omega arith) (fits_five g p ok).symbols a

  pub low_of : (s : ℕ) → 0 < rank p s → Low g p s (rank p s)
  low_of s low =
      let l = some_low_in p (rank p s) (ways_of g s) (rank_in p g.ways p.ranks s (fits_five g p ok).ranks low) in
      record { number = l.number; way = l.way; place = l.place; low = l.low }

  pub named_below : (s k i : ℕ) → get_or (row p s) k 0 ≡ suc i → i < length (ways_of g s)
  named_below s k i e = rows_in g.ways p.rows s k i (fits_five g p ok).rows e

  pub start_ranked : 0 < rank p p.start
  start_ranked = less_numbers _ _ (fits_five g p ok).ranked

  pub start_followed : get_or (follow p p.start) p.end 0 ≡ 1
  start_followed = same_numbers _ _ (fits_five g p ok).followed
