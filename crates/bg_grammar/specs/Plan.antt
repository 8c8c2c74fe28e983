-- The table of a grammar by which one token tells which alternative to take, and the test of such a table.
use Rattle.std.specs.Prelude.{ℕ, suc, Bool, true, false, ◌&&◌, ◌||◌, ◌==◌, nat_lt, nat_le, List, [], ◌∷◌, length, slice_index_or}
use Rattle.bg_grammar.specs.Grammar.{Part, kind, symbol, Grammar}

-- a plan: `end` stands for the end of input, `start` is the symbol to begin with
pub record Plan : Type 0 where
  pub end : ℕ
  pub start : ℕ
  -- for each symbol a row: for each kind, and last the end of input, one more than the number of the alternative to take, or 0 for none
  pub rows : List (List ℕ)
  -- for each symbol a row: 1 for each kind that may follow it
  pub follows : List (List ℕ)
  -- for each symbol a number from 1 on: one of its alternatives has only symbols of lower ranks, so that it derives a list of tokens, perhaps none
  pub ranks : List ℕ

abbrev pub row : Plan → ℕ → List ℕ
row p s = slice_index_or p.rows s []

abbrev pub follow : Plan → ℕ → List ℕ
follow p s = slice_index_or p.follows s []

abbrev pub rank : Plan → ℕ → ℕ
rank p s = slice_index_or p.ranks s 0

-- wherever the first row is not 0, the second is v
abbrev pub within : ℕ → List ℕ → List ℕ → Bool
within v [] ys = true
within v (x ∷ xs) [] = (x == 0) && within v xs []
within v (x ∷ xs) (y ∷ ys) = ((x == 0) || (y == v)) && within v xs ys

-- wherever the part can begin, the row is v
abbrev pub starts_within : Plan → ℕ → Part → List ℕ → Bool
starts_within p v (kind t) xs = slice_index_or xs t 0 == v
starts_within p v (symbol b) xs = within v (row p b) xs

-- wherever alternative i can begin, or for an empty one wherever something can follow the symbol, the symbol's row takes i
abbrev pub head_fits : Plan → ℕ → ℕ → List Part → Bool
head_fits p s i [] = within (suc i) (follow p s) (row p s)
head_fits p s i (q ∷ way) = starts_within p (suc i) q (row p s)

-- each symbol of an alternative has a rank, and what stands behind it is among what may follow it
abbrev pub rest_fits : Plan → ℕ → List Part → Bool
rest_fits p s [] = true
rest_fits p s (kind t ∷ way) = rest_fits p s way
rest_fits p s (symbol b ∷ []) = nat_lt 0 (rank p b) && within 1 (follow p s) (follow p b)
rest_fits p s (symbol b ∷ q ∷ way) = nat_lt 0 (rank p b) && (starts_within p 1 q (follow p b) && rest_fits p s (q ∷ way))

abbrev pub ways_fit : Plan → ℕ → ℕ → List (List Part) → Bool
ways_fit p s i [] = true
ways_fit p s i (way ∷ ways) = head_fits p s i way && (rest_fits p s way && ways_fit p s (suc i) ways)

abbrev pub symbols_fit : Plan → ℕ → List (List (List Part)) → Bool
symbols_fit p s [] = true
symbols_fit p s (ways ∷ more) = ways_fit p s 0 ways && symbols_fit p (suc s) more

-- the symbols of the alternative have ranks below r
abbrev pub is_low : Plan → ℕ → List Part → Bool
is_low p r [] = true
is_low p r (kind t ∷ way) = is_low p r way
is_low p r (symbol b ∷ way) = nat_lt 0 (rank p b) && (nat_lt (rank p b) r && is_low p r way)

abbrev pub some_low : Plan → ℕ → List (List Part) → Bool
some_low p r [] = false
some_low p r (way ∷ ways) = is_low p r way || some_low p r ways

-- each symbol with a rank has an alternative of lower ranks
abbrev pub ranks_fit : Plan → List (List (List Part)) → List ℕ → Bool
ranks_fit p ways [] = true
ranks_fit p [] (r ∷ ranks) = (r == 0) && ranks_fit p [] ranks
ranks_fit p (ways ∷ more) (r ∷ ranks) = ((r == 0) || some_low p r ways) && ranks_fit p more ranks

abbrev pub row_fits : ℕ → List ℕ → Bool
row_fits most [] = true
row_fits most (x ∷ xs) = nat_le x most && row_fits most xs

-- each entry names an alternative of its symbol
abbrev pub rows_fit : List (List (List Part)) → List (List ℕ) → Bool
rows_fit ways [] = true
rows_fit [] (row ∷ rows) = row_fits 0 row && rows_fit [] rows
rows_fit (ways ∷ more) (row ∷ rows) = row_fits (length ways) row && rows_fit more rows

-- the test: by the table one token tells the one alternative that can go on
unfoldable pub fits : Grammar → Plan → Bool
fits g p =
    rows_fit g.ways p.rows
    && (symbols_fit p 0 g.ways && (ranks_fit p g.ways p.ranks && (nat_lt 0 (rank p p.start) && (slice_index_or (follow p p.start) p.end 0 == 1))))
