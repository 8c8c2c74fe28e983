-- Numbers that ascend, taken apart at a few cuts: what stands between these stays.
use Rattle.std.specs.Prelude.{ℕ, nat_lt, if◌then◌else◌, List, [], ◌∷◌, ◌++◌, filter}
use Rattle.bg_rules.specs.Instantiation.{is_among}

-- of the numbers those before the one, and those behind it
abbrev pub below : ℕ → List ℕ → List ℕ
below number numbers = filter (λ other. nat_lt other number) numbers

abbrev pub above : ℕ → List ℕ → List ℕ
above number numbers = filter (λ other. nat_lt number other) numbers

-- the cut, where it is one of the numbers that are to stand
abbrev pub standing : List ℕ → ℕ → List ℕ
standing stand cut = if is_among cut stand then cut ∷ [] else []

-- the numbers without the cuts, and those of the cuts that are to stand, in order
unfoldable pub spliced : List ℕ → List ℕ → List ℕ → List ℕ
spliced stand [] numbers = numbers
spliced stand (cut ∷ cuts) numbers = below cut numbers ++ (standing stand cut ++ spliced stand cuts (above cut numbers))
