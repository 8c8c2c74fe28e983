-- Bigraphs whose numbers follow each other, by their first and last rows alone.
use Rattle.std.specs.Prelude.{ℕ, ◌-◌, nat_lt, Bool, true, ◌&&◌, length, option_map, List, Option, Some, None, slice_get}
use Rattle.bg_base.specs.declared.big.Big.{Big}
use Rattle.bg_base.specs.declared.big.NodeRow.{NodeRow}

-- the one is below the other, where both are there
abbrev pub is_below : Option ℕ → Option ℕ → Bool
is_below (Some x) (Some y) = nat_lt x y
is_below (Some x) None = true
is_below None other = true

abbrev pub last_of : {A : Type 0} → List A → Option A
last_of xs = slice_get xs (length xs - 1)

-- the number of a row that is there
abbrev pub row_number : Option NodeRow → Option ℕ
row_number row = option_map (λ (r : NodeRow). r.id) row

-- the nodes and the edges of the second have higher numbers than those of the first, as both ascend
abbrev pub numbers_follow : Big → Big → Bool
numbers_follow f g = is_below (row_number (last_of f.nodes)) (row_number (slice_get g.nodes 0)) && is_below (last_of f.edges) (slice_get g.edges 0)

-- the edges of the bigraph have higher numbers, as they ascend
abbrev pub lies_behind : ℕ → Big → Bool
lies_behind edge big = is_below (Some edge) (slice_get big.edges 0)
