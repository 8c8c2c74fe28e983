-- How many nodes an instance has.
use Rattle.std.specs.Prelude.{ℕ, ◌+◌, List, [], ◌∷◌, length}
use Rattle.bg_base.specs.declared.big.Big.{Big}
use Rattle.bg_rules.specs.Instantiation.{part}

-- the nodes of all the copies that the entries ask for
unfoldable pub copied_nodes : Big → List ℕ → ℕ
copied_nodes parameter [] = 0
copied_nodes parameter (region ∷ entries) = length (part parameter region) + copied_nodes parameter entries
