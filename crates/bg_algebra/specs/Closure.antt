-- The elementary bigraph that closes one name, and the names that stay open.
use Rattle.std.specs.Prelude.{ℕ, List, [], ◌∷◌, filter, not}
use Rattle.std.specs.Ordering.{is_eq}
use Rattle.bg_base.specs.declared.names.Name.{Name}
use Rattle.bg_base.specs.declared.names.Link.TheVariants.{Edge}
use Rattle.bg_base.specs.declared.big.Big.{Big}
use Rattle.bg_base.specs.Order.{name_cmp}

-- Milner, chapter 3: closure /x. No place, and the inner name tied to the edge
unfoldable pub closure : Name → ℕ → Big
closure name edge =
    record { nodes = []; edges = edge ∷ []; sites = []; inner = record { name = name; link = Edge edge } ∷ []; regions = 0; outer = [] }

-- the names but that one
abbrev pub names_without : Name → List Name → List Name
names_without name names = filter (λ (other : Name). not (is_eq (name_cmp other name))) names
