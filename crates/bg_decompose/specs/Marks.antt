-- Which nodes of a host are images, or lie below one.
use Rattle.std.specs.Prelude.{ℕ, Bool, false, not, ◌&&◌, Option, List, length}
use Rattle.bg_base.specs.declared.names.Place.{Place}
use Rattle.bg_base.specs.declared.names.Place.TheVariants.{Node, Region}
use Rattle.bg_base.specs.declared.big.NodeRow.{NodeRow}
use Rattle.bg_base.specs.declared.big.Big.{Big}
use Rattle.bg_base.specs.Climbing.{AreMarks, node_at}
use Rattle.bg_rules.specs.Climbs.{is_met}
use Rattle.bg_rules.specs.Instantiation.{is_among}

-- the node is an image, or an image is met going up from it
unfoldable pub is_covered : Big → List ℕ → ℕ → Bool
is_covered host images node = is_met host.nodes images (length host.nodes) (Node node)

-- the node lies in the context
abbrev pub is_outside : Big → List ℕ → NodeRow → Bool
is_outside host images row = not (is_covered host images row.id)

-- the node lies in the parameter
abbrev pub is_inside : Big → List ℕ → NodeRow → Bool
is_inside host images row = not (is_among row.id images) && is_covered host images row.id

-- the place is covered: a node that is an image or lies below one
abbrev pub lies_covered : Big → List ℕ → Place → Bool
lies_covered host images (Node node) = is_covered host images node
lies_covered host images (Region region) = false

-- what is marked at a row is whether its node is covered
abbrev pub AreMarked : Big → List ℕ → List (Option Bool) → Type 0
AreMarked host images marks = AreMarks (λ at. is_covered host images (node_at host.nodes at)) marks
