-- How the nodes and the edges of a value are numbered.
use Rattle.std.specs.Prelude.{◌≡◌, ℕ, ◌+◌, ◌<◌, ◌≤◌}
use Rattle.bg_lists.specs.Lists.{Mem}
use Rattle.bg_base.specs.declared.big.Big.{Big}
use Rattle.bg_base.specs.Elementary.{counted}
use Rattle.bg_base.specs.Translation.{node_numbers}
use Rattle.bg_terms.specs.Terms as terms
use Rattle.bg_terms.specs.Terms.{Term}
use Rattle.bg_terms.specs.Values.{Reached}

-- how many control symbols a term has
abbrev pub symbols : Term → ℕ
symbols (terms.refusal r) = 0
symbols (terms.node at control words) = 1
symbols (terms.names at words) = 0
symbols (terms.identity_of at width words) = 0
symbols (terms.merger_of at width) = 0
symbols (terms.barren at) = 0
symbols (terms.empty at) = 0
symbols (terms.counted at t) = symbols t
symbols (terms.deeper at t) = symbols t
symbols (terms.closure at word t) = symbols t
symbols (terms.nesting at is_atom t u) = symbols t + symbols u
symbols (terms.binary kind at t u) = symbols t + symbols u

-- the nodes have so many numbers in a row, from that one on, and the next is free
pub record AreNumbered (from count : ℕ) (big : Big) (after : Reached) : Type 0 where
  pub numbers : node_numbers big.nodes ≡ counted from count
  pub next : after.nodes ≡ from + count

-- how many closures a term has
abbrev pub closures : Term → ℕ
closures (terms.refusal r) = 0
closures (terms.node at control words) = 0
closures (terms.names at words) = 0
closures (terms.identity_of at width words) = 0
closures (terms.merger_of at width) = 0
closures (terms.barren at) = 0
closures (terms.empty at) = 0
closures (terms.counted at t) = closures t
closures (terms.deeper at t) = closures t
closures (terms.closure at word t) = 1 + closures t
closures (terms.nesting at is_atom t u) = closures t + closures u
closures (terms.binary kind at t u) = closures t + closures u

-- the edges have numbers from that one on, below the next, which lies so many further; a closure of a name that is not
-- there leaves its number out
pub record AreEdgesWithin (from count : ℕ) (big : Big) (after : Reached) : Type 0 where
  pub from_there : (edge : ℕ) → Mem edge big.edges → from ≤ edge
  pub below : (edge : ℕ) → Mem edge big.edges → edge < from + count
  pub next : after.edges ≡ from + count
