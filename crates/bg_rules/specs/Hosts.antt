-- Hosts: bigraphs that rules change, and the numbers that new nodes and edges get.
use Rattle.std.specs.Prelude.{ℕ, ◌+◌, max, IsTrue, List, [], ◌∷◌, All}
use Rattle.bg_base.specs.declared.names.Name.{Name}
use Rattle.bg_base.specs.declared.names.Link.TheVariants.{Edge}
use Rattle.bg_base.specs.declared.big.Big.{Big}
use Rattle.bg_base.specs.Bigraph.{IsGround}
use Rattle.bg_base.specs.Translation.{node_numbers}
use Rattle.bg_base.specs.Products.{has_point}
use Rattle.bg_algebra.specs.Frame.{is_plain}
use Rattle.bg_rules.specs.Limits.{IsWithinLimits}
use Rattle.bg_rules.specs.Reaction.{HostState, IsNumbered}

-- what a bigraph must be to be the bigraph of a host: ground, with plain names, and without idle edges
pub record IsHostBig (big : Big) : Type 0 where
  pub ground : IsGround big
  pub names_plain : All (λ (name : Name). IsTrue (is_plain name)) big.outer
  pub edges_used : All (λ edge. IsTrue (has_point big (Edge edge))) big.edges

-- what each host keeps: its bigraph is such a one, every number is below its counters, and it is within the limits
pub record IsHost (host : HostState) : Type 0 where
  pub fits : IsHostBig host.big
  pub numbered : IsNumbered host
  pub within : IsWithinLimits host

-- one past the largest of the numbers, 0 where there is none
abbrev pub past_largest : List ℕ → ℕ
past_largest [] = 0
past_largest (number ∷ numbers) = max (number + 1) (past_largest numbers)

-- the bigraph with the counters of a host in which nothing was made yet
abbrev pub fresh_host : Big → HostState
fresh_host big = record { big = big; next_node = past_largest (node_numbers big.nodes); next_edge = past_largest big.edges }
