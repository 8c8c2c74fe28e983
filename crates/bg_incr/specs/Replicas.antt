-- What a replica stands for.
use Rattle.std.specs.Prelude.{ℕ}
use Rattle.bg_rules.specs.Reaction.{HostState}

-- a host, and the number of entries that lead to it
pub record ReplicaState : Type 0 where
  pub version : ℕ
  pub host : HostState
