-- Where the parts at the sites of an occurrence are looked for.
use Rattle.std.specs.Prelude.{◌↔◌, ℕ, List}
use Rattle.std.specs.List.Sorted.{IsStrictlySortedBy}
use Rattle.std.specs.Ordering.{nat_cmp}
use Rattle.bg_lists.specs.Lists.{Mem}
use Rattle.bg_base.specs.declared.big.Big.{Big}
use Rattle.bg_rules.specs.Hosts.{IsHost}
use Rattle.bg_rules.specs.LocalConditions.{MeetsLocally}
use Rattle.bg_rules.specs.Reaction.{HostState}
use Rattle.bg_rules.specs.Solid.{IsPattern}

-- these are, in order, nodes of a host at which a pattern meets the local conditions
pub record AreImages (host : HostState) (pattern : Big) (nodes images : List ℕ) : Type 0 where
  pub is_host : IsHost host
  pub is_pattern : IsPattern pattern
  pub local : MeetsLocally host.big pattern nodes
  pub ascend : IsStrictlySortedBy nat_cmp images
  pub same : (node : ℕ) → Mem node images ↔ Mem node nodes
