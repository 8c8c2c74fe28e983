-- When an occurrence of a rule's redex is enabled: the conditions of the rule hold there.
use Rattle.std.specs.Prelude.{◌≡◌, ℕ, true, false, List, All}
use Rattle.bg_base.specs.declared.big.Big.{Big}
use Rattle.bg_rules.specs.declared.condition.Side.{Side}
use Rattle.bg_rules.specs.declared.condition.Side.TheVariants.{Ctx, Param}
use Rattle.bg_rules.specs.declared.condition.Condition.{Condition}
use Rattle.bg_rules.specs.Decomposition.{Decomposes, Occurs}
use Rattle.bg_rules.specs.Reaction.{HostState}
use Rattle.bg_rules.specs.Rules.{RuleParts}
use Rattle.bg_cond.specs.Pieces.{parameter_piece, context_piece}

-- the pattern occurs somewhere in the host
pub record OccursSomewhere (host pattern : Big) : Type 0 where
  pub nodes : List ℕ
  pub occurs : Occurs host pattern nodes

-- the piece on that side
abbrev pub piece_on : Side → HostState → Big → Big → Big
piece_on Ctx host context parameter = context_piece host.big host.next_node context
piece_on Param host context parameter = parameter_piece host.big parameter

-- the condition holds in the piece: its pattern occurs there, or, where it is not positive, does not
pub record HoldsIn (piece : Big) (condition : Condition) : Type 0 where
  pub occurs : condition.positive ≡ true → OccursSomewhere piece condition.pattern
  pub occurs_not : condition.positive ≡ false → OccursSomewhere piece condition.pattern → ⊥

-- the condition holds of a context and a parameter: it holds in the piece on its side
abbrev pub Holds : HostState → Big → Big → Condition → Type 0
Holds host context parameter condition = HoldsIn (piece_on condition.side host context parameter) condition

-- the rule is enabled at these nodes of the host: the redex occurs there, and each condition holds of the context and the
-- parameter
pub record IsEnabled (host : HostState) (rule : RuleParts) (nodes : List ℕ) : Type 0 where
  pub context : Big
  pub edges : List ℕ
  pub parameter : Big
  pub decomposes : Decomposes host.big rule.redex nodes context edges parameter
  pub hold : All (Holds host context parameter) rule.conditions

-- the rule is enabled somewhere
pub record IsEnabledSomewhere (host : HostState) (rule : RuleParts) : Type 0 where
  pub nodes : List ℕ
  pub enabled : IsEnabled host rule nodes

-- the bigraph is the piece of the host on the side of the parameter, at an occurrence of the redex at these nodes
pub record IsParameterPiece (host : HostState) (redex : Big) (nodes : List ℕ) (big : Big) : Type 0 where
  pub context : Big
  pub edges : List ℕ
  pub parameter : Big
  pub decomposes : Decomposes host.big redex nodes context edges parameter
  pub made : big ≡ parameter_piece host.big parameter

-- the bigraph is the piece of the host on the side of the context, at an occurrence of the redex at these nodes
pub record IsContextPiece (host : HostState) (redex : Big) (nodes : List ℕ) (big : Big) : Type 0 where
  pub context : Big
  pub edges : List ℕ
  pub parameter : Big
  pub decomposes : Decomposes host.big redex nodes context edges parameter
  pub made : big ≡ context_piece host.big host.next_node context

-- the condition holds at an occurrence of the redex
pub record HoldsAt (host : HostState) (redex : Big) (nodes : List ℕ) (condition : Condition) : Type 0 where
  pub context : Big
  pub edges : List ℕ
  pub parameter : Big
  pub decomposes : Decomposes host.big redex nodes context edges parameter
  pub holds : Holds host context parameter condition
