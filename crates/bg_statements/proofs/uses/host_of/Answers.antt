use Rattle.std.proofs.Common.{◌∙◌, ap, subst, sym}
use Rattle.bg_statements.specs.Settings.{IsWholeValue}
use Rattle.bg_statements.specs.Uses.{is_ground}
use Rattle.bg_statements.proofs.UsesAre.{host_value_is}
use Rattle.bg_statements.proofs.uses.host_of.Goals as goal

pub new-requires-clause-small : goal.new-requires-clause-small
new-requires-clause-small c =
    (host_value_is c.into_big.result (subst IsWholeValue (sym c.into_big.ensures.same) c.requires)
    (ap is_ground (c.into_big.ensures.same ∙ sym c.big.ensures.same) ∙ sym c.is_ground.ensures ∙ c.if-is_ground.true)).small
