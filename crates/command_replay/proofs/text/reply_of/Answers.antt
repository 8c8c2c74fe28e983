use Rattle.std.proofs.Common.{List, sym, subst}
use Rattle.bg_base.specs.Bigraph.{IsValidUnder}
use Rattle.bg_base.specs.declared.signature.Control.{Control}
use Rattle.command_replay.proofs.Answering.{legal_fits}
use Rattle.command_replay.proofs.text.reply_of.Goals as goal

pub legal-requires : goal.legal-requires
legal-requires c =
    subst (λ (signature : List Control). IsValidUnder signature c.in-Legal.host.big) (sym c.signature-signature.ensures.same)
    (legal_fits c.args.system.now c.args.replay.now c.in-Legal.host c.signature-signature.ensures.kept c.requires c.in-Legal.is)
