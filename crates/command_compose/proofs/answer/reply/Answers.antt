use Rattle.std.proofs.Common.{refl}
use Rattle.command_compose.proofs.Law.{composition_of}
use Rattle.command_compose.proofs.answer.reply.Goals as goal

pub returns : goal.returns
returns c = (refl, composition_of c.args.input.now c.in_ok-text.text.items c.in_ok-text.ensures)
