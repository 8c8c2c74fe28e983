use Rattle.std.proofs.Common.{Ok, Err, ◌∙◌}
use Rattle.bg_index.proofs.NewRowLaws.{beside-name}
use Rattle.bg_index.proofs.link_names.link_beside.Goals as goal

pub returns-in-Ok : goal.returns-in-Ok
returns-in-Ok c =
    c.link_at.ensures ∙ beside-name c.args.names.now c.args.links.now c.args.name.now c.requires.names c.requires.beside (Ok c.in-Ok.at) c.in-Ok.ensures.bound c.in-Ok.ensures.position

pub returns-in-Err : goal.returns-in-Err
returns-in-Err c =
    beside-name c.args.names.now c.args.links.now c.args.name.now c.requires.names c.requires.beside (Err c.in-Err.field-0) c.in-Err.ensures.bound c.in-Err.ensures.position
