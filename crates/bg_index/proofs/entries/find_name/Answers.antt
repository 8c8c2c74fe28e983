use Rattle.std.proofs.Common.{Ok, Err, ◌∙◌}
use Rattle.bg_index.proofs.IndexLaws.{name-search_at}
use Rattle.bg_index.proofs.entries.find_name.Goals as goal

pub returns-in-Ok : goal.returns-in-Ok
returns-in-Ok c =
    c.name_at.ensures ∙ name-search_at c.args.outer.now c.args.names.now c.args.name.now c.requires.ascending c.requires.beside (Ok c.in-Ok.at) c.in-Ok.ensures.bound c.in-Ok.ensures.position

pub returns-in-Err : goal.returns-in-Err
returns-in-Err c =
    name-search_at c.args.outer.now c.args.names.now c.args.name.now c.requires.ascending c.requires.beside (Err c.in-Err.field-0) c.in-Err.ensures.bound c.in-Err.ensures.position
