use Rattle.std.proofs.Common.{Err, ◌∙◌}
use Rattle.std.proofs.lemmas.Bool.{false≢true}
use Rattle.bg_base.proofs.LookUps.{has_outer, outer_of-search}
use Rattle.bg_index.proofs.ReadingLaws.{name_found, name_absent}
use Rattle.bg_index.proofs.reading.note_name.Goals as goal

pub returns-in-Ok : goal.returns-in-Ok
returns-in-Ok c =
    name_found c.args.outer.now c.requires.outer_ascends c.args.name.now c.in-Ok.at c.in-Ok.ensures.bound c.in-Ok.ensures.position c.args.tie c.args.ties.now.items

pub returns-in-Err : goal.returns-in-Err
returns-in-Err c =
    name_absent c.args.outer.now c.requires.outer_ascends c.args.name.now
    (λ m. false≢true (outer_of-search c.args.outer.now c.args.name.now c.requires.outer_ascends (Err c.in-Err.field-0) c.in-Err.ensures.bound c.in-Err.ensures.position
    ∙ has_outer c.args.outer.now m))
    c.args.tie.node c.args.tie.port c.args.ties.now.items
