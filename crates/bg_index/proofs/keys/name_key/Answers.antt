use Rattle.std.proofs.Common.{Ok, Err, ap, sym}
use Rattle.bg_link.proofs.RankLaws.{name-search}
use Rattle.bg_index.specs.declared.plans.LinkKey.TheVariants.{Name as NameKey}
use Rattle.bg_index.proofs.keys.name_key.Goals as goal

pub returns-in-Ok : goal.returns-in-Ok
returns-in-Ok c =
    ap NameKey (sym (name-search c.args.outer.now c.args.name.now c.requires.outer_ascends (Ok c.in-Ok.at) c.in-Ok.ensures.bound c.in-Ok.ensures.position))

pub returns-in-Err : goal.returns-in-Err
returns-in-Err c =
    ap NameKey (sym (name-search c.args.outer.now c.args.name.now c.requires.outer_ascends (Err c.in-Err.field-0) c.in-Err.ensures.bound c.in-Err.ensures.position))
