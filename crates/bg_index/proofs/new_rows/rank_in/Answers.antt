use Rattle.std.proofs.Common.{Ok, Err}
use Rattle.bg_index.proofs.NewRowLaws.{rank-search}
use Rattle.bg_index.proofs.new_rows.rank_in.Goals as goal

pub returns-in-Ok-clause-rank : goal.returns-in-Ok-clause-rank
returns-in-Ok-clause-rank c =
    rank-search c.args.part.now c.args.node c.requires.part (Ok c.in-Ok.rank) c.in-Ok.ensures.bound c.in-Ok.ensures.position

pub returns-in-Err-clause-rank : goal.returns-in-Err-clause-rank
returns-in-Err-clause-rank c =
    rank-search c.args.part.now c.args.node c.requires.part (Err c.in-Err.field-0) c.in-Err.ensures.bound c.in-Err.ensures.position
