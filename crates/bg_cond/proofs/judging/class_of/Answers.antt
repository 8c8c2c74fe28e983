use Rattle.bg_cond.proofs.Upto.{item_at}
use Rattle.bg_cond.proofs.judging.class_of.Goals as goal

pub returns : goal.returns
returns c =
    (c.index-rules-step.result, item_at c.args.rules.now c.args.step.now.rule c.index-rules-step.result c.requires.there c.index-rules-step.is, c.class.ensures)
