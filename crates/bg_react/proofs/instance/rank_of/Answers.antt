use Rattle.std.proofs.Common.{rules, Ok, Err}
use Rattle.std.proofs.lemmas.List.Sorted.{answers_always}
use Rattle.bg_base.specs.declared.big.NodeRow.{NodeRow}
use Rattle.bg_react.proofs.Ranks.{rank-search}
use Rattle.bg_react.proofs.instance.rank_of.Goals as goal

pub returns-in-Ok-clause-rank : goal.returns-in-Ok-clause-rank
returns-in-Ok-clause-rank c =
    rank-search c.args.part.now c.args.node c.requires.ascending (Ok c.in-Ok.rank) c.in-Ok.ensures.bound
    (c.in-Ok.ensures.position (λ (row : NodeRow). row.id) (answers_always _ _ _ (λ f a r g called. search rules)))

pub returns-in-Err-clause-rank : goal.returns-in-Err-clause-rank
returns-in-Err-clause-rank c =
    rank-search c.args.part.now c.args.node c.requires.ascending (Err c.in-Err.field-0) c.in-Err.ensures.bound
    (c.in-Err.ensures.position (λ (row : NodeRow). row.id) (answers_always _ _ _ (λ f a r g called. search rules)))
