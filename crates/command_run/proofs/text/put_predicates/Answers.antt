use Rattle.std.proofs.Common.{◌≤◌, length, arith}
use Rattle.command_run.proofs.Telling.{lines_more, lines_whole, got_again}
use Rattle.command_run.proofs.text.put_predicates.Goals as goal

pub loop-number-preserved : goal.loop-number-preserved
loop-number-preserved c =
    let less = c.loop-number-test.true in
    lines_more c.args.predicates.now c.args.truths.now c.loop-number.number c.index-predicates-number.result _ c.args.out.now.items c.loop-number.out.items
    c.put_predicate.new.out.items less c.requires.as_many c.index-predicates-number.is
    (got_again c.args.truths.now c.args.predicates.now c.loop-number.number _ c.requires.as_many less)
    c.loop-number.invariant c.in_ok-put_predicate.ensures

pub returns : goal.returns
returns c =
    let ended = c.loop-number-test.false in
    let all : length c.args.predicates.now ≤ c.loop-number.number = omega (arith, ended) in
    lines_whole c.args.predicates.now c.args.truths.now c.loop-number.number c.args.out.now.items c.loop-number.out.items all c.loop-number.invariant
