use Rattle.std.proofs.Common.{arith, rules, FitsSigned, w64}
use Rattle.std.proofs.lemmas.Int.{to_z-of_z}
use Rattle.bg_values.proofs.Ranges.{number_whole}
use Rattle.bg_values.proofs.values.number_beyond.Goals as goal

pub returns : goal.returns
returns c =
    let bounds = c.args.bounds.now in
    let first : FitsSigned w64 bounds.first = search rules in
    let step : FitsSigned w64 bounds.step = search rules in
    number_whole bounds.first bounds.step c.args.steps c.from.result c.from-2.result c.from-3.result
    (grind (arith, to_z-of_z, c.from.ensures, first)) (grind (arith, c.from-2.ensures)) (grind (arith, to_z-of_z, c.from-3.ensures, step))
    (search rules) first step
