use Rattle.bg_rules.proofs.SideTests.{sides_tested}
use Rattle.bg_rules.proofs.rule.sides_agree.Goals as goal

pub returns-clause-test : goal.returns-clause-test
returns-clause-test c = sides_tested c.args.redex.now c.args.reactum.now c.are_alike-agree.result c.are_alike-agree.ensures
