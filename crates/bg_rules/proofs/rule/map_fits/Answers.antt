use Rattle.bg_rules.proofs.SideTests.{map_tested}
use Rattle.bg_rules.proofs.rule.map_fits.Goals as goal

pub returns-clause-test : goal.returns-clause-test
returns-clause-test c = map_tested c.args.redex.now c.args.reactum.now c.args.map.now c.leads_to_sites-fits.result c.leads_to_sites-fits.ensures
