use Rattle.bg_cond.proofs.DrawnRuns.{quiet_none, none_quiet}
use Rattle.bg_cond.proofs.laws.quiet_hosts_have_no_step.Goals as goal

pub returns : goal.returns
returns c = λ host rules. (quiet_none host rules, none_quiet host rules)
