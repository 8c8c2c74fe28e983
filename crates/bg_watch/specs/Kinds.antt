-- The kinds of watchers, as they are seen.
use Rattle.bg_watch.specs.declared.budget.Budget.{Budget}
use Rattle.bg_watch.specs.declared.last_rule.LastRule.{LastRule}
use Rattle.bg_watch.specs.declared.peak.Peak.{Peak}
use Rattle.bg_watch.specs.declared.tally.Tally.{Tally}
use Rattle.bg_watch.specs.Watching.{Watched, tally, last_rule, peak, budget}

abbrev pub tally_state : Tally → Watched
tally_state watcher = tally watcher.count

abbrev pub last_rule_state : LastRule → Watched
last_rule_state watcher = last_rule watcher.rule

abbrev pub peak_state : Peak → Watched
peak_state watcher = peak watcher.nodes

abbrev pub budget_state : Budget → Watched
budget_state watcher = budget watcher.most watcher.count
