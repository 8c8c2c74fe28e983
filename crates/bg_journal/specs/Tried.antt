-- What becomes of a host at which an entry is tried.
use Rattle.std.specs.Prelude.{List, Option, None, Some}
use Rattle.bg_base.specs.declared.history.Step.{Step}
use Rattle.bg_cond.specs.Steps.{IsLegal, LeadsTo}
use Rattle.bg_journal.specs.Replays.{IsReason}
use Rattle.bg_journal.specs.declared.outcome.Why.{Why}
use Rattle.bg_rules.specs.Reaction.{HostState}
use Rattle.bg_rules.specs.Rules.{RuleParts}

-- the step is legal and leads from the host to the next one; or there is a reason why it is not taken at the host
abbrev pub IsTried : List RuleParts → HostState → Step → Option Why → HostState → Type 0
IsTried rules host step None next = IsLegal host rules step × LeadsTo host rules step next
IsTried rules host step (Some why) next = IsReason host rules step why
