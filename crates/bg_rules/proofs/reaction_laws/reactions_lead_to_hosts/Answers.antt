use Rattle.bg_rules.proofs.Kept.{result_is_host}
use Rattle.bg_rules.proofs.reaction_laws.reactions_lead_to_hosts.Goals as goal

pub returns : goal.returns
returns c = λ before rule nodes after is_host is_rule r within. result_is_host before rule nodes after r is_host is_rule within
