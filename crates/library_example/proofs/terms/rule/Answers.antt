use Rattle.library_example.proofs.Rows.{is_numbered}
use Rattle.library_example.proofs.terms.rule.Goals as goal

pub new-requires-2-clause-reactum_numbered : goal.new-requires-2-clause-reactum_numbered
new-requires-2-clause-reactum_numbered c = is_numbered c.in_ok-reactum.reactum c.in_ok-reactum.ensures.value
