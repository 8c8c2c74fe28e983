use Rattle.std.proofs.Common.{◌≡◌, ◌+◌, sym, ap, ◌∙◌, arith}
use Rattle.std.specs.Option.{option_copied}
use Rattle.bg_rules.specs.Hosts.{past_largest}
use Rattle.bg_rules.proofs.Counters.{past_last}
use Rattle.bg_rules.proofs.host.past_last_edge.Goals as goal

pub overflow_add-result : goal.overflow_add-result
overflow_add-result c =
    let is : c.in-Some.edge.now + 1 ≡ past_largest c.args.edges.now =
    past_last c.args.edges.now c.in-Some.edge.now c.requires.ascending (sym c.last.ensures.value ∙ ap option_copied c.in-Some.is) in
    omega arith

pub returns-in-Some : goal.returns-in-Some
returns-in-Some c =
    past_last c.args.edges.now c.in-Some.edge.now c.requires.ascending (sym c.last.ensures.value ∙ ap option_copied c.in-Some.is)
