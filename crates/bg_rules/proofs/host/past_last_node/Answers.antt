use Rattle.std.proofs.Common.{◌≡◌, ◌+◌, sym, ap, ◌∙◌, arith}
use Rattle.std.specs.Option.{option_copied}
use Rattle.bg_base.specs.Translation.{node_numbers}
use Rattle.bg_rules.specs.Hosts.{past_largest}
use Rattle.bg_rules.proofs.Counters.{past_last_row}
use Rattle.bg_rules.proofs.host.past_last_node.Goals as goal

pub overflow_add-result : goal.overflow_add-result
overflow_add-result c =
    let is : c.in-Some.row.now.id + 1 ≡ past_largest (node_numbers c.args.rows.now) =
    past_last_row c.args.rows.now c.in-Some.row.now c.requires.ascending (sym c.last.ensures.value ∙ ap option_copied c.in-Some.is) in
    omega arith

pub returns-in-Some : goal.returns-in-Some
returns-in-Some c =
    past_last_row c.args.rows.now c.in-Some.row.now c.requires.ascending (sym c.last.ensures.value ∙ ap option_copied c.in-Some.is)
