use Rattle.std.proofs.Common.{Ok, ap, sym, ◌∙◌, rules}
use Rattle.command_compose.proofs.Joined.{joined_whole, joined_fault}
use Rattle.command_compose.proofs.composition.join.Goals as goal

pub returns-in_err-compose-clause-exact : goal.returns-in_err-compose-clause-exact
returns-in_err-compose-clause-exact c =
    let clauses = c.in_err-compose.ensures in
    let told = joined_fault c.args.upper c.args.lower c.in_err-compose.field-0.0 clauses.faces clauses.supports clauses.no_other in
    search (rules, told)

pub returns-clause-exact : goal.returns-clause-exact
returns-clause-exact c =
    let clauses = c.in_ok-compose.ensures in
    joined_whole c.args.upper c.args.lower clauses.defined.0 clauses.defined.1 ∙ ap Ok (sym clauses.composed)
