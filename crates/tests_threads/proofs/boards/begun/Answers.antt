use Rattle.std.proofs.Common.{List, subst, sym, ◌∙◌}
use Rattle.bg_base.specs.declared.history.Entry.{Entry}
use Rattle.bg_cond.specs.Steps.{IsRun, ended}
use Rattle.tests_threads.proofs.boards.begun.Goals as goal

pub returns-clause-run : goal.returns-clause-run
returns-clause-run c =
    subst (λ (xs : List Entry). IsRun c.args.board.now.system.rules c.args.board.now.system.init xs c.in_ok-copy.field-0)
    (sym (c.in_ok-try_from_vec.ensures.same ∙ c.new.ensures.items)) (ended (c.in_ok-copy.ensures ∙ c.init.ensures.same))
