use Rattle.command_run.proofs.Texts.{finished_run, finished_text}
use Rattle.command_run.proofs.text.text_of.Goals as goal

pub text_of_run-requires-clause-run : goal.text_of_run-requires-clause-run
text_of_run-requires-clause-run g c =
    finished_run c.args.system c.args.most c.args.workers c.args.seed c.in_ok-finished.finished c.in_ok-finished.ensures

pub returns-clause-text : goal.returns-clause-text
returns-clause-text g c =
    finished_text c.args.system c.args.most c.args.workers c.args.seed c.in_ok-finished.finished c.in_ok-finished.ensures _ _ c.in_ok-text.text.items
    c.in_ok-text.ensures.text
