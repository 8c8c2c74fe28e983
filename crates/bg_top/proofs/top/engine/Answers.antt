use Rattle.std.proofs.Common.{rules}
use Rattle.bg_top.proofs.Ends.{words_from, long_from, refused_from, much_from, no_run_from, statuses_from, written_from, complete_from, untold_from}
use Rattle.bg_top.proofs.Right.{ended_right}
use Rattle.bg_top.proofs.top.engine.Goals as goal

pub returns-clause-wrong_words : goal.returns-clause-wrong_words
returns-clause-wrong_words g c = words_from _ _ _ _ _ _ _ _ _ _ _ (ended_right _ _ _ _ _ _ _ _ _ _ _ _ c.run.ensures.ended)

pub returns-clause-too_long : goal.returns-clause-too_long
returns-clause-too_long g c = long_from _ _ _ _ _ _ _ _ _ _ _ (ended_right _ _ _ _ _ _ _ _ _ _ _ _ c.run.ensures.ended)

pub returns-clause-refused : goal.returns-clause-refused
returns-clause-refused g c = refused_from _ _ _ _ _ _ _ _ _ _ _ (ended_right _ _ _ _ _ _ _ _ _ _ _ _ c.run.ensures.ended)

pub returns-clause-too_many : goal.returns-clause-too_many
returns-clause-too_many g c = much_from _ _ _ _ _ _ _ _ _ _ _ (ended_right _ _ _ _ _ _ _ _ _ _ _ _ c.run.ensures.ended)

pub returns-clause-no_run : goal.returns-clause-no_run
returns-clause-no_run g c = no_run_from _ _ _ _ _ _ _ _ _ _ _ (ended_right _ _ _ _ _ _ _ _ _ _ _ _ c.run.ensures.ended)

pub returns-clause-statuses : goal.returns-clause-statuses
returns-clause-statuses g c = statuses_from _ _ _ _ _ _ _ _ _ _ _ (ended_right _ _ _ _ _ _ _ _ _ _ _ _ c.run.ensures.ended)

pub returns-clause-written : goal.returns-clause-written
returns-clause-written g c = written_from _ _ _ _ _ _ _ _ _ _ _ (ended_right _ _ _ _ _ _ _ _ _ _ _ _ c.run.ensures.ended)

pub returns-clause-complete : goal.returns-clause-complete
returns-clause-complete g c = complete_from _ _ _ _ _ _ _ _ _ _ _ (ended_right _ _ _ _ _ _ _ _ _ _ _ _ c.run.ensures.ended)

pub returns-clause-untold : goal.returns-clause-untold
returns-clause-untold g c = untold_from _ _ _ _ _ _ _ _ _ _ _ _ (search rules) c.run.ensures.ended
