use Rattle.command_replay.proofs.Answering.{used_within, told_behind, told_bad}
use Rattle.command_replay.proofs.answer.answer.Goals as goal

pub split_at-requires : goal.split_at-requires
split_at-requires c = used_within c.in-Ok.ensures.read

pub returns-in-Ok : goal.returns-in-Ok
returns-in-Ok c = told_behind _ _ c.in-Ok.ensures.read c.split_at.ensures.back c.judge_journal.ensures

pub returns-in_ok-reply-in-Err-Bad : goal.returns-in_ok-reply-in-Err-Bad
returns-in_ok-reply-in-Err-Bad c = told_bad c.in_ok-reply-in-Err-Bad.reply (rw c.in-Err-Bad.field-0-is at c.in-Err-Bad.ensures.bad) c.in_ok-reply-in-Err-Bad.ensures
