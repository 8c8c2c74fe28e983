use Rattle.command_replay.proofs.answer.judge_journal.Goals as goal

pub reply_of-requires : goal.reply_of-requires
reply_of-requires c = (c.args.journal.now, c.in_ok-replay.ensures)
