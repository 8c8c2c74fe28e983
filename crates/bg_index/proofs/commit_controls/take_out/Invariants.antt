use Rattle.std.proofs.Common.{take}
use Rattle.bg_index.specs.Commits.{AreFrom, IsLessened, control_key}
use Rattle.bg_index.proofs.commit_controls.take_out.Given as goal

abbrev pub invariant-loop-node : goal.invariant-loop-node
invariant-loop-node l = AreFrom control_key (IsLessened l.gone (take l.node-index l.gone)) l.initial.controls.items l.controls.items
