use Rattle.std.proofs.Common.{◌≡◌, ◌++◌, take}
use Rattle.bg_index.specs.Telling.{names_told}
use Rattle.bg_index.proofs.causes.tell_names.Given as goal

abbrev pub invariant-loop-at : goal.invariant-loop-at
invariant-loop-at l = l.relinked.items ≡ l.initial.relinked.items ++ names_told l.host.big (take l.at-index l.names)
