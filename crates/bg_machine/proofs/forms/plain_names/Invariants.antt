use Rattle.std.proofs.Common.{◌≡◌, ◌++◌, drop}
use Rattle.bg_terms.specs.Values.{plain_names}
use Rattle.bg_machine.proofs.forms.plain_names.Given as goal

abbrev pub invariant-loop-word : goal.invariant-loop-word
invariant-loop-word l = plain_names l.words ≡ l.made.items ++ plain_names (drop l.word-index l.words)
