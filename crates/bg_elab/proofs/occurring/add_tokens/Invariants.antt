use Rattle.std.proofs.Common.{◌≡◌, ◌-◌}
use Rattle.bg_base.specs.Elementary.{counted}
use Rattle.bg_elab.specs.References.{with_tokens}
use Rattle.bg_elab.proofs.occurring.add_tokens.Given as goal

abbrev pub invariant-loop-token : goal.invariant-loop-token
invariant-loop-token l =
    with_tokens l.text l.parameters (counted l.from (l.to - l.from)) l.initial.found ≡ with_tokens l.text l.parameters (counted l.token (l.to - l.token)) l.found
