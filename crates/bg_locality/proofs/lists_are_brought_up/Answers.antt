use Rattle.bg_locality.proofs.Bringing.{gathered, brought_up}
use Rattle.bg_locality.proofs.lists_are_brought_up.Goals as goal

pub returns-clause-gathered : goal.returns-clause-gathered
returns-clause-gathered c = λ after pattern changes anchors maps ground is are from. gathered after pattern changes anchors maps ground is are from

pub returns-clause-brought_up : goal.returns-clause-brought_up
returns-clause-brought_up c =
    λ stale within before after pattern old found new settles was come brought.
    brought_up stale within before after pattern old found new settles was come brought
