use Rattle.bg_locality.proofs.TouchLaws.{touched_tell}
use Rattle.bg_locality.proofs.touched_nodes_tell.Goals as goal

pub returns : goal.returns
returns c =
    λ before after rule nodes gone changed changes numbered is_rule occurs reacts touched new_from told.
    touched_tell before after rule nodes gone changed changes numbered is_rule occurs reacts touched new_from told
