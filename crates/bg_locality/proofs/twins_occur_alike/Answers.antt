-- A twin is a pattern, occurs alike, and has its occurrences with a first image.
use Rattle.bg_locality.proofs.TwinLaws.{occurs_renumbered, occurs_numbered_back}
use Rattle.bg_locality.proofs.TwinPatterns.{twin_pattern}
use Rattle.bg_locality.proofs.Anchoring.{all_with}
use Rattle.bg_locality.proofs.twins_occur_alike.Goals as goal

pub returns-clause-pattern : goal.returns-clause-pattern
returns-clause-pattern c = λ pattern numbers is new. twin_pattern pattern numbers is new

pub returns-clause-occurs : goal.returns-clause-occurs
returns-clause-occurs c =
    λ host pattern numbers nodes others is new nodes_new others_new same. (
      λ o. occurs_renumbered host pattern numbers is.valid new nodes others nodes_new others_new same o,
      λ o. occurs_numbered_back host pattern numbers is.valid new nodes others nodes_new others_new same o,
    )

pub returns-clause-anchored : goal.returns-clause-anchored
returns-clause-anchored c =
    λ host pattern numbers place node maps ground is new first found. all_with host pattern numbers place is new first node maps found
