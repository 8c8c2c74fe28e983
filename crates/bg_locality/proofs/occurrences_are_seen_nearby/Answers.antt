use Rattle.bg_locality.proofs.Nearby.{seen_back, nearby_there}
use Rattle.bg_locality.proofs.Clearing.{clear_in_one, local_there, local_back, occurs_there, occurs_back}
use Rattle.bg_locality.proofs.occurrences_are_seen_nearby.Goals as goal

pub returns-clause-nearby : goal.returns-clause-nearby
returns-clause-nearby c =
    λ before after pattern nodes before_valid after_valid is seen. (
      λ near. nearby_there before after pattern nodes before_valid after_valid is seen near,
      λ near. nearby_there after before pattern nodes after_valid before_valid is (seen_back seen) near,
    )

pub returns-clause-one_region : goal.returns-clause-one_region
returns-clause-one_region c = λ host pattern nodes valid is one near. clear_in_one host pattern nodes valid is one near

pub returns-clause-local : goal.returns-clause-local
returns-clause-local c =
    λ before after pattern nodes before_valid after_valid is seen steady. (
      λ local. local_there before after pattern nodes before_valid after_valid is seen steady local,
      λ local. local_back before after pattern nodes before_valid after_valid is seen steady local,
    )

pub returns-clause-occurs : goal.returns-clause-occurs
returns-clause-occurs c =
    λ before after pattern nodes before_ground after_ground is seen steady. (
      λ occurs. occurs_there before after pattern nodes before_ground after_ground is seen steady occurs,
      λ occurs. occurs_back before after pattern nodes before_ground after_ground is seen steady occurs,
    )
