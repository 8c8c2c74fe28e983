use Rattle.bg_place.proofs.AbsentLaws.{depth_in_region, depth_in_node}
use Rattle.bg_place.proofs.laws.depths_count_from_regions.Goals as goal

pub returns-clause-in_a_region : goal.returns-clause-in_a_region
returns-clause-in_a_region c = depth_in_region

pub returns-clause-in_a_node : goal.returns-clause-in_a_node
returns-clause-in_a_node c = depth_in_node
