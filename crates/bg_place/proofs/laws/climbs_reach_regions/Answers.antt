use Rattle.bg_place.proofs.AncestryLaws.{whole_climb}
use Rattle.bg_place.proofs.laws.climbs_reach_regions.Goals as goal

pub returns : goal.returns
returns c = λ big valid node moves place is enough. whole_climb big valid node moves place is enough
