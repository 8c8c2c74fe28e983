use Rattle.std.proofs.lemmas.List.Filters.{dedup_is}
use Rattle.bg_base.specs.contracts.names.PlacePartialEq.TheImpl as of_place
use Rattle.bg_base.specs.contracts.names.PlaceEq.TheImpl.Laws as of_places
use Rattle.bg_index.proofs.SetLaws.{same_members, places_told}
use Rattle.bg_index.proofs.sets.place_set.Goals as goal

pub returns : goal.returns
returns c =
    same_members of_places.laws-law places_told c.args.places.items c.sort_unstable.new.self.items c.dedup.new.self.items c.sort_unstable.ensures.permutation
    (dedup_is of_place.ghosts.eq c.sort_unstable.new.self.items c.dedup.new.self.items c.dedup.ensures.filtered)
