use Rattle.std.proofs.Common.{◌≡◌, length, rules}
use Rattle.bg_cond.proofs.Picking.{at_place}
use Rattle.bg_cond.proofs.picker.Picker.choose.Goals as goal

pub returns : goal.returns
returns c =
    let count : c.len.result ≡ length c.args.candidates.items = search rules in
    (at_place c.args.self.now c.pick-place.result c.len.result count c.pick-place.ensures.place c.pick-place.ensures.there c.swap_remove.ensures.value, c.pick-place.ensures.state)
