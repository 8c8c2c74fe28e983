use Rattle.std.proofs.Common.{◌≡◌, ◌∙◌, ap, sym, arith}
use Rattle.bg_seats.specs.Seating.{list_of}
use Rattle.bg_seats.proofs.Lists.{same_heads}
use Rattle.bg_seats.proofs.Keeping.{joins_turn_at, records_at, splits_turn_at, both_is, all_seen}
use Rattle.bg_seats.proofs.steps.record_entry.Goals as goal

pub join_seat-requires : goal.join_seat-requires
join_seat-requires g c =
    let tables = c.requires.tables in
    let turn = c.into_seat.ensures in
    let one = tables.2 in
    let turn_is = same_heads _ _ (sym turn.2 ∙ c.requires.turn) in
    let joins = joins_turn_at _ c.args.worker (list_of c.args.turn.views) _ c.args.passes (list_of c.args.turn.views) c.args.seat.now.me.0 c.into_seat.result.me.0 (ap (λ me. me.0) c.requires.pass) turn_is in
    (tables.0, turn.0 ∙ tables.1, turn.3, omega arith, joins)

pub fetch_add-count-requires : goal.fetch_add-count-requires
fetch_add-count-requires g c =
    let tables = c.requires.tables in
    let joined = c.join_seat.ensures in
    let entry = c.requires.entry in
    let one = tables.2 in
    let turn_is = same_heads _ _ (sym c.into_seat.ensures.2 ∙ c.requires.turn) in
    let both = both_is c.args.worker (list_of c.args.turn.views) c.args.passes (list_of c.args.turn.views) c.args.seat.now.me c.into_seat.result.me.0 c.join_seat.new.seat.me c.requires.pass turn_is joined.2 in
    let by : g.E.EntryName.entry.worker ≡ c.args.worker = ap (λ x. x.worker) (sym entry.0) ∙ entry.1 in
    (joined.0 ∙ tables.0, omega arith, records_at _ _ c.args.worker c.args.passes (list_of c.args.turn.views) g.E.EntryName.entry c.join_seat.new.seat.me by entry.2 both)

pub split_seat-turn-requires : goal.split_seat-turn-requires
split_seat-turn-requires g c =
    let tables = c.requires.tables in
    let joined = c.join_seat.ensures in
    let added = c.fetch_add-count.ensures in
    let one = tables.2 in
    let turn_is = same_heads _ _ (sym c.into_seat.ensures.2 ∙ c.requires.turn) in
    let both = both_is c.args.worker (list_of c.args.turn.views) c.args.passes (list_of c.args.turn.views) c.args.seat.now.me c.into_seat.result.me.0 c.join_seat.new.seat.me c.requires.pass turn_is joined.2 in
    let all = all_seen c.args.worker c.args.passes (list_of c.args.turn.views) g.E.EntryName.entry c.join_seat.new.seat.me c.fetch_add-count.new.seat.me both added.2.0 in
    (added.0 ∙ (joined.0 ∙ tables.0), omega arith, splits_turn_at _ c.args.worker _ c.args.passes _ c.fetch_add-count.new.seat.me.0 (ap (λ me. me.0) all))
