use Rattle.std.proofs.Common.{◌∙◌, ap, sym, arith}
use Rattle.bg_seats.specs.Seating.{turn_of, list_of}
use Rattle.bg_seats.proofs.Lists.{same_heads}
use Rattle.bg_seats.proofs.Keeping.{joins_turn_at, compares_at, splits_turn_at, both_is}
use Rattle.bg_seats.proofs.steps.compare_with_history.Goals as goal

pub into_seat-requires : goal.into_seat-requires
into_seat-requires c = (turn_of c.args.passes (list_of c.args.turn.views), c.requires.turn)

pub join_seat-requires : goal.join_seat-requires
join_seat-requires c =
    let tables = c.requires.tables in
    let turn = c.into_seat.ensures in
    let one = tables.2 in
    let turn_is = same_heads _ _ (sym turn.2 ∙ c.requires.turn) in
    let joins = joins_turn_at _ c.args.worker c.args.seat.now.me.0.seen _ c.args.passes (list_of c.args.turn.views) c.args.seat.now.me.0 c.into_seat.result.me.0 (ap (λ me. me.0) c.requires.pass) turn_is in
    (tables.0, turn.0 ∙ tables.1, turn.3, omega arith, joins)

pub load-count-requires : goal.load-count-requires
load-count-requires c =
    let tables = c.requires.tables in
    let joined = c.join_seat.ensures in
    let one = tables.2 in
    let turn_is = same_heads _ _ (sym c.into_seat.ensures.2 ∙ c.requires.turn) in
    let both = both_is c.args.worker c.args.seat.now.me.0.seen c.args.passes (list_of c.args.turn.views) c.args.seat.now.me c.into_seat.result.me.0 c.join_seat.new.seat.me c.requires.pass turn_is joined.2 in
    (joined.0 ∙ tables.0, omega arith, compares_at _ _ c.args.worker c.args.seat.now.me.0.seen c.args.passes (list_of c.args.turn.views) c.join_seat.new.seat.me both)

pub split_seat-turn-requires : goal.split_seat-turn-requires
split_seat-turn-requires c =
    let tables = c.requires.tables in
    let joined = c.join_seat.ensures in
    let loaded = c.load-count.ensures in
    let one = tables.2 in
    let turn_is = same_heads _ _ (sym c.into_seat.ensures.2 ∙ c.requires.turn) in
    let both = both_is c.args.worker c.args.seat.now.me.0.seen c.args.passes (list_of c.args.turn.views) c.args.seat.now.me c.into_seat.result.me.0 c.join_seat.new.seat.me c.requires.pass turn_is joined.2 in
    let splits = splits_turn_at _ c.args.worker c.args.seat.now.me.0.seen c.args.passes (list_of c.args.turn.views) c.load-count.new.seat.me.0 (ap (λ me. me.0) loaded.2.0 ∙ ap (λ me. me.0) both) in
    (loaded.0 ∙ (joined.0 ∙ tables.0), omega arith, splits)
