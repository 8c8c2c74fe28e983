use Rattle.std.proofs.Common.{◌∙◌, ap, sym, arith}
use Rattle.bg_seats.specs.Seating.{turn_of, list_of}
use Rattle.bg_seats.proofs.Lists.{same_heads}
use Rattle.bg_seats.proofs.Keeping.{joins_ended_at, ends_at, both_ended, me_is}
use Rattle.bg_seats.proofs.steps.take_in_pass.Goals as goal

pub join_seat-requires : goal.join_seat-requires
join_seat-requires c =
    let tables = c.requires.tables in
    let turn = c.into_seat-both.ensures in
    let one = tables.2 in
    let turn_is = same_heads _ _ (sym turn.2 ∙ c.requires.turn) in
    let joins = joins_ended_at _ c.args.passes (list_of c.args.turn.views) _ c.args.worker c.args.seat.me.0.seen c.into_seat-both.result.me.0 c.args.seat.me.0 turn_is (ap (λ me. me.0) c.requires.pass) in
    (turn.0 ∙ tables.1, tables.0, ap (λ me. me.1) c.requires.pass, omega arith, joins)

pub load-requires : goal.load-requires
load-requires c =
    let tables = c.requires.tables in
    let turn = c.into_seat-both.ensures in
    let joined = c.join_seat.ensures in
    let one = tables.2 in
    let turn_is = me_is c.into_seat-both.result.me (turn_of c.args.passes (list_of c.args.turn.views)) (same_heads _ _ (sym turn.2 ∙ c.requires.turn)) turn.3 in
    let both = both_ended c.args.worker c.args.seat.me.0.seen c.args.passes (list_of c.args.turn.views) c.into_seat-both.result.me c.args.seat.me.0 c.join_seat.new.seat.me turn_is (ap (λ me. me.0) c.requires.pass) joined.2 in
    (joined.0 ∙ (turn.0 ∙ tables.1), omega arith, ends_at _ _ c.args.worker c.args.seat.me.0.seen c.args.passes (list_of c.args.turn.views) c.join_seat.new.seat.me both)
