use Rattle.std.proofs.Common.{◌≡◌, sym, arith, ap, ◌∙◌}
use Rattle.bg_seats.proofs.Keeping.{loads_at}
use Rattle.bg_seats.proofs.table.HistoryTable.load.Goals as goal

pub load-requires : goal.load-requires
load-requires c =
    let pass = c.pass.inside in
    let one = c.self.invariant in
    let table : pass.seat.table_id ≡ c.self.inside.table.shared.table_id = ap (λ view. view.table) c.pass.view_is ∙ (c.requires ∙ sym c.self.view_is) in
    (table, omega arith, loads_at _ _ pass.worker pass.seat.me.0.seen pass.seat.me c.pass.invariant)
