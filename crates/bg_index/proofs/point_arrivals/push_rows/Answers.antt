use Rattle.std.proofs.Common.{List, ◌++◌, take, map, ap, sym, ◌∙◌, append_assoc}
use Rattle.bg_base.specs.declared.names.Link.{Link}
use Rattle.bg_link.specs.Links.{ports_from}
use Rattle.bg_index.specs.Arrivals.{arrived, arrived_from}
use Rattle.bg_index.proofs.ArrivalLaws.{arrived_more}
use Rattle.bg_index.proofs.point_arrivals.push_rows.Goals as goal

pub loop-row-preserved : goal.loop-row-preserved
loop-row-preserved c =
    let outer = c.args.host.now.big.outer in
    let row = c.row-item.result in
    let before = c.args.made.now.items in
    let front = arrived_from outer (take c.loop-row.row-index c.args.rows.now) in
    let own = map (arrived outer) (ports_from row.id 0 row.links) in
    c.in_ok-push_ports.ensures
    ∙ ap (λ (links : List Link). c.loop-row.made.items ++ map (arrived outer) (ports_from row.id 0 links)) c.as_slice.ensures.same
    ∙ ap (λ xs. xs ++ own) c.loop-row.invariant
    ∙ append_assoc before front own
    ∙ ap (λ xs. before ++ xs) (sym (arrived_more outer c.args.rows.now c.loop-row.row-index row c.loop-row-test.true c.row-item.is))
