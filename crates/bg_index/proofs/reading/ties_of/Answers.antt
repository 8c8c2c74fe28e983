use Rattle.std.proofs.Common.{◌≡◌, ◌<◌, List, length, get_or, sym, ap, subst, ◌∙◌, arith}
use Rattle.bg_lists.specs.Lists.{At}
use Rattle.bg_lists.proofs.Places.{At-get_or, At-same}
use Rattle.bg_base.specs.declared.big.NodeRow.{NodeRow}
use Rattle.bg_base.specs.declared.names.Name.{Name}
use Rattle.bg_base.specs.declared.names.Link.{Link}
use Rattle.bg_index.specs.Readings.{AreFound, AreNoted}
use Rattle.bg_index.proofs.ReadingLaws.{found_step}
use Rattle.bg_index.proofs.reading.ties_of.Goals as goal

pub loop-at-preserved : goal.loop-at-preserved
loop-at-preserved c =
    let row = c.row-item.result in
    let stands = subst (λ (rows : List NodeRow). At row c.loop-at.at rows) c.deref-row-items.ensures
    (At-same (sym c.row-item.is) (At-get_or c.deref-row-items.result.now c.loop-at.at row c.loop-at-test.true)) in
    let inside = subst (λ n. c.loop-at.at < n) c.requires.as_many
    (subst (λ (rows : List NodeRow). c.loop-at.at < length rows) c.deref-row-items.ensures c.loop-at-test.true) in
    let numbered = At-get_or c.args.map.now c.loop-at.at 0 inside in (
      c.note_ports.ensures.many ∙ c.loop-at.invariant.0,
      λ host pattern local. found_step host c.args.redex.now c.args.map.now pattern local c.loop-at.at (get_or c.args.map.now c.loop-at.at 0) row
          c.loop-at.ties.items c.note_ports.new.ties.items stands numbered (c.loop-at.invariant.1 host pattern local)
          (subst (λ (outer : List Name). AreNoted outer row.links (get_or c.args.map.now c.loop-at.at 0) (length row.links) c.loop-at.ties.items c.note_ports.new.ties.items) c.deref.ensures
          (subst (λ (links : List Link). AreNoted c.deref.result.now links (get_or c.args.map.now c.loop-at.at 0) (length links) c.loop-at.ties.items c.note_ports.new.ties.items)
          c.as_slice.ensures.same c.note_ports.ensures)),
    )

pub returns : goal.returns
returns c = λ host pattern local.
    let ends = c.loop-at.auto.at-end in
    let past = c.loop-at-test.false in
    let all : c.loop-at.at ≡ length c.deref-row-items.result.now = omega (arith, ends, past) in
    subst (λ n. AreFound host c.args.redex.now c.args.map.now n c.loop-at.ties.items) (all ∙ ap length c.deref-row-items.ensures)
    (c.loop-at.invariant.1 host pattern local)
