use Rattle.std.proofs.Common.{◌≡◌, ◌+◌, ◌++◌, List, ℕ, drop, get_or, refl, sym, subst}
use Rattle.bg_index.proofs.SpanLaws.{above_ascends, cut_more, cuts_done}
use Rattle.bg_index.specs.Spans.{spliced}
use Rattle.bg_index.proofs.spans.spliced.Goals as goal

pub loop-cut-preserved : goal.loop-cut-preserved
loop-cut-preserved c =
    let stand = c.args.stand.now in
    let cuts = c.args.cuts.now in
    let cut = get_or cuts c.loop-cut.cut-index 0 in
    record {
      so_far = subst (λ (rest : List ℕ). c.push_span.new.made.items ++ spliced stand (drop (c.loop-cut.cut-index + 1) cuts) rest ≡ spliced stand cuts c.args.numbers.now)
          (sym c.above-rest.ensures)
          (cut_more stand cuts c.loop-cut.cut-index cut c.loop-cut.made.items c.loop-cut.rest.now (spliced stand cuts c.args.numbers.now) c.push_span.new.made.items
          c.loop-cut-test.true refl c.loop-cut.invariant.so_far c.in_ok-push_span.ensures);
      ascending = above_ascends cut c.loop-cut.rest.now c.above-rest.result.now c.loop-cut.invariant.ascending c.above-rest.ensures;
    }

pub returns : goal.returns
returns c =
    cuts_done c.args.stand.now c.args.cuts.now c.loop-cut.cut-index c.loop-cut.made.items c.loop-cut.rest.now
    (spliced c.args.stand.now c.args.cuts.now c.args.numbers.now) c.extend_from_slice.new.self.items c.loop-cut-test.false c.loop-cut.invariant.so_far
    c.in_ok-extend_from_slice.ensures.items
