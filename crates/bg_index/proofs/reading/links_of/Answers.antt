use Rattle.std.proofs.Common.{◌<◌, List, length, sym, ap, subst, ◌∙◌}
use Rattle.bg_lists.specs.Lists.{Mem, At}
use Rattle.bg_lists.proofs.Places.{At-below, At-total}
use Rattle.bg_index.specs.declared.reading.Tie.{Tie}
use Rattle.bg_index.proofs.ReadingLaws.{tie_there, tie_link}
use Rattle.bg_index.proofs.reading.links_of.Goals as goal

pub links_at-requires : goal.links_at-requires
links_at-requires c =
    record {
      there = λ tie m. tie_there c.args.host.now.big c.args.redex.now c.args.map.now c.requires.host.numbered.ground.valid c.requires.pattern c.requires.meets
          c.in_ok-ties.ties.items (c.in_ok-ties.ensures c.args.host.now.big c.requires.pattern c.requires.meets) tie
          (subst (λ (xs : List Tie). Mem tie xs) c.deref.ensures.value m);
    }

pub returns-clause-many : goal.returns-clause-many
returns-clause-many c =
    let are = c.in_ok-ties.ensures c.args.host.now.big c.requires.pattern c.requires.meets in
    c.in_ok-links.ensures.many ∙ ap length c.deref.ensures.value ∙ are.many

pub returns-clause-are : goal.returns-clause-are
returns-clause-are c = λ i name link a b.
    let are = c.in_ok-ties.ensures c.args.host.now.big c.requires.pattern c.requires.meets in
    let w = At-total c.in_ok-ties.ties.items i (subst (λ n. i < n) (sym are.many) (At-below a)) in
    tie_link c.args.host.now.big c.args.redex.now c.args.map.now c.requires.host.numbered.ground.valid c.requires.pattern c.requires.meets
    c.in_ok-ties.ties.items are i name w.0 link a w.1
    (c.in_ok-links.ensures.are i w.0 link (subst (λ (xs : List Tie). At w.0 i xs) (sym c.deref.ensures.value) w.1) b)
