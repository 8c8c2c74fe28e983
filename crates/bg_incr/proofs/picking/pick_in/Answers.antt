use Rattle.std.proofs.Common.{◌<◌, None, List, take, refl, sym, subst, arith, ◌∙◌}
use Rattle.bg_lists.specs.Lists.{At}
use Rattle.bg_base.specs.declared.history.Step.{Step}
use Rattle.bg_cond.proofs.Picking.{picks}
use Rattle.bg_cond.specs.Drawn.{most_candidates}
use Rattle.bg_cond.specs.Picks.{picked}
use Rattle.bg_incr.specs.Picking.{steps_kept}
use Rattle.bg_incr.proofs.PickLaws.{At_take, first_kept, nil_of, take_within}
use Rattle.bg_incr.proofs.picking.pick_in.Goals as goal

pub returns-then-count-eq0-clause-picked : goal.returns-then-count-eq0-clause-picked
returns-then-count-eq0-clause-picked c =
    let candidates : List Step = take most_candidates (steps_kept c.args.class 0 c.args.rules.now c.args.lists.now) in
    picks (first_kept c.args._host.now c.args.rules.now c.args.lists.now c.requires.kept c.args.class c.requires.first) c.args.picker.now c.args.picker.now None
    (nil_of candidates (sym c.count_of-count.ensures ∙ c.if-count-eq0.true), refl)

pub step_at-requires-clause-inside : goal.step_at-requires-clause-inside
step_at-requires-clause-inside c =
    let below = c.in_ok-place.ensures.there in
    let count = c.count_of-count.ensures in
    let within = take_within most_candidates (steps_kept c.args.class 0 c.args.rules.now c.args.lists.now) in
    omega (arith, below, count, within)

pub returns-clause-picked : goal.returns-clause-picked
returns-clause-picked c =
    let all : List Step = steps_kept c.args.class 0 c.args.rules.now c.args.lists.now in
    let candidates : List Step = take most_candidates all in
    let are = first_kept c.args._host.now c.args.rules.now c.args.lists.now c.requires.kept c.args.class c.requires.first in
    let few = are.few in
    let below = c.in_ok-place.ensures.there in
    let count = c.count_of-count.ensures in
    let early : c.in_ok-place.place < most_candidates = omega (arith, below, count, few) in
    let at = At_take most_candidates all early c.in_ok-step.ensures in (
      record {
        candidates = candidates;
        are = are;
        at = subst (λ n. At c.in_ok-step.step (picked c.args.picker.now n) candidates) count
            (subst (λ n. At c.in_ok-step.step n candidates) c.in_ok-place.ensures.place at);
      },
      c.pick.ensures.state,
    )
