use Rattle.std.proofs.Common.{ap, subst, ◌∙◌}
use Rattle.std.specs.List.{AllZip}
use Rattle.bg_base.specs.declared.big.Big.{Big}
use Rattle.rayon.proofs.ToStd.{slice-AllZip}
use Rattle.command_run.proofs.Truths.{Answers, collected}
use Rattle.command_run.proofs.predicates.truths_of.Goals as goal

pub returns : goal.returns
returns g c =
    let made = c.in_ok-collect.ensures in
    let chain = rw c.map.ensures.f at made.1 in
    let slice = ap (λ it. it.base.slice.now) c.map.ensures.base ∙ ap (λ it. it.slice.now) c.with_min_len.ensures.base ∙ c.par_iter.ensures in
    let predicates = c.args.predicates.now in
    let each : AllZip (Answers c.in_ok-indexed.indexed) predicates made.0
    = slice-AllZip chain.0 predicates (chain.1 ∙ slice) (Answers c.in_ok-indexed.indexed) made.0 chain.2 in
    let same = c.in_ok-indexed.ensures ∙ c.big.ensures.same in
    collected c.args.host.now.big predicates made.0 _ (subst (λ (big : Big). AllZip (Answers big) predicates made.0) same each) made.2
