use Rattle.std.proofs.Common.{◌∙◌, ◌==◌, not, length, sym, ap, eq-eqb, eqb-true}
use Rattle.std.proofs.lemmas.Bool.{false_from_ne_true}
use Rattle.bg_rules.proofs.SolidCounts.{child_in_region}
use Rattle.bg_rules.proofs.SolidLaws.{filled_next, not_filled}
use Rattle.bg_rules.proofs.solid_indexed.are_filled.Goals as goal

pub returns-then-children-eq0 : goal.returns-then-children-eq0
returns-then-children-eq0 c =
    let big = c.args.big.now in
    let child = child_in_region big c.args.forest.now c.loop-region.region c.children.result.now c.requires.places c.children.ensures.exact in
    sym (not_filled big big.regions c.loop-region.region c.loop-region-test.true (child ∙ ap not (eq-eqb (length c.children.result.now) 0 c.if-children-eq0.true)))

pub loop-region-preserved : goal.loop-region-preserved
loop-region-preserved c =
    let big = c.args.big.now in
    let child = child_in_region big c.args.forest.now c.loop-region.region c.children.result.now c.requires.places c.children.ensures.exact in
    filled_next big c.loop-region.region c.loop-region.invariant
    (child ∙ ap not (false_from_ne_true (length c.children.result.now == 0) (λ e. c.if-children-eq0.false (eqb-true (length c.children.result.now) 0 e))))
