use Rattle.std.proofs.Common.{sym, ◌∙◌}
use Rattle.std.proofs.lemmas.Bool.{false≢true}
use Rattle.bg_cond.specs.Sides.{HoldsInHost}
use Rattle.bg_cond.proofs.Upto.{item_at, upto_next, upto_all}
use Rattle.bg_cond.proofs.holding.first_unmet_beside.Goals as goal

pub returns-then-not-branch : goal.returns-then-not-branch
returns-then-not-branch g c =
    record {
      condition = c.index-conditions-number.result;
      at = item_at c.args.conditions.now c.loop-number.number c.index-conditions-number.result c.loop-number-test.true c.index-conditions-number.is;
      fails = λ h. false≢true (sym c.if-not-branch.true ∙ c.in_ok-holds.ensures.1 h);
      before = λ earlier other a less. c.loop-number.invariant.upto earlier other a less;
    }

pub loop-number-preserved : goal.loop-number-preserved
loop-number-preserved g c =
    upto_next (HoldsInHost (g.H.HostLookup.big c.args.host.now) c.args.images.now) c.args.conditions.now c.loop-number.number c.index-conditions-number.result
    c.loop-number-test.true c.index-conditions-number.is (c.in_ok-holds.ensures.0 c.if-not-branch.false) c.loop-number.invariant

pub returns : goal.returns
returns g c =
    upto_all (HoldsInHost (g.H.HostLookup.big c.args.host.now) c.args.images.now) c.args.conditions.now c.loop-number.number c.loop-number-test.false c.loop-number.invariant
