use Rattle.std.proofs.Common.{IsTrue, rules, refl}
use Rattle.bg_cond.specs.Sides.{HoldsInHost}
use Rattle.bg_cond.proofs.Upto.{upto_next, upto_all}
use Rattle.bg_cond.proofs.ListLaws.{list_there}
use Rattle.bg_cond.proofs.holding.all_hold_beside.Goals as goal

pub holds_by-requires-clause-list : goal.holds_by-requires-clause-list
holds_by-requires-clause-list g c =
    list_there (g.H.HostLookup.big c.args.host.now) c.args.conditions.now c.loop-number.number c.index-conditions-number.result c.index-lists-number.result
    c.args.lists.now c.loop-number-test.true c.index-conditions-number.is c.index-lists-number.is c.requires.lists

pub loop-number-preserved : goal.loop-number-preserved
loop-number-preserved g c =
    let holds : IsTrue c.in_ok-holds_by.field-0 = search rules in
    upto_next (HoldsInHost (g.H.HostLookup.big c.args.host.now) c.args.images.now) c.args.conditions.now c.loop-number.number c.index-conditions-number.result
    c.loop-number-test.true c.index-conditions-number.is (c.in_ok-holds_by.ensures.0 holds) c.loop-number.invariant

pub returns : goal.returns
returns g c = (
  λ _. upto_all (HoldsInHost (g.H.HostLookup.big c.args.host.now) c.args.images.now) c.args.conditions.now c.loop-number.number c.loop-number-test.false
      c.loop-number.invariant,
  λ _. refl,
)
