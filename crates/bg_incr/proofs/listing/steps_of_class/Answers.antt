use Rattle.std.proofs.Common.{◌≡◌, length, rules, sym, subst}
use Rattle.bg_cond.specs.Found.{IsEnabledBelow}
use Rattle.bg_cond.specs.Steps.{AreFirst}
use Rattle.bg_cond.proofs.FirstSteps.{found_first, found_legal}
use Rattle.bg_incr.proofs.listing.steps_of_class.Goals as goal

pub loop-number-init : goal.loop-number-init
loop-number-init c =
    subst (λ steps. AreFirst c.args.most (IsEnabledBelow c.args.host.now c.args.rules.now c.args.class 0) steps) (sym c.new-steps.ensures.items)
    (found_first c.args.most c.args.host.now c.args.rules.now c.args.class)

pub returns : goal.returns
returns c =
    let all : c.loop-number.number ≡ length c.args.rules.now = search rules in
    found_legal c.args.most c.args.host.now c.args.rules.now c.args.class c.requires.first
    (subst (λ number. AreFirst c.args.most (IsEnabledBelow c.args.host.now c.args.rules.now c.args.class number) c.loop-number.steps.items) all
    c.loop-number.invariant)
