use Rattle.std.proofs.Common.{◌≡◌, Result, Ok, Err, IsErrAnd, IsErrOf, ◌∙◌, ap, sym}
use Rattle.bg_rules.specs.declared.fault.ReactFault.{ReactFault}
use Rattle.bg_rules.specs.declared.fault.ReactFault.TheVariants.{Full}
use Rattle.bg_react.proofs.Reacted.{reacts_so, passes_so}
use Rattle.bg_react.proofs.reaction.reacted.Goals as goal

-- a fault that is passed on is the one that came
fault_there : {T : Type 0} (r : Result T ReactFault) (fault : ReactFault) → IsErrAnd r (λ given. given ≡ fault) → IsErrOf r Full → fault ≡ Full
fault_there (Ok x) fault given is = elim given [ ]
fault_there (Err e) fault given is = sym given ∙ (cc)

pub returns-in_err-after-clause-full : goal.returns-in_err-after-clause-full
returns-in_err-after-clause-full c =
    λ is. let same = fault_there _ _ c.from_residual-in_err-after.ensures.1 is in
    passes_so c.args.host.now c.args.rule.now c.big.result.now c.redex.result.now c.args.map.now c.in_ok-parts.parts.context c.in_ok-parts.parts.images
    c.in_ok-parts.parts.parameter c.big.ensures.kept c.redex.ensures.kept c.big.ensures.same c.redex.ensures.same c.in_ok-parts.ensures.decomposes
    (c.in_err-after.ensures.full (ap Err same))

pub returns-clause-reacts : goal.returns-clause-reacts
returns-clause-reacts c =
    reacts_so c.args.host.now c.in_ok-after.after c.args.rule.now c.big.result.now c.redex.result.now c.args.map.now c.in_ok-parts.parts.context
    c.in_ok-parts.parts.images c.in_ok-parts.parts.parameter c.big.ensures.kept c.redex.ensures.kept c.big.ensures.same c.redex.ensures.same
    c.in_ok-parts.ensures.decomposes c.in_ok-after.ensures.value
