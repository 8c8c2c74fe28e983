use Rattle.std.proofs.Common.{IsTrue, rules, sym, subst}
use Rattle.bg_rules.specs.Decomposition.{Occurs}
use Rattle.bg_cond.specs.Conditions.{IsEnabled}
use Rattle.bg_cond.proofs.Seeking.{try_starts, try_occurs, try_next, try_none}
use Rattle.bg_cond.proofs.enabling.is_enabled_by.Goals as goal

pub loop-walk-init : goal.loop-walk-init
loop-walk-init g c =
    let host = g.H.NumberedHost.state c.args.host.now in
    try_starts host c.args.rule.now (g.H.HostLookup.big c.args.host.now) c.redex.result.now c.keeps.ensures.same c.redex.ensures.same c.in_ok-walk.ensures.all

pub is_enabled_at-requires-clause-occurs : goal.is_enabled_at-requires-clause-occurs
is_enabled_at-requires-clause-occurs g c =
    let host = g.H.NumberedHost.state c.args.host.now in
    subst (λ nodes. Occurs host.big c.args.rule.now.redex nodes) (sym c.as_slice.ensures.same)
    (try_occurs host c.args.rule.now c.loop-walk.walk c.next.new.self c.in-Some.map (rw c.in-Some.is at c.in_ok-map.ensures.next)
    c.loop-walk.invariant)

pub loop-walk-preserved : goal.loop-walk-preserved
loop-walk-preserved g c =
    let host = g.H.NumberedHost.state c.args.host.now in
    let never : IsTrue c.in_ok-is_enabled_at.field-0 → ⊥ = search rules in
    try_next host c.args.rule.now c.loop-walk.walk c.next.new.self c.in-Some.map (rw c.in-Some.is at c.in_ok-map.ensures.next)
    (λ e. never (c.in_ok-is_enabled_at.ensures.1 (subst (λ nodes. IsEnabled host c.args.rule.now nodes) (sym c.as_slice.ensures.same) e)))
    c.loop-walk.invariant

pub returns : goal.returns
returns g c = (
  λ no. search rules,
  λ s. absurd (try_none (g.H.NumberedHost.state c.args.host.now) c.args.rule.now c.loop-walk.walk (rw c.in_default.is at c.in_ok-map.ensures.next).0 c.loop-walk.invariant s),
)
