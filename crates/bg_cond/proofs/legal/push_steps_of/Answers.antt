use Rattle.std.proofs.Common.{◌≡◌, ◌<◌, ◌++◌, ◌∷◌, [], IsTrue, length, refl, rules, sym, subst}
use Rattle.bg_rules.specs.Decomposition.{Occurs}
use Rattle.bg_cond.specs.Conditions.{IsEnabled}
use Rattle.bg_cond.proofs.FirstSteps.{found_starts, found_occurs, found_ends, found_full, found_other, found_more}
use Rattle.bg_cond.proofs.legal.push_steps_of.Goals as goal

pub loop-alloc-init : goal.loop-alloc-init
loop-alloc-init g c =
    let host = g.H.NumberedHost.state c.args.host.now in
    let rule = c.args.rule.now in
    found_starts c.args.most host c.args._rules.now rule.class c.args.number rule c.requires.there (g.H.HostLookup.big c.args.host.now)
    c.redex.result.now c.keeps.ensures.same c.redex.ensures.same c.in_ok-walk.ensures.all c.requires.before

pub returns-in_default : goal.returns-in_default
returns-in_default g c =
    let host = g.H.NumberedHost.state c.args.host.now in
    let rule = c.args.rule.now in
    found_ends c.args.most host c.args._rules.now rule.class c.args.number rule c.requires.there c.loop-alloc.walk
    (rw c.in_default.is at c.in_ok-map.ensures.next).0 c.loop-alloc.invariant

pub is_enabled_at-requires-clause-occurs : goal.is_enabled_at-requires-clause-occurs
is_enabled_at-requires-clause-occurs g c =
    let host = g.H.NumberedHost.state c.args.host.now in
    let rule = c.args.rule.now in
    subst (λ nodes. Occurs host.big rule.redex nodes) (sym c.as_slice.ensures.same)
    (found_occurs c.args.most host c.args._rules.now rule.class c.args.number rule c.requires.there c.loop-alloc.walk c.next.new.self
    c.in-Some.map (rw c.in-Some.is at c.in_ok-map.ensures.next) c.loop-alloc.invariant)

pub loop-alloc-preserved-in-Continue-branch-5 : goal.loop-alloc-preserved-in-Continue-branch-5
loop-alloc-preserved-in-Continue-branch-5 g c =
    let host = g.H.NumberedHost.state c.args.host.now in
    let rule = c.args.rule.now in
    let room : length c.loop-alloc.steps.items < c.args.most = search rules in
    let pushed : c.push_step.new.steps.items ≡ c.loop-alloc.steps.items ++ record { rule = c.args.number; map = c.in-Some.map } ∷ [] = search rules in
    let yes : IsTrue c.in_ok-is_enabled_at.field-0 = search rules in
    let enabled = subst (λ nodes. IsEnabled host rule nodes) c.as_slice.ensures.same (c.in_ok-is_enabled_at.ensures.0 yes) in
    found_more c.args.most host c.args._rules.now rule.class c.args.number rule c.requires.there c.loop-alloc.walk c.next.new.self
    c.in-Some.map (rw c.in-Some.is at c.in_ok-map.ensures.next) enabled refl room pushed c.loop-alloc.invariant

pub loop-alloc-preserved : goal.loop-alloc-preserved
loop-alloc-preserved g c =
    let host = g.H.NumberedHost.state c.args.host.now in
    let rule = c.args.rule.now in
    let never : IsTrue c.in_ok-is_enabled_at.field-0 → ⊥ = search rules in
    found_other c.args.most host c.args._rules.now rule.class c.args.number rule c.requires.there c.loop-alloc.walk c.next.new.self
    c.in-Some.map (rw c.in-Some.is at c.in_ok-map.ensures.next)
    (λ e. never (c.in_ok-is_enabled_at.ensures.1 (subst (λ nodes. IsEnabled host rule nodes) (sym c.as_slice.ensures.same) e)))
    c.loop-alloc.invariant

pub returns : goal.returns
returns g c =
    let host = g.H.NumberedHost.state c.args.host.now in
    let rule = c.args.rule.now in
    let few = c.loop-alloc.invariant.first.few in
    let full : length c.loop-alloc.steps.items ≡ c.args.most = search (rules, few) in
    found_full c.args.most host c.args._rules.now rule.class c.args.number rule c.requires.there c.loop-alloc.walk full c.loop-alloc.invariant
