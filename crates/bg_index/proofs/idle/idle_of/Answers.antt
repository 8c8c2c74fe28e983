use Rattle.std.proofs.Common.{List, filter, nat_cmp, sym, ap, subst, ◌∙◌}
use Rattle.std.specs.List.Sorted.{IsStrictlySortedBy}
use Rattle.bg_lists.specs.Orders.{set_of}
use Rattle.bg_base.specs.declared.names.Link.{Link}
use Rattle.bg_rewriting.specs.Making.{AreIdle}
use Rattle.bg_index.specs.Readings.{boundary_of}
use Rattle.bg_index.specs.Tied.{edges_named_by, is_left_idle}
use Rattle.bg_index.proofs.IdleLaws.{set_sorted, gone_there, idle_ascends, idle_are}
use Rattle.bg_index.proofs.idle.idle_of.Goals as goal

pub edges_on-requires : goal.edges_on-requires
edges_on-requires c =
    record { there = gone_there c.args.host.now c.args.rule.now c.args.map.now c.args.reading.now c.requires.read c.args.gone.now c.requires.gone_are }

pub left_idle-idle-requires-clause-named_ascends : goal.left_idle-idle-requires-clause-named_ascends
left_idle-idle-requires-clause-named_ascends c =
    subst (IsStrictlySortedBy nat_cmp) (sym (c.deref-2.ensures.value ∙ c.number_set.ensures.set)) (set_sorted c.in_ok-named.named.items)

pub returns-clause-ascending : goal.returns-clause-ascending
returns-clause-ascending c =
    let rule = c.args.rule.now in
    let host = c.args.host.now.big in
    let named = c.deref-2.ensures.value ∙ c.number_set.ensures.set
    ∙ ap (set_of nat_cmp) (c.in_ok-named.ensures ∙ ap (λ (ls : List Link). edges_named_by rule.reactum.outer ls rule.reactum.nodes) c.deref.ensures.value) in
    let edges = c.number_set-2.ensures.set ∙ ap (set_of nat_cmp) c.in_ok-edges.ensures in
    let whole = c.left_idle-idle.ensures
    ∙ (λ t. filter (is_left_idle host (named t) c.args.gone.now) (edges t)) in
    subst (IsStrictlySortedBy nat_cmp) (sym whole)
    (idle_ascends c.args.host.now rule c.args.map.now c.args.reading.now c.requires.read c.args.gone.now c.requires.gone_are)

pub returns-clause-idle : goal.returns-clause-idle
returns-clause-idle c =
    let rule = c.args.rule.now in
    let host = c.args.host.now.big in
    let named = c.deref-2.ensures.value ∙ c.number_set.ensures.set
    ∙ ap (set_of nat_cmp) (c.in_ok-named.ensures ∙ ap (λ (ls : List Link). edges_named_by rule.reactum.outer ls rule.reactum.nodes) c.deref.ensures.value) in
    let edges = c.number_set-2.ensures.set ∙ ap (set_of nat_cmp) c.in_ok-edges.ensures in
    let whole = c.left_idle-idle.ensures
    ∙ (λ t. filter (is_left_idle host (named t) c.args.gone.now) (edges t)) in
    subst (AreIdle host rule c.args.map.now (boundary_of c.args.reading.now)) (sym whole)
    (idle_are c.args.host.now rule c.args.map.now c.args.reading.now c.requires.read c.args.gone.now c.requires.gone_are)
