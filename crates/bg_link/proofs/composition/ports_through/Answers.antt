use Rattle.std.proofs.Common.{map, sym, ap, subst, ◌∙◌}
use Rattle.std.specs.List.Sorted.{IsStrictlySortedBy}
use Rattle.bg_link.specs.Links.{port_row, ports_through}
use Rattle.bg_link.specs.Rows.{port_cmp}
use Rattle.bg_link.proofs.PortLaws.{ports_ascend, through_ascend}
use Rattle.bg_link.proofs.composition.ports_through.Goals as goal

pub merged-requires-clause-first_ascends : goal.merged-requires-clause-first_ascends
merged-requires-clause-first_ascends c =
    subst (IsStrictlySortedBy port_cmp) (sym (c.in_ok-upper.ensures ∙ ap (λ rows. map port_row rows) c.deref.ensures))
    (ports_ascend c.args.g.now.nodes c.requires.g_ascends)

pub merged-requires-clause-second_ascends : goal.merged-requires-clause-second_ascends
merged-requires-clause-second_ascends c =
    subst (IsStrictlySortedBy port_cmp) (sym (c.in_ok-lower.ensures ∙ ap (λ rows. map (ports_through c.args.g.now) rows) c.deref-2.ensures))
    (through_ascend c.args.g.now c.args.f.now.nodes c.requires.f_ascends)
