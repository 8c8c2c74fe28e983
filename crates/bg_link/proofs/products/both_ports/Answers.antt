use Rattle.std.proofs.Common.{map, sym, ap, subst, ◌∙◌}
use Rattle.std.specs.List.Sorted.{IsStrictlySortedBy}
use Rattle.bg_link.specs.Links.{port_row}
use Rattle.bg_link.specs.Rows.{port_cmp}
use Rattle.bg_link.proofs.PortLaws.{ports_ascend}
use Rattle.bg_link.proofs.products.both_ports.Goals as goal

pub merged-requires-clause-first_ascends : goal.merged-requires-clause-first_ascends
merged-requires-clause-first_ascends c =
    subst (IsStrictlySortedBy port_cmp) (sym (c.in_ok-left.ensures ∙ ap (λ rows. map port_row rows) c.deref.ensures))
    (ports_ascend c.args.f.now.nodes c.requires.f_ascends)

pub merged-requires-clause-second_ascends : goal.merged-requires-clause-second_ascends
merged-requires-clause-second_ascends c =
    subst (IsStrictlySortedBy port_cmp) (sym (c.in_ok-right.ensures ∙ ap (λ rows. map port_row rows) c.deref-2.ensures))
    (ports_ascend c.args.g.now.nodes c.requires.g_ascends)
