use Rattle.std.proofs.Common.{◌≡◌, ◌<◌, ◌^◌, List, length, slice_get, Some, None, is_eq, option_copied, sym, ap, subst, ◌∙◌}
use Rattle.std.specs.List.{position_or_len}
use Rattle.bg_base.specs.declared.names.Name.{Name}
use Rattle.bg_base.specs.Order.{name_cmp}
use Rattle.bg_link.specs.declared.graph.Point.{Point}
use Rattle.bg_index.specs.declared.entries.NameEntry.{NameEntry}
use Rattle.bg_index.proofs.IndexLaws.{name_found, name_few, no_name_found}
use Rattle.bg_index.proofs.indexed_host.IndexedHost.name_points.Goals as goal

pub returns-in-Some-clause-exact : goal.returns-in-Some-clause-exact
returns-in-Some-clause-exact c =
    c.as_slice.ensures.value
    ∙ name_found c.self.inside.index c.self.invariant c.args.self.now c.self.view_is c.args.name.now c.in-Some.entry.now
    (subst (λ (names : List NameEntry). slice_get names (position_or_len (λ (other : Name). is_eq (name_cmp other c.args.name.now)) c.self.inside.index.outer) ≡ Some c.in-Some.entry.now)
    c.deref-2.ensures.value
    (subst (λ (outer : List Name). slice_get c.deref-2.result.now (position_or_len (λ (other : Name). is_eq (name_cmp other c.args.name.now)) outer) ≡ Some c.in-Some.entry.now)
    c.deref.ensures (sym c.find_name.ensures ∙ ap option_copied c.in-Some.is)))

pub returns-in-Some-clause-few : goal.returns-in-Some-clause-few
returns-in-Some-clause-few c =
    subst (λ (xs : List Point). length xs < 2 ^ 32) (sym c.as_slice.ensures.value)
    (name_few c.self.inside.index c.self.invariant c.args.self.now c.self.view_is c.args.name.now c.in-Some.entry.now
    (subst (λ (names : List NameEntry). slice_get names (position_or_len (λ (other : Name). is_eq (name_cmp other c.args.name.now)) c.self.inside.index.outer) ≡ Some c.in-Some.entry.now)
    c.deref-2.ensures.value
    (subst (λ (outer : List Name). slice_get c.deref-2.result.now (position_or_len (λ (other : Name). is_eq (name_cmp other c.args.name.now)) outer) ≡ Some c.in-Some.entry.now)
    c.deref.ensures (sym c.find_name.ensures ∙ ap option_copied c.in-Some.is))))

pub returns-in-None-clause-exact : goal.returns-in-None-clause-exact
returns-in-None-clause-exact c =
    no_name_found c.self.inside.index c.self.invariant c.args.self.now c.self.view_is c.args.name.now
    (subst (λ (names : List NameEntry). slice_get names (position_or_len (λ (other : Name). is_eq (name_cmp other c.args.name.now)) c.self.inside.index.outer) ≡ None)
    c.deref-2.ensures.value
    (subst (λ (outer : List Name). slice_get c.deref-2.result.now (position_or_len (λ (other : Name). is_eq (name_cmp other c.args.name.now)) outer) ≡ None)
    c.deref.ensures (sym c.find_name.ensures ∙ ap option_copied c.in-None.is)))
