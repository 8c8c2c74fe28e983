use Rattle.std.proofs.Common.{◌≡◌, get_or, length, Ok, Err, sym, ap, subst, ◌∙◌}
use Rattle.std.specs.List.Sorted.{IsStrictlySortedBy}
use Rattle.std.specs.Ordering.{nat_cmp}
use Rattle.bg_base.specs.Translation.{number_renamed}
use Rattle.bg_algebra.proofs.Renamed.{along-edge}
use Rattle.bg_algebra.proofs.renumbering.new_edge.Goals as goal

pub returns-in-Ok : goal.returns-in-Ok
returns-in-Ok c =
    sym (subst (λ rows. number_renamed rows c.args.edges.now c.args.edge ≡ get_or c.args.edges.now c.in-Ok.at 0) c.deref.ensures
    (along-edge c.deref.result.now c.args.edges.now c.args.edge 0
    (subst (IsStrictlySortedBy nat_cmp) (sym c.deref.ensures) c.requires.ascending) (ap length c.deref.ensures ∙ c.requires.as_many)
    (Ok c.in-Ok.at) c.in-Ok.ensures.bound c.in-Ok.ensures.position))

pub returns-in-Err : goal.returns-in-Err
returns-in-Err c =
    sym (subst (λ rows. number_renamed rows c.args.edges.now c.args.edge ≡ c.args.edge) c.deref.ensures
    (along-edge c.deref.result.now c.args.edges.now c.args.edge 0
    (subst (IsStrictlySortedBy nat_cmp) (sym c.deref.ensures) c.requires.ascending) (ap length c.deref.ensures ∙ c.requires.as_many)
    (Err c.in-Err.field-0) c.in-Err.ensures.bound c.in-Err.ensures.position))
