use Rattle.std.proofs.Common.{IsNone, sym, subst, rules}
use Rattle.bg_base.specs.Bigraph.{IsValid, IsValidUnder, edge_of}
use Rattle.bg_algebra.proofs.Changes.{close_valid, close_valid_under, edge_is_new}
use Rattle.bg_algebra.proofs.closing.close.Goals as goal

pub returns-clause-valid : goal.returns-clause-valid
returns-clause-valid c =
    let none : IsNone (edge_of c.args.f.now.edges c.args.edge) = search rules in
    subst IsValid (sym c.in_ok-closed.ensures)
    (close_valid c.args.f.now c.args.name.now c.args.edge c.requires.valid (edge_is_new c.args.f.now.edges c.args.edge none))

pub returns-clause-fits : goal.returns-clause-fits
returns-clause-fits c =
    let none : IsNone (edge_of c.args.f.now.edges c.args.edge) = search rules in
    λ signature fits. subst (IsValidUnder signature) (sym c.in_ok-closed.ensures)
    (close_valid_under c.args.f.now c.args.name.now c.args.edge c.requires.valid (edge_is_new c.args.f.now.edges c.args.edge none) signature fits)
