use Rattle.std.proofs.Common.{◌≡◌, ℕ, Option, None, sym, subst}
use Rattle.std.specs.Prelude.{◌↔◌}
use Rattle.bg_rules.specs.Solid.{IsSolid}
use Rattle.bg_rules.proofs.SolidLaws.{solid_clause}
use Rattle.bg_rules.proofs.solid_indexed.unsolid_clause.Goals as goal

pub returns-clause-solid : goal.returns-clause-solid
returns-clause-solid c =
    subst (λ (clause : Option ℕ). (clause ≡ None) ↔ IsSolid c.args.big.now) (sym c.in_ok-clause.ensures) (solid_clause c.args.big.now)
