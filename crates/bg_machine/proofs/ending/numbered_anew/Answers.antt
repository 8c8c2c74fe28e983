use Rattle.std.proofs.Common.{◌≡◌, All, IsTrue, rules, subst, sym}
use Rattle.bg_base.specs.declared.big.Big.{Big}
use Rattle.bg_base.specs.declared.names.Link.TheVariants.{Edge}
use Rattle.bg_base.specs.Products.{has_point}
use Rattle.bg_machine.specs.Whole.{whole}
use Rattle.bg_machine.proofs.Wholes.{whole_used}
use Rattle.bg_machine.proofs.ending.numbered_anew.Goals as goal

pub returns-clause-edges_used : goal.returns-clause-edges_used
returns-clause-edges_used c =
    let is : c.in_ok-made.made ≡ whole c.args.big.now = search rules in
    subst (λ (b : Big). All (λ edge. IsTrue (has_point b (Edge edge))) b.edges) (sym is) (whole_used c.args.big.now c.requires.valid)
