use Rattle.std.proofs.Common.{◌≡◌, length, All, IsTrue, rules, subst, sym}
use Rattle.bg_base.specs.declared.big.Big.{Big}
use Rattle.bg_base.specs.declared.names.Link.TheVariants.{Edge}
use Rattle.bg_base.specs.Products.{has_point}
use Rattle.bg_machine.specs.Whole.{whole}
use Rattle.bg_machine.proofs.Wholes.{whole_used, whole_without_edges}
use Rattle.bg_machine.proofs.ending.whole.Goals as goal

pub returns-then-is_empty-clause-value : goal.returns-then-is_empty-clause-value
returns-then-is_empty-clause-value c =
    let none : length c.args.big.edges ≡ 0 = search rules in
    sym (whole_without_edges c.args.big c.requires.valid none)

pub returns-then-is_empty-clause-edges_used : goal.returns-then-is_empty-clause-edges_used
returns-then-is_empty-clause-edges_used c =
    let none : length c.args.big.edges ≡ 0 = search rules in
    subst (λ (b : Big). All (λ edge. IsTrue (has_point b (Edge edge))) b.edges) (whole_without_edges c.args.big c.requires.valid none)
    (whole_used c.args.big c.requires.valid)
