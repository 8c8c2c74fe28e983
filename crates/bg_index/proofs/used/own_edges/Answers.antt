use Rattle.std.proofs.Common.{nat_cmp, ap, ◌∙◌}
use Rattle.bg_lists.specs.Orders.{set_of}
use Rattle.bg_base.specs.declared.big.Big.{Big}
use Rattle.bg_index.specs.Tied.{edges_tied}
use Rattle.bg_index.proofs.UsedLaws.{used_edges}
use Rattle.bg_index.proofs.used.own_edges.Goals as goal

pub returns : goal.returns
returns c =
    let sides = c.reactum.ensures.kept.sides in
    c.number_set-own.ensures.set
    ∙ ap (set_of nat_cmp) (c.in_ok-edges.ensures ∙ ap edges_tied (c.deref.ensures ∙ ap (λ (b : Big). b.nodes) c.reactum.ensures.same))
    ∙ used_edges c.args.rule.now.reactum sides.reactum_valid sides.agree.reactum_inner
