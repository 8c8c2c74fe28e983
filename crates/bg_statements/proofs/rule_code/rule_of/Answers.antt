use Rattle.std.proofs.Common.{◌∙◌, Ok, ap}
use Rattle.bg_statements.specs.Rules.{tail_read}
use Rattle.bg_terms.specs.Trees.{e_read}
use Rattle.bg_values.specs.Outcome.{◌>>=◌}
use Rattle.bg_statements.proofs.rule_code.rule_of.Goals as goal

pub returns : goal.returns
returns c =
    let visible = c.args.visible.now in
    let tree = c.args.tree.now in
    let redex = c.in_ok-redex.ensures in
    let reactum = c.in_ok-reactum.ensures in
    let tail = c.in_ok-map.ensures in (
      record { at = tree.part1; redex = redex.0; reactum = reactum.0; map = tail.0.0; conditions = tail.0.1 },
      ap (λ r. r >>= λ e. (e_read tree.part6).1 visible >>= λ f. tail_read visible tree.part7 >>= λ t.
          Ok (record { at = tree.part1; redex = e; reactum = f; map = t.0; conditions = t.1 })) redex.1
          ∙ ap (λ r. r >>= λ f. tail_read visible tree.part7 >>= λ t. Ok (record { at = tree.part1; redex = redex.0; reactum = f; map = t.0; conditions = t.1 })) reactum.1
          ∙ ap (λ r. r >>= λ t. Ok (record { at = tree.part1; redex = redex.0; reactum = reactum.0; map = t.0; conditions = t.1 })) tail.1,
      λ i. record { at = tree.part1; redex = redex.2 i; reactum = reactum.2 i; map = (tail.2 i).0; conditions = (tail.2 i).1 },
    )
