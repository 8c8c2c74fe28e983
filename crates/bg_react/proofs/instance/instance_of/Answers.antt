use Rattle.std.proofs.Common.{List, ap, sym, subst, ◌∙◌}
use Rattle.std.specs.List.{IsDistinct}
use Rattle.std.specs.Ordering.{eq_by_cmp}
use Rattle.bg_lists.specs.Lists.{sort}
use Rattle.bg_lists.specs.Orders.{before}
use Rattle.bg_base.specs.declared.big.NodeRow.{NodeRow}
use Rattle.bg_base.specs.declared.big.Big.{Big}
use Rattle.bg_base.specs.Bigraph.{node_cmp}
use Rattle.bg_rules.specs.Instantiation.{instantiate}
use Rattle.bg_rules.proofs.Copies.{copies_distinct}
use Rattle.bg_rules.proofs.Instances.{number_below_from_all}
use Rattle.bg_react.proofs.instance.instance_of.Goals as goal

pub sorted_rows-requires : goal.sorted_rows-requires
sorted_rows-requires c =
    record {
      apart = subst (IsDistinct (eq_by_cmp node_cmp)) (sym c.in_ok-rows.ensures.rows)
          (copies_distinct c.args.parts.now c.args.map.now c.args.next c.requires.ground.valid
          (number_below_from_all c.args.parts.now c.args.next c.requires.below));
    }

pub returns-clause-big : goal.returns-clause-big
unfolding instantiate
returns-clause-big c =
    let nodes = c.in_ok-sorted_rows.ensures ∙ ap (λ (rows : List NodeRow). sort (before node_cmp) rows) c.in_ok-rows.ensures.rows in
    let edges = c.from_vec.ensures ∙ c.new.ensures.items in
    let sites = c.from_vec-2.ensures ∙ c.new-2.ensures.items in
    let inner = c.from_vec-3.ensures ∙ c.new-3.ensures.items in
    let outer = c.in_ok-copy.ensures ∙ ap (λ (big : Big). big.outer) c.parameter.ensures.same in
    λ t.
    record {
      nodes = nodes t;
      edges = edges t;
      sites = sites t;
      inner = inner t;
      regions = c.in-Some.ensures t;
      outer = outer t;
    }
