use Rattle.std.proofs.Common.{◌<◌, ◌+◌, ◌∙◌, length, All, ap, subst, sym}
use Rattle.bg_base.specs.declared.big.NodeRow.{NodeRow}
use Rattle.bg_base.specs.declared.big.Big.{Big}
use Rattle.bg_base.specs.Elementary.{counted}
use Rattle.bg_base.specs.Products.{lean}
use Rattle.bg_decompose.specs.Joining.{recomposed_from}
use Rattle.bg_react.specs.Growth.{GoesBetween}
use Rattle.bg_react.proofs.Reacted.{regions_there, parameter_below, next_is, instance_is, goes_between, big_is}
use Rattle.bg_react.proofs.reaction.big_after.Goals as goal

pub instance_of-requires-clause-regions : goal.instance_of-requires-clause-regions
instance_of-requires-clause-regions c =
    subst (λ entries. All (λ region. region < c.args.parameter.now.regions) entries) (sym (c.deref.ensures ∙ c.map.ensures.same))
    (regions_there c.args.host.now c.args.rule.now c.args.context.now c.args.parameter.now c.requires.is_host c.requires.is_rule c.requires.between)

pub instance_of-requires-clause-below : goal.instance_of-requires-clause-below
instance_of-requires-clause-below c =
    subst (λ n. All (λ (row : NodeRow). row.id < n) c.args.parameter.now.nodes)
    (sym (next_is c.args.host.now c.args.rule.now c.next_node.result c.len.result c.reactum.result.now c.next_node.ensures.same c.len.ensures.count c.reactum.ensures.same))
    (parameter_below c.args.host.now c.args.rule.now c.args.context.now c.args.parameter.now c.requires.is_host c.requires.is_rule c.requires.between)

pub with_reactum-requires-clause-between : goal.with_reactum-requires-clause-between
with_reactum-requires-clause-between c =
    let next = next_is c.args.host.now c.args.rule.now c.next_node.result c.len.result c.reactum.result.now c.next_node.ensures.same c.len.ensures.count c.reactum.ensures.same in
    let is = instance_is c.args.host.now c.args.rule.now c.args.parameter.now c.in_ok-instance.field-0.big c.deref.result.now (c.next_node.result + c.len.result)
    c.in_ok-instance.ensures.big (c.deref.ensures ∙ c.map.ensures.same) next in
    subst (λ (r : Big). GoesBetween c.args.host.now r c.args.context.now c.in_ok-instance.field-0.big) (sym c.reactum-2.ensures.same)
    (goes_between c.args.host.now c.args.rule.now c.args.context.now c.args.parameter.now c.requires.is_host c.requires.is_rule c.requires.between
    c.in_ok-instance.field-0.big is)

pub returns : goal.returns
returns c =
    let next = next_is c.args.host.now c.args.rule.now c.next_node.result c.len.result c.reactum.result.now c.next_node.ensures.same c.len.ensures.count c.reactum.ensures.same in
    let is = instance_is c.args.host.now c.args.rule.now c.args.parameter.now c.in_ok-instance.field-0.big c.deref.result.now (c.next_node.result + c.len.result)
    c.in_ok-instance.ensures.big (c.deref.ensures ∙ c.map.ensures.same) next in
    big_is c.args.host.now c.args.rule.now c.args.context.now c.args.parameter.now c.requires.is_host c.requires.is_rule c.requires.between
    c.in_ok-instance.field-0.big c.in_ok-big.big is
    (c.in_ok-big.ensures
    ∙ ap (λ (r : Big). lean (recomposed_from r (counted c.args.host.now.next_node (length r.nodes)) c.args.context.now (counted c.args.host.now.next_edge (length r.edges))
    c.in_ok-instance.field-0.big)) c.reactum-2.ensures.same)
