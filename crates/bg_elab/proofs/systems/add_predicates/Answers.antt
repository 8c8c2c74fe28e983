use Rattle.std.proofs.Common.{◌∙◌, Some, ap, sym, rules, arith}
use Rattle.bg_elab.specs.declared.references.Reference.{Reference as ReferenceCode}
use Rattle.bg_elab.specs.Systems.{with_predicate, with_predicates}
use Rattle.bg_elab.proofs.Picked.{picked_last, picked_so, picked_stops}
use Rattle.bg_elab.proofs.systems.add_predicates.Goals as goal

pub returns-in_err-next : goal.returns-in_err-next
returns-in_err-next c = λ d r here is.
    let there = ap Some c.as_slice-in-Some.ensures.same ∙ sym c.in-Some.is ∙ c.in_ok-values.ensures in
    let stopped = picked_stops (with_predicate d r) c.as_slice.result.now r.lists (c.as_slice.ensures.same ∙ ap (λ (x : ReferenceCode). x.lists) is) c.loop-reached.number
    (c.loop-reached.preds.items, c.loop-reached.reached) (with_predicates d r (c.args.preds.now.items, c.args.signature)) (c.loop-reached.invariant.2 d r here is)
    c.as_slice-in-Some.result.now there c.in_err-next.field-0.0 (c.in_err-next.ensures.made d r here is) in
    search (rules, stopped)

pub loop-reached-preserved : goal.loop-reached-preserved
loop-reached-preserved c =
    let within = c.loop-reached.invariant.1 in
    let long = c.in_ok-next.ensures.one_more in
    let few = c.in_ok-next.ensures.few in
    let there = ap Some c.as_slice-in-Some.ensures.same ∙ sym c.in-Some.is ∙ c.in_ok-values.ensures in (
      omega (arith, within, long, few),
      omega (arith, within, long),
      λ d r here is.
          picked_so (with_predicate d r) c.as_slice.result.now r.lists (c.as_slice.ensures.same ∙ ap (λ (x : ReferenceCode). x.lists) is) c.loop-reached.number
          (c.loop-reached.preds.items, c.loop-reached.reached) (with_predicates d r (c.args.preds.now.items, c.args.signature)) (c.loop-reached.invariant.2 d r here is)
          c.as_slice-in-Some.result.now there (c.add_predicate.new.preds.items, c.in_ok-next.next) (c.in_ok-next.ensures.made d r here is),
    )

pub returns : goal.returns
returns c = λ d r here is.
    picked_last (with_predicate d r) c.as_slice.result.now r.lists (c.as_slice.ensures.same ∙ ap (λ (x : ReferenceCode). x.lists) is) c.loop-reached.number
    (c.loop-reached.preds.items, c.loop-reached.reached) (with_predicates d r (c.args.preds.now.items, c.args.signature)) (c.loop-reached.invariant.2 d r here is)
    (sym c.in_default.is ∙ c.in_ok-values.ensures)
