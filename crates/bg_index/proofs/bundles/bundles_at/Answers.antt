use Rattle.std.proofs.Common.{◌++◌, ◌∷◌, [], List, take, map, sym, ap, subst, ◌∙◌}
use Rattle.std.proofs.lemmas.List.{take_more, map-append}
use Rattle.bg_index.specs.declared.plans.Bundle.{Bundle}
use Rattle.bg_index.specs.declared.plans.LinkKey.{LinkKey}
use Rattle.bg_index.specs.declared.plans.LinkKey.TheVariants.{Edge as EdgeKey}
use Rattle.bg_index.specs.Arrivals.{IsBundleAt, AreBundlesAt}
use Rattle.bg_index.proofs.ArrivalLaws.{all_more}
use Rattle.bg_index.proofs.bundles.bundles_at.Goals as goal

pub loop-key-preserved : goal.loop-key-preserved
loop-key-preserved c =
    let keys = c.args.keys.now in
    let at = c.loop-key.key-index in
    let bundle : Bundle = c.in_ok-bundle.bundle in
    let number = c.in_ok-bundle.ensures.is_key in
    let before = c.loop-key.invariant.0 in (
      ap (map (λ (b : Bundle). b.key)) c.in_ok-push.ensures.items ∙ map-append (λ (b : Bundle). b.key) c.loop-key.bundles.items (bundle ∷ [])
          ∙ ap (λ (xs : List LinkKey). xs ++ bundle.key ∷ []) before
          ∙ ap (λ (k : LinkKey). take at keys ++ k ∷ []) number
          ∙ sym (take_more keys at (EdgeKey 0) c.loop-key-test.true),
      subst (AreBundlesAt c.args.host.now c.args.arrivals.now) (sym c.in_ok-push.ensures.items)
          (all_more (λ (b : Bundle). IsBundleAt c.args.host.now c.args.arrivals.now b.key b) c.loop-key.bundles.items bundle c.loop-key.invariant.1
          (subst (λ (k : LinkKey). IsBundleAt c.args.host.now c.args.arrivals.now k bundle) (sym number) c.in_ok-bundle.ensures)),
    )
