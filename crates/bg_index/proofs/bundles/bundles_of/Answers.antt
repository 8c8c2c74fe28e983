use Rattle.std.proofs.Common.{◌≡◌, true, inl, inr, List, sym, subst, ◌∙◌}
use Rattle.bg_lists.specs.Lists.{Mem}
use Rattle.bg_index.specs.declared.plans.LinkKey.{LinkKey}
use Rattle.bg_index.specs.Arrivals.{is_old}
use Rattle.bg_index.proofs.BundleLaws.{bundles_are}
use Rattle.bg_index.proofs.bundles.bundles_of.Goals as goal

pub returns : goal.returns
returns c = λ rule nodes reading new read gone_are arrivals_are new_are.
    bundles_are c.args.host.now rule nodes reading read c.args.gone.now c.args.idle.now new
    c.args.arrivals.now c.in_ok-keys.keys.items c.in_ok-bundles.bundles.items gone_are arrivals_are new_are.are
    (λ key m. c.in_ok-keys.ensures.lost key (subst (λ (xs : List LinkKey). Mem key xs) (sym c.in_ok-lost.ensures) m))
    (λ key m old. c.in_ok-keys.ensures.got key m (subst (λ n. is_old n key ≡ true) (sym c.next_edge.ensures) old))
    (λ key m. elim (c.in_ok-keys.ensures.only key m) [
      | inl k ↦ inl (subst (λ (xs : List LinkKey). Mem key xs) c.in_ok-lost.ensures k)
      | inr k ↦ inr k
    ])
    c.in_ok-keys.ensures.ascending
    (c.in_ok-bundles.ensures.keys ∙ c.deref.ensures.value) c.in_ok-bundles.ensures.are
