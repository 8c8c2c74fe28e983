use Rattle.std.proofs.Common.{◌+◌, ◌<◌, List, length, get_or, sym, ap, subst, ◌∙◌}
use Rattle.bg_lists.specs.Lists.{Mem, At}
use Rattle.bg_lists.proofs.Places.{not_At-nil, At-get_or, Mem-from_At, length-append_one}
use Rattle.bg_base.specs.declared.names.Place.{Place}
use Rattle.bg_base.specs.declared.names.Place.TheVariants.{Node}
use Rattle.bg_index.specs.declared.reading.Part.{Part}
use Rattle.bg_index.proofs.SiteLaws.{AreParts, parts_more}
use Rattle.bg_index.proofs.reading.parts_of.Goals as goal

pub loop-site-init : goal.loop-site-init
loop-site-init c = (
  ap length c.new-parts.ensures.items,
  λ site node count part a b d. absurd (not_At-nil (subst (λ (parts : List Part). At part site parts) c.new-parts.ensures.items d)),
)

pub nodes_at-requires-clause-there : goal.nodes_at-requires-clause-there
nodes_at-requires-clause-there c =
    let place = get_or c.deref-place-items.result.now c.loop-site.site (Node 0) in
    subst (λ (sites : List Place). Mem place sites) c.deref-place-items.ensures
    (Mem-from_At (At-get_or c.deref-place-items.result.now c.loop-site.site (Node 0) c.loop-site-test.true))

pub loop-site-preserved : goal.loop-site-preserved
loop-site-preserved c =
    let place = get_or c.deref-place-items.result.now c.loop-site.site (Node 0) in
    let below = c.loop-site-test.true in
    let stands = subst (λ (sites : List Place). At place c.loop-site.site sites) c.deref-place-items.ensures
    (At-get_or c.deref-place-items.result.now c.loop-site.site (Node 0) below) in
    let inside = subst (λ n. c.loop-site.site < n) (sym c.requires.asked_many)
    (subst (λ (sites : List Place). c.loop-site.site < length sites) c.deref-place-items.ensures below) in
    let counted = At-get_or c.args.asked.now c.loop-site.site 0 inside in
    let at = sym c.loop-site.invariant.0 in (
      ap length c.in_ok-push.ensures.items ∙ length-append_one c.loop-site.parts.items _ ∙ ap (λ n. n + 1) c.loop-site.invariant.0,
      subst (AreParts c.args.host.now.big c.args.redex.now c.args.map.now c.args.asked.now) (sym c.in_ok-push.ensures.items)
          (parts_more c.args.host.now.big c.args.redex.now c.args.map.now c.args.asked.now c.loop-site.parts.items place (get_or c.args.asked.now c.loop-site.site 0) _
          c.loop-site.invariant.1 (subst (λ n. At place n c.args.redex.now.sites) at stands)
          (subst (λ n. At (get_or c.args.asked.now c.loop-site.site 0) n c.args.asked.now) at counted) c.in_ok-nodes.ensures),
    )
