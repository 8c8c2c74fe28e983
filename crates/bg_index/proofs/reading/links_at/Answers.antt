use Rattle.std.proofs.Common.{◌≡◌, ℕ, ◌+◌, Some, List, length, get_or, sym, ap, subst, ◌∙◌}
use Rattle.bg_lists.specs.Lists.{At}
use Rattle.bg_lists.proofs.Places.{At-get_or, Mem-from_At, length-append_one}
use Rattle.bg_base.specs.declared.names.Link.{Link}
use Rattle.bg_link.specs.Links.{links_of, link_of}
use Rattle.bg_index.specs.declared.reading.Tie.{Tie}
use Rattle.bg_index.proofs.MakingLaws.{beside_more}
use Rattle.bg_index.proofs.reading.links_at.Goals as goal

pub link-requires : goal.link-requires
link-requires c =
    record {
      there = c.requires.there (get_or c.args.ties.now c.loop-tie.tie-index (record { node = 0; port = 0 }))
          (Mem-from_At (At-get_or c.args.ties.now c.loop-tie.tie-index (record { node = 0; port = 0 }) c.loop-tie-test.true));
    }

pub loop-tie-preserved : goal.loop-tie-preserved
loop-tie-preserved c =
    let tie : Tie = get_or c.args.ties.now c.loop-tie.tie-index (record { node = 0; port = 0 }) in
    let link = c.in_ok-link.link in (
      ap length c.in_ok-push.ensures.items ∙ length-append_one c.loop-tie.made.items link ∙ ap (λ n. n + 1) c.loop-tie.invariant.0,
      subst (λ (xs : List Link). (i : ℕ) (t : Tie) (l : Link) → At t i c.args.ties.now → At l i xs
          → link_of (links_of c.args.host.now.big) t.node t.port ≡ Some l) (sym c.in_ok-push.ensures.items)
          (beside_more (λ (t : Tie) (l : Link). link_of (links_of c.args.host.now.big) t.node t.port ≡ Some l) c.args.ties.now c.loop-tie.made.items tie link
          c.loop-tie.invariant.1
          (subst (λ n. At tie n c.args.ties.now) (sym c.loop-tie.invariant.0)
          (At-get_or c.args.ties.now c.loop-tie.tie-index (record { node = 0; port = 0 }) c.loop-tie-test.true))
          (c.link.ensures ∙ ap Some (sym c.in_ok-link.ensures))),
    )
