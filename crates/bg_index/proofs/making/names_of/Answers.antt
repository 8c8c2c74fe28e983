use Rattle.std.proofs.Common.{◌+◌, length, sym, ap, subst, ◌∙◌}
use Rattle.bg_lists.specs.Lists.{At}
use Rattle.bg_lists.proofs.Places.{At-get_or, At-one, At-same, length-append_one}
use Rattle.bg_base.specs.declared.names.Name.{Name}
use Rattle.bg_base.specs.declared.names.Link.TheVariants.{Outer}
use Rattle.bg_link.specs.Links.{points_of}
use Rattle.bg_index.specs.declared.entries.NameEntry.{NameEntry}
use Rattle.bg_index.proofs.MakingLaws.{AreNames, names_more}
use Rattle.bg_index.proofs.making.names_of.Goals as goal

pub loop-name-preserved : goal.loop-name-preserved
loop-name-preserved c =
    let entry : NameEntry = record { points = c.in_ok-points.points } in
    let item = At-same (sym c.name-item.is) (At-get_or c.args.outer.now c.loop-name.name-index c.name-item.result c.loop-name-test.true) in (
      ap length c.in_ok-push.ensures.items ∙ length-append_one c.loop-name.made.items entry ∙ ap (λ n. n + 1) c.loop-name.invariant.0,
      subst (AreNames c.args.wiring.now c.args.outer.now) (sym c.in_ok-push.ensures.items)
          (names_more c.args.wiring.now c.args.outer.now c.loop-name.made.items c.name-item.result entry c.loop-name.invariant.1
          (λ other a. At-one item (subst (λ n. At other n c.args.outer.now) c.loop-name.invariant.0 a))
          (record {
            points = c.in_ok-points.ensures.points ∙ ap (λ (n : Name). points_of c.args.wiring.now (Outer n)) c.in_ok-copy.ensures;
            few = c.in_ok-points.ensures.few;
          })),
    )
