use Rattle.std.proofs.Common.{rules, ◌++◌, ◌+◌, ◌<◌, ◌^◌, List, length, refl, sym, ap, subst, ◌∙◌}
use Rattle.bg_link.specs.declared.graph.Point.{Point}
use Rattle.bg_index.specs.Arrivals.{points_arriving}
use Rattle.bg_index.proofs.bundles.bundle_at.Goals as goal

pub returns : goal.returns
returns c =
    let few : length c.points_at.result.now + length c.push_arriving.new.points.items < 2 ^ 32 = search rules in
    record {
      is_key = refl;
      arriving = c.in_ok-arriving.ensures ∙ c.in_ok-push_arriving.ensures ∙ ap (λ xs. xs ++ points_arriving c.args.arrivals.now c.args.key) c.new-points.ensures.items;
      few = λ link is. subst (λ (ps : List Point). length ps + length c.in_ok-arriving.arriving.items < 2 ^ 32) (c.points_at.ensures link is)
          (subst (λ (ps : List Point). length c.points_at.result.now + length ps < 2 ^ 32) (sym c.in_ok-arriving.ensures) few);
    }
