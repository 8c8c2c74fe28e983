use Rattle.std.proofs.Common.{refl, ◌∙◌}
use Rattle.bg_builder.specs.Frames.{laid_rows}
use Rattle.bg_builder.proofs.Operated.{compose_laid}
use Rattle.bg_builder.proofs.composing.put_under.Goals as goal

pub returns : goal.returns
returns c =
    compose_laid (laid_rows c.args.lists.now) _ c.args.f c.args.g _ c.requires.two refl refl refl c.place_nodes.new.rows.items _ _
    c.items_between-sites.ensures (c.as_slice-names.ensures.value ∙ c.in_ok-inner.ensures.same) c.place_nodes.ensures
    c.in_ok-link_nodes.ensures refl c.put_through.ensures c.in_ok-inner_under.ensures refl refl
