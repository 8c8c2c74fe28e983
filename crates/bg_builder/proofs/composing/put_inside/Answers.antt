use Rattle.std.proofs.Common.{refl}
use Rattle.bg_builder.specs.Frames.{laid_rows}
use Rattle.bg_builder.proofs.Operated.{nest_laid}
use Rattle.bg_builder.proofs.composing.put_inside.Goals as goal

pub returns : goal.returns
returns c =
    nest_laid (laid_rows c.args.lists.now) _ c.args.g c.args.f _ c.requires.two refl refl refl _ c.items_between-sites.ensures c.requires.no_inner c.place_nodes.ensures refl
    c.put_through.ensures refl c.in_ok-outer_of_both.ensures refl
