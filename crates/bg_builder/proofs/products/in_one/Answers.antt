use Rattle.std.proofs.Common.{refl}
use Rattle.bg_builder.specs.Frames.{laid_rows}
use Rattle.bg_builder.proofs.Operated.{merge_laid}
use Rattle.bg_builder.proofs.products.in_one.Goals as goal

pub returns : goal.returns
returns c =
    merge_laid (laid_rows c.args.lists.now) _ c.args.g c.args.f _ c.requires.two refl refl refl c.merge_regions.ensures
    c.in_ok-inner_of_both.ensures c.in_ok-outer_of_both.ensures refl
