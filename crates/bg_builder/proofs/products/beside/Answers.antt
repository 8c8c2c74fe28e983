use Rattle.std.proofs.Common.{rules, refl}
use Rattle.bg_builder.specs.Frames.{laid_rows}
use Rattle.bg_builder.proofs.Operated.{parallel_laid}
use Rattle.bg_builder.proofs.products.beside.Goals as goal

pub returns : goal.returns
returns c =
    parallel_laid (laid_rows c.args.lists.now) _ c.args.g c.args.f _ c.requires.two refl refl refl c.raise_nodes.ensures refl c.raise_sites.ensures
    c.in_ok-inner_of_both.ensures c.in_ok-outer_of_both.ensures (search rules)
