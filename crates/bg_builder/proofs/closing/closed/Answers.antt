use Rattle.std.proofs.Common.{refl}
use Rattle.bg_builder.specs.Frames.{laid_rows}
use Rattle.bg_builder.proofs.Operated.{close_laid}
use Rattle.bg_builder.proofs.closing.closed.Goals as goal

pub returns : goal.returns
returns c =
    close_laid (laid_rows c.args.lists.now) _ c.args.f _ c.requires.within c.requires.valid refl refl refl c.args.name.now c.args.edge c.requires.new
    c.in_ok-close_nodes.ensures c.in_ok-put_edge.ensures refl c.in_ok-inner_closed.ensures c.names_without.ensures refl
