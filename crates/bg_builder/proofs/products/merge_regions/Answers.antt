use Rattle.std.proofs.Common.{refl, sym}
use Rattle.bg_builder.specs.Frames.{laid_rows}
use Rattle.bg_builder.proofs.Operated.{upper_alone, both_alone}
use Rattle.bg_builder.proofs.products.merge_regions.Goals as goal

pub returns-then-g-ne1 : goal.returns-then-g-ne1
returns-then-g-ne1 c =
    upper_alone (laid_rows c.args.lists.now) _ c.args.g.now c.args.f.now c.requires.two c.if-f-ne1.false c.merge_nodes-then-g-ne1.ensures refl c.merge_sites-then-g-ne1.ensures

pub returns-else-g-ne1 : goal.returns-else-g-ne1
returns-else-g-ne1 c = both_alone (laid_rows c.args.lists.now) (laid_rows c.args.lists.now) c.args.g.now c.args.f.now c.requires.two c.if-f-ne1.false c.if-g-ne1.false
