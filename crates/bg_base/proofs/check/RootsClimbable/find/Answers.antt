use Rattle.std.proofs.Common.{arith, sym, ap, ◌∙◌}
use Rattle.bg_base.specs.declared.names.Place.TheVariants.{Node}
use Rattle.bg_base.specs.Bigraph.{is_rooted}
use Rattle.bg_base.specs.Lookup.{TellsRoot, has_root}
use Rattle.bg_base.proofs.ClimbLaws.{node_at-first, root-parent, tells_parent}
use Rattle.bg_base.proofs.check.RootsClimbable.find.Goals as goal

pub returns-in-Some : goal.returns-in-Some
returns-in-Some c =
    let big = c.args.self.now.big.now in
    let node = c.in-Node.node in
    let row = c.in-Some.row.now in
    let place = ap (has_root big) c.in-Node.is in
    let tells : TellsRoot big c.args.foothold.moves (Node node) = rw c.in-Node.is at c.requires.1 in
    record {
      can = (c.requires.0, tells_parent big c.args.foothold.moves node c.in-Some.at row tells c.in-Some.ensures c.if-foothold-eq0.false);
      lower = let some = c.if-foothold-eq0.false in omega (arith, some);
      same = place ∙ root-parent big node c.in-Some.at row c.in-Some.ensures;
      row = ap (is_rooted big) (node_at-first big.nodes node c.in-Some.at row c.in-Some.ensures) ∙ sym place;
    }
