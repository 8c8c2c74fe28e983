use Rattle.std.proofs.Common.{sym, ap, ◌∙◌}
use Rattle.bg_place.specs.Rows.{lies_in}
use Rattle.bg_place.proofs.SubtreeLaws.{within_step, within_lower, lies_at-first}
use Rattle.bg_place.proofs.subtree.WithinClimbable.find.Goals as goal

pub returns-in-Some : goal.returns-in-Some
returns-in-Some c =
    let rows = c.args.self.now.rows.now in
    let upper = c.args.self.now.upper in
    let node = c.in-Node.node in
    let place = ap (lies_in rows upper) c.in-Node.is in
    record {
      can = c.requires;
      lower = let lower = within_lower rows upper c.requires.1 node c.in-Some.at c.in-Some.row c.in-Some.ensures in rw c.in-Node.is lower;
      same = place ∙ within_step rows upper c.requires.1 node c.in-Some.at c.in-Some.row c.if-node-self.false c.in-Some.ensures;
      row = lies_at-first rows upper node c.in-Some.at c.in-Some.row c.in-Some.ensures ∙ sym place;
    }
