use Rattle.std.proofs.Common.{◌≡◌, true, List, None, sym, ap, subst, ◌∙◌}
use Rattle.bg_base.specs.declared.names.Place.TheVariants.{Node}
use Rattle.bg_base.specs.declared.big.NodeRow.{NodeRow}
use Rattle.bg_base.specs.Bigraph.{row_of, has_place}
use Rattle.bg_base.specs.Lookup.{IsFirstRow}
use Rattle.bg_base.proofs.ClimbLaws.{node_at-first}
use Rattle.bg_base.proofs.Depths.{parent_nearer}
use Rattle.bg_base.proofs.LookUps.{row_from_row_of}
use Rattle.bg_rules.proofs.Patterns.{parent_there}
use Rattle.bg_decompose.specs.Marks.{is_covered, lies_covered}
use Rattle.bg_decompose.proofs.Covered.{covered_image, covered_nowhere, covered_parent}
use Rattle.bg_decompose.proofs.marks.CoveredClimbable.find.Goals as goal

pub returns-then-has : goal.returns-then-has
returns-then-has c =
    let host = c.args.self.now.host.now in
    let images = c.args.self.now.images.now in
    let has : has_place host (Node c.in-Node.node) ≡ true = rw c.in-Node.is at c.requires.2 in
    covered_image host images c.requires.0 c.in-Node.node has (sym c.if-has.ensures)
    ∙ sym (ap (lies_covered host images) c.in-Node.is)

pub returns-in-None : goal.returns-in-None
returns-in-None c =
    let host = c.args.self.now.host.now in
    let images = c.args.self.now.images.now in
    let none = subst (λ (rows : List NodeRow). row_of rows c.in-Node.node ≡ None) c.deref.ensures c.in-None.ensures in
    covered_nowhere host images c.requires.0 c.in-Node.node (sym c.if-has.ensures) none
    ∙ sym (ap (lies_covered host images) c.in-Node.is)

pub returns-in-Some : goal.returns-in-Some
returns-in-Some c =
    let host = c.args.self.now.host.now in
    let images = c.args.self.now.images.now in
    let node = c.in-Node.node in
    let row = c.in-Some.row.now in
    let first = subst (λ (rows : List NodeRow). IsFirstRow rows node c.in-Some.at row) c.deref.ensures c.in-Some.ensures in
    let place = ap (lies_covered host images) c.in-Node.is in
    record {
      can = (c.requires.0, c.requires.1, parent_there host c.requires.0 (row_from_row_of host.nodes node first.first).0);
      lower = let nearer = parent_nearer host c.requires.0 node first.first in rw c.in-Node.is nearer;
      same = place ∙ covered_parent host images c.requires.0 node first.first (sym c.if-has.ensures);
      row = ap (is_covered host images) (node_at-first host.nodes node c.in-Some.at row first) ∙ sym place;
    }
