use Rattle.std.proofs.Common.{◌≡◌, List, None, sym, ap, subst, ◌∙◌}
use Rattle.bg_base.specs.declared.names.Place.TheVariants.{Node}
use Rattle.bg_base.specs.declared.big.NodeRow.{NodeRow}
use Rattle.bg_base.specs.Bigraph.{row_of}
use Rattle.bg_base.specs.Lookup.{IsFirstRow}
use Rattle.bg_base.proofs.ClimbLaws.{node_at-first}
use Rattle.bg_base.proofs.Depths.{parent_nearer}
use Rattle.bg_base.proofs.LookUps.{row_from_row_of}
use Rattle.bg_rules.proofs.Patterns.{parent_there}
use Rattle.bg_react.specs.Parts.{region_above}
use Rattle.bg_react.proofs.Regions.{above_region, above_none, above_parent}
use Rattle.bg_react.proofs.parts.UnderClimbable.find.Goals as goal

pub returns-in-Region : goal.returns-in-Region
returns-in-Region c =
    let parameter = c.args.self.now.parameter.now in
    above_region parameter c.in-Region.region ∙ sym (ap (region_above parameter) c.in-Region.is)

pub returns-in-None : goal.returns-in-None
returns-in-None c =
    let parameter = c.args.self.now.parameter.now in
    let none = subst (λ (rows : List NodeRow). row_of rows c.in-Node.node ≡ None) c.deref.ensures c.in-None.ensures in
    above_none parameter c.in-Node.node none ∙ sym (ap (region_above parameter) c.in-Node.is)

pub returns-in-Some : goal.returns-in-Some
returns-in-Some c =
    let parameter = c.args.self.now.parameter.now in
    let node = c.in-Node.node in
    let row = c.in-Some.row.now in
    let first = subst (λ (rows : List NodeRow). IsFirstRow rows node c.in-Some.at row) c.deref.ensures c.in-Some.ensures in
    let place = ap (region_above parameter) c.in-Node.is in
    record {
      can = (c.requires.0, parent_there parameter c.requires.0 (row_from_row_of parameter.nodes node first.first).0);
      lower = let nearer = parent_nearer parameter c.requires.0 node first.first in rw c.in-Node.is nearer;
      same = place ∙ above_parent parameter c.requires.0 node first.first;
      row = ap (λ n. region_above parameter (Node n)) (node_at-first parameter.nodes node c.in-Some.at row first) ∙ sym place;
    }
