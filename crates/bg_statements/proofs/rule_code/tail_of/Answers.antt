use Rattle.std.proofs.Common.{◌∙◌, None, [], ap}
use Rattle.bg_statements.specs.Rules.{tail_read}
use Rattle.bg_statements.proofs.Codes.{map_first, conditions_first}
use Rattle.bg_statements.proofs.rule_code.tail_of.Goals as goal

pub returns-in_ok-conditions-in-Way1 : goal.returns-in_ok-conditions-in-Way1
returns-in_ok-conditions-in-Way1 c =
    let map = c.in_ok-map-in-Way1.map in
    let read = c.in_ok-conditions-in-Way1.ensures in (
      (map, read.0),
      ap (tail_read c.args.visible.now) c.in-Way1.is
          ∙ map_first c.args.visible.now c.in-Way1.map c.in-Way1.rest map read.0 c.in_ok-map-in-Way1.ensures read.1,
      λ i. (map, read.2 i),
    )

pub returns-in_ok-map-in-Way2 : goal.returns-in_ok-map-in-Way2
returns-in_ok-map-in-Way2 c =
    let map = c.in_ok-map-in-Way2.map in
    let read = c.in_ok-conditions-in-Way2.ensures in (
      (map, read.0),
      ap (tail_read c.args.visible.now) c.in-Way2.is
          ∙ conditions_first c.args.visible.now c.in-Way2.conditions c.in-Way2.rest map read.0 read.1 c.in_ok-map-in-Way2.ensures,
      λ i. (map, read.2 i),
    )

pub returns-in-Way3 : goal.returns-in-Way3
returns-in-Way3 c =
    ((None, []), ap (tail_read c.args.visible.now) c.in-Way3.is, λ i. (None, (c.from_vec.ensures ∙ c.new.ensures.items) i))
