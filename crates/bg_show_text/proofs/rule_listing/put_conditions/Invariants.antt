use Rattle.std.proofs.Common.{◌≡◌, ◌++◌, take}
use Rattle.std.specs.List.{flat_map}
use Rattle.bg_show_text.specs.SystemText.{condition_text}
use Rattle.bg_show_text.proofs.rule_listing.put_conditions.Given as goal

-- the conditions so far are written
abbrev pub invariant-loop-condition : goal.invariant-loop-condition
invariant-loop-condition l = l.out.items ≡ l.fn.out.items ++ flat_map (condition_text l.signature) (take l.condition-index l.conditions)
