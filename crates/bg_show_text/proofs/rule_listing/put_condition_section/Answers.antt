use Rattle.std.proofs.Common.{◌≡◌, ℕ, List, ◌++◌, codes, length, append_assoc}
use Rattle.std.specs.List.{flat_map}
use Rattle.bg_base.specs.declared.signature.Control.{Control}
use Rattle.bg_listing.specs.Spelling.{count_line, section_text}
use Rattle.bg_rules.specs.declared.condition.Condition.{Condition}
use Rattle.bg_show_text.specs.SystemText.{condition_text}
use Rattle.bg_show_text.proofs.rule_listing.put_condition_section.Goals as goal

counted_and_written : (signature : List Control) (conditions given : List Condition) (before o1 o2 : List ℕ) → given ≡ conditions
    → o1 ≡ before ++ count_line (codes "conditions ") (length given) → o2 ≡ o1 ++ flat_map (condition_text signature) given
    → o2 ≡ before ++ section_text (codes "conditions ") (condition_text signature) conditions
counted_and_written signature conditions given before o1 o2 is counted written =
    rw (written, counted, is) (append_assoc before (count_line (codes "conditions ") (length conditions)) (flat_map (condition_text signature) conditions))

pub returns : goal.returns
returns c =
    counted_and_written c.args.signature.now c.args.rule.now.conditions c.conditions-conditions.result.now c.args.out.now.items _ _
    c.conditions-conditions.ensures.same c.in_ok-write_count.ensures.ok c.in_ok-put_conditions.ensures
