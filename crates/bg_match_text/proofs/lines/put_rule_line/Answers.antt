use Rattle.std.proofs.Common.{◌++◌, codes}
use Rattle.std.specs.Fmt.{decimal}
use Rattle.bg_listing.specs.Spelling.{label_text}
use Rattle.bg_match_text.specs.MatchText.{matched_rule_line}
use Rattle.bg_match_text.proofs.Writing.{four_and_rest}
use Rattle.bg_match_text.proofs.lines.put_rule_line.Goals as goal

pub returns : goal.returns
unfolding matched_rule_line
returns c =
    let rule = c.args.rule.now in
    four_and_rest c.args.out.now.items _ _ (codes "rule ") (decimal c.args.number) (codes " ") (label_text rule.label)
    (codes " class " ++ (decimal rule.class ++ (codes " count " ++ (decimal c.args.count ++ codes "\n"))))
    c.in_ok-put_rule_name.ensures c.in_ok-put_class_and_count.ensures
