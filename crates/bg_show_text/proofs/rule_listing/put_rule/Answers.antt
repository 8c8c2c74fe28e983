use Rattle.std.proofs.Common.{◌++◌, codes}
use Rattle.bg_listing.specs.Spelling.{section_text, big_text}
use Rattle.bg_show_text.specs.SystemText.{condition_text, instantiation_line, rule_line, rule_text}
use Rattle.bg_show_text.proofs.Parts.{five_parts}
use Rattle.bg_show_text.proofs.rule_listing.put_rule.Goals as goal

pub returns : goal.returns
unfolding rule_text
returns c =
    let signature = c.args.signature.now in
    let rule = c.args.rule.now in
    five_parts c.args.out.now.items _ _ _ _ _
    (rule_line c.args.number rule) (codes "redex\n" ++ big_text signature rule.redex) (codes "reactum\n" ++ big_text signature rule.reactum)
    (instantiation_line rule.map) (section_text (codes "conditions ") (condition_text signature) rule.conditions)
    c.in_ok-put_rule_line.ensures c.in_ok-put_redex.ensures c.in_ok-put_reactum.ensures c.in_ok-put_map.ensures c.in_ok-put_condition_section.ensures
