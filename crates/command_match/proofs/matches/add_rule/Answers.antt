use Rattle.std.proofs.Common.{sym, subst}
use Rattle.bg_base.specs.declared.big.Big.{Big}
use Rattle.bg_match_text.specs.Appending.{Appends}
use Rattle.bg_match_text.specs.MatchText.{IsRuleText}
use Rattle.bg_rules.specs.Occurrences.{AreOccurrences}
use Rattle.command_match.proofs.matches.add_rule.Goals as goal

pub write_rule-requires-clause-all : goal.write_rule-requires-clause-all
write_rule-requires-clause-all g c =
    subst (λ (big : Big). AreOccurrences big c.args.rule.now.redex c.as_slice.result.now) (sym c.host.ensures.same)
    (subst (AreOccurrences c.args.host.now c.args.rule.now.redex) (sym c.as_slice.ensures.value) c.in_ok-maps.ensures.all)

pub returns-clause-text : goal.returns-clause-text
returns-clause-text g c =
    subst (λ (big : Big). Appends (IsRuleText c.args.signature.now big c.args.explain c.args.number c.args.rule.now) c.args.text.now.items c.write_rule.new.out.items)
    c.host.ensures.same c.in_ok-write_rule.ensures.ok
