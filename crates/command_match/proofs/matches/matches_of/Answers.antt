use Rattle.std.proofs.Common.{subst}
use Rattle.bg_match_text.specs.Appending.{Appends}
use Rattle.bg_match_text.specs.MatchText.{IsMatchText}
use Rattle.command_match.proofs.Answering.{all_listed, first_below, told_by}
use Rattle.command_match.proofs.matches.matches_of.Goals as goal

pub returns-in-Ok : goal.returns-in-Ok
returns-in-Ok g c =
    let system = c.args.system.now in
    let text = c.add_rules.new.text.items in
    all_listed c.args.most c.args.explain system text c.in-Ok.ensures.few
    (subst (λ before. Appends (IsMatchText system c.args.explain) before text) c.new-text.ensures.items c.in-Ok.ensures.text)

pub excess_of-requires : goal.excess_of-requires
excess_of-requires g c =
    record {
      there = first_below c.args.most c.args.system.now c.in-Err-TooMany.rule (c.in-Err-TooMany.ensures.many c.in-Err-TooMany.rule c.in-Err-TooMany.field-0-is);
    }

pub returns-in-Err-TooMany : goal.returns-in-Err-TooMany
returns-in-Err-TooMany g c =
    told_by c.args.most c.args.explain c.args.system.now c.in-Err-TooMany.rule c.excess_of.result
    (c.in-Err-TooMany.ensures.many c.in-Err-TooMany.rule c.in-Err-TooMany.field-0-is) c.excess_of.ensures
