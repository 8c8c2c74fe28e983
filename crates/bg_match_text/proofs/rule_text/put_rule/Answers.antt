use Rattle.std.proofs.Common.{All, length, refl, sym, subst}
use Rattle.bg_base.specs.declared.big.Big.{Big}
use Rattle.bg_rules.specs.Decomposition.{Occurs}
use Rattle.bg_match_text.proofs.Occurrences.{all_occur}
use Rattle.bg_match_text.proofs.OneRule.{line_and_texts}
use Rattle.bg_match_text.proofs.Writing.{kept_on_error}
use Rattle.bg_match_text.proofs.rule_text.put_rule.Goals as goal

pub put_maps-requires-clause-occur : goal.put_maps-requires-clause-occur
put_maps-requires-clause-occur c =
    let host = c.args.host.now in
    subst (λ (pattern : Big). All (Occurs host pattern) c.args.maps.now) (sym c.redex.ensures.same)
    (all_occur host c.args.rule.now.redex c.args.maps.now c.requires.all)

pub returns-in_err-put_maps-clause-kept : goal.returns-in_err-put_maps-clause-kept
returns-in_err-put_maps-clause-kept c =
    kept_on_error _ c.args.out.now.items _ _ _ c.in_ok-write_rule_line.ensures.ok c.in_err-put_maps.ensures.kept

pub returns-clause-text : goal.returns-clause-text
returns-clause-text c =
    line_and_texts c.args.number c.args.rule.now c.args.maps.now c.args.maps.now (length c.args.maps.now) c.args.out.now.items _ _
    c.requires.all refl refl c.redex.ensures.same c.in_ok-write_rule_line.ensures.ok c.in_ok-put_maps.ensures.text
