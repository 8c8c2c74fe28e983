use Rattle.bg_match_text.specs.MatchText.{occurrence_line, plain}
use Rattle.bg_match_text.proofs.occurrence.put_plain.Goals as goal

pub returns : goal.returns
returns c = record { text = occurrence_line c.args.map.now; is_text = plain; appended = c.in_ok-put_map.ensures }
