use Rattle.std.proofs.Common.{take}
use Rattle.bg_match_text.specs.Appending.{Appends}
use Rattle.bg_match_text.specs.MatchText.{AreOccurrenceTexts}
use Rattle.bg_match_text.proofs.rule_text.put_maps.Given as goal

-- the occurrences so far are written
abbrev pub invariant-loop-map : goal.invariant-loop-map
invariant-loop-map l = Appends (AreOccurrenceTexts l.signature l.host l.redex l.explain (take l.map-index l.maps)) l.fn.out.items l.out.items
