use Rattle.std.proofs.Common.{◌≡◌, ◌++◌, take}
use Rattle.std.specs.List.{flat_map}
use Rattle.bg_show_text.specs.SystemText.{predicate_text}
use Rattle.bg_show_text.proofs.show.put_preds.Given as goal

-- the predicates so far are written
abbrev pub invariant-loop-predicate : goal.invariant-loop-predicate
invariant-loop-predicate l = l.out.items ≡ l.fn.out.items ++ flat_map (predicate_text l.signature) (take l.predicate-index l.preds)
