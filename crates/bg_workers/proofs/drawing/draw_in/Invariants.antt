use Rattle.std.proofs.Common.{◌≡◌, ◌+◌, ◌≤◌, length}
use Rattle.bg_incr.specs.Finders.{StandsFor}
use Rattle.bg_workers.specs.Turns.{Continues, IsLater, after_words}
use Rattle.bg_workers.proofs.drawing.draw_in.Given as goal

-- what is drawn from here on, behind the entries so far, is drawn from the beginning; a word was taken for each of these
abbrev pub invariant-loop-room : goal.invariant-loop-room
invariant-loop-room l =
    Continues l.system.rules 0 l.most l.fn.finder.host l.fn.picker l.room l.finder.host l.picker l.entries.items
    × (l.picker ≡ after_words (length l.entries.items) l.fn.picker) × StandsFor l.finder l.system × (l.finder.version + l.room ≤ l.most)
    × IsLater l.fn.picker l.picker

abbrev pub decreases-loop-room : goal.decreases-loop-room
decreases-loop-room l = l.room
