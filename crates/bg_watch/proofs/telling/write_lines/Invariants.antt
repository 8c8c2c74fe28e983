use Rattle.std.proofs.Common.{◌≡◌, ◌+◌, ◌*◌, ◌≤◌, ◌++◌, map, take, vec_len, vec_capacity}
use Rattle.std.specs.List.{flat_map}
use Rattle.bg_watch.specs.Watching.{Watched, line_of}
use Rattle.bg_watch.proofs.telling.write_lines.Given as goal

-- the lines so far are written, and there is room for the others
abbrev pub invariant-loop-watcher : goal.invariant-loop-watcher
invariant-loop-watcher g l =
    (l.out.items ≡ l.fn.out.items ++ flat_map line_of (map {B = Watched} (λ b. (goal.Watcher-dyn g (b.vtable, b.value)).state b.value) (take l.watcher-index l.watchers)))
    × (vec_len l.out ≤ vec_len l.fn.out + 64 * l.watcher-index)
    × (vec_capacity l.fn.out ≤ vec_capacity l.out)
