use Rattle.std.proofs.Common.{◌≡◌, ◌+◌, ◌*◌, ◌-◌, ◌≤◌, ◌++◌, length, map, vec_len, vec_capacity}
use Rattle.bg_watch.specs.Watching.{Watched, staying, leaving}
use Rattle.bg_watch.proofs.Lists.{stay_from, leave_from}
use Rattle.bg_watch.proofs.telling.tell_entry.Given as goal

-- what stays and what is written, where the watchers from the place on are told, is that of the whole list; and there is room
abbrev pub invariant-loop-place : goal.invariant-loop-place
invariant-loop-place g l =
    (stay_from (λ b. (goal.Watcher-dyn g (b.vtable, b.value)).state b.value) l.entry l.nodes l.watchers.items l.place
    ≡ staying (map {B = Watched} (λ b. (goal.Watcher-dyn g (b.vtable, b.value)).state b.value) l.fn.watchers.items) l.entry l.nodes)
    × (l.out.items ++ leave_from (λ b. (goal.Watcher-dyn g (b.vtable, b.value)).state b.value) l.entry l.nodes l.watchers.items l.place
    ≡ l.fn.out.items ++ leaving (map {B = Watched} (λ b. (goal.Watcher-dyn g (b.vtable, b.value)).state b.value) l.fn.watchers.items) l.entry l.nodes)
    × (vec_len l.out + 64 * length l.watchers.items ≤ vec_len l.fn.out + 64 * length l.fn.watchers.items)
    × (vec_capacity l.fn.out ≤ vec_capacity l.out)

abbrev pub decreases-loop-place : goal.decreases-loop-place
decreases-loop-place g l = length l.watchers.items - l.place
