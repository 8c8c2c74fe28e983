use Rattle.std.proofs.Common.{◌≡◌, ◌+◌, ◌*◌, ◌≤◌, ◌++◌, length, map, drop, vec_len, vec_capacity}
use Rattle.bg_watch.specs.Watching.{Watched, staying_all, leaving_all}
use Rattle.bg_watch.proofs.telling.tell_entries.Given as goal

-- what stays and what is written, where the watchers are told of the entries from the number on, is that of all entries; and
-- there is room
abbrev pub invariant-loop-number : goal.invariant-loop-number
invariant-loop-number g l =
    (staying_all (map {B = Watched} (λ b. (goal.Watcher-dyn g (b.vtable, b.value)).state b.value) l.watchers.items) (drop l.number l.entries) (drop l.number l.nodes)
    ≡ staying_all (map {B = Watched} (λ b. (goal.Watcher-dyn g (b.vtable, b.value)).state b.value) l.fn.watchers.items) l.entries l.nodes)
    × (l.out.items ++ leaving_all (map {B = Watched} (λ b. (goal.Watcher-dyn g (b.vtable, b.value)).state b.value) l.watchers.items) (drop l.number l.entries) (drop l.number l.nodes)
    ≡ l.fn.out.items ++ leaving_all (map {B = Watched} (λ b. (goal.Watcher-dyn g (b.vtable, b.value)).state b.value) l.fn.watchers.items) l.entries l.nodes)
    × (vec_len l.out + 64 * length l.watchers.items ≤ vec_len l.fn.out + 64 * length l.fn.watchers.items)
    × (vec_capacity l.fn.out ≤ vec_capacity l.out)
