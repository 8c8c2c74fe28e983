use Rattle.std.proofs.Common.{ℕ, rules}
use Rattle.std.proofs.lemmas.List.Sorted.{answers_always, IsNonDecreasingBy-from_sort}
use Rattle.bg_index.proofs.RoomLaws.{wanted_counts}
use Rattle.bg_index.proofs.room.controls_wanted.Goals as goal

pub returns-clause-rise : goal.returns-clause-rise
returns-clause-rise c =
    IsNonDecreasingBy-from_sort (λ (control : ℕ). control) c.sort_by_key.new.self.items
    (c.in_ok-sort_by_key.ensures.sorted (λ (control : ℕ). control) (answers_always _ _ _ (λ f a r g called. search rules)))

pub returns-clause-counts : goal.returns-clause-counts
returns-clause-counts c =
    wanted_counts c.args.entries.now c.in_ok-wanted.wanted.items c.sort_by_key.new.self.items c.in_ok-wanted.ensures
    (c.sort_by_key.ensures.stable (λ (control : ℕ). control) (answers_always _ _ _ (λ f a r g called. search rules)))
