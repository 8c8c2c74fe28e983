use Rattle.std.proofs.Common.{ℕ, ◌<◌, ◌≤◌, Ok, Err, nat_cmp, List, length, subst}
use Rattle.std.specs.List.Sorted.{IsBinarySearchResult}
use Rattle.bg_index.proofs.KeyLaws.{none_removed, one_removed}
use Rattle.bg_index.proofs.leaving.take_number.Goals as goal

pub take_at-requires : goal.take_at-requires
take_at-requires c = record { inside = subst (λ (xs : List ℕ). c.in-Ok.at < length xs) c.deref.ensures.value c.in-Ok.ensures.bound }

pub returns-in-Ok-clause-kept : goal.returns-in-Ok-clause-kept
returns-in-Ok-clause-kept c =
    one_removed (λ (n : ℕ). n) c.args.numbers.now.items c.take_at.new.numbers.items c.args.number c.in-Ok.at c.requires.numbers_ascend
    (subst (λ (xs : List ℕ). c.in-Ok.at < length xs) c.deref.ensures.value c.in-Ok.ensures.bound)
    (subst (λ (xs : List ℕ). IsBinarySearchResult (λ (n : ℕ). nat_cmp n c.args.number) xs (Ok c.in-Ok.at)) c.deref.ensures.value c.in-Ok.ensures.position)
    c.take_at.ensures.taken

pub returns-in-Err-clause-kept : goal.returns-in-Err-clause-kept
returns-in-Err-clause-kept c =
    none_removed (λ (n : ℕ). n) c.args.numbers.now.items c.args.number c.in-Err.field-0 c.requires.numbers_ascend
    (subst (λ (xs : List ℕ). c.in-Err.field-0 ≤ length xs) c.deref.ensures.value c.in-Err.ensures.bound)
    (subst (λ (xs : List ℕ). IsBinarySearchResult (λ (n : ℕ). nat_cmp n c.args.number) xs (Err c.in-Err.field-0)) c.deref.ensures.value c.in-Err.ensures.position)
