use Rattle.std.proofs.Common.{ℕ, ◌<◌, ◌≤◌, Err, nat_cmp, List, length, refl, subst}
use Rattle.std.specs.List.Sorted.{IsBinarySearchResult}
use Rattle.bg_lists.specs.Lists.{At}
use Rattle.bg_lists.proofs.Places.{At-same}
use Rattle.bg_index.proofs.KeyLaws.{key_found, key_nowhere, all_thinned, all_out, one_thinned, one_out, thinned_same}
use Rattle.bg_index.proofs.leaving.leave_out.Goals as goal

pub take_at-requires : goal.take_at-requires
take_at-requires c = record { inside = subst (λ (xs : List ℕ). c.in-Ok.at < length xs) c.deref.ensures.value c.in-Ok.ensures.bound }

pub returns-then-is_cheaper_singly-clause-thinned : goal.returns-then-is_cheaper_singly-clause-thinned
returns-then-is_cheaper_singly-clause-thinned c =
    let w = key_found (λ (n : ℕ). n) c.deref.result.now c.args.number c.in-Ok.at c.in-Ok.ensures.bound c.in-Ok.ensures.position in
    one_thinned c.args.gone.now c.args.numbers.now.items c.take_at.new.numbers.items c.requires.numbers_ascend c.args.number c.in-Ok.at
    (subst (λ (xs : List ℕ). At c.args.number c.in-Ok.at xs) c.deref.ensures.value (At-same w.2 w.1)) c.take_at.ensures.taken c.requires.among

pub returns-then-is_cheaper_singly-clause-out : goal.returns-then-is_cheaper_singly-clause-out
returns-then-is_cheaper_singly-clause-out c =
    let w = key_found (λ (n : ℕ). n) c.deref.result.now c.args.number c.in-Ok.at c.in-Ok.ensures.bound c.in-Ok.ensures.position in
    one_out c.args.gone.now c.args.numbers.now.items c.take_at.new.numbers.items c.requires.numbers_ascend c.args.number c.in-Ok.at
    (subst (λ (xs : List ℕ). At c.args.number c.in-Ok.at xs) c.deref.ensures.value (At-same w.2 w.1)) c.take_at.ensures.taken

pub returns-else-is_cheaper_singly-clause-thinned : goal.returns-else-is_cheaper_singly-clause-thinned
returns-else-is_cheaper_singly-clause-thinned c = all_thinned c.args.gone.now c.args.numbers.now.items c.keep.new.numbers.items c.keep.ensures.kept

pub returns-else-is_cheaper_singly-clause-out : goal.returns-else-is_cheaper_singly-clause-out
returns-else-is_cheaper_singly-clause-out c =
    all_out c.args.gone.now c.args.numbers.now.items c.keep.new.numbers.items c.keep.ensures.kept c.args.number c.requires.among

pub returns-in-Err-clause-thinned : goal.returns-in-Err-clause-thinned
returns-in-Err-clause-thinned c = thinned_same c.args.gone.now c.args.numbers.now.items

pub returns-in-Err-clause-out : goal.returns-in-Err-clause-out
returns-in-Err-clause-out c = λ m.
    key_nowhere (λ (n : ℕ). n) c.args.numbers.now.items c.args.number c.in-Err.field-0 c.requires.numbers_ascend
    (subst (λ (xs : List ℕ). c.in-Err.field-0 ≤ length xs) c.deref.ensures.value c.in-Err.ensures.bound)
    (subst (λ (xs : List ℕ). IsBinarySearchResult (λ (n : ℕ). nat_cmp n c.args.number) xs (Err c.in-Err.field-0)) c.deref.ensures.value c.in-Err.ensures.position)
    c.args.number m refl
