use Rattle.std.proofs.Common.{◌≡◌, ◌≤◌, List, length, rules, Err, refl, sym, subst}
use Rattle.std.specs.List.Sorted.{IsStrictlySortedBy, IsBinarySearchResult}
use Rattle.std.specs.Ordering.{nat_cmp}
use Rattle.std.proofs.lemmas.List.Sorted.{answers_always}
use Rattle.bg_lists.specs.Lists.{At}
use Rattle.bg_index.specs.declared.entries.ControlEntry.{ControlEntry}
use Rattle.bg_index.specs.Commits.{AreRoomier}
use Rattle.bg_index.specs.Indexed.{control_cmp, AreSorted}
use Rattle.bg_index.proofs.ControlLaws.{found_there, more_there, more_ascends, more_sorted}
use Rattle.bg_index.proofs.IndexLaws.{control-search}
use Rattle.bg_index.proofs.RoomLaws.{roomier_insert, roomier_same}
use Rattle.bg_index.proofs.controls.control_at.Goals as goal

pub returns-in-Ok-clause-there : goal.returns-in-Ok-clause-there
returns-in-Ok-clause-there c =
    subst (λ (xs : List ControlEntry). (entry : ControlEntry) × At entry c.in-Ok.at xs × (entry.control ≡ c.args.control)) c.deref.ensures.value
    (found_there c.deref.result.now c.args.control c.in-Ok.at c.in-Ok.ensures.bound
    (c.in-Ok.ensures.position (λ (entry : ControlEntry). entry.control) (answers_always _ _ _ (λ f a r g called. search rules))))

pub returns-in-Ok-clause-roomier : goal.returns-in-Ok-clause-roomier
returns-in-Ok-clause-roomier c = roomier_same c.args.controls.now.items

pub returns-in_err-insert-in-Err-clause-roomier : goal.returns-in_err-insert-in-Err-clause-roomier
returns-in_err-insert-in-Err-clause-roomier c =
    subst (λ xs. AreRoomier c.args.controls.now.items xs) (sym c.in_err-insert-in-Err.ensures.items) (roomier_same c.args.controls.now.items)

pub returns-in_ok-insert-in-Err-clause-there : goal.returns-in_ok-insert-in-Err-clause-there
returns-in_ok-insert-in-Err-clause-there c =
    let inside = subst (λ (xs : List ControlEntry). c.in-Err.at ≤ length xs) c.deref.ensures.value c.in-Err.ensures.bound in
    let nowhere = subst (λ (xs : List ControlEntry). IsBinarySearchResult (λ (entry : ControlEntry). nat_cmp entry.control c.args.control) xs (Err c.in-Err.at)) c.deref.ensures.value
    (c.in-Err.ensures.position (λ (entry : ControlEntry). entry.control) (answers_always _ _ _ (λ f a r g called. search rules))) in
    subst (λ (xs : List ControlEntry). (entry : ControlEntry) × At entry c.in-Err.at xs × (entry.control ≡ c.args.control))
    (sym c.in_ok-insert-in-Err.ensures.items)
    (more_there c.args.controls.now.items c.args.control c.requires.ascending c.in-Err.at inside nowhere
    (record { control = c.args.control; nodes = c.new-nodes.result }) refl)

pub returns-in_ok-insert-in-Err-clause-ascending : goal.returns-in_ok-insert-in-Err-clause-ascending
returns-in_ok-insert-in-Err-clause-ascending c =
    let inside = subst (λ (xs : List ControlEntry). c.in-Err.at ≤ length xs) c.deref.ensures.value c.in-Err.ensures.bound in
    let nowhere = subst (λ (xs : List ControlEntry). IsBinarySearchResult (λ (entry : ControlEntry). nat_cmp entry.control c.args.control) xs (Err c.in-Err.at)) c.deref.ensures.value
    (c.in-Err.ensures.position (λ (entry : ControlEntry). entry.control) (answers_always _ _ _ (λ f a r g called. search rules))) in
    subst (λ (xs : List ControlEntry). IsStrictlySortedBy control_cmp xs) (sym c.in_ok-insert-in-Err.ensures.items)
    (more_ascends c.args.controls.now.items c.args.control c.requires.ascending c.in-Err.at inside nowhere
    (record { control = c.args.control; nodes = c.new-nodes.result }) refl)

pub returns-in_ok-insert-in-Err-clause-roomier : goal.returns-in_ok-insert-in-Err-clause-roomier
returns-in_ok-insert-in-Err-clause-roomier c =
    subst (λ xs. AreRoomier c.args.controls.now.items xs) (sym c.in_ok-insert-in-Err.ensures.items)
    (roomier_insert c.in-Err.at (record { control = c.args.control; nodes = c.new-nodes.result }) c.args.controls.now.items)

pub returns-in_ok-insert-in-Err-clause-sorted : goal.returns-in_ok-insert-in-Err-clause-sorted
returns-in_ok-insert-in-Err-clause-sorted c = λ rows sorted.
    let inside = subst (λ (xs : List ControlEntry). c.in-Err.at ≤ length xs) c.deref.ensures.value c.in-Err.ensures.bound in
    let nowhere = subst (λ (xs : List ControlEntry). IsBinarySearchResult (λ (entry : ControlEntry). nat_cmp entry.control c.args.control) xs (Err c.in-Err.at)) c.deref.ensures.value
    (c.in-Err.ensures.position (λ (entry : ControlEntry). entry.control) (answers_always _ _ _ (λ f a r g called. search rules))) in
    let none = control-search c.args.controls.now.items c.args.control c.requires.ascending (Err c.in-Err.at) inside nowhere in
    subst (AreSorted rows) (sym c.in_ok-insert-in-Err.ensures.items)
    (more_sorted c.args.controls.now.items c.args.control c.requires.ascending c.in-Err.at inside nowhere
    (record { control = c.args.control; nodes = c.new-nodes.result }) refl rows none c.new-nodes.ensures.items sorted)
