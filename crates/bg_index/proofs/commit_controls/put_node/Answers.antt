use Rattle.std.proofs.Common.{◌<◌, ◌≤◌, ◌∷◌, [], List, length, rules, Err, sym, ap, subst, ◌∙◌, arith}
use Rattle.std.specs.List.Sorted.{IsBinarySearchResult}
use Rattle.std.specs.Ordering.{nat_cmp}
use Rattle.std.proofs.lemmas.List.Sorted.{answers_always}
use Rattle.bg_lists.specs.Lists.{At}
use Rattle.bg_lists.proofs.Places.{At-get_or, At-one, At-same, Mem-from_At}
use Rattle.bg_index.specs.declared.entries.ControlEntry.{ControlEntry}
use Rattle.bg_index.specs.Commits.{HasMore, IsRoomy, control_key}
use Rattle.bg_index.proofs.CommitControlLaws.{more_its, more_other, one_key}
use Rattle.bg_index.proofs.KeyLaws.{from_set, key_found, key_nowhere}
use Rattle.bg_index.proofs.commit_controls.put_node.Goals as goal

pub push_node-requires : goal.push_node-requires
push_node-requires c =
    let was = c.index_mut.result.now in
    let w = key_found control_key c.deref.result.now c.args.row.now.control c.in-Ok.at c.in-Ok.ensures.bound
    (c.in-Ok.ensures.position (λ (entry : ControlEntry). entry.control) (answers_always _ _ _ (λ f a r g called. search rules))) in
    let below = subst (λ (xs : List ControlEntry). c.in-Ok.at < length xs) c.deref.ensures.value c.in-Ok.ensures.bound in
    let stood = At-same (sym c.index_mut.ensures.value) (At-get_or c.args.controls.now.items c.in-Ok.at was below) in
    let same = At-one (subst (λ (xs : List ControlEntry). At w.0 c.in-Ok.at xs) c.deref.ensures.value w.1) stood in
    let r = c.requires.room in
    let one = one_key c.args.controls.now.items c.requires.ascending r.0 was r.1 (Mem-from_At stood)
    (r.2.named ∙ sym w.2 ∙ ap (λ (x : ControlEntry). x.control) same) in
    let roomy = subst (λ (x : ControlEntry). IsRoomy c.args.row.now.control 1 x) one r.2 in
    let room = roomy.room in
    record { room = omega arith }

pub returns-in-Ok : goal.returns-in-Ok
returns-in-Ok c =
    let was = c.index_mut.result.now in
    let w = key_found control_key c.deref.result.now c.args.row.now.control c.in-Ok.at c.in-Ok.ensures.bound
    (c.in-Ok.ensures.position (λ (entry : ControlEntry). entry.control) (answers_always _ _ _ (λ f a r g called. search rules))) in
    let below = subst (λ (xs : List ControlEntry). c.in-Ok.at < length xs) c.deref.ensures.value c.in-Ok.ensures.bound in
    let stood = At-same (sym c.index_mut.ensures.value) (At-get_or c.args.controls.now.items c.in-Ok.at was below) in
    let same = At-one (subst (λ (xs : List ControlEntry). At w.0 c.in-Ok.at xs) c.deref.ensures.value w.1) stood in
    let its = sym w.2 ∙ ap (λ (x : ControlEntry). x.control) same in
    from_set control_key (HasMore (c.args.row.now ∷ [])) c.args.controls.now.items c.requires.ascending c.in-Ok.at was c.push_node.new.entry
    stood c.push_node.ensures.control
    (more_its c.args.row.now was c.push_node.new.entry c.push_node.ensures.control its c.push_node.ensures.nodes c.push_node.ensures.capacity)
    (λ x m differ. more_other c.args.row.now x (λ e. differ (e ∙ its)))

pub returns-in-Err : goal.returns-in-Err
returns-in-Err c =
    let inside = subst (λ (xs : List ControlEntry). c.in-Err.field-0 ≤ length xs) c.deref.ensures.value c.in-Err.ensures.bound in
    let nowhere = subst (λ (xs : List ControlEntry). IsBinarySearchResult (λ (entry : ControlEntry). nat_cmp entry.control c.args.row.now.control) xs (Err c.in-Err.field-0)) c.deref.ensures.value
    (c.in-Err.ensures.position (λ (entry : ControlEntry). entry.control) (answers_always _ _ _ (λ f a r g called. search rules))) in
    let r = c.requires.room in
    absurd (key_nowhere control_key c.args.controls.now.items c.args.row.now.control c.in-Err.field-0 c.requires.ascending inside nowhere r.0 r.1 r.2.named)
