use Rattle.std.proofs.Common.{◌<◌, ◌≤◌, List, length, rules, Err, sym, ap, subst, ◌∙◌}
use Rattle.std.specs.List.Sorted.{IsBinarySearchResult}
use Rattle.std.specs.Ordering.{nat_cmp}
use Rattle.std.proofs.lemmas.List.Sorted.{answers_always}
use Rattle.std.proofs.lemmas.Result.{on_ok_weaker}
use Rattle.bg_lists.specs.Lists.{At}
use Rattle.bg_lists.proofs.Places.{At-get_or, At-one, At-same}
use Rattle.bg_index.specs.declared.entries.EdgeEntry.{EdgeEntry}
use Rattle.bg_index.specs.Commits.{edge_key}
use Rattle.bg_index.proofs.KeyLaws.{key_found, key_nowhere}
use Rattle.bg_index.proofs.RoomLaws.{edge_has_room, edge_roomier}
use Rattle.bg_index.proofs.room.make_edge.Goals as goal

pub returns-in-Ok-clause-edges : goal.returns-in-Ok-clause-edges
returns-in-Ok-clause-edges c =
    let was = c.index_mut.result.now in
    let below = subst (λ (xs : List EdgeEntry). c.in-Ok.at < length xs) c.deref.ensures.value c.in-Ok.ensures.bound in
    let stood = At-same (sym c.index_mut.ensures.value) (At-get_or c.args.edges.now.items c.in-Ok.at was below) in
    edge_roomier c.args.edges.now.items c.in-Ok.at was c.make_edge_points.new.entry c.requires.ascending stood c.make_edge_points.ensures.edge
    c.make_edge_points.ensures.points

pub returns-in-Ok-clause-room : goal.returns-in-Ok-clause-room
returns-in-Ok-clause-room c =
    let was = c.index_mut.result.now in
    let w = key_found edge_key c.deref.result.now c.args.edge c.in-Ok.at c.in-Ok.ensures.bound
    (c.in-Ok.ensures.position (λ (entry : EdgeEntry). entry.edge) (answers_always _ _ _ (λ f a r g called. search rules))) in
    let below = subst (λ (xs : List EdgeEntry). c.in-Ok.at < length xs) c.deref.ensures.value c.in-Ok.ensures.bound in
    let stood = At-same (sym c.index_mut.ensures.value) (At-get_or c.args.edges.now.items c.in-Ok.at was below) in
    let same = At-one (subst (λ (xs : List EdgeEntry). At w.0 c.in-Ok.at xs) c.deref.ensures.value w.1) stood in
    on_ok_weaker c.make_edge_points.result
    (edge_has_room c.args.edges.now.items c.in-Ok.at was c.make_edge_points.new.entry c.requires.ascending stood c.make_edge_points.ensures.edge
    c.make_edge_points.ensures.points c.args.edge c.args.arriving.now.items (sym (ap (λ (x : EdgeEntry). x.edge) same) ∙ w.2))
    c.make_edge_points.ensures.room

pub returns-in-Err-clause-room : goal.returns-in-Err-clause-room
returns-in-Err-clause-room c = λ entry m e.
    let inside = subst (λ (xs : List EdgeEntry). c.in-Err.field-0 ≤ length xs) c.deref.ensures.value c.in-Err.ensures.bound in
    let nowhere = subst (λ (xs : List EdgeEntry). IsBinarySearchResult (λ (entry : EdgeEntry). nat_cmp entry.edge c.args.edge) xs (Err c.in-Err.field-0)) c.deref.ensures.value
    (c.in-Err.ensures.position (λ (entry : EdgeEntry). entry.edge) (answers_always _ _ _ (λ f a r g called. search rules))) in
    absurd (key_nowhere edge_key c.args.edges.now.items c.args.edge c.in-Err.field-0 c.requires.ascending inside nowhere entry m e)
