use Rattle.std.proofs.Common.{◌<◌, ◌≤◌, ◌∷◌, [], List, length, rules, Err, refl, sym, ap, subst, ◌∙◌}
use Rattle.std.specs.List.Sorted.{IsBinarySearchResult}
use Rattle.std.specs.Ordering.{nat_cmp}
use Rattle.std.proofs.lemmas.List.Sorted.{answers_always}
use Rattle.bg_lists.specs.Lists.{At, here}
use Rattle.bg_lists.proofs.Places.{At-get_or, At-one, At-same, Mem-from_At}
use Rattle.bg_index.specs.declared.entries.EdgeEntry.{EdgeEntry}
use Rattle.bg_index.specs.declared.plans.LinkKey.TheVariants.{Edge as EdgeKey}
use Rattle.bg_index.specs.Commits.{IsEdgeBundled, edge_key}
use Rattle.bg_index.proofs.CommitLinkLaws.{edge_its, edge_other}
use Rattle.bg_index.proofs.KeyLaws.{from_same, from_set, key_found, key_nowhere}
use Rattle.bg_index.proofs.commit_links.change_edge.Goals as goal

pub change_points-requires-clause-take : goal.change_points-requires-clause-take
change_points-requires-clause-take c =
    let was = c.index_mut.result.now in
    let w = key_found edge_key c.deref.result.now c.args.edge c.in-Ok.at c.in-Ok.ensures.bound
    (c.in-Ok.ensures.position (λ (entry : EdgeEntry). entry.edge) (answers_always _ _ _ (λ f a r g called. search rules))) in
    let below = subst (λ (xs : List EdgeEntry). c.in-Ok.at < length xs) c.deref.ensures.value c.in-Ok.ensures.bound in
    let stood = At-same (sym c.index_mut.ensures.value) (At-get_or c.args.edges.now.items c.in-Ok.at was below) in
    let same = At-one (subst (λ (xs : List EdgeEntry). At w.0 c.in-Ok.at xs) c.deref.ensures.value w.1) stood in
    c.requires.take was c.args.bundle (Mem-from_At stood) (here refl) (c.requires.key ∙ ap EdgeKey (sym w.2 ∙ ap (λ (x : EdgeEntry). x.edge) same))

pub returns-in-Ok-clause-edges : goal.returns-in-Ok-clause-edges
returns-in-Ok-clause-edges c =
    let was = c.index_mut.result.now in
    let w = key_found edge_key c.deref.result.now c.args.edge c.in-Ok.at c.in-Ok.ensures.bound
    (c.in-Ok.ensures.position (λ (entry : EdgeEntry). entry.edge) (answers_always _ _ _ (λ f a r g called. search rules))) in
    let below = subst (λ (xs : List EdgeEntry). c.in-Ok.at < length xs) c.deref.ensures.value c.in-Ok.ensures.bound in
    let stood = At-same (sym c.index_mut.ensures.value) (At-get_or c.args.edges.now.items c.in-Ok.at was below) in
    let same = At-one (subst (λ (xs : List EdgeEntry). At w.0 c.in-Ok.at xs) c.deref.ensures.value w.1) stood in
    let its = sym w.2 ∙ ap (λ (x : EdgeEntry). x.edge) same in
    from_set edge_key (IsEdgeBundled c.args.gone.now (c.args.bundle ∷ [])) c.args.edges.now.items c.requires.ascending c.in-Ok.at was c.change_points.new.entry
    stood c.change_points.ensures.edge
    (edge_its c.args.gone.now c.args.bundle c.args.edge c.requires.key was c.change_points.new.entry (c.change_points.ensures.edge ∙ sym its) c.change_points.ensures.points)
    (λ x m differ. edge_other c.args.gone.now c.args.bundle c.args.edge c.requires.key x (λ e. differ (e ∙ its)))

pub returns-in-Err-clause-edges : goal.returns-in-Err-clause-edges
returns-in-Err-clause-edges c =
    let inside = subst (λ (xs : List EdgeEntry). c.in-Err.field-0 ≤ length xs) c.deref.ensures.value c.in-Err.ensures.bound in
    let nowhere = subst (λ (xs : List EdgeEntry). IsBinarySearchResult (λ (entry : EdgeEntry). nat_cmp entry.edge c.args.edge) xs (Err c.in-Err.field-0)) c.deref.ensures.value
    (c.in-Err.ensures.position (λ (entry : EdgeEntry). entry.edge) (answers_always _ _ _ (λ f a r g called. search rules))) in
    from_same edge_key (IsEdgeBundled c.args.gone.now (c.args.bundle ∷ [])) c.args.edges.now.items
    (λ x m. edge_other c.args.gone.now c.args.bundle c.args.edge c.requires.key x
    (key_nowhere edge_key c.args.edges.now.items c.args.edge c.in-Err.field-0 c.requires.ascending inside nowhere x m))
