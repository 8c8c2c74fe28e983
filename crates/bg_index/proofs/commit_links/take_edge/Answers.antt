use Rattle.std.proofs.Common.{◌<◌, ◌≤◌, List, length, rules, Ok, Err, subst}
use Rattle.std.specs.List.Sorted.{IsBinarySearchResult}
use Rattle.std.specs.Ordering.{nat_cmp}
use Rattle.std.proofs.lemmas.List.Sorted.{answers_always}
use Rattle.bg_index.specs.declared.entries.EdgeEntry.{EdgeEntry}
use Rattle.bg_index.proofs.KeyLaws.{one_removed, none_removed}
use Rattle.bg_index.proofs.commit_links.take_edge.Goals as goal

pub take_edge_at-requires : goal.take_edge_at-requires
take_edge_at-requires c = record { inside = subst (λ (xs : List EdgeEntry). c.in-Ok.at < length xs) c.deref.ensures.value c.in-Ok.ensures.bound }

pub returns-in-Ok-clause-kept : goal.returns-in-Ok-clause-kept
returns-in-Ok-clause-kept c =
    let there = subst (λ (xs : List EdgeEntry). IsBinarySearchResult (λ (entry : EdgeEntry). nat_cmp entry.edge c.args.edge) xs (Ok c.in-Ok.at)) c.deref.ensures.value
    (c.in-Ok.ensures.position (λ (entry : EdgeEntry). entry.edge) (answers_always _ _ _ (λ f a r g called. search rules))) in
    one_removed (λ (entry : EdgeEntry). entry.edge) c.args.edges.now.items c.take_edge_at.new.edges.items c.args.edge c.in-Ok.at c.requires.edges_ascend
    (subst (λ (xs : List EdgeEntry). c.in-Ok.at < length xs) c.deref.ensures.value c.in-Ok.ensures.bound) there c.take_edge_at.ensures.taken

pub returns-in-Err-clause-kept : goal.returns-in-Err-clause-kept
returns-in-Err-clause-kept c =
    let nowhere = subst (λ (xs : List EdgeEntry). IsBinarySearchResult (λ (entry : EdgeEntry). nat_cmp entry.edge c.args.edge) xs (Err c.in-Err.field-0)) c.deref.ensures.value
    (c.in-Err.ensures.position (λ (entry : EdgeEntry). entry.edge) (answers_always _ _ _ (λ f a r g called. search rules))) in
    none_removed (λ (entry : EdgeEntry). entry.edge) c.args.edges.now.items c.args.edge c.in-Err.field-0 c.requires.edges_ascend
    (subst (λ (xs : List EdgeEntry). c.in-Err.field-0 ≤ length xs) c.deref.ensures.value c.in-Err.ensures.bound) nowhere
