use Rattle.std.proofs.Common.{ℕ, ◌+◌, ◌++◌, ◌∷◌, [], List, get_or, take, map, sym, ap, subst, ◌∙◌, rules}
use Rattle.std.proofs.lemmas.List.{take_more, map-append}
use Rattle.bg_lists.specs.Lists.{Mem}
use Rattle.bg_lists.proofs.Places.{At-get_or, Mem-from_At}
use Rattle.bg_index.specs.declared.entries.EdgeEntry.{EdgeEntry}
use Rattle.bg_index.specs.Arrivals.{IsArrivedAt}
use Rattle.bg_index.specs.Indexed.{edges_of}
use Rattle.bg_index.proofs.ArrivalLaws.{all_more}
use Rattle.bg_index.proofs.used.entries_of.Goals as goal

pub overflow_add-next : goal.overflow_add-next
overflow_add-next c =
    let fits = c.requires.room (get_or c.args.own.now c.loop-edge.edge-index 0)
    (Mem-from_At (At-get_or c.args.own.now c.loop-edge.edge-index 0 c.loop-edge-test.true)) in
    search (rules, fits)

pub loop-edge-preserved : goal.loop-edge-preserved
loop-edge-preserved c =
    let next = c.args.next in
    let own = c.args.own.now in
    let at = c.loop-edge.edge-index in
    let entry : EdgeEntry = c.in_ok-entry.entry in
    let number = c.in_ok-entry.ensures.number in
    let before = c.loop-edge.invariant.0 in
    let numbers = map (λ (edge : ℕ). next + edge) (take at own) in (
      ap edges_of c.in_ok-push.ensures.items ∙ map-append (λ (e : EdgeEntry). e.edge) c.loop-edge.made.items (entry ∷ [])
          ∙ ap (λ xs. xs ++ entry.edge ∷ []) before
          ∙ ap (λ n. numbers ++ n ∷ []) number
          ∙ sym (ap (map (λ (edge : ℕ). next + edge)) (take_more own at 0 c.loop-edge-test.true)
          ∙ map-append (λ (edge : ℕ). next + edge) (take at own) (get_or own at 0 ∷ [])),
      subst (λ (xs : List EdgeEntry). (e : EdgeEntry) → Mem e xs → IsArrivedAt c.args.arrivals.now e.edge e) (sym c.in_ok-push.ensures.items)
          (all_more (λ (e : EdgeEntry). IsArrivedAt c.args.arrivals.now e.edge e) c.loop-edge.made.items entry c.loop-edge.invariant.1
          (subst (λ n. IsArrivedAt c.args.arrivals.now n entry) (sym number) c.in_ok-entry.ensures)),
    )
