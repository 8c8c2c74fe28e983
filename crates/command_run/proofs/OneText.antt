-- With one worker there is one text.
use Rattle.std.proofs.Common.{◌≡◌, ◌↔◌, ℕ, List, ◌∷◌, Bool, true, false, IsTrue, refl, sym, ap, subst, ◌∙◌}
use Rattle.bg_base.specs.declared.big.Big.{Big}
use Rattle.bg_base.specs.declared.history.Entry.{Entry}
use Rattle.bg_cond.proofs.DrawnRuns.{drawn_once, system_rules}
use Rattle.bg_cond.specs.declared.ending.End.{End}
use Rattle.bg_rules.specs.declared.predicate.Predicate.{Predicate}
use Rattle.bg_rules.specs.Reaction.{HostState}
use Rattle.bg_rules.specs.Systems.{SystemParts, IsSystem}
use Rattle.bg_watch.specs.Watching.{Watched, watch_lines}
use Rattle.command_run.proofs.Counted.{one_counts}
use Rattle.command_run.specs.RunText.{run_text, AreTold, none_told, each_told, HaveWatched, IsRunText}

one_truth : {P : Type 0} (truth other : Bool) → (IsTrue truth ↔ P) → (IsTrue other ↔ P) → truth ≡ other
one_truth true true told also = refl
one_truth true false told also = sym (also.1 (told.0 refl))
one_truth false true told also = told.1 (also.0 refl)
one_truth false false told also = refl

one_list_of_truths : {host : Big} {predicates : List Predicate} {truths others : List Bool} → AreTold host predicates truths → AreTold host predicates others
    → truths ≡ others
one_list_of_truths none_told none_told = refl
one_list_of_truths {host} (each_told {truth = truth} {truths = truths} told rest) (each_told {truth = other} {truths = others} also more) =
    ap (λ (x : Bool). x ∷ truths) (one_truth truth other told also) ∙ ap (λ (xs : List Bool). other ∷ xs) (one_list_of_truths rest more)

-- what the watchers wrote of one run
one_watched : (system : SystemParts) (entries : List Entry) (watchers stay stay2 : List Watched) (lines lines2 : List ℕ) → IsSystem system
    → HaveWatched system entries watchers stay lines → HaveWatched system entries watchers stay2 lines2 → lines ≡ lines2
one_watched system entries watchers stay stay2 lines lines2 is a b =
    a.lines_are ∙ ap (λ (ns : List ℕ). watch_lines watchers entries ns) (one_counts system.rules (system_rules system is) is.init_is a.counted b.counted)
    ∙ sym b.lines_are

pub one_text : (system : SystemParts) (most seed : ℕ) (watchers stay stay2 : List Watched) (one other : List ℕ) → IsSystem system → IsRunText system most 1 seed watchers stay one
    → IsRunText system most 1 seed watchers stay2 other → one ≡ other
one_text system most seed watchers stay stay2 one other is a b =
    let same = drawn_once system.rules (system_rules system is) 0 is.init_is (a.drawn refl) (b.drawn refl) in
    let told = subst (λ (h : HostState). AreTold h.big system.preds b.written.truths) (sym same.2) b.written.told in
    let truths = one_list_of_truths a.written.told told in
    let lines = one_watched system b.entries watchers stay stay2 a.lines b.lines is
    (subst (λ (xs : List Entry). HaveWatched system xs watchers stay a.lines) same.0 a.watched) b.watched in
    a.written.text_is
    ∙ ap (λ (xs : List Entry). run_text system xs a.end a.written.truths a.lines a.host) same.0
    ∙ ap (λ (e : End). run_text system b.entries e a.written.truths a.lines a.host) same.1
    ∙ ap (λ (ts : List Bool). run_text system b.entries b.end ts a.lines a.host) truths
    ∙ ap (λ (ls : List ℕ). run_text system b.entries b.end b.written.truths ls a.host) lines
    ∙ ap (λ (h : HostState). run_text system b.entries b.end b.written.truths b.lines h) same.2
    ∙ sym b.written.text_is
