-- The text that is written is that of the run.
use Rattle.std.proofs.Common.{◌≡◌, ℕ, List, [], ◌++◌, Bool, refl, sym, ap, ap₂, subst, ◌∙◌}
use Rattle.bg_base.specs.declared.history.Entry.{Entry}
use Rattle.bg_cond.specs.Steps.{IsRun}
use Rattle.bg_journal.specs.JournalText.{host_text}
use Rattle.bg_rules.specs.Systems.{SystemParts}
use Rattle.bg_runs.specs.Finished.{IsFinished}
use Rattle.bg_runs.specs.declared.finishing.FinishedRun.{FinishedRun}
use Rattle.bg_watch.specs.Watching.{Watched, staying_all, watch_lines}
use Rattle.command_run.specs.Counts.{AreNodeCounts}
use Rattle.command_run.specs.RunText.{front_text, AreTold, IsTextOf, HaveWatched, IsRunText}
use Rattle.command_run.specs.Told.{IsToldRun}

-- the parts of the text, one behind the other
pub run_told : (run : FinishedRun) (watchers stay : List Watched) (truths slice : List Bool) (counts counted : List ℕ) (entries : List Entry)
    (begun front last rest text : List ℕ)
    → AreTold run.host.big run.system.preds truths → slice ≡ truths → AreNodeCounts run.system.rules run.system.init run.journal counts → counted ≡ counts
    → entries ≡ run.journal → begun ≡ [] → front ≡ begun ++ front_text run.system run.journal run.end slice → last ≡ [] ++ host_text run.system.signature run.host
    → rest ≡ last → text ≡ front ++ (watch_lines watchers entries counted ++ rest) → stay ≡ staying_all watchers entries counted
    → IsToldRun run watchers stay text
run_told run watchers stay truths slice counts counted entries begun front last rest text told slice_is are counted_is entries_are begun_is front_is last_is rest_is text_is stay_is =
    let lines = watch_lines watchers run.journal counts in
    let lines_are : watch_lines watchers entries counted ≡ lines = ap₂ (λ (xs : List Entry) (ns : List ℕ). watch_lines watchers xs ns) entries_are counted_is in
    let front_of : front ≡ front_text run.system run.journal run.end truths =
    front_is ∙ ap (λ (xs : List ℕ). xs ++ front_text run.system run.journal run.end slice) begun_is
    ∙ ap (λ (ts : List Bool). front_text run.system run.journal run.end ts) slice_is in
    let behind : watch_lines watchers entries counted ++ rest ≡ lines ++ host_text run.system.signature run.host =
    ap₂ (λ (a : List ℕ) (b : List ℕ). a ++ b) lines_are (rest_is ∙ last_is) in record {
      lines = lines;
      written = record { truths = truths; told = told; text_is = text_is ∙ ap₂ (λ (a : List ℕ) (b : List ℕ). a ++ b) front_of behind };
      watched = record {
        counts = counts;
        counted = are;
        lines_are = refl;
        stay_are = stay_is ∙ ap₂ (λ (xs : List Entry) (ns : List ℕ). staying_all watchers xs ns) entries_are counted_is;
      };
    }

module _ (system : SystemParts) (most workers seed : ℕ) (run : FinishedRun) (finished : IsFinished system most workers seed run) where
  pub finished_run : IsRun run.system.rules run.system.init run.journal run.host
  finished_run = subst (λ (s : SystemParts). IsRun s.rules s.init run.journal run.host) (sym finished.same) finished.run_is

  pub finished_text : (watchers stay : List Watched) (text : List ℕ) → IsToldRun run watchers stay text → IsRunText system most workers seed watchers stay text
  finished_text watchers stay text told = record {
    entries = run.journal;
    end = run.end;
    host = run.host;
    lines = told.lines;
    written = subst (λ (s : SystemParts). IsTextOf s run.journal run.end told.lines run.host text) finished.same told.written;
    watched = subst (λ (s : SystemParts). HaveWatched s run.journal watchers stay told.lines) finished.same told.watched;
    run = finished.run_is;
    end_is = finished.end_is;
    workers_below = finished.below;
    drawn = finished.drawn;
  }
