-- What is written of a run: its journal, its end, which predicates occur in its last host, the lines of the watchers, and that
-- host.
use Rattle.std.specs.Prelude.{◌≡◌, ◌↔◌, ℕ, Bool, IsTrue, true, false, List, [], ◌∷◌, ◌++◌, codes, zip}
use Rattle.std.specs.List.{flat_map}
use Rattle.bg_base.specs.declared.history.Entry.{Entry}
use Rattle.bg_base.specs.declared.big.Big.{Big}
use Rattle.bg_cond.specs.Conditions.{OccursSomewhere}
use Rattle.bg_cond.specs.Drawn.{Draws, IsEndOf}
use Rattle.bg_cond.specs.Picks.{seeded}
use Rattle.bg_cond.specs.Steps.{IsRun}
use Rattle.bg_cond.specs.declared.ending.End.{End}
use Rattle.bg_journal.specs.JournalText.{journal_text, end_line, host_text}
use Rattle.bg_listing.specs.Spelling.{label_text}
use Rattle.bg_rules.specs.declared.predicate.Predicate.{Predicate}
use Rattle.bg_rules.specs.Reaction.{HostState}
use Rattle.bg_rules.specs.Systems.{SystemParts}
use Rattle.bg_seats.specs.Histories.{WorkersBelow}
use Rattle.bg_watch.specs.Watching.{Watched, staying_all, watch_lines}
use Rattle.command_run.specs.Counts.{AreNodeCounts}

-- ---- the text

-- `true` or `false`
abbrev pub truth_text : Bool → List ℕ
truth_text true = codes "true"
truth_text false = codes "false"

-- the line of a predicate: its label, and whether it holds
unfoldable pub predicate_line : Predicate → Bool → List ℕ
predicate_line predicate truth = codes "pred " ++ (label_text predicate.label ++ (codes " " ++ (truth_text truth ++ codes "\n")))

-- the line of each predicate, the truths in the same order
abbrev pub predicate_lines : List Predicate → List Bool → List ℕ
predicate_lines predicates truths = flat_map (λ (told : Predicate × Bool). predicate_line told.0 told.1) (zip predicates truths)

-- the journal, the end, and the predicates
unfoldable pub front_text : SystemParts → List Entry → End → List Bool → List ℕ
front_text system entries end truths = journal_text entries ++ (end_line end ++ predicate_lines system.preds truths)

-- behind these the lines of the watchers, and the last host
abbrev pub run_text : SystemParts → List Entry → End → List Bool → List ℕ → HostState → List ℕ
run_text system entries end truths lines host = front_text system entries end truths ++ (lines ++ host_text system.signature host)

-- ---- which predicates occur

-- the truths tell in order which of the predicates occur in the host
pub data AreTold (host : Big) : List Predicate → List Bool → Type 0 where
  none_told : AreTold host [] []
  each_told : {predicate : Predicate} {predicates : List Predicate} {truth : Bool} {truths : List Bool}
      → (IsTrue truth ↔ OccursSomewhere host predicate.pattern) → AreTold host predicates truths
      → AreTold host (predicate ∷ predicates) (truth ∷ truths)

-- ---- runs

-- the text is that of these entries, this end, these lines and this host of the system
pub record IsTextOf (system : SystemParts) (entries : List Entry) (end : End) (lines : List ℕ) (host : HostState) (text : List ℕ) : Type 0 where
  pub truths : List Bool
  pub told : AreTold host.big system.preds truths
  pub text_is : text ≡ run_text system entries end truths lines host

-- the watchers were told of the entries, each with the number of nodes of the host after it: these lines were written, and
-- these watchers stay
pub record HaveWatched (system : SystemParts) (entries : List Entry) (watchers stay : List Watched) (lines : List ℕ) : Type 0 where
  pub counts : List ℕ
  pub counted : AreNodeCounts system.rules system.init entries counts
  pub lines_are : lines ≡ watch_lines watchers entries counts
  pub stay_are : stay ≡ staying_all watchers entries counts

-- the text is that of a run of the system by so many workers, of at most so many entries, of which the watchers were told, and
-- these stay; with one worker it is the run that the seed draws
pub record IsRunText (system : SystemParts) (most workers seed : ℕ) (watchers stay : List Watched) (text : List ℕ) : Type 0 where
  pub entries : List Entry
  pub end : End
  pub host : HostState
  pub lines : List ℕ
  pub written : IsTextOf system entries end lines host text
  pub watched : HaveWatched system entries watchers stay lines
  pub run : IsRun system.rules system.init entries host
  pub end_is : IsEndOf system.rules most entries host end
  pub workers_below : WorkersBelow workers entries
  pub drawn : workers ≡ 1 → Draws system.rules 0 most system.init (seeded seed 0) entries end host
