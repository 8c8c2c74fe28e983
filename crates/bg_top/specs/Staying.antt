-- Which watchers are left after a call: those that were told of a run stay as they then are, and else nothing is told.
use Rattle.std.specs.Prelude.{◌≡◌, ◌≢◌, List, ℕ, ◌⊎◌, MatchOption}
use Rattle.std.specs.declared.option.Option.{Option}
use Rattle.bg_answers.specs.Answer.{Answer}
use Rattle.bg_answers.specs.declared.status.Status.TheVariants.{Done}
use Rattle.bg_top.specs.Right.{IsLeft, IsRight}
use Rattle.bg_watch.specs.Watching.{Watched}
use Rattle.bg_words.specs.declared.asking.Request.{Request}
use Rattle.bg_words.specs.declared.command.Command.TheVariants.{Run}
use Rattle.command_run.specs.Run.{IsRunOf}

-- the answer is the text of a run, of which the watchers were told, and these stay; or it is another, and all stay as they were
pub record StayFor (request : Request) (left : Option (List ℕ)) (watchers stay : List Watched) (answer : Answer) : Type 0 where
  pub told : request.command ≡ Run → answer.status ≡ Done
      → (input : List ℕ) × IsLeft left input × IsRunOf request.steps request.workers request.seed watchers stay input answer.text
  pub kept : (request.command ≢ Run) ⊎ (answer.status ≢ Done) → stay ≡ watchers

-- the same, where the words may be refused
abbrev pub Stay : Option Request → Option (List ℕ) → List Watched → List Watched → Answer → Type 0
Stay asked left watchers stay answer = MatchOption asked (stay ≡ watchers) (λ request. StayFor request left watchers stay answer)

-- the answer is right, and these watchers stay
abbrev pub IsRightWith : ℕ → Option Request → Option (List ℕ) → List Watched → List Watched → Answer → Type 0
IsRightWith most asked left watchers stay answer = IsRight most asked watchers left answer × Stay asked left watchers stay answer
