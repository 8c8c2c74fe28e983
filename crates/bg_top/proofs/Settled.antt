-- Each command has one status for each input: the law of each, in one line. `replay` alone tells of no run.
use Rattle.std.proofs.Common.{◌≡◌, ℕ, Bool, List, refl, sym, subst, ◌∙◌}
use Rattle.bg_answers.specs.Answer.{Answer}
use Rattle.bg_answers.specs.Promise.{IsRightAnswer, made, refused, IsSettled}
use Rattle.bg_answers.specs.declared.status.Status.{Status}
use Rattle.bg_answers.specs.declared.status.Status.TheVariants.{Done, NoRun}
use Rattle.bg_rules.specs.Systems.{SystemParts}
use Rattle.bg_top.specs.Right.{promise_with, promise_of, IsReply}
use Rattle.bg_watch.specs.Watching.{Watched}
use Rattle.bg_words.specs.declared.asking.Request.{Request}
use Rattle.bg_words.specs.declared.command.Command.{Command}
use Rattle.bg_words.specs.declared.command.Command.TheVariants.{Compose, Check, Show, Match, Run, Replay, Trial}
use Rattle.command_compose.proofs.Settled.{compose_settled}
use Rattle.command_match.proofs.OneAnswer.{match_settled, one_right}
use Rattle.command_match.specs.Match.{IsMatchAnswer, listed, too_many}
use Rattle.command_models.proofs.Settled.{check_settled, show_settled}
use Rattle.command_replay.proofs.Settled.{replay_settled, told_no_run, no_run_unrefused}
use Rattle.command_replay.specs.Replay.{replay_promise, IsNoRun as IsNoRunInput}
use Rattle.command_run.proofs.Settled.{run_settled}
use Rattle.command_trial.proofs.Settled.{trial_settled}

settled_with : (request : Request) (watchers : List Watched) (command : Command) → IsSettled (promise_with request watchers command)
settled_with request watchers Compose = compose_settled
settled_with request watchers Check = check_settled
settled_with request watchers Show = show_settled
settled_with request watchers Match = match_settled request.most request.explain
settled_with request watchers Run = run_settled request.steps request.workers request.seed watchers
settled_with request watchers Replay = replay_settled
settled_with request watchers Trial = trial_settled request.size

pub settled : (request : Request) (watchers : List Watched) → IsSettled (promise_of request watchers)
settled request watchers = settled_with request watchers request.command

pub same_for_workers : (request : Request) (workers : ℕ) (watchers : List Watched) (input : List ℕ) (one other : Answer) → request.command ≡ Match
    → IsReply request watchers input one → IsReply (record request { workers = workers }) watchers input other → one ≡ other
same_for_workers request workers watchers input one other is first second =
    one_right request.most request.explain input one other
    (subst (λ command. IsRightAnswer (promise_with request watchers command) input one) is first)
    (subst (λ command. IsRightAnswer (promise_with (record request { workers = workers }) watchers command) input other) is second)

-- ---- no run

done_is_run : {status : Status} → status ≡ Done → status ≡ NoRun → ⊥
done_is_run done no_run = let both = sym done ∙ no_run in absurd cc

match_is_run : {most : ℕ} {explain : Bool} {system : SystemParts} {answer : Answer} → IsMatchAnswer most explain system answer → answer.status ≡ NoRun → ⊥
match_is_run (listed few text) no_run = absurd cc
match_is_run (too_many first) no_run = absurd cc

-- a command whose answer tells of no run is `replay`, and there is none
pub no_run_with : (request : Request) (watchers : List Watched) (command : Command) (input : List ℕ) (answer : Answer)
    → (promise_with request watchers command).makes input answer → answer.status ≡ NoRun → (command ≡ Replay) × IsNoRunInput input
no_run_with request watchers Compose input answer m is = absurd (done_is_run m.0 is)
no_run_with request watchers Check input answer m is = absurd (done_is_run m.0 is)
no_run_with request watchers Show input answer m is = absurd (done_is_run m.0 is)
no_run_with request watchers Match input answer m is = absurd (match_is_run m.answers is)
no_run_with request watchers Run input answer m is = absurd (done_is_run m.0 is)
no_run_with request watchers Replay input answer m is = (refl, (told_no_run input answer m).0 is)
no_run_with request watchers Trial input answer m is = absurd (done_is_run m.0 is)

-- where there is none, what `replay` makes of the input tells it, and it is not refused
pub told_with : (request : Request) (watchers : List Watched) (command : Command) (input : List ℕ) (answer : Answer) → command ≡ Replay
    → IsNoRunInput input → IsRightAnswer (promise_with request watchers command) input answer → answer.status ≡ NoRun
told_with request watchers command input answer is none right =
    of (subst (λ c. IsRightAnswer (promise_with request watchers c) input answer) is right)
  where
    of : {answer : Answer} → IsRightAnswer replay_promise input answer → answer.status ≡ NoRun
    of (made {answer = answer} m) = (told_no_run input answer m).1 none
    of (refused {refusal = refusal} r) = absurd (no_run_unrefused input refusal none r)
