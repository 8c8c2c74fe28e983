-- Which answers are right: one line for each command.
use Rattle.std.specs.Prelude.{◌≡◌, ℕ, Bool, false, ◌&&◌, List, length, nat_lt, if◌then◌else◌, IfSome, MatchOption, MatchBool}
use Rattle.std.specs.Option.{IsSomeAnd}
use Rattle.std.specs.declared.option.Option.{Option}
use Rattle.bg_answers.specs.Answer.{Answer, status_number, wrong_words, too_long}
use Rattle.bg_answers.specs.Promise.{Promise, IsRightAnswer}
use Rattle.bg_answers.specs.declared.refusal.Refusal.{Refusal}
use Rattle.bg_answers.specs.declared.status.Status.{Status}
use Rattle.bg_answers.specs.declared.status.Status.TheVariants.{Done, TooMany}
use Rattle.bg_top.specs.Ended.{SomeAnswer, Writes}
use Rattle.bg_watch.specs.Watching.{Watched}
use Rattle.bg_words.specs.Commands.{is_reading}
use Rattle.bg_words.specs.declared.asking.Request.{Request}
use Rattle.bg_words.specs.declared.command.Command.{Command}
use Rattle.bg_words.specs.declared.command.Command.TheVariants.{Compose, Check, Show, Match, Run, Replay, Trial}
use Rattle.command_compose.specs.Compose.{compose_promise}
use Rattle.command_match.specs.Match.{match_promise}
use Rattle.command_models.specs.Models.{check_promise, show_promise}
use Rattle.command_replay.specs.Replay.{replay_promise, IsNoRun as IsNoRunInput}
use Rattle.command_run.specs.Run.{run_promise}
use Rattle.command_trial.specs.Model.{trial_model}
use Rattle.command_trial.specs.Trial.{trial_promise}

-- what the command promises, for the options of the request and the watchers that are there
abbrev pub promise_with : Request → List Watched → Command → Promise
promise_with request watchers Compose = compose_promise
promise_with request watchers Check = check_promise
promise_with request watchers Show = show_promise
promise_with request watchers Match = match_promise request.most request.explain
promise_with request watchers Run = run_promise request.steps request.workers request.seed watchers
promise_with request watchers Replay = replay_promise
promise_with request watchers Trial = trial_promise request.size

-- what the command of the request promises
abbrev pub promise_of : Request → List Watched → Promise
promise_of request watchers = promise_with request watchers request.command

-- ---- inputs

-- the input of the request, where these bytes were left: `trial` reads nothing, and makes its model
abbrev pub input_of : Request → List ℕ → List ℕ
input_of request bytes = if is_reading request.command then bytes else trial_model request.size

-- the request reads, and more than so many bytes are left
abbrev pub is_long : ℕ → Request → List ℕ → Bool
is_long most request bytes = is_reading request.command && nat_lt most (length bytes)

-- the input is what was left, where that is told
abbrev pub IsLeft : Option (List ℕ) → List ℕ → Type 0
IsLeft left input = IfSome left (λ bytes. input ≡ bytes)

-- so it is of a request that reads; else it is the model that is made
abbrev pub IsInput : Request → Option (List ℕ) → List ℕ → Type 0
IsInput request left input = MatchBool (is_reading request.command) (IsLeft left input) (input ≡ trial_model request.size)

-- ---- right answers

-- a right answer to the input
abbrev pub IsReply : Request → List Watched → List ℕ → Answer → Type 0
IsReply request watchers = IsRightAnswer (promise_of request watchers)

-- the input is one that the command takes
abbrev pub IsTaken : List Watched → Request → List ℕ → Type 0
IsTaken watchers request input = (promise_of request watchers).accepts input

-- the input is refused: the listings, the composition, or the model that it is read as
abbrev pub IsRefused : List Watched → Request → List ℕ → Type 0
IsRefused watchers request input = (refusal : Refusal) × (promise_of request watchers).refuses input refusal

-- the command makes of the input an answer of which P holds
abbrev pub MakesAnswer : List Watched → Request → List ℕ → (Answer → Type 0) → Type 0
MakesAnswer watchers request input P = (answer : Answer) × (promise_of request watchers).makes input answer × P answer

-- what the command makes of the input tells that there would be too much to list
abbrev pub IsTooMuch : List Watched → Request → List ℕ → Type 0
IsTooMuch watchers request input = MakesAnswer watchers request input (λ answer. answer.status ≡ TooMany)

-- a journal is to be judged, and the input has no text of a journal in front, or its journal is no run of the system that the
-- model behind it describes
abbrev pub IsReplayOfNoRun : Request → List ℕ → Type 0
IsReplayOfNoRun request input = (request.command ≡ Replay) × IsNoRunInput input

-- the result is the status of what the command makes of the input
abbrev pub EndsWith : ℕ → List Watched → Request → List ℕ → Type 0
EndsWith result watchers request input = MakesAnswer watchers request input (λ answer. result ≡ status_number answer.status)

-- a right answer to what was left: `too long` past the most bytes, else the command's
abbrev pub ReadsRight : ℕ → Request → List Watched → Option (List ℕ) → Answer → Type 0
ReadsRight most request watchers left answer = (input : List ℕ) × IsInput request left input
    × MatchBool (is_long most request input) (answer ≡ too_long) (IsReply request watchers input answer)

-- a right answer to the words and what was left
abbrev pub IsRight : ℕ → Option Request → List Watched → Option (List ℕ) → Answer → Type 0
IsRight most asked watchers left answer =
    MatchOption asked (answer ≡ wrong_words) (λ request. ReadsRight most request watchers left answer)

-- some right answer has that status
abbrev pub IsAnsweredWith : ℕ → Option Request → List Watched → Option (List ℕ) → Status → Type 0
IsAnsweredWith most asked watchers left status = SomeAnswer (IsRight most asked watchers left) (λ answer. answer.status ≡ status)

-- the words ask for a command that has an input, where these bytes are left; it is not too long, and P holds of it
abbrev pub AsksOf : ℕ → Option Request → List ℕ → (Request → List ℕ → Type 0) → Type 0
AsksOf most asked bytes P = IsSomeAnd asked (λ request. (is_long most request bytes ≡ false) × P request (input_of request bytes))

-- some input, which is what was left where that is told, and the text that the command makes of it, written whole
abbrev pub IsWritten : List Watched → Request → Option (List ℕ) → Option (List ℕ) → Option (List ℕ) → Type 0
IsWritten watchers request left old new = (input : List ℕ) × IsInput request left input
    × Writes (λ text. (promise_of request watchers).makes input (record { status = Done; text = text })) old new
