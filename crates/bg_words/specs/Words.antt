-- What the words of the command line ask for.
use Rattle.std.specs.Prelude.{◌≡◌, ℕ, ◌≤◌, Bool, true, false, List, Option, None, Some, if◌then◌else◌, codes, option_and_then}
use Rattle.std.specs.Option.{option_map_or}
use Rattle.std.specs.Str.{bytes_eq}
use Rattle.clap.specs.Walk.{is_empty}
use Rattle.clap.specs.Words.{Row, fault_of, first_of, matches_of}
use Rattle.bg_base.specs.Limits.{most_steps}
use Rattle.bg_words.specs.declared.asking.Request.{Request}
use Rattle.bg_words.specs.declared.command.Command.{Command}
use Rattle.bg_words.specs.declared.numbers.Numbers.{Numbers}
use Rattle.bg_words.specs.Commands.{command_of}
use Rattle.bg_words.specs.Numbers.{option_value}
use Rattle.bg_words.specs.Options as option
use Rattle.bg_words.specs.Options.{the_app}

infixl 10 ◌>>=◌
-- goes on with the value that is there
abbrev pub ◌>>=◌ : {A B : Type 0} → Option A → (A → Option B) → Option B
found >>= next = option_and_then next found

-- the command that the words name
abbrev pub command_in : List Row → Option Command
command_in rows = first_of (codes "command") rows >>= command_of

-- the number that the text of an option writes, or the default where there is no text
abbrev pub number_or_default : Numbers → Option (List ℕ) → Option ℕ
number_or_default numbers None = Some numbers.default
number_or_default numbers (Some text) = option_value numbers text

-- the number of the option with that name
abbrev pub number_in : List Row → List ℕ → Numbers → Option ℕ
number_in rows name numbers = number_or_default numbers (first_of name rows)

-- the flag with that name is given: its text, which clap writes, is `true`
abbrev pub is_set : List Row → List ℕ → Bool
is_set rows name = option_map_or (λ text. bytes_eq text (codes "true")) (first_of name rows) false

-- what is asked for, where clap takes the words and finds this in them
unfoldable pub request_in : List Row → Option Request
request_in rows = do
  command ← command_in rows
  most ← number_in rows (codes "most") option.most
  workers ← number_in rows (codes "workers") option.workers
  steps ← number_in rows (codes "steps") option.steps
  seed ← number_in rows (codes "seed") option.seed
  size ← number_in rows (codes "size") option.size
  Some (record {
    command = command;
    most = most;
    workers = workers;
    steps = steps;
    seed = seed;
    size = size;
    explain = is_set rows (codes "explain");
  })

-- what the words ask for, of which the first is the name of the program; nothing where they are refused
unfoldable pub asked : List (List ℕ) → Option Request
asked words = if is_empty (fault_of the_app words) then request_in (matches_of the_app words) else None

-- what holds of each request: a run has not too many steps, there are 1 to 64 workers, and a size is from 1 to 300
pub record IsInRange (request : Request) : Type 0 where
  pub few_steps : request.steps ≤ most_steps
  pub some_workers : 1 ≤ request.workers
  pub few_workers : request.workers ≤ 64
  pub some_size : 1 ≤ request.size
  pub small_size : request.size ≤ 300
