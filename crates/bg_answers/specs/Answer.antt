-- An answer: a status and a text.
use Rattle.std.specs.Prelude.{ℕ, List, [], ◌∷◌, ◌++◌, codes}
use Rattle.bg_answers.specs.declared.reply.Reply.{Reply}
use Rattle.bg_answers.specs.declared.status.Status.{Status}
use Rattle.bg_answers.specs.declared.status.Status.TheVariants.{Done, Refused, WrongWords, TooMany, NoRun, TooLong, Unsorted}

-- what a command answers
pub record Answer : Type 0 where
  pub status : Status
  pub text : List ℕ

-- the exit status
abbrev pub status_number : Status → ℕ
status_number Done = 0
status_number Refused = 1
status_number WrongWords = 2
status_number TooMany = 6
status_number NoRun = 7
status_number TooLong = 8
status_number Unsorted = 9

-- a text and a line feed
abbrev pub line : List ℕ → List ℕ
line text = text ++ 10 ∷ []

-- the answer that a reply of the code holds
abbrev pub answer_of : Reply → Answer
answer_of reply = record { status = reply.status; text = reply.text.items }

-- the answer to refused words
abbrev pub wrong_words : Answer
wrong_words = record { status = WrongWords; text = line (codes "words") }

-- the answer to an input of too many bytes
abbrev pub too_long : Answer
too_long = record { status = TooLong; text = line (codes "too long") }
