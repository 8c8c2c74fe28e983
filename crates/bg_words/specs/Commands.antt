-- The commands: their names.
use Rattle.std.specs.Prelude.{ℕ, Bool, true, false, List, Option, None, Some, if◌then◌else◌, codes}
use Rattle.std.specs.Str.{bytes_eq}
use Rattle.bg_words.specs.declared.command.Command.{Command}
use Rattle.bg_words.specs.declared.command.Command.TheVariants.{Compose, Check, Show, Match, Run, Replay, Trial}

-- the command with that name
abbrev pub command_of : List ℕ → Option Command
command_of name =
    if bytes_eq name (codes "compose") then Some Compose
    else (if bytes_eq name (codes "check") then Some Check
    else (if bytes_eq name (codes "show") then Some Show
    else (if bytes_eq name (codes "match") then Some Match
    else (if bytes_eq name (codes "run") then Some Run
    else (if bytes_eq name (codes "replay") then Some Replay
    else (if bytes_eq name (codes "trial") then Some Trial
    else None))))))

-- the command reads an input
abbrev pub is_reading : Command → Bool
is_reading Compose = true
is_reading Check = true
is_reading Show = true
is_reading Match = true
is_reading Run = true
is_reading Replay = true
is_reading Trial = false
