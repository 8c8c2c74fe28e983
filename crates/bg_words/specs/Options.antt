-- The words that the program takes, as a command of clap.
use Rattle.std.specs.Prelude.{ℕ, List, [], ◌∷◌, Some, true, codes, fold}
use Rattle.clap.specs.Words.{App, Rule, new_app, new_rule, with_rule}
use Rattle.clap.specs.declared.builder.action.ArgAction.TheVariants.{Set, SetTrue}
use Rattle.bg_base.specs.Limits.{most_steps}
use Rattle.bg_words.specs.declared.numbers.Numbers.{Numbers}

-- the numbers of `--most`
abbrev pub most : Numbers
most = record { least = 1; greatest = 1000000; default = 100000 }

-- the numbers of `--workers`
abbrev pub workers : Numbers
workers = record { least = 1; greatest = 64; default = 1 }

-- the numbers of `--steps`
abbrev pub steps : Numbers
steps = record { least = 0; greatest = most_steps; default = 1000 }

-- the numbers of `--seed`
abbrev pub seed : Numbers
seed = record { least = 0; greatest = 18446744073709551615; default = 0 }

-- the numbers of `--size`
abbrev pub size : Numbers
size = record { least = 1; greatest = 300; default = 10 }

-- the command is the one word that is no option, and has to be there
abbrev pub command_rule : Rule
command_rule = record (new_rule (codes "command")) { action = Some Set; required = true }

-- an option that takes a value
abbrev pub option_rule : List ℕ → Rule
option_rule name = record (new_rule name) { long = Some name; action = Some Set }

-- an option that takes no value
abbrev pub flag_rule : List ℕ → Rule
flag_rule name = record (new_rule name) { long = Some name; action = Some SetTrue }

-- the program without its command and its options, which offers no help and no version
abbrev pub plain_app : App
plain_app = let app = new_app (codes "bigengine") in
    record app { top = record app.top { disable_help_flag = true; disable_version_flag = true } }

-- what the program takes: the command and the options
abbrev pub the_rules : List Rule
the_rules =
    command_rule
    ∷ option_rule (codes "most")
    ∷ option_rule (codes "workers")
    ∷ option_rule (codes "steps")
    ∷ option_rule (codes "seed")
    ∷ option_rule (codes "size")
    ∷ flag_rule (codes "explain")
    ∷ []

-- the program with its command and its options
unfoldable pub the_app : App
the_app = fold with_rule plain_app the_rules
