-- What odd words ask for, computed.
use Rattle.std.proofs.Common.{◌≡◌, ℕ, List, [], ◌∷◌, Option, None, Some, codes, refl, true, false}
use Rattle.std.specs.List.{list_all}
use Rattle.std.specs.Option.{is_none}
use Rattle.clap.proofs.OnLiterals.{clap_on_literals}
use Rattle.bg_words.specs.declared.asking.Request.{Request}
use Rattle.bg_words.specs.declared.command.Command.TheVariants.{Compose}
use Rattle.bg_words.specs.Options.{the_app}
use Rattle.bg_words.specs.Words.{asked, request_in}

-- the words behind the name of the program
abbrev behind_name : List (List ℕ) → Option Request
behind_name words = asked (codes "bigengine" ∷ words)

-- `compose` with that number for `--most`
abbrev compose_most : ℕ → Option Request
compose_most most = Some (record {
  command = Compose;
  most = most;
  workers = 1;
  steps = 1000;
  seed = 0;
  size = 10;
  explain = false;
})

-- no option is given
plain : behind_name (codes "compose" ∷ []) ≡ compose_most 100000
unfolding asked request_in the_app clap_on_literals
plain = refl

-- the number is a word of its own
apart : behind_name (codes "compose" ∷ codes "--most" ∷ codes "5" ∷ []) ≡ compose_most 5
unfolding asked request_in the_app clap_on_literals
apart = refl

-- the number stands in the word of its option
attached : behind_name (codes "compose" ∷ codes "--most=5" ∷ []) ≡ compose_most 5
unfolding asked request_in the_app clap_on_literals
attached = refl

-- `--` ends the options
ended : behind_name (codes "--most=5" ∷ codes "--" ∷ codes "compose" ∷ []) ≡ compose_most 5
unfolding asked request_in the_app clap_on_literals
ended = refl

-- no words, not even the name of the program
no_words : asked [] ≡ None
unfolding asked request_in the_app clap_on_literals
no_words = refl

-- words that are refused: no command, two commands, an option twice, help and version, a flag with a value, no value, an
-- empty value, a value that begins with `-`, an abbreviation, an option that is not there, one behind `--`, a number below its
-- range, above it, of twenty-one digits
abbrev odd : List (List (List ℕ))
odd =
    []
    ∷ (codes "compose" ∷ codes "check" ∷ [])
    ∷ (codes "compose" ∷ codes "--most=5" ∷ codes "--most=5" ∷ [])
    ∷ (codes "compose" ∷ codes "--explain" ∷ codes "--explain" ∷ [])
    ∷ (codes "compose" ∷ codes "--help" ∷ [])
    ∷ (codes "compose" ∷ codes "-h" ∷ [])
    ∷ (codes "help" ∷ [])
    ∷ (codes "compose" ∷ codes "--version" ∷ [])
    ∷ (codes "compose" ∷ codes "--explain=x" ∷ [])
    ∷ (codes "compose" ∷ codes "--most" ∷ [])
    ∷ (codes "compose" ∷ codes "--most=" ∷ [])
    ∷ (codes "compose" ∷ codes "--most" ∷ [] ∷ [])
    ∷ (codes "compose" ∷ codes "--most" ∷ codes "-5" ∷ [])
    ∷ (codes "compose" ∷ codes "--most=-5" ∷ [])
    ∷ (codes "compose" ∷ codes "--mos=5" ∷ [])
    ∷ (codes "compose" ∷ codes "--rules=5" ∷ [])
    ∷ (codes "compose" ∷ codes "--" ∷ codes "--explain" ∷ [])
    ∷ (codes "compose" ∷ codes "--most=0" ∷ [])
    ∷ (codes "compose" ∷ codes "--most=1000001" ∷ [])
    ∷ (codes "compose" ∷ codes "--most=000000000000000000005" ∷ [])
    ∷ []

refused : list_all (λ words. is_none (behind_name words)) odd ≡ true
unfolding asked request_in the_app clap_on_literals
refused = refl
