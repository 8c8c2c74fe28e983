-- What the words of the command line ask for.
use Rattle.std.specs.Prelude.{◌≡◌, false, List, map, String, string_bytes, IfSome}
use Rattle.std.specs.declared.alloc.Global.{Global}
use Rattle.std.specs.declared.option.Option.{Option}
use Rattle.bg_words.specs.declared.asking.Request.{Request}
use Rattle.bg_words.specs.Commands.{is_reading}
use Rattle.bg_words.specs.Words as words

-- what the words ask for; else they are refused
abbrev pub asked : List (String Global) → Option Request
asked texts = words.asked (map string_bytes texts)

-- nothing is read: the words are refused, or ask for a command that reads nothing
abbrev pub IsReadless : Option Request → Type 0
IsReadless request = IfSome request (λ request. is_reading request.command ≡ false)
