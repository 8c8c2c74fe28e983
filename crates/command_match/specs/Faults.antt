-- What is told where the occurrences of a rule are not listed.
use Rattle.std.specs.Prelude.{ℕ}
use Rattle.bg_rules.specs.declared.fault.ListFault.{ListFault}
use Rattle.bg_rules.specs.declared.fault.ListFault.TheVariants as listing
use Rattle.command_match.specs.declared.fault.MatchesFault.{MatchesFault}
use Rattle.command_match.specs.declared.fault.MatchesFault.TheVariants as matching

-- of the rule with that number
abbrev pub fault_of : ℕ → ListFault → MatchesFault
fault_of number listing.TooMany = matching.TooMany number
fault_of number listing.OutOfMemory = matching.OutOfMemory
