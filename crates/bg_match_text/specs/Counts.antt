-- Rules with more occurrences than are asked for.
use Rattle.std.specs.Prelude.{◌≡◌, ℕ, ◌<◌, Some, List, ◌++◌, All, codes, slice_get}
use Rattle.std.specs.Fmt.{decimal}
use Rattle.bg_listing.specs.Spelling.{label_text}
use Rattle.bg_rules.specs.Occurrences.{AreAtMost, AreMoreThan}
use Rattle.bg_rules.specs.Rules.{RuleParts}
use Rattle.bg_rules.specs.Systems.{SystemParts}

-- no rule of the system has more than so many occurrences in its host
abbrev pub AreFew : ℕ → SystemParts → Type 0
AreFew most system = All (λ (rule : RuleParts). AreAtMost most system.init.big rule.redex) system.rules

-- the redex of the rule with that number has more than so many occurrences, and of each rule before it at most so many
pub record IsFirstExcess (most : ℕ) (system : SystemParts) (number : ℕ) (rule : RuleParts) : Type 0 where
  pub there : slice_get system.rules number ≡ Some rule
  pub more : AreMoreThan most system.init.big rule.redex
  pub before : (earlier : ℕ) (other : RuleParts) → earlier < number → slice_get system.rules earlier ≡ Some other
      → AreAtMost most system.init.big other.redex

-- the line that tells of it: the number of the rule, its label, and how many were asked for
unfoldable pub excess_line : ℕ → RuleParts → ℕ → List ℕ
excess_line number rule most =
    codes "too many " ++ (decimal number ++ (codes " " ++ (label_text rule.label ++ (codes " " ++ (decimal most ++ codes "\n")))))
