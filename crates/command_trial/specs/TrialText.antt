-- What is written of a trial: the size of the host, how often each rule occurs, and how a run of the system ends.
use Rattle.std.specs.Prelude.{◌≡◌, ℕ, ◌+◌, List, [], ◌∷◌, ◌++◌, length, codes}
use Rattle.std.specs.Fmt.{decimal}
use Rattle.bg_base.specs.declared.big.Big.{Big}
use Rattle.bg_base.specs.declared.history.Entry.{Entry}
use Rattle.bg_cond.specs.Drawn.{Draws}
use Rattle.bg_cond.specs.Picks.{seeded}
use Rattle.bg_cond.specs.declared.ending.End.{End}
use Rattle.bg_journal.specs.JournalText.{end_line}
use Rattle.bg_listing.specs.Spelling.{label_text}
use Rattle.bg_rules.specs.Occurrences.{AreOccurrences}
use Rattle.bg_rules.specs.Reaction.{HostState}
use Rattle.bg_rules.specs.Rules.{RuleParts}
use Rattle.bg_rules.specs.Systems.{SystemParts}

-- ---- the text

-- how many nodes and how many edges there are
unfoldable pub size_text : Big → List ℕ
size_text big = codes "nodes " ++ (decimal (length big.nodes) ++ (codes " edges " ++ (decimal (length big.edges) ++ codes "\n")))

-- the line of a rule: its number, its label, and how many occurrences its redex has
unfoldable pub trial_rule_line : ℕ → RuleParts → ℕ → List ℕ
trial_rule_line number rule count =
    codes "rule " ++ (decimal number ++ (codes " " ++ (label_text rule.label ++ (codes " count " ++ (decimal count ++ codes "\n")))))

-- the lines of rules, of which the first has that number, each with its count
abbrev pub rule_lines : ℕ → List RuleParts → List ℕ → List ℕ
rule_lines number [] counts = []
rule_lines number (rule ∷ rules) [] = []
rule_lines number (rule ∷ rules) (count ∷ counts) = trial_rule_line number rule count ++ rule_lines (number + 1) rules counts

-- the size, how large the host is at first, and the rules
unfoldable pub trial_front_text : ℕ → SystemParts → List ℕ → List ℕ
trial_front_text size system counts = codes "trial " ++ (decimal size ++ (codes "\n" ++ (size_text system.init.big ++ rule_lines 0 system.rules counts)))

-- how many steps were made, how they ended, and how large the host is after them
unfoldable pub end_text : List Entry → End → HostState → List ℕ
end_text entries end host = codes "steps " ++ (decimal (length entries) ++ (codes " " ++ (end_line end ++ (codes "host " ++ size_text host.big))))

-- the whole text
abbrev pub trial_text : ℕ → SystemParts → List ℕ → List Entry → End → HostState → List ℕ
trial_text size system counts entries end host = trial_front_text size system counts ++ end_text entries end host

-- ---- what it tells

-- the redex of the rule has so many occurrences in the host
pub record IsOccurrenceCount (host : Big) (rule : RuleParts) (count : ℕ) : Type 0 where
  pub maps : List (List ℕ)
  pub all : AreOccurrences host rule.redex maps
  pub count_is : count ≡ length maps

-- and so of each of the rules, in order
abbrev pub AreOccurrenceCounts : Big → List RuleParts → List ℕ → Type 0
AreOccurrenceCounts host [] [] = Unit {0}
AreOccurrenceCounts host [] (count ∷ counts) = ⊥
AreOccurrenceCounts host (rule ∷ rules) [] = ⊥
AreOccurrenceCounts host (rule ∷ rules) (count ∷ counts) = IsOccurrenceCount host rule count × AreOccurrenceCounts host rules counts

-- a run of a trial has at most so many steps
abbrev pub most_trial_steps : ℕ
most_trial_steps = 1000

-- the text is that of the system: all occurrences of each rule in its host are counted, and the run is the one that seed 0 draws
pub record IsTrialText (size : ℕ) (system : SystemParts) (text : List ℕ) : Type 0 where
  pub counts : List ℕ
  pub counted : AreOccurrenceCounts system.init.big system.rules counts
  pub entries : List Entry
  pub end : End
  pub host : HostState
  pub drawn : Draws system.rules 0 most_trial_steps system.init (seeded 0 0) entries end host
  pub text_is : text ≡ trial_text size system counts entries end host
