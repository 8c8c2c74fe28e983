-- The steps that the lists tell of, among which one is picked.
use Rattle.std.specs.Prelude.{ℕ, ◌+◌, ◌==◌, List, [], ◌∷◌, ◌++◌, if◌then◌else◌}
use Rattle.bg_base.specs.declared.history.Step.{Step}
use Rattle.bg_incr.specs.Finders.{steps_at}
use Rattle.bg_kept.specs.declared.kept_list.KeptList.{KeptList}
use Rattle.bg_rules.specs.Rules.{RuleParts}

-- the maps that are kept of the rule, where it is of the class
abbrev pub kept_maps : ℕ → RuleParts → KeptList → List (List ℕ)
kept_maps class rule list = if rule.class == class then list.first.maps.items else []

-- the steps of the class that are kept of these rules, of which the first has that number
abbrev pub steps_kept : ℕ → ℕ → List RuleParts → List KeptList → List Step
steps_kept class number [] lists = []
steps_kept class number (rule ∷ rules) [] = []
steps_kept class number (rule ∷ rules) (list ∷ lists) =
    steps_at number (kept_maps class rule list) ++ steps_kept class (number + 1) rules lists
