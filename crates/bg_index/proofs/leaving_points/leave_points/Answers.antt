use Rattle.std.proofs.Common.{ℕ, rules, not}
use Rattle.std.proofs.lemmas.Fn.{filter_same}
use Rattle.bg_rewriting.specs.Keeping.{stays_at}
use Rattle.bg_rules.specs.Instantiation.{is_among}
use Rattle.bg_index.proofs.leaving_points.leave_points.Goals as goal

pub returns-else-is_cheaper_singly-clause-kept : goal.returns-else-is_cheaper_singly-clause-kept
returns-else-is_cheaper_singly-clause-kept c =
    filter_same _ (stays_at (λ (node : ℕ). not (is_among node c.args.gone.now))) _ (λ x b f called. search rules) _ _ c.retain.ensures.filtered
