use Rattle.std.proofs.Common.{ℕ, rules, not}
use Rattle.std.proofs.lemmas.Fn.{filter_same}
use Rattle.bg_rules.specs.Instantiation.{is_among}
use Rattle.bg_index.proofs.leaving.keep.Goals as goal

pub returns-clause-kept : goal.returns-clause-kept
returns-clause-kept c = filter_same _ (λ (number : ℕ). not (is_among number c.args.gone.now)) _ (λ x b f called. search rules) _ _ c.retain.ensures.filtered
