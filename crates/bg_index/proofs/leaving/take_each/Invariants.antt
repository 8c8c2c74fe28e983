use Rattle.std.proofs.Common.{◌≡◌, ℕ, not, filter, take, vec_capacity}
use Rattle.bg_rules.specs.Instantiation.{is_among}
use Rattle.bg_index.proofs.leaving.take_each.Given as goal

abbrev pub invariant-loop-number : goal.invariant-loop-number
invariant-loop-number l = record {
  kept : l.numbers.items ≡ filter (λ (number : ℕ). not (is_among number (take l.number-index l.gone))) l.initial.numbers.items;
  capacity : vec_capacity l.numbers ≡ vec_capacity l.initial.numbers;
}
