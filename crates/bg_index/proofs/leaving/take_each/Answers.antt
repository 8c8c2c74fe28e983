use Rattle.std.proofs.Common.{◌≡◌, ℕ, List, not, filter, take, get_or, refl, sym, subst, ◌∙◌}
use Rattle.std.proofs.lemmas.List.{take_more}
use Rattle.bg_rules.specs.Instantiation.{is_among}
use Rattle.bg_index.proofs.KeyLaws.{left_ascends, removed_more, removed_none, take_past}
use Rattle.bg_index.proofs.leaving.take_each.Goals as goal

pub loop-number-init : goal.loop-number-init
loop-number-init c = record { kept = removed_none (λ (number : ℕ). number) c.args.numbers.now.items; capacity = refl }

pub take_number-requires : goal.take_number-requires
take_number-requires c = record {
  numbers_ascend = left_ascends (λ (number : ℕ). number) (take c.loop-number.number-index c.args.gone.now) c.args.numbers.now.items c.loop-number.numbers.items
      c.loop-number.invariant.kept c.requires.numbers_ascend;
}

pub loop-number-preserved : goal.loop-number-preserved
loop-number-preserved c = record {
  kept = subst (λ (ns : List ℕ). c.take_number.new.numbers.items ≡ filter (λ (number : ℕ). not (is_among number ns)) c.args.numbers.now.items)
      (sym (take_more c.args.gone.now c.loop-number.number-index 0 c.loop-number-test.true))
      (removed_more (λ (number : ℕ). number) (take c.loop-number.number-index c.args.gone.now) (get_or c.args.gone.now c.loop-number.number-index 0) c.args.numbers.now.items c.loop-number.numbers.items
      c.take_number.new.numbers.items c.loop-number.invariant.kept c.take_number.ensures.kept);
  capacity = c.take_number.ensures.capacity ∙ c.loop-number.invariant.capacity;
}

pub returns-clause-kept : goal.returns-clause-kept
returns-clause-kept c =
    subst (λ (ns : List ℕ). c.loop-number.numbers.items ≡ filter (λ (number : ℕ). not (is_among number ns)) c.args.numbers.now.items)
    (take_past c.loop-number.number-index c.args.gone.now c.loop-number-test.false) c.loop-number.invariant.kept
