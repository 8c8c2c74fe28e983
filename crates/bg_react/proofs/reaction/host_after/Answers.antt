use Rattle.std.proofs.Common.{◌≡◌, Option, Some, None, Result, Ok, Err, MatchOption, refl, subst}
use Rattle.bg_rules.specs.declared.fault.ReactFault.{ReactFault}
use Rattle.bg_react.specs.Growth.{HasRoom}
use Rattle.bg_react.proofs.Reacted.{no_room, becomes_host}
use Rattle.bg_react.proofs.reaction.host_after.Goals as goal

module _ {A : Type 0} (P : Type 0) (Q : A → Type 0) (full : ReactFault) (told : Result A ReactFault) where
  -- where a value is told, that is what was found
  was_found : (found : Option A) (value : A) → MatchOption found (told ≡ Err full) (λ x. told ≡ Ok x) → told ≡ Ok value → MatchOption found P Q → Q value
  was_found None value tells is holds = absurd cc
  was_found (Some x) value tells is holds = let same : x ≡ value = cc in subst Q same holds

  -- where a fault is told, nothing was found
  was_none : (found : Option A) (fault : ReactFault) → MatchOption found (told ≡ Err full) (λ x. told ≡ Ok x) → told ≡ Err fault → MatchOption found P Q → P
  was_none None fault tells is holds = holds
  was_none (Some x) fault tells is holds = absurd cc

pub returns-in_err-counters-clause-full : goal.returns-in_err-counters-clause-full
returns-in_err-counters-clause-full c =
    let none : HasRoom c.args.host.now c.args.rule.now c.args.context.now c.args.parameter.now → ⊥
    = was_none _ _ _ _ c.in_ok-found.found c.in_err-counters.field-0.0 c.in_err-counters.ensures refl c.in_ok-found.ensures in
    λ is. no_room c.args.host.now c.args.rule.now c.args.context.now c.args.parameter.now none

pub host_of-requires : goal.host_of-requires
host_of-requires c =
    let counted = was_found _ _ _ _ c.in_ok-found.found c.in_ok-counters.counters c.in_ok-counters.ensures refl c.in_ok-found.ensures in
    record {
      fits = becomes_host c.args.host.now c.args.rule.now c.args.context.now c.args.parameter.now c.requires.is_host c.requires.is_rule
          c.requires.between
          counted.0 c.in_ok-big.big c.in_ok-counters.counters.next_node c.in_ok-counters.counters.next_edge c.in_ok-big.ensures counted.1 counted.2;
    }
