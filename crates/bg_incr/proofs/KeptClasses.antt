-- Rules without conditions are enabled where their redexes occur, as the lists that are kept tell.
use Rattle.std.proofs.Common.{◌≡◌, ℕ, List, [], ◌∷◌, length, inl, inr, refl, ap, arith}
use Rattle.bg_lists.specs.Lists.{Mem, here}
use Rattle.bg_lists.proofs.Members.{not_Mem-nil}
use Rattle.bg_cond.specs.Conditions.{IsEnabledSomewhere}
use Rattle.bg_incr.specs.Finders.{IsKeepable, TellsOccurrence}
use Rattle.bg_incr.proofs.KeptSteps.{enabled_bare, occurs_enabled}
use Rattle.bg_kept.specs.declared.kept_list.KeptList.{KeptList}
use Rattle.bg_kept.specs.Lists.{IsKeptList, is_below}
use Rattle.bg_rules.specs.Reaction.{HostState}
use Rattle.bg_rules.specs.Rules.{RuleParts}

some_of : (maps : List (List ℕ)) → (length maps ≡ 0 → ⊥) → (nodes : List ℕ) × Mem nodes maps
some_of [] some = absurd (some refl)
some_of (map ∷ maps) some = (map, here refl)

module _ (host : HostState) (rule : RuleParts) (list : KeptList) (keepable : IsKeepable rule) (kept : IsKeptList host.big rule.redex list) where
  pub enabled_some : (length list.first.maps.items ≡ 0 → ⊥) → IsEnabledSomewhere host rule
  enabled_some some =
      let w = some_of list.first.maps.items some in record { nodes = w.0; enabled = enabled_bare keepable.bare (kept.first.maps.occur w.0 w.1) }

  pub enabled_none : TellsOccurrence list → length list.first.maps.items ≡ 0 → IsEnabledSomewhere host rule → ⊥
  enabled_none settled none somewhere =
      elim settled.tells [
        | inl whole ↦ no_member list.first.maps.items none somewhere.nodes
            (kept.first.maps.all somewhere.nodes (occurs_enabled somewhere.enabled) (ap (λ b. is_below b somewhere.nodes) whole))
        | inr some ↦ omega (arith, some, none)
      ] where
        no_member : (maps : List (List ℕ)) → length maps ≡ 0 → (nodes : List ℕ) → Mem nodes maps → ⊥
        no_member [] e nodes m = not_Mem-nil nodes m
        no_member (map ∷ maps) e nodes m = absurd (omega (arith, e))
