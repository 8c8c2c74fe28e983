-- The first class, rule by rule.
use Rattle.std.proofs.Common.{◌≡◌, ℕ, ◌+◌, ◌<◌, ◌≤◌, true, false, ltb-true, lt-ltb, Option, None, Some, MatchOption, List, length, get_or, All, refl, sym, ap, subst, ◌∙◌, arith, inl, inr, ◌⊎◌}
use Rattle.std.proofs.lemmas.Bool.{cases_lt, false≢true}
use Rattle.bg_lists.specs.Lists.{At}
use Rattle.bg_lists.proofs.Places.{At-one, At-below, At-from_Mem}
use Rattle.bg_lists.proofs.Words.{All-member, All-from_members}
use Rattle.bg_base.specs.declared.big.NodeRow.{NodeRow}
use Rattle.bg_rules.specs.declared.condition.Condition.{Condition}
use Rattle.bg_rules.specs.Reaction.{HostState}
use Rattle.bg_rules.specs.Rules.{RuleParts}
use Rattle.bg_rules.specs.Solid.{IsPattern}
use Rattle.bg_base.specs.Bigraph.{IsValidUnder}
use Rattle.bg_rules.specs.Systems.{SystemParts, IsSystem, IsRuleUnder}
use Rattle.bg_cond.specs.Conditions.{IsEnabledSomewhere}
use Rattle.bg_cond.specs.Found.{is_higher, IsHigherOf, kept, raised}
use Rattle.bg_cond.specs.Pieces.{hole_control}
use Rattle.bg_cond.specs.Sides.{IsSought, LooksForNodes}
use Rattle.bg_cond.specs.Steps.{IsFirstClass, NoneEnabled}
use Rattle.bg_cond.proofs.Upto.{item_at}

-- ---- the rules of a system look for nodes

pub system_looks : (system : SystemParts) → IsSystem system → length system.signature < 4294967296 → All LooksForNodes system.rules
system_looks system is few =
    All-from_members LooksForNodes system.rules
    (λ rule m. let under = All-member (λ (r : RuleParts). IsRuleUnder system.signature system.classes r) system.rules is.rules_fit m in
    record {
      redex_is = under.is_rule.sides.is_pattern;
      sought = All-from_members (λ (condition : Condition). IsSought condition.pattern) rule.conditions
          (λ condition n. let fits = All-member (λ (c : Condition). IsValidUnder system.signature c.pattern) rule.conditions under.conditions_fit n in
          record {
            is_pattern = All-member (λ (c : Condition). IsPattern c.pattern) rule.conditions under.conditions_are n;
            no_hole = All-from_members (λ (row : NodeRow). row.control < hole_control) condition.pattern.nodes
                (λ row k. let below = All-member (λ (r : NodeRow). r.control < length system.signature) condition.pattern.nodes fits.controls_there k in
                omega (arith, below, few));
          });
    })

-- ---- up to a place

pub record IsLeast (host : HostState) (rules : List RuleParts) (place class : ℕ) : Type 0 where
  pub rule : RuleParts
  pub at : ℕ
  pub there : At rule at rules
  pub of_class : rule.class ≡ class
  pub somewhere : IsEnabledSomewhere host rule
  pub least : (other : RuleParts) (place_of : ℕ) → At other place_of rules → place_of < place → IsEnabledSomewhere host other → class ≤ other.class

pub record HasNone (host : HostState) (rules : List RuleParts) (place : ℕ) : Type 0 where
  pub none : (other : RuleParts) (place_of : ℕ) → At other place_of rules → place_of < place → IsEnabledSomewhere host other → ⊥

abbrev pub IsFirstUpto : HostState → List RuleParts → ℕ → Option ℕ → Type 0
IsFirstUpto host rules place first = MatchOption first (HasNone host rules place) (λ class. IsLeast host rules place class)

module _ (host : HostState) (rules : List RuleParts) where
  pub first_begins : HasNone host rules 0
  first_begins = record { none = λ other place_of a below s. absurd (omega (arith, below)) }

  module _ (place : ℕ) (rule : RuleParts) (inside : place < length rules) (is : rule ≡ get_or rules place rule) where
    -- one that stands before the next place is this one or stands before this place
    before_next : (other : RuleParts) (place_of : ℕ) → At other place_of rules → place_of < place + 1 → (place_of < place) ⊎ (rule ≡ other)
    before_next other place_of a below =
        elim (cases_lt place_of place) [
          | inl less ↦ inl less
          | inr more ↦ (let same : place ≡ place_of = omega (arith, below, more) in
              inr (At-one (subst (λ n. At rule n rules) same (item_at rules place rule inside is)) a))
        ]

    this_class : (next : RuleParts) → rule ≡ next → rule.class ≡ next.class
    this_class next same = ap (λ (r : RuleParts). r.class) same

    still_none : (IsEnabledSomewhere host rule → ⊥) → HasNone host rules place → HasNone host rules (place + 1)
    still_none never first =
        record {
          none = λ other place_of a below s. elim (before_next other place_of a below) [
            | inl less ↦ first.none other place_of a less s
            | inr same ↦ never (subst (IsEnabledSomewhere host) (sym same) s)
          ];
        }

    still_least : (class : ℕ) → (IsEnabledSomewhere host rule → class ≤ rule.class) → IsLeast host rules place class → IsLeast host rules (place + 1) class
    still_least class some first =
        record {
          rule = first.rule;
          at = first.at;
          there = first.there;
          of_class = first.of_class;
          somewhere = first.somewhere;
          least = λ next place_of a below s. elim (before_next next place_of a below) [
            | inl less ↦ first.least next place_of a less s
            | inr same ↦ (let up = some (subst (IsEnabledSomewhere host) (sym same) s) in
                let own = this_class next same in omega (arith, up, own))
          ];
        }

    now_least : IsEnabledSomewhere host rule
        → ((next : RuleParts) (place_of : ℕ) → At next place_of rules → place_of < place → IsEnabledSomewhere host next → rule.class ≤ next.class)
        → IsLeast host rules (place + 1) rule.class
    now_least some before =
        record {
          rule = rule;
          at = place;
          there = item_at rules place rule inside is;
          of_class = refl;
          somewhere = some;
          least = λ next place_of a below s. elim (before_next next place_of a below) [
            | inl less ↦ before next place_of a less s
            | inr same ↦ (let own = this_class next same in omega (arith, own))
          ];
        }

    kept_case : (old : Option ℕ) → (IsEnabledSomewhere host rule → (class : ℕ) × (old ≡ Some class) × (class ≤ rule.class))
        → IsFirstUpto host rules place old → IsFirstUpto host rules (place + 1) old
    kept_case None some first = still_none (λ s. let w = some s in let bad : None ≡ Some w.0 = w.1 in cc) first
    kept_case (Some class) some first =
        still_least class (λ s. let w = some s in
        let both : Some class ≡ Some w.0 = w.1 in
        let one : class ≡ w.0 = cc in
        let up = w.2 in omega (arith, one, up)) first

    raised_case : (old : Option ℕ) → IsEnabledSomewhere host rule → ((class : ℕ) → old ≡ Some class → rule.class < class)
        → IsFirstUpto host rules place old → IsLeast host rules (place + 1) rule.class
    raised_case None some before first = now_least some (λ next place_of a less s. absurd (first.none next place_of a less s))
    raised_case (Some class) some before first =
        let less_class = before class refl in
        now_least some (λ next place_of a less s. let up = first.least next place_of a less s in omega (arith, less_class, up))

    pub first_next : (old new : Option ℕ) → IsHigherOf host rule old new → IsFirstUpto host rules place old → IsFirstUpto host rules (place + 1) new
    first_next old new (kept e some) first = subst (λ o. IsFirstUpto host rules (place + 1) o) (sym e) (kept_case old some first)
    first_next old new (raised e some before) first = subst (λ o. IsFirstUpto host rules (place + 1) o) (sym e) (raised_case old some before first)

  pub first_ends : (place : ℕ) → length rules ≤ place → (first : Option ℕ) → IsFirstUpto host rules place first
      → MatchOption first (NoneEnabled host rules) (λ class. IsFirstClass host rules class)
  first_ends place ended None first =
      record {
        none = λ rule nodes m e. let a = At-from_Mem m in
            let below = At-below a.1 in first.none rule a.0 a.1 (omega (arith, below, ended)) (record { nodes = nodes; enabled = e });
      }
  first_ends place ended (Some class) first =
      record {
        step = record { rule = first.at; map = first.somewhere.nodes };
        enabled = record { rule = first.rule; there = first.there; of_class = first.of_class; enabled = first.somewhere.enabled };
        highest = record {
          none_higher = λ rule nodes m e. let a = At-from_Mem m in
              let below = At-below a.1 in first.least rule a.0 a.1 (omega (arith, below, ended)) (record { nodes = nodes; enabled = e });
        };
      }

-- ---- one rule

module _ (host : HostState) (rule : RuleParts) where
  lower : (old : Option ℕ) → is_higher rule.class old ≡ false → (class : ℕ) × (old ≡ Some class) × (class ≤ rule.class)
  lower None e = let bad : true ≡ false = e in cc
  lower (Some class) e = (class, refl, elim (cases_lt rule.class class) [ inl less ↦ absurd (false≢true (sym e ∙ lt-ltb rule.class class less)) | inr more ↦ more ])

  higher : (old : Option ℕ) → is_higher rule.class old ≡ true → (class : ℕ) → old ≡ Some class → rule.class < class
  higher None e class is = let bad : None ≡ Some class = is in cc
  higher (Some other) e class is =
      let same : other ≡ class = cc in
      let less : rule.class < other = ltb-true rule.class other e in omega (arith, same, less)

  pub kept_lower : (old : Option ℕ) → is_higher rule.class old ≡ false → IsHigherOf host rule old old
  kept_lower old e = kept refl (λ s. lower old e)

  pub kept_never : (old : Option ℕ) → (IsEnabledSomewhere host rule → ⊥) → IsHigherOf host rule old old
  kept_never old never = kept refl (λ s. absurd (never s))

  pub raised_there : (old : Option ℕ) (class : ℕ) → class ≡ rule.class → is_higher rule.class old ≡ true → IsEnabledSomewhere host rule
      → IsHigherOf host rule old (Some class)
  raised_there old class same e s = raised (ap Some same) s (higher old e)
