-- Rules with more occurrences than are asked for: no rule has, or there is a first one.
use Rattle.std.proofs.Common.{◌≡◌, ◌<◌, ◌⊎◌, ℕ, zero, suc, List, [], ◌∷◌, Some, length, slice_get, inl, inr, refl, sym, ap, subst, ◌∙◌, ⊎_elim, arith}
use Rattle.std.proofs.lemmas.Bool.Decides.{leb_tells}
use Rattle.bg_lists.specs.Lists.{Mem, here, there}
use Rattle.bg_lists.proofs.Places.{Mem-from_At, At-slice_get}
use Rattle.bg_lists.proofs.Words.{All-member, All-from_members}
use Rattle.bg_base.specs.Bigraph.{IsGround}
use Rattle.bg_base.specs.declared.big.Big.{Big}
use Rattle.bg_match_text.specs.Counts.{AreFew, IsFirstExcess}
use Rattle.bg_rules.specs.Occurrences.{AreAtMost, AreMoreThan}
use Rattle.bg_rules.proofs.Occurrences.{all_maps, are_occurrences, one_list}
use Rattle.bg_rules.specs.Rules.{RuleParts}
use Rattle.bg_rules.specs.Solid.{IsPattern}
use Rattle.bg_rules.specs.Systems.{SystemParts, IsRuleUnder, IsSystem}

-- ---- not both

not_both : (most : ℕ) (host pattern : Big) → AreAtMost most host pattern → AreMoreThan most host pattern → ⊥
not_both most host pattern few more =
    let same : length few.maps ≡ length more.maps = ap length (one_list host pattern few.maps more.maps few.occurrences more.occurrences) in
    omega (arith, few.few, more.more, same)

-- a system with a first rule that has more is none whose rules all have few
pub few_or_first : (most : ℕ) (system : SystemParts) {number : ℕ} {rule : RuleParts} → AreFew most system → IsFirstExcess most system number rule → ⊥
few_or_first most system {number} {rule} few first =
    let of_system = Mem-from_At (At-slice_get number system.rules first.there) in
    not_both most system.init.big rule.redex
    (All-member (λ (r : RuleParts). AreAtMost most system.init.big r.redex) system.rules few of_system) first.more

same_rule : (system : SystemParts) (number other : ℕ) (rule second : RuleParts) → number ≡ other → slice_get system.rules number ≡ Some rule
    → slice_get system.rules other ≡ Some second → rule ≡ second
same_rule system number other rule second same one two =
    let is : Some rule ≡ Some second = sym one ∙ ap (slice_get system.rules) same ∙ two in
    cc

-- the first rule that has more is one
pub one_first : (most : ℕ) (system : SystemParts) (number other : ℕ) (rule second : RuleParts) → IsFirstExcess most system number rule
    → IsFirstExcess most system other second → (number ≡ other) × (rule ≡ second)
one_first most system number other rule second one two =
    let same = ⊎_elim
    (λ few. ⊎_elim (λ back. omega (arith, few.1, back.1))
    (λ less. absurd (not_both most system.init.big rule.redex (two.before number rule (omega (arith, less.1)) one.there) one.more))
    (leb_tells other number))
    (λ more. absurd (not_both most system.init.big second.redex (one.before other second (omega (arith, more.1)) two.there) two.more))
    (leb_tells number other) in
    (same, same_rule system number other rule second same one.there two.there)

-- ---- one of the two

module _ (most : ℕ) (host : Big) (ground : IsGround host) where
  few_or_more : (pattern : Big) → IsPattern pattern → AreAtMost most host pattern ⊎ AreMoreThan most host pattern
  few_or_more pattern is =
      let maps = all_maps host pattern is ground in
      let all = are_occurrences host pattern is ground in
      ⊎_elim (λ few. inl (record { maps = maps; occurrences = all; few = few.1 }))
      (λ more. inr (record { maps = maps; occurrences = all; more = omega (arith, more.1) }))
      (leb_tells (length maps) most)

  -- of these rules that one has more, and each before it has few
  record IsFirst (rules : List RuleParts) (number : ℕ) (rule : RuleParts) : Type 0 where
    pub there : slice_get rules number ≡ Some rule
    pub more : AreMoreThan most host rule.redex
    pub before : (earlier : ℕ) (other : RuleParts) → earlier < number → slice_get rules earlier ≡ Some other → AreAtMost most host other.redex

  abbrev Found : List RuleParts → Type 0
  Found rules =
      ((rule : RuleParts) → Mem rule rules → AreAtMost most host rule.redex) ⊎ ((number : ℕ) × (rule : RuleParts) × IsFirst rules number rule)

  few_before : (rule : RuleParts) (rules : List RuleParts) (number : ℕ) → AreAtMost most host rule.redex
      → ((earlier : ℕ) (other : RuleParts) → earlier < number → slice_get rules earlier ≡ Some other → AreAtMost most host other.redex)
      → (earlier : ℕ) (other : RuleParts) → earlier < suc number → slice_get (rule ∷ rules) earlier ≡ Some other → AreAtMost most host other.redex
  few_before rule rules number few before zero other below is =
      let same : rule ≡ other = cc in subst (λ (r : RuleParts). AreAtMost most host r.redex) same few
  few_before rule rules number few before (suc earlier) other below is = before earlier other (omega (arith, below)) is

  few_with : (rule : RuleParts) (rules : List RuleParts) → AreAtMost most host rule.redex
      → ((other : RuleParts) → Mem other rules → AreAtMost most host other.redex)
      → (other : RuleParts) → Mem other (rule ∷ rules) → AreAtMost most host other.redex
  few_with rule rules few all other (here same) = subst (λ (r : RuleParts). AreAtMost most host r.redex) same few
  few_with rule rules few all other (there m) = all other m

  found : (rules : List RuleParts) → ((rule : RuleParts) → Mem rule rules → IsPattern rule.redex) → Found rules
  found [] are = inl (λ rule m. elim m [ ])
  found (rule ∷ rules) are =
      ⊎_elim
      (λ few. ⊎_elim
      (λ all. inl (few_with rule rules few all))
      (λ first. inr (
        suc first.0,
        first.1,
        record { there = first.2.there; more = first.2.more; before = few_before rule rules first.0 few first.2.before },
      ))
      (found rules (λ r m. are r (there m))))
      (λ more. inr (zero, rule, record { there = refl; more = more; before = λ earlier other below. absurd (omega (arith, below)) }))
      (few_or_more rule.redex (are rule (here refl)))

-- the rules of a system all have few, or there is a first that has more
pub first_or_few : (most : ℕ) (system : SystemParts) → IsSystem system
    → AreFew most system ⊎ ((number : ℕ) × (rule : RuleParts) × IsFirstExcess most system number rule)
first_or_few most system is =
    ⊎_elim
    (λ all. inl (All-from_members (λ (r : RuleParts). AreAtMost most system.init.big r.redex) system.rules all))
    (λ first. inr (first.0, first.1, record { there = first.2.there; more = first.2.more; before = first.2.before }))
    (found most system.init.big is.init_is.fits.ground system.rules
    (λ rule m. (All-member (λ (r : RuleParts). IsRuleUnder system.signature system.classes r) system.rules is.rules_fit m).is_rule.sides.is_pattern))
