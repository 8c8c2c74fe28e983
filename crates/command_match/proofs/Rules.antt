-- The texts of rules, one more at a time.
use Rattle.std.proofs.Common.{◌≡◌, ◌<◌, ℕ, suc, ◌+◌, Bool, Some, Result, Ok, Err, IfErr, IsErrAnd, List, [], ◌∷◌, ◌++◌, length, get_or, slice_get, take, All, arith, sym, ap, subst, ◌∙◌, append_assoc}
use Rattle.std.proofs.lemmas.List.{take_more, append-nil, length-take-le, get_or-take}
use Rattle.std.proofs.lemmas.List.Elements.{All-push}
use Rattle.bg_base.specs.declared.signature.Control.{Control}
use Rattle.bg_base.specs.declared.big.Big.{Big}
use Rattle.bg_lists.proofs.Places.{At-same, At-get_or, At-slice_get, get_or-At, slice_get-At}
use Rattle.bg_rules.specs.Occurrences.{AreAtMost, AreMoreThan}
use Rattle.bg_rules.specs.Rules.{RuleParts}
use Rattle.bg_rules.specs.Systems.{SystemParts}
use Rattle.command_match.specs.declared.fault.MatchesFault.{MatchesFault}
use Rattle.command_match.specs.declared.fault.MatchesFault.TheVariants.{TooMany}
use Rattle.bg_match_text.specs.Appending.{Appends}
use Rattle.bg_match_text.specs.Counts.{IsFirstExcess}
use Rattle.bg_match_text.specs.MatchText.{IsRuleText, AreRuleTexts, none, each}
use Rattle.bg_match_text.proofs.Writing.{behind}

one_longer : (rules : List RuleParts) (at : ℕ) (rule : RuleParts) → at < length rules → rule ≡ get_or rules at rule
    → take at rules ++ (rule ∷ []) ≡ take (at + 1) rules
one_longer rules at rule below is = ap (λ (r : RuleParts). take at rules ++ (r ∷ [])) is ∙ sym (take_more rules at rule below)

module _ {signature : List Control} {host : Big} {explain : Bool} where
  pub none_yet : (before : List ℕ) → Appends (AreRuleTexts signature host explain 0 []) before before
  none_yet before = record { text = []; is_text = none; appended = sym (append-nil before) }

  behind_others : {number : ℕ} {rules : List RuleParts} {texts : List ℕ} → AreRuleTexts signature host explain number rules texts
      → {rule : RuleParts} {text : List ℕ} → IsRuleText signature host explain (number + length rules) rule text
      → AreRuleTexts signature host explain number (rules ++ (rule ∷ [])) (texts ++ text)
  behind_others (none {number = number}) {rule} {text} last =
      let here : number + 0 ≡ number = omega arith in
      subst (AreRuleTexts signature host explain number (rule ∷ [])) (append-nil text)
      (each (subst (λ (n : ℕ). IsRuleText signature host explain n rule text) here last) none)
  behind_others (each {number = number} {rule = first} {rules = rules} {text = one} {texts = more} is others) {rule} {text} last =
      let next : number + suc (length rules) ≡ (number + 1) + length rules = omega arith in
      subst (AreRuleTexts signature host explain number (first ∷ rules ++ (rule ∷ []))) (sym (append_assoc one more text))
      (each is (behind_others others (subst (λ (n : ℕ). IsRuleText signature host explain n rule text) next last)))

  pub one_more : (rules : List RuleParts) (at : ℕ) (rule : RuleParts) (before now after : List ℕ) → at < length rules → rule ≡ get_or rules at rule
      → Appends (AreRuleTexts signature host explain 0 (take at rules)) before now
      → Appends (IsRuleText signature host explain at rule) now after
      → Appends (AreRuleTexts signature host explain 0 (take (at + 1) rules)) before after
  one_more rules at rule before now after below is others last =
      let reached : at ≡ 0 + length (take at rules) = omega (arith, length-take-le at rules) in
      record {
        text = others.text ++ last.text;
        is_text = subst (λ (all : List RuleParts). AreRuleTexts signature host explain 0 all (others.text ++ last.text))
            (one_longer rules at rule below is)
            (behind_others others.is_text (subst (λ (n : ℕ). IsRuleText signature host explain n rule last.text) reached last.is_text));
        appended = behind before now after others.text last.text others.appended last.appended;
      }

-- ---- all rules of a system so far

-- the redex of each of these rules has at most so many occurrences
abbrev HaveAtMost : ℕ → Big → List RuleParts → Type 0
HaveAtMost most host rules = All (λ (rule : RuleParts). AreAtMost most host rule.redex) rules

-- what was read from a system
pub record AreOf (system : SystemParts) (signature : List Control) (host : Big) (rules : List RuleParts) : Type 0 where
  pub signature_is : signature ≡ system.signature
  pub host_is : host ≡ system.init.big
  pub rules_is : rules ≡ system.rules

pub next_rule : (system : SystemParts) (explain : Bool) (most at : ℕ) (rule : RuleParts) {signature : List Control} {host : Big} {rules : List RuleParts}
    (before now after : List ℕ) → AreOf system signature host rules → at < length rules → rule ≡ get_or rules at rule
    → Appends (AreRuleTexts system.signature system.init.big explain 0 (take at system.rules)) before now × HaveAtMost most system.init.big (take at system.rules)
    → Appends (IsRuleText signature host explain at rule) now after → AreAtMost most host rule.redex
    → Appends (AreRuleTexts system.signature system.init.big explain 0 (take (at + 1) system.rules)) before after
    × HaveAtMost most system.init.big (take (at + 1) system.rules)
next_rule system explain most at rule {signature} {host} {rules} before now after of_it below is so_far text few =
    let P : RuleParts → Type 0 = λ (r : RuleParts). AreAtMost most system.init.big r.redex in
    let here : at < length system.rules = subst (λ (rs : List RuleParts). at < length rs) of_it.rules_is below in
    let this : rule ≡ get_or system.rules at rule = subst (λ (rs : List RuleParts). rule ≡ get_or rs at rule) of_it.rules_is is in
    let placed : Appends (IsRuleText signature system.init.big explain at rule) now after =
    subst (λ (h : Big). Appends (IsRuleText signature h explain at rule) now after) of_it.host_is text in
    let written : Appends (IsRuleText system.signature system.init.big explain at rule) now after =
    subst (λ (s : List Control). Appends (IsRuleText s system.init.big explain at rule) now after) of_it.signature_is placed in
    let last : P rule = subst (λ (h : Big). AreAtMost most h rule.redex) of_it.host_is few in (
      one_more system.rules at rule before now after here this so_far.0 written,
      subst (All P) (one_longer system.rules at rule here this) (All-push P (take at system.rules) rule so_far.1 last),
    )

-- what holds of all rules so far holds of each of them
of_earlier : (most : ℕ) (host : Big) (rules : List RuleParts) (at earlier : ℕ) (rule : RuleParts) → at < length rules → HaveAtMost most host (take at rules)
    → earlier < at → slice_get rules earlier ≡ Some rule → AreAtMost most host rule.redex
of_earlier most host rules at earlier rule below few lower found =
    let inside : earlier < length (take at rules) = omega (arith, length-take-le at rules) in
    let same : get_or (take at rules) earlier rule ≡ rule =
    get_or-take at rules earlier rule lower ∙ get_or-At rules rule (At-slice_get earlier rules found) in
    subst (λ (r : RuleParts). AreAtMost most host r.redex) same (few earlier rule inside)

-- the rule where the writing stopped is the first with too many occurrences
pub first_excess : {T : Type 0} (answer : Result T MatchesFault) (fault : MatchesFault) (system : SystemParts) (most at : ℕ) (rule : RuleParts)
    {signature : List Control} {host : Big} {rules : List RuleParts} → AreOf system signature host rules → at < length rules → rule ≡ get_or rules at rule
    → HaveAtMost most system.init.big (take at system.rules) → IsErrAnd answer (λ other. other ≡ fault)
    → ((found : ℕ) → fault ≡ TooMany found → (found ≡ at) × AreMoreThan most host rule.redex)
    → IfErr answer (λ other. (number : ℕ) → other ≡ TooMany number → (first : RuleParts) × IsFirstExcess most system number first)
first_excess (Ok x) fault system most at rule of_it below is few same many = tt
first_excess (Err other) fault system most at rule {signature} {host} {rules} of_it below is few same many =
    λ number excess.
    let more = many number (sym same ∙ excess) in
    let here : at < length system.rules = subst (λ (rs : List RuleParts). at < length rs) of_it.rules_is below in
    let this : rule ≡ get_or system.rules at rule = subst (λ (rs : List RuleParts). rule ≡ get_or rs at rule) of_it.rules_is is in (
      rule,
      subst (λ (n : ℕ). IsFirstExcess most system n rule) (sym more.0) (record {
        there = slice_get-At system.rules (At-same (sym this) (At-get_or system.rules at rule here));
        more = subst (λ (h : Big). AreMoreThan most h rule.redex) of_it.host_is more.1;
        before = λ earlier other_rule lower found. of_earlier most system.init.big system.rules at earlier other_rule here few lower found;
      }),
    )
