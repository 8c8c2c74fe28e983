-- What is known where the tests of a rule, of a solid bigraph or of a ground one let it pass.
use Rattle.std.proofs.Common.{◌≡◌, ◌++◌, ◌∷◌, [], inl, inr, not, ℕ, Bool, true, false, List, Option, Some, None, Result, Ok, Err, refl, ap, subst, ◌∙◌}
use Rattle.std.specs.Prelude.{if◌then◌else◌, slice_get}
use Rattle.bg_base.specs.declared.big.Big.{Big}
use Rattle.bg_lists.specs.Lists.{Mem, here, there}
use Rattle.bg_lists.proofs.Members.{Mem-append_cases}
use Rattle.bg_rules.specs.declared.condition.Condition.{Condition}
use Rattle.bg_rules.specs.Rules.{SidesAgree, MapFits, sides_agree, map_fits}
use Rattle.bg_rules.specs.Solid.{IsSolid, unsolid_clause}
use Rattle.bg_rules.proofs.SideTests.{agree_from_test, fits_from_test}
use Rattle.bg_rules.proofs.SolidLaws.{solid_from_clause}
use Rattle.bg_statements.specs.declared.rule_values.ConditionValue.{ConditionValue}
use Rattle.bg_statements.specs.declared.rule_values.RuleValue.{RuleValue}
use Rattle.bg_statements.specs.RuleValues.{solid_or, solid_at, sides_tested, redex_tested, with_tested, conditions_tested, rule_tested}
use Rattle.bg_statements.proofs.Turns.{turns_keep}
use Rattle.bg_terms.proofs.Numbered.{bound}
use Rattle.bg_values.proofs.Bindings.{ok_same}
use Rattle.bg_values.proofs.Items.{member_at}
use Rattle.bg_values.specs.declared.refusal.Cause.{Cause}
use Rattle.bg_values.specs.declared.refusal.Refusal.{Refusal}
use Rattle.bg_values.specs.Outcome.{there_or}

-- ---- lists

-- what is found at a place is a member
pub found_member : {X : Type 0} (cause : Cause) (at : ℕ) (items : List X) (index : ℕ) (item : X) → there_or cause at (slice_get items index) ≡ Ok item
    → Mem item items
found_member {X} cause at items index item = by (slice_get items index) refl
  where
    by : (o : Option X) → slice_get items index ≡ o → there_or cause at o ≡ Ok item → Mem item items
    by (Some x) there_is is = member_at items index item (there_is ∙ ap Some (ok_same is))
    by None there_is is = absurd cc

-- what holds of the items and of one more holds of all
pub one_more : {X : Type 0} (P : X → Type 0) (items : List X) (last : X) → ((item : X) → Mem item items → P item) → P last
    → (item : X) → Mem item (items ++ last ∷ []) → P item
one_more P items last each is item m =
    elim (Mem-append_cases items (last ∷ []) m) [
      | inl among ↦ each item among
      | inr (here same) ↦ subst P same is
      | inr (there none) ↦ elim none [ ]
    ]

-- ---- tests

pub held : {A : Type 0} (b : Bool) (r : Result A Refusal) (e : Refusal) (y : A) → (if b then r else Err e) ≡ Ok y → (b ≡ true) × (r ≡ Ok y)
held true r e y is = (refl, is)
held false r e y is = absurd cc

pub passed : {A : Type 0} (b : Bool) (r : Result A Refusal) (e : Refusal) (y : A) → (if not b then Err e else r) ≡ Ok y → (b ≡ true) × (r ≡ Ok y)
passed true r e y is = (refl, is)
passed false r e y is = absurd cc

-- a solid bigraph goes on as it is
pub record SolidSame (big made : Big) : Type 0 where
  pub solid : IsSolid big
  pub same : big ≡ made

pub solid_same : (at : ℕ) (big made : Big) → solid_at at big ≡ Ok made → SolidSame big made
solid_same at big made = by (unsolid_clause big) refl
  where
    by : (o : Option ℕ) → unsolid_clause big ≡ o → solid_or at big o ≡ Ok made → SolidSame big made
    by None none is = record { solid = solid_from_clause big none; same = ok_same is }
    by (Some clause) some is = absurd cc

-- ---- rules

-- the sides of a rule passed all tests
pub record SidesPassed (redex reactum : Big) (entries : List ℕ) (pattern : Big) : Type 0 where
  pub agree : SidesAgree redex reactum
  pub fits : MapFits redex reactum entries
  pub solid : IsSolid redex
  pub same : redex ≡ pattern

pub sides_passed : (at : ℕ) (redex reactum : Big) (entries : List ℕ) (pattern : Big) → redex_tested at redex reactum entries ≡ Ok pattern
    → SidesPassed redex reactum entries pattern
sides_passed at redex reactum entries pattern is =
    let both = bound (sides_tested at redex reactum entries) (λ (agreed : Unit {0}). solid_at at redex) pattern is in
    let first = passed (sides_agree redex reactum) _ _ both.found both.is in
    let second = passed (map_fits redex reactum entries) (Ok tt) _ both.found first.1 in
    let last = solid_same at redex pattern both.goes_on in
    record {
      agree = agree_from_test redex reactum first.0;
      fits = fits_from_test redex reactum entries second.0;
      solid = last.solid;
      same = last.same;
    }

-- what holds of each pattern that is solid holds of each that passed
pub conditions_passed : (P : Big → Type 0) (values : List ConditionValue) (conditions : List Condition)
    → ((c : ConditionValue) → Mem c values → IsSolid c.big → P c.big) → conditions_tested values ≡ Ok conditions
    → (c : Condition) → Mem c conditions → P c.pattern
conditions_passed P values conditions each is =
    turns_keep with_tested (λ (done : List Condition). (c : Condition) → Mem c done → P c.pattern) values
    (λ v m done more holds made.
    let b = bound (solid_at v.at v.big) (λ pattern. Ok (done ++ (record { positive = v.positive; side = v.side; pattern = pattern }) ∷ [])) more made in
    let so = solid_same v.at v.big b.found b.is in
    let last = subst P so.same (each v m so.solid) in
    subst (λ (list : List Condition). (c : Condition) → Mem c list → P c.pattern) (ok_same b.goes_on)
    (one_more (λ (c : Condition). P c.pattern) done _ holds last))
    [] conditions (λ c m. elim m [ ]) is

-- the sides passed their tests, and the rule has them and the conditions that passed theirs
pub record RulePassed (redex reactum : Big) (entries : List ℕ) (conditions : List ConditionValue) (value : RuleValue) : Type 0 where
  pub sides : SidesPassed redex reactum entries value.redex
  pub reactum_same : reactum ≡ value.reactum
  pub map_same : entries ≡ value.map
  pub tested : conditions_tested conditions ≡ Ok value.conditions

pub rule_passed : (at : ℕ) (redex reactum : Big) (entries : List ℕ) (conditions : List ConditionValue) (value : RuleValue)
    → rule_tested at redex reactum entries conditions ≡ Ok value → RulePassed redex reactum entries conditions value
rule_passed at redex reactum entries conditions value is =
    let a = bound (redex_tested at redex reactum entries) _ value is in
    let b = bound (conditions_tested conditions) (λ (found : List Condition). Ok (record { redex = a.found; reactum = reactum; map = entries; conditions = found })) value a.goes_on in
    subst (RulePassed redex reactum entries conditions) (ok_same b.goes_on)
    (record { sides = sides_passed at redex reactum entries a.found a.is; reactum_same = refl; map_same = refl; tested = b.is })
