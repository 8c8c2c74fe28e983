-- Rules and predicates, by the codes of their references.
use Rattle.std.proofs.Common.{◌≡◌, ◌∙◌, ◌++◌, ◌∷◌, [], ℕ, List, length, Result, Ok, refl, ap, sym, subst}
use Rattle.bg_base.specs.declared.labels.Label.{Label}
use Rattle.bg_base.specs.declared.labels.Value.{Value}
use Rattle.bg_base.specs.declared.signature.Control.{Control}
use Rattle.bg_elab.specs.declared.blocks.Listed.{Listed as ListedCode}
use Rattle.bg_elab.specs.declared.references.Reference.{Reference as ReferenceCode}
use Rattle.bg_elab.specs.Blocks.{Listed}
use Rattle.bg_elab.specs.Calls.{listed_code, reference_code}
use Rattle.bg_elab.specs.References.{Reference}
use Rattle.bg_elab.specs.Systems.{room_at, label_with, with_rule, with_predicate}
use Rattle.bg_rules.specs.declared.predicate.Predicate.{Predicate}
use Rattle.bg_rules.specs.Rules.{RuleParts}
use Rattle.bg_statements.specs.Defined.{Defined}
use Rattle.bg_statements.specs.Uses.{predicate_used, rule_used}
use Rattle.bg_statements.proofs.Turns.{stops_there}
use Rattle.bg_values.specs.declared.refusal.LimitWord.TheVariants.{Rules, Preds}
use Rattle.bg_values.specs.declared.refusal.Refusal.{Refusal}
use Rattle.bg_values.specs.declared.refusal.Stop.{Stop}
use Rattle.bg_values.specs.Outcome.{◌>>=◌, Stops}

-- ---- rules

module _ (d : Defined) (l : Listed) (code : ListedCode) (is : code ≡ listed_code l) (choice : List Value) (old : List RuleParts) (signature : List Control) where
  abbrev rule_added : RuleParts × List Control → Result (List RuleParts × List Control) Refusal
  rule_added v = Ok (old ++ v.0 ∷ [], v.1)

  abbrev rule_named : Label → Result (List RuleParts × List Control) Refusal
  rule_named label = rule_used d l.reference.at l.reference.number label l.class signature >>= rule_added

  pub rule_full : (count : ℕ) → count ≡ length old → (stop : Stop) → Stops stop (room_at Rules code.reference.at count) → Stops stop (with_rule d l choice (old, signature))
  rule_full count counted stop stops =
      stops_there stop (room_at Rules l.reference.at (length old)) (with_rule d l choice (old, signature)) (λ room. label_with l.reference choice >>= rule_named) refl
      (subst (λ (n : ℕ). Stops stop (room_at Rules l.reference.at n)) counted (subst (λ (x : ListedCode). Stops stop (room_at Rules x.reference.at count)) is stops))

  module _ (none : Unit {0}) (count : ℕ) (counted : count ≡ length old) (room : room_at Rules code.reference.at count ≡ Ok none) where
    rule_room : with_rule d l choice (old, signature) ≡ label_with l.reference choice >>= rule_named
    rule_room = ap (λ (r : Result (Unit {0}) Refusal). r >>= λ other. label_with l.reference choice >>= rule_named)
        (subst (λ (n : ℕ). room_at Rules l.reference.at n ≡ Ok none) counted (subst (λ (x : ListedCode). room_at Rules x.reference.at count ≡ Ok none) is room))

    pub rule_unnamed : (stop : Stop) → Stops stop (label_with l.reference choice) → Stops stop (with_rule d l choice (old, signature))
    rule_unnamed stop stops = stops_there stop (label_with l.reference choice) (with_rule d l choice (old, signature)) rule_named rule_room stops

    module _ (label : Label) (named : label_with l.reference choice ≡ Ok label) where
      rule_now : with_rule d l choice (old, signature) ≡ rule_used d code.reference.at code.reference.number label code.class signature >>= rule_added
      rule_now = rule_room ∙ ap (λ r. r >>= rule_named) named
          ∙ ap (λ (x : ListedCode). rule_used d x.reference.at x.reference.number label x.class signature >>= rule_added) (sym is)

      pub rule_refused : (stop : Stop) → Stops stop (rule_used d code.reference.at code.reference.number label code.class signature)
          → Stops stop (with_rule d l choice (old, signature))
      rule_refused stop stops =
          stops_there stop (rule_used d code.reference.at code.reference.number label code.class signature) (with_rule d l choice (old, signature)) rule_added rule_now stops

      pub rule_so : (rule : RuleParts) (reached : List Control) → rule_used d code.reference.at code.reference.number label code.class signature ≡ Ok (rule, reached)
          → (new : List RuleParts) → new ≡ old ++ rule ∷ [] → with_rule d l choice (old, signature) ≡ Ok (new, reached)
      rule_so rule reached used new pushed = rule_now ∙ ap (λ r. r >>= rule_added) used ∙ ap (λ rules. Ok (rules, reached)) (sym pushed)

-- ---- predicates

module _ (d : Defined) (l : Reference) (code : ReferenceCode) (is : code ≡ reference_code l) (choice : List Value) (old : List Predicate) (signature : List Control) where
  abbrev predicate_added : Predicate × List Control → Result (List Predicate × List Control) Refusal
  predicate_added v = Ok (old ++ v.0 ∷ [], v.1)

  abbrev predicate_named : Label → Result (List Predicate × List Control) Refusal
  predicate_named label = predicate_used d l.at l.number label signature >>= predicate_added

  pub predicate_full : (count : ℕ) → count ≡ length old → (stop : Stop) → Stops stop (room_at Preds code.at count) → Stops stop (with_predicate d l choice (old, signature))
  predicate_full count counted stop stops =
      stops_there stop (room_at Preds l.at (length old)) (with_predicate d l choice (old, signature)) (λ room. label_with l choice >>= predicate_named) refl
      (subst (λ (n : ℕ). Stops stop (room_at Preds l.at n)) counted (subst (λ (x : ReferenceCode). Stops stop (room_at Preds x.at count)) is stops))

  module _ (none : Unit {0}) (count : ℕ) (counted : count ≡ length old) (room : room_at Preds code.at count ≡ Ok none) where
    predicate_room : with_predicate d l choice (old, signature) ≡ label_with l choice >>= predicate_named
    predicate_room = ap (λ (r : Result (Unit {0}) Refusal). r >>= λ other. label_with l choice >>= predicate_named)
        (subst (λ (n : ℕ). room_at Preds l.at n ≡ Ok none) counted (subst (λ (x : ReferenceCode). room_at Preds x.at count ≡ Ok none) is room))

    pub predicate_unnamed : (stop : Stop) → Stops stop (label_with l choice) → Stops stop (with_predicate d l choice (old, signature))
    predicate_unnamed stop stops = stops_there stop (label_with l choice) (with_predicate d l choice (old, signature)) predicate_named predicate_room stops

    module _ (label : Label) (named : label_with l choice ≡ Ok label) where
      predicate_now : with_predicate d l choice (old, signature) ≡ predicate_used d code.at code.number label signature >>= predicate_added
      predicate_now = predicate_room ∙ ap (λ r. r >>= predicate_named) named
          ∙ ap (λ (x : ReferenceCode). predicate_used d x.at x.number label signature >>= predicate_added) (sym is)

      pub predicate_refused : (stop : Stop) → Stops stop (predicate_used d code.at code.number label signature)
          → Stops stop (with_predicate d l choice (old, signature))
      predicate_refused stop stops =
          stops_there stop (predicate_used d code.at code.number label signature) (with_predicate d l choice (old, signature)) predicate_added predicate_now stops

      pub predicate_so : (predicate : Predicate) (reached : List Control) → predicate_used d code.at code.number label signature ≡ Ok (predicate, reached)
          → (new : List Predicate) → new ≡ old ++ predicate ∷ [] → with_predicate d l choice (old, signature) ≡ Ok (new, reached)
      predicate_so predicate reached used new pushed = predicate_now ∙ ap (λ r. r >>= predicate_added) used ∙ ap (λ predicates. Ok (predicates, reached)) (sym pushed)
