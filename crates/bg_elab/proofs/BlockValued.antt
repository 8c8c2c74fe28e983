-- What the block comes to, part by part.
use Rattle.std.proofs.Common.{◌≡◌, ◌∙◌, [], ℕ, List, Result, Ok, refl, ap, sym, subst}
use Rattle.bg_base.specs.declared.labels.Value.{Value}
use Rattle.bg_base.specs.declared.signature.Control.{Control}
use Rattle.bg_elab.specs.declared.references.Reference.{Reference as ReferenceCode}
use Rattle.bg_elab.specs.Blocks.{Block}
use Rattle.bg_elab.specs.Calls.{reference_code}
use Rattle.bg_elab.specs.References.{Reference}
use Rattle.bg_elab.specs.Systems.{init_valued, rules_valued, predicates_valued, block_valued}
use Rattle.bg_elab.proofs.Labels.{values_are}
use Rattle.bg_rules.specs.declared.predicate.Predicate.{Predicate}
use Rattle.bg_rules.specs.Reaction.{HostState}
use Rattle.bg_rules.specs.Rules.{RuleParts}
use Rattle.bg_rules.specs.Systems.{SystemParts}
use Rattle.bg_statements.specs.Defined.{Defined}
use Rattle.bg_statements.specs.Uses.{host_used}
use Rattle.bg_statements.proofs.Turns.{stops_there}
use Rattle.bg_values.specs.declared.refusal.Refusal.{Refusal}
use Rattle.bg_values.specs.declared.refusal.Stop.{Stop}
use Rattle.bg_values.specs.Operands.{outcomes, values}
use Rattle.bg_values.specs.Outcome.{◌>>=◌, Stops}

-- ---- `init`

module _ (d : Defined) (r : Reference) (code : ReferenceCode) (is : code ≡ reference_code r) where
  pub init_stops : (stop : Stop) → Stops stop (outcomes [] code.arguments) → Stops stop (init_valued d r)
  init_stops stop stops =
      stops_there stop (values [] r.arguments) (init_valued d r) (λ args. host_used d r.at r.number args d.signature) refl
      (subst (λ q. Stops stop q) (values_are [] r code is) stops)

  pub init_now : (found args : List Value) (signature : List Control) → outcomes [] code.arguments ≡ Ok found → args ≡ found → signature ≡ d.signature
      → host_used d code.at code.number args signature ≡ init_valued d r
  init_now found args signature comes same begins =
      (λ i. host_used d (is i).at (is i).number (same i) (begins i))
      ∙ ap (λ q. q >>= λ vs. host_used d r.at r.number vs d.signature) (sym comes ∙ values_are [] r code is)

-- ---- all parts

module _ (d : Defined) (b : Block) where
  abbrev with_preds : HostState → List RuleParts → List Predicate × List Control → Result SystemParts Refusal
  with_preds host rules preds = Ok (record { signature = preds.1; init = host; rules = rules; classes = b.classes; preds = preds.0 })

  abbrev with_rest : HostState → List RuleParts × List Control → Result SystemParts Refusal
  with_rest host rules = predicates_valued d b.preds rules.1 >>= with_preds host rules.0

  abbrev with_all : HostState × List Control → Result SystemParts Refusal
  with_all host = rules_valued d b.rules host.1 >>= with_rest host.0

  pub host_stops : (stop : Stop) → Stops stop (init_valued d b.init) → Stops stop (block_valued d b)
  host_stops stop stops = stops_there stop (init_valued d b.init) (block_valued d b) with_all refl stops

  module _ (host : HostState) (reached : List Control) (begins : init_valued d b.init ≡ Ok (host, reached)) where
    begun : block_valued d b ≡ rules_valued d b.rules reached >>= with_rest host
    begun = ap (λ r. r >>= with_all) begins

    pub rules_stop : (stop : Stop) → Stops stop (rules_valued d b.rules reached) → Stops stop (block_valued d b)
    rules_stop stop stops = stops_there stop (rules_valued d b.rules reached) (block_valued d b) (with_rest host) begun stops

    module _ (rules : List RuleParts) (later : List Control) (made : rules_valued d b.rules reached ≡ Ok (rules, later)) where
      ruled : block_valued d b ≡ predicates_valued d b.preds later >>= with_preds host rules
      ruled = begun ∙ ap (λ r. r >>= with_rest host) made

      pub preds_stop : (stop : Stop) → Stops stop (predicates_valued d b.preds later) → Stops stop (block_valued d b)
      preds_stop stop stops = stops_there stop (predicates_valued d b.preds later) (block_valued d b) (with_preds host rules) ruled stops

      pub parts_so : (preds : List Predicate) (last : List Control) → predicates_valued d b.preds later ≡ Ok (preds, last) → (classes : ℕ) → classes ≡ b.classes
          → block_valued d b ≡ Ok (record { signature = last; init = host; rules = rules; classes = classes; preds = preds })
      parts_so preds last found classes counted =
          ruled ∙ ap (λ r. r >>= with_preds host rules) found
          ∙ ap (λ n. Ok (record { signature = last; init = host; rules = rules; classes = n; preds = preds })) (sym counted)
