-- The references of classes, and the number of classes.
use Rattle.std.proofs.Common.{◌≡◌, ◌+◌, ◌++◌, [], ℕ, List, Result, Ok, sym, ap, subst, ◌∙◌}
use Rattle.bg_elab.specs.declared.blocks.Listed.{Listed as ListedCode}
use Rattle.bg_elab.specs.Blocks.{Listed, refs_of_class, with_class, with_listed}
use Rattle.bg_elab.specs.Calls.{AddsClasses, classes_code, listed_codes}
use Rattle.bg_elab.proofs.Turns.{coded_so, code_stops}
use Rattle.bg_statements.specs.InTurn.{in_turn}
use Rattle.bg_statements.specs.Uses.{NameSpacesParts}
use Rattle.bg_trees.specs.declared.expressions.SynRef.{SynRef}
use Rattle.bg_trees.specs.declared.models.SynClass.{SynClass}
use Rattle.bg_values.specs.declared.refusal.Refusal.{Refusal}
use Rattle.bg_values.specs.declared.refusal.Stop.{Stop}
use Rattle.bg_values.specs.Lowering.{behind}
use Rattle.bg_values.specs.Outcome.{◌>>=◌, Goes, Stops}
use Rattle.bg_values.specs.Scopes.{ScopeParts}

-- what a call says of each list that was read before, it says of the one that was
pub step_so : {R : Type 0} (result : Result R Stop) (new : List ListedCode × ℕ) (old : List ListedCode) (class : ℕ)
    (more : List Listed × ℕ → Result (List Listed × ℕ) Refusal) → AddsClasses result old class new.0 new.1 more
    → (read : List Listed × ℕ) → (old, class) ≡ classes_code read → Goes result new (more read >>= λ f. Ok (classes_code f))
step_so result new old class more adds read is =
    let listed : old ≡ listed_codes read.0 = ap (λ (p : List ListedCode × ℕ). p.0) is in
    let counted : class ≡ read.1 = ap (λ (p : List ListedCode × ℕ). p.1) is in
    subst (λ n. Goes result new (more (read.0, n) >>= λ f. Ok (classes_code f))) counted (adds read.0 listed)

module _ (old : List ListedCode) (class : ℕ) (more : List Listed × ℕ → Result (List Listed × ℕ) Refusal) (read : List Listed × ℕ)
    (is : (old, class) ≡ classes_code read) where
  listed_is : old ≡ listed_codes read.0
  listed_is = ap (λ (p : List ListedCode × ℕ). p.0) is

  class_is : class ≡ read.1
  class_is = ap (λ (p : List ListedCode × ℕ). p.1) is

  pub step_taken : (new : List ListedCode × ℕ) → ((done : List Listed) → old ≡ listed_codes done → (more (done, class) >>= λ f. Ok (classes_code f)) ≡ Ok new)
      → (more read >>= λ f. Ok (classes_code f)) ≡ Ok new
  step_taken new adds = subst (λ n. (more (read.0, n) >>= λ f. Ok (classes_code f)) ≡ Ok new) class_is (adds read.0 listed_is)

  pub step_stopped : (stop : Stop) → ((done : List Listed) → old ≡ listed_codes done → Stops stop (more (done, class) >>= λ f. Ok (classes_code f)))
      → Stops stop (more read >>= λ f. Ok (classes_code f))
  step_stopped stop adds = subst (λ n. Stops stop (more (read.0, n) >>= λ f. Ok (classes_code f))) class_is (adds read.0 listed_is)

module _ (text : ScopeParts) (spaces : NameSpacesParts) (tree : SynClass) (refs : List SynRef) (is : refs ≡ refs_of_class tree) (class : ℕ) (done : List Listed) where
  -- the references of a class were read
  pub class_so : (new : List ListedCode) (counted : ℕ) → behind listed_codes [] (in_turn (with_listed text spaces class) refs done) ≡ Ok new → counted ≡ class + 1
      → (with_class text spaces tree (done, class) >>= λ read. Ok (classes_code read)) ≡ Ok (new, counted)
  class_so new counted reads same =
      let t = coded_so (λ (ls : List Listed). [] ++ listed_codes ls) (in_turn (with_listed text spaces class) refs done) new reads in
      ap (λ (trees : List SynRef). in_turn (with_listed text spaces class) trees done >>= (λ rules. Ok (rules, class + 1)) >>= λ (read : List Listed × ℕ). Ok (classes_code read)) (sym is)
      ∙ ap (λ (r : Result (List Listed) Refusal). r >>= (λ rules. Ok (rules, class + 1)) >>= λ (read : List Listed × ℕ). Ok (classes_code read)) t.is
      ∙ (λ i. Ok (sym t.stands i, sym same i))

  -- one of them was refused
  pub class_stops : (stop : Stop) → Stops stop (behind listed_codes [] (in_turn (with_listed text spaces class) refs done))
      → Stops stop (with_class text spaces tree (done, class) >>= λ read. Ok (classes_code read))
  class_stops stop stops =
      subst (λ (trees : List SynRef). Stops stop (in_turn (with_listed text spaces class) trees done >>= (λ rules. Ok (rules, class + 1)) >>= λ (read : List Listed × ℕ). Ok (classes_code read))) is
      (code_stops (λ (ls : List Listed). [] ++ listed_codes ls) stop (in_turn (with_listed text spaces class) refs done) (λ rules. Ok (rules, class + 1))
      (λ (read : List Listed × ℕ). Ok (classes_code read)) stops)
