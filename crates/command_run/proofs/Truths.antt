-- What is told of predicates, from what is answered of each.
use Rattle.std.proofs.Common.{◌≡◌, ◌↔◌, Bool, List, [], ◌∷◌, map, Ok, Err, IfOk, IsTrue, Result, MatchResult, Contains, Vec, Global, sym, ap, subst, ◌∙◌}
use Rattle.std.specs.List.{AllZip}
use Rattle.bg_base.specs.declared.big.Big.{Big}
use Rattle.bg_cond.specs.Conditions.{OccursSomewhere}
use Rattle.bg_lists.specs.declared.memory.OutOfMemory.{OutOfMemory}
use Rattle.bg_rules.specs.declared.predicate.Predicate.{Predicate}
use Rattle.command_run.specs.RunText.{AreTold, none_told, each_told}

-- the answer to a predicate is right, where there is one
abbrev pub Answers : Big → Predicate → Result Bool OutOfMemory → Type 0
Answers host predicate answer = IfOk answer (λ truth. IsTrue truth ↔ OccursSomewhere host predicate.pattern)

-- where each is answered, and each answer is right, the truths are told
all_told : (host : Big) (predicates : List Predicate) (truths : List Bool) → AllZip (Answers host) predicates (map Ok truths) → AreTold host predicates truths
all_told host [] [] each = none_told
all_told host [] (truth ∷ truths) each = absurd each
all_told host (predicate ∷ predicates) [] each = absurd each
all_told host (predicate ∷ predicates) (truth ∷ truths) each = each_told each.0 (all_told host predicates truths each.1)

-- so it is with what was collected
pub collected : (host : Big) (predicates : List Predicate) (answers : List (Result Bool OutOfMemory)) (made : Result (Vec Bool Global) OutOfMemory)
    → AllZip (Answers host) predicates answers
    → MatchResult made (λ truths. (found : List Bool) × (answers ≡ map Ok found) × (truths.items ≡ found)) (λ fault. Contains answers (Err fault))
    → IfOk made (λ truths. AreTold host predicates truths.items)
collected host predicates answers (Ok truths) each is =
    all_told host predicates truths.items (subst (AllZip (Answers host) predicates) (is.1 ∙ ap (map Ok) (sym is.2)) each)
collected host predicates answers (Err fault) each is = tt
