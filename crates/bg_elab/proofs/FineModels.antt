-- What blocks and models of a text's own tree say is never refused by number 31.
use Rattle.std.proofs.Common.{ℕ, not, eqb, List, [], ◌∷◌, arith}
use Rattle.bg_base.specs.declared.labels.Value.{Value}
use Rattle.bg_elab.specs.References.{with_tokens}
use Rattle.bg_statements.specs.Sound.{nothing}
use Rattle.bg_statements.specs.Uses.{spaces_of}
use Rattle.bg_syntax.specs.declared.symbol.Symbol.TheVariants as symbols
use Rattle.bg_syntax.specs.Grammar.{k, s}
use Rattle.bg_text.specs.declared.token.TokenKind.TheVariants as kinds
use Rattle.bg_values.specs.declared.refusal.Cause.TheVariants as causes
use Rattle.bg_values.specs.Names.{NamedValue, look_up}
use Rattle.bg_values.specs.Scopes.{ScopeParts, spelling}
use Rattle.bg_elab.proofs.Expected.{IsExpected, good, bad, goes_on, there, whether}
use Rattle.bg_elab.proofs.ExpectedUses.{block_expected}
use Rattle.bg_elab.proofs.Fine.{Names, IsWord, Scoped, scoped, Makes, none, a_token, a_part, referred_fine, defines_fine, references_fine, classes_fine, predicates_fine, block_fine, model_fine}
use Rattle.bg_elab.proofs.FineExpressions.{word_expected}
use Rattle.bg_elab.proofs.Said.{Referred, reference_by}

reference_expected : (base : ScopeParts) (r : Referred) → IsWord base r.0 → Scoped base r.1.0.1 → (names : Names) (parameters : List (NamedValue (List Value)))
    (table : List (NamedValue ℕ)) → IsExpected (reference_by r (scoped base names) parameters table)
reference_expected base r w h names parameters table =
    goes_on (there causes.UnknownName r.0 (look_up (spelling base r.0) table) (λ e. omega arith)) (λ found.
    whether (not (eqb r.1.0.0 found.1)) (bad (λ e. omega arith)) (goes_on (word_expected base r.0 w names [] []) (λ word.
    goes_on (h (with_tokens (scoped base names) parameters r.1.1 (record { names = []; lists = [] })).names) (λ fs. good))))

-- Stmts = Stmt Stmts | none
pub stmts_1 : (base : ScopeParts) → Makes base symbols.Stmts 0 (s symbols.Stmt ∷ s symbols.Stmts ∷ [])
stmts_1 base _ (a_part (defines_fine first) (a_part (defines_fine more) none)) =
    defines_fine (λ names d. goes_on (first names d) (λ e. more names e))

pub stmts_2 : (base : ScopeParts) → Makes base symbols.Stmts 1 []
stmts_2 base _ none = defines_fine (λ names d. good)

-- Params = Param Params | none
pub params_1 : (base : ScopeParts) → Makes base symbols.Params 0 (s symbols.Param ∷ s symbols.Params ∷ [])
params_1 base _ (a_part (defines_fine first) (a_part (defines_fine more) none)) =
    defines_fine (λ names d. goes_on (first names d) (λ e. more names e))

pub params_2 : (base : ScopeParts) → Makes base symbols.Params 1 []
params_2 base _ none = defines_fine (λ names d. good)

-- MoreRef = "," Ref MoreRef | none
pub more_ref_1 : (base : ScopeParts) → Makes base symbols.MoreRef 0 (k kinds.Comma ∷ s symbols.Ref ∷ s symbols.MoreRef ∷ [])
more_ref_1 base _ (a_token _ (a_part (referred_fine {x = r} w xs) (a_part (references_fine more others) none))) =
    references_fine
    (λ names spaces class done. goes_on (goes_on (reference_expected base r w xs names spaces.parameters spaces.rules) (λ found. good)) (λ rs. more names spaces class rs))
    (λ names spaces done. goes_on (goes_on (reference_expected base r w xs names spaces.parameters spaces.bigraphs) (λ found. good)) (λ rs. others names spaces rs))

pub more_ref_2 : (base : ScopeParts) → Makes base symbols.MoreRef 1 []
more_ref_2 base _ none = references_fine (λ names spaces class done. good) (λ names spaces done. good)

-- Refs = Ref MoreRef | none
pub refs_1 : (base : ScopeParts) → Makes base symbols.Refs 0 (s symbols.Ref ∷ s symbols.MoreRef ∷ [])
refs_1 base _ (a_part (referred_fine {x = r} w xs) (a_part (references_fine more others) none)) =
    references_fine
    (λ names spaces class done. goes_on (goes_on (reference_expected base r w xs names spaces.parameters spaces.rules) (λ found. good)) (λ rs. more names spaces class rs))
    (λ names spaces done. goes_on (goes_on (reference_expected base r w xs names spaces.parameters spaces.bigraphs) (λ found. good)) (λ rs. others names spaces rs))

pub refs_2 : (base : ScopeParts) → Makes base symbols.Refs 1 []
refs_2 base _ none = references_fine (λ names spaces class done. good) (λ names spaces done. good)

-- Class = "{" Refs "}" | "(" Refs ")"
pub class_1 : (base : ScopeParts) → Makes base symbols.Class 0 (k kinds.OpenBrace ∷ s symbols.Refs ∷ k kinds.CloseBrace ∷ [])
class_1 base _ (a_token _ (a_part (references_fine refs others) (a_token _ none))) =
    classes_fine (λ names spaces read. goes_on (refs names spaces read.1 read.0) (λ rules. good))

pub class_2 : (base : ScopeParts) → Makes base symbols.Class 1 (k kinds.OpenRound ∷ s symbols.Refs ∷ k kinds.CloseRound ∷ [])
class_2 base _ (a_token _ (a_part (references_fine refs others) (a_token _ none))) =
    classes_fine (λ names spaces read. goes_on (refs names spaces read.1 read.0) (λ rules. good))

-- MoreCl = "," Class MoreCl | none
pub more_cl_1 : (base : ScopeParts) → Makes base symbols.MoreCl 0 (k kinds.Comma ∷ s symbols.Class ∷ s symbols.MoreCl ∷ [])
more_cl_1 base _ (a_token _ (a_part (classes_fine first) (a_part (classes_fine more) none))) =
    classes_fine (λ names spaces read. goes_on (first names spaces read) (λ found. more names spaces found))

pub more_cl_2 : (base : ScopeParts) → Makes base symbols.MoreCl 1 []
more_cl_2 base _ none = classes_fine (λ names spaces read. good)

-- Classes = Class MoreCl | none
pub classes_1 : (base : ScopeParts) → Makes base symbols.Classes 0 (s symbols.Class ∷ s symbols.MoreCl ∷ [])
classes_1 base _ (a_part (classes_fine first) (a_part (classes_fine more) none)) =
    classes_fine (λ names spaces read. goes_on (first names spaces read) (λ found. more names spaces found))

pub classes_2 : (base : ScopeParts) → Makes base symbols.Classes 1 []
classes_2 base _ none = classes_fine (λ names spaces read. good)

-- Preds = preds "=" "{" Refs "}" ";" | none
pub preds_1 : (base : ScopeParts) → Makes base symbols.Preds 0 (k kinds.KwPreds ∷ k kinds.Equals ∷ k kinds.OpenBrace ∷ s symbols.Refs ∷ k kinds.CloseBrace ∷ k kinds.Semicolon ∷ [])
preds_1 base _ (a_token _ (a_token _ (a_token _ (a_part (references_fine refs others) (a_token _ (a_token _ none)))))) =
    predicates_fine (λ names spaces. others names spaces [])

pub preds_2 : (base : ScopeParts) → Makes base symbols.Preds 1 []
preds_2 base _ none = predicates_fine (λ names spaces. good)

-- Block = begin brs Params init Ref ";" rules "=" "[" Classes "]" ";" Preds end | none
pub block_1 : (base : ScopeParts) → Makes base symbols.Block 0 (k kinds.KwBegin ∷ k kinds.KwBrs ∷ s symbols.Params ∷ k kinds.KwInit ∷ s symbols.Ref ∷ k kinds.Semicolon ∷ k kinds.KwRules ∷ k kinds.Equals ∷ k kinds.OpenSquare ∷ s symbols.Classes ∷ k kinds.CloseSquare ∷ k kinds.Semicolon ∷ s symbols.Preds ∷ k kinds.KwEnd ∷ [])
block_1 base _ (a_token _ (a_token _ (a_part (defines_fine params) (a_token _ (a_part (referred_fine {x = init} w xs) (a_token _ (a_token _ (a_token _ (a_token _ (a_part (classes_fine found) (a_token _ (a_token _ (a_part (predicates_fine preds) (a_token _ none)))))))))))))) =
    block_fine (λ names d.
    goes_on (params names d) (λ e.
    goes_on (goes_on (reference_expected base init w xs names [] (spaces_of e).bigraphs) (λ first. goes_on (found names (spaces_of e) ([], 0)) (λ rules.
    goes_on (preds names (spaces_of e)) (λ predicates. good)))) (λ b. block_expected e b)))

pub block_2 : (base : ScopeParts) → Makes base symbols.Block 1 []
block_2 base _ none = block_fine (λ names d. bad (λ e. omega arith))

-- Model = Stmts Block
pub model_1 : (base : ScopeParts) → Makes base symbols.Model 0 (s symbols.Stmts ∷ s symbols.Block ∷ [])
model_1 base _ (a_part (defines_fine statements) (a_part (block_fine rest) none)) =
    model_fine (λ names. goes_on (statements names nothing) (λ d. rest names d))
