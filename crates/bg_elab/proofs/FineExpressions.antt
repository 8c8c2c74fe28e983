-- What expressions of a text's own tree say is never refused by number 31.
use Rattle.std.proofs.Common.{ℕ, not, eqb, List, [], ◌∷◌, length, arith}
use Rattle.bg_syntax.specs.declared.symbol.Symbol.TheVariants as symbols
use Rattle.bg_syntax.specs.Grammar.{k, s}
use Rattle.bg_terms.specs.declared.shape.ControlEntry.{ControlEntry}
use Rattle.bg_terms.specs.Expressions.{Expression}
use Rattle.bg_terms.specs.Trees.{Visible, Onward, word_at, words_at, items_read}
use Rattle.bg_text.specs.declared.token.TokenKind.TheVariants as kinds
use Rattle.bg_values.specs.declared.refusal.Cause.TheVariants as causes
use Rattle.bg_values.specs.Names.{NamedValue, look_up}
use Rattle.bg_values.specs.Scopes.{ScopeParts, spelling}
use Rattle.bg_elab.proofs.Expected.{IsExpected, good, bad, goes_on, there, whether}
use Rattle.bg_elab.proofs.Fine.{Names, IsWord, IsNumber, AreWords, Scoped, Seen, seen, Along, Makes, none, a_token, a_part, number_fine, names_fine, arguments_fine, referred_fine, identity_fine, form_fine, reading_fine, nothing_fine, behind_fine, no_item, one_item, items_fine}
use Rattle.bg_elab.proofs.FineFormulas.{number_expected}
use Rattle.bg_elab.proofs.Said.{Operands, width_by, node_by, definition_by}

width_expected : (visible : Visible) (n : ℕ) → IsNumber visible.scope n → IsExpected (width_by visible n)
width_expected visible n h = goes_on (number_expected visible.scope n h) (λ z. good)

pub word_expected : (base : ScopeParts) (n : ℕ) → IsWord base n → Seen base (λ visible. word_at visible n)
word_expected base n h names controls bigraphs = rw h good

pub words_expected : (base : ScopeParts) (ns : List ℕ) → AreWords base ns → Seen base (λ visible. words_at visible ns)
words_expected base [] h names controls bigraphs = good
words_expected base (n ∷ ns) h names controls bigraphs =
    goes_on (word_expected base n h.0 names controls bigraphs) (λ word. goes_on (words_expected base ns h.1 names controls bigraphs) (λ words. good))

node_expected : (base : ScopeParts) (at : ℕ) (args : Operands) (ports : List ℕ) → Scoped base args.1 → AreWords base ports → Seen base (node_by at args ports)
node_expected base at args ports h ws names controls bigraphs =
    goes_on (there causes.UnknownName at (look_up (spelling base at) controls) (λ e. omega arith)) (λ found.
    whether (not (eqb args.0 found.1.formals)) (bad (λ e. omega arith)) (whether (not (eqb (length ports) found.1.shape.arity)) (bad (λ e. omega arith))
    (goes_on (h names) (λ fs. goes_on (words_expected base ports ws names controls bigraphs) (λ words. good)))))

definition_expected : (base : ScopeParts) (at : ℕ) (args : Operands) → Scoped base args.1 → Seen base (definition_by at args)
definition_expected base at args h names controls bigraphs =
    goes_on (there causes.UnknownName at (look_up (spelling base at) bigraphs) (λ e. omega arith)) (λ found.
    whether (not (eqb args.0 found.1)) (bad (λ e. omega arith)) (goes_on (h names) (λ fs. good)))

items_expected : (base : ScopeParts) (xs : List Onward) → Along base xs → (names : Names) (controls : List (NamedValue ControlEntry)) (bigraphs : List (NamedValue ℕ))
    (e : Expression) → IsExpected (items_read xs (seen base names controls bigraphs) e)
items_expected base _ no_item names controls bigraphs e = good
items_expected base _ (one_item {items = xs} h more) names controls bigraphs e =
    goes_on (h e names controls bigraphs) (λ d. items_expected base xs more names controls bigraphs d)

-- IdTail = "(" Number IdNames ")" | "{" NameList "}" | none
pub id_tail_1 : (base : ScopeParts) → Makes base symbols.IdTail 0 (k kinds.OpenRound ∷ s symbols.Number ∷ s symbols.IdNames ∷ k kinds.CloseRound ∷ [])
id_tail_1 base _ (a_token _ (a_part (number_fine {n = n} h) (a_part (names_fine {ns = ns} ws) (a_token _ none)))) =
    identity_fine (λ at names controls bigraphs. goes_on (width_expected (seen base names controls bigraphs) n h) (λ width. goes_on (words_expected base ns ws names controls bigraphs) (λ words. good)))

pub id_tail_2 : (base : ScopeParts) → Makes base symbols.IdTail 1 (k kinds.OpenBrace ∷ s symbols.NameList ∷ k kinds.CloseBrace ∷ [])
id_tail_2 base _ (a_token _ (a_part (names_fine {ns = ns} ws) (a_token _ none))) =
    identity_fine (λ at names controls bigraphs. goes_on (words_expected base ns ws names controls bigraphs) (λ words. good))

pub id_tail_3 : (base : ScopeParts) → Makes base symbols.IdTail 2 []
id_tail_3 base _ none = identity_fine (λ at names controls bigraphs. good)

-- A = upper Args Names | Ref | "{" NameList "}" | id IdTail | merge "(" Number ")" | zero | one | "(" E ")"
pub a_1 : (base : ScopeParts) → Makes base symbols.A 0 (k kinds.Upper ∷ s symbols.Args ∷ s symbols.Names ∷ [])
a_1 base _ (a_token {n = upper} w (a_part (arguments_fine {x = args} xs) (a_part (names_fine {ns = ns} ws) none))) =
    form_fine (λ names controls bigraphs. node_expected base upper args.0 ns xs ws names controls bigraphs)

pub a_2 : (base : ScopeParts) → Makes base symbols.A 1 (s symbols.Ref ∷ [])
a_2 base _ (a_part (referred_fine {x = r} w xs) none) =
    form_fine (λ names controls bigraphs. definition_expected base r.0 r.1.0 xs names controls bigraphs)

pub a_3 : (base : ScopeParts) → Makes base symbols.A 2 (k kinds.OpenBrace ∷ s symbols.NameList ∷ k kinds.CloseBrace ∷ [])
a_3 base _ (a_token _ (a_part (names_fine {ns = ns} ws) (a_token _ none))) =
    form_fine (λ names controls bigraphs. goes_on (words_expected base ns ws names controls bigraphs) (λ words. good))

pub a_4 : (base : ScopeParts) → Makes base symbols.A 3 (k kinds.KwId ∷ s symbols.IdTail ∷ [])
a_4 base _ (a_token {n = at} _ (a_part (identity_fine f) none)) = form_fine (f at)

pub a_5 : (base : ScopeParts) → Makes base symbols.A 4 (k kinds.KwMerge ∷ k kinds.OpenRound ∷ s symbols.Number ∷ k kinds.CloseRound ∷ [])
a_5 base _ (a_token _ (a_token _ (a_part (number_fine {n = n} h) (a_token _ none)))) =
    form_fine (λ names controls bigraphs. goes_on (width_expected (seen base names controls bigraphs) n h) (λ width. good))

pub a_6 : (base : ScopeParts) → Makes base symbols.A 5 (k kinds.Zero ∷ [])
a_6 base _ (a_token _ none) = form_fine (λ names controls bigraphs. good)

pub a_7 : (base : ScopeParts) → Makes base symbols.A 6 (k kinds.One ∷ [])
a_7 base _ (a_token _ none) = form_fine (λ names controls bigraphs. good)

pub a_8 : (base : ScopeParts) → Makes base symbols.A 7 (k kinds.OpenRound ∷ s symbols.E ∷ k kinds.CloseRound ∷ [])
a_8 base _ (a_token _ (a_part (reading_fine e) (a_token _ none))) =
    form_fine (λ names controls bigraphs. goes_on (e names controls bigraphs) (λ x. good))

-- K = "/" lower K | N
pub k_1 : (base : ScopeParts) → Makes base symbols.K 0 (k kinds.Slash ∷ k kinds.Lower ∷ s symbols.K ∷ [])
k_1 base _ (a_token _ (a_token {n = lower} w (a_part (reading_fine inner) none))) =
    reading_fine (λ names controls bigraphs. goes_on (word_expected base lower w names controls bigraphs) (λ word. goes_on (inner names controls bigraphs) (λ e. good)))

pub k_2 : (base : ScopeParts) → Makes base symbols.K 1 (s symbols.N ∷ [])
k_2 base _ (a_part (reading_fine inner) none) =
    reading_fine (λ names controls bigraphs. goes_on (inner names controls bigraphs) (λ e. good))

-- N1 = "." K | none
pub n1_1 : (base : ScopeParts) → Makes base symbols.N1 0 (k kinds.Dot ∷ s symbols.K ∷ [])
n1_1 base _ (a_token _ (a_part (reading_fine inner) none)) = behind_fine inner

pub n1_2 : (base : ScopeParts) → Makes base symbols.N1 1 []
n1_2 base _ none = nothing_fine

-- N = A N1
pub n_1 : (base : ScopeParts) → Makes base symbols.N 0 (s symbols.A ∷ s symbols.N1 ∷ [])
n_1 base _ (a_part (form_fine f) (a_part nothing_fine none)) =
    reading_fine (λ names controls bigraphs. goes_on (f names controls bigraphs) (λ e. good))
n_1 base _ (a_part (form_fine f) (a_part (behind_fine inner) none)) =
    reading_fine (λ names controls bigraphs. goes_on (f names controls bigraphs) (λ e. goes_on (inner names controls bigraphs) (λ d. good)))

-- C = K C1
pub c_1 : (base : ScopeParts) → Makes base symbols.C 0 (s symbols.K ∷ s symbols.C1 ∷ [])
c_1 base _ (a_part (reading_fine first) (a_part (items_fine {xs = xs} more) none)) =
    reading_fine (λ names controls bigraphs. goes_on (first names controls bigraphs) (λ e. items_expected base xs more names controls bigraphs e))

-- C1 = "*" K C1 | none
pub c1_1 : (base : ScopeParts) → Makes base symbols.C1 0 (k kinds.Star ∷ s symbols.K ∷ s symbols.C1 ∷ [])
c1_1 base _ (a_token _ (a_part (reading_fine right) (a_part (items_fine more) none))) =
    items_fine (one_item (λ e names controls bigraphs. goes_on (right names controls bigraphs) (λ d. good)) more)

pub c1_2 : (base : ScopeParts) → Makes base symbols.C1 1 []
c1_2 base _ none = items_fine no_item

-- M = C M1
pub m_1 : (base : ScopeParts) → Makes base symbols.M 0 (s symbols.C ∷ s symbols.M1 ∷ [])
m_1 base _ (a_part (reading_fine first) (a_part (items_fine {xs = xs} more) none)) =
    reading_fine (λ names controls bigraphs. goes_on (first names controls bigraphs) (λ e. items_expected base xs more names controls bigraphs e))

-- M1 = "|" C M1 | none
pub m1_1 : (base : ScopeParts) → Makes base symbols.M1 0 (k kinds.Bar ∷ s symbols.C ∷ s symbols.M1 ∷ [])
m1_1 base _ (a_token _ (a_part (reading_fine right) (a_part (items_fine more) none))) =
    items_fine (one_item (λ e names controls bigraphs. goes_on (right names controls bigraphs) (λ d. good)) more)

pub m1_2 : (base : ScopeParts) → Makes base symbols.M1 1 []
m1_2 base _ none = items_fine no_item

-- P = M P1
pub p_1 : (base : ScopeParts) → Makes base symbols.P 0 (s symbols.M ∷ s symbols.P1 ∷ [])
p_1 base _ (a_part (reading_fine first) (a_part (items_fine {xs = xs} more) none)) =
    reading_fine (λ names controls bigraphs. goes_on (first names controls bigraphs) (λ e. items_expected base xs more names controls bigraphs e))

-- P1 = "||" M P1 | none
pub p1_1 : (base : ScopeParts) → Makes base symbols.P1 0 (k kinds.BarBar ∷ s symbols.M ∷ s symbols.P1 ∷ [])
p1_1 base _ (a_token _ (a_part (reading_fine right) (a_part (items_fine more) none))) =
    items_fine (one_item (λ e names controls bigraphs. goes_on (right names controls bigraphs) (λ d. good)) more)

pub p1_2 : (base : ScopeParts) → Makes base symbols.P1 1 []
p1_2 base _ none = items_fine no_item

-- E = P E1
pub e_1 : (base : ScopeParts) → Makes base symbols.E 0 (s symbols.P ∷ s symbols.E1 ∷ [])
e_1 base _ (a_part (reading_fine first) (a_part (items_fine {xs = xs} more) none)) =
    reading_fine (λ names controls bigraphs. goes_on (first names controls bigraphs) (λ e. items_expected base xs more names controls bigraphs e))

-- E1 = "+" P E1 | none
pub e1_1 : (base : ScopeParts) → Makes base symbols.E1 0 (k kinds.Plus ∷ s symbols.P ∷ s symbols.E1 ∷ [])
e1_1 base _ (a_token _ (a_part (reading_fine right) (a_part (items_fine more) none))) =
    items_fine (one_item (λ e names controls bigraphs. goes_on (right names controls bigraphs) (λ d. good)) more)

pub e1_2 : (base : ScopeParts) → Makes base symbols.E1 1 []
e1_2 base _ none = items_fine no_item
