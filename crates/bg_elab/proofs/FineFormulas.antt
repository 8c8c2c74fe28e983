-- What names and arithmetic of a text's own tree say is never refused by number 31.
use Rattle.std.proofs.Common.{◌≡◌, ℕ, true, List, [], ◌∷◌, Option, Some, None, is_some, arith}
use Rattle.bg_syntax.specs.declared.symbol.Symbol.TheVariants as symbols
use Rattle.bg_syntax.specs.Grammar.{k, s}
use Rattle.bg_text.specs.declared.token.TokenKind.TheVariants as kinds
use Rattle.bg_values.specs.declared.refusal.Cause.TheVariants as causes
use Rattle.bg_values.specs.Arithmetic.{Formula}
use Rattle.bg_values.specs.Names.{name_number}
use Rattle.bg_values.specs.Numbers.{number_in}
use Rattle.bg_values.specs.Outcome.{there_or}
use Rattle.bg_values.specs.Reading.{number_at, text_at, name_at}
use Rattle.bg_values.specs.Reading.{Onward as FormulaOnward, items_read as formula_along}
use Rattle.bg_values.specs.Scopes.{ScopeParts, spelling}
use Rattle.bg_elab.proofs.Expected.{IsExpected, good, goes_on, there}
use Rattle.bg_elab.proofs.ExpectedUses.{formal_expected}
use Rattle.bg_elab.proofs.Fine.{Names, IsNumber, IsQuoted, scoped, FormulasAlong, Makes, none, a_token, a_part, number_fine, names_fine, lower_names_fine, formals_fine, formula_fine, no_formula, one_formula, formula_items_fine, operands_fine, arguments_fine, referred_fine}

found_expected : {A : Type 0} (n : ℕ) (o : Option A) → is_some o ≡ true → IsExpected (there_or causes.Unexpected n o)
found_expected n (Some x) e = good
found_expected n None e = absurd cc

pub number_expected : (base : ScopeParts) (n : ℕ) → IsNumber base n → IsExpected (number_at base n)
number_expected base n h = found_expected n (number_in (spelling base n)) h

pub text_expected : (base : ScopeParts) (n : ℕ) → IsQuoted base n → IsExpected (text_at base n)
text_expected base n h = rw h good

named_expected : (base : ScopeParts) (n : ℕ) → IsExpected (name_at base n)
named_expected base n = there causes.UnknownName n (name_number (spelling base n) base.names) (λ e. omega arith)

along_expected : (base : ScopeParts) (items : List FormulaOnward) → FormulasAlong base items → (names : Names) (first : ℕ) (f : Formula)
    → IsExpected (formula_along items (scoped base names) first f)
along_expected base _ no_formula names first f = good
along_expected base _ (one_formula {items = items} h more) names first f = goes_on (h names first f) (λ g. along_expected base items more names first g)

-- Number = zero | one | num
pub number_1 : (base : ScopeParts) → Makes base symbols.Number 0 (k kinds.Zero ∷ [])
number_1 base _ (a_token h none) = number_fine h

pub number_2 : (base : ScopeParts) → Makes base symbols.Number 1 (k kinds.One ∷ [])
number_2 base _ (a_token h none) = number_fine h

pub number_3 : (base : ScopeParts) → Makes base symbols.Number 2 (k kinds.Num ∷ [])
number_3 base _ (a_token h none) = number_fine h

-- MoreLow = "," lower MoreLow | none
pub more_low_1 : (base : ScopeParts) → Makes base symbols.MoreLow 0 (k kinds.Comma ∷ k kinds.Lower ∷ s symbols.MoreLow ∷ [])
more_low_1 base _ (a_token _ (a_token {n = lower} w (a_part (lower_names_fine ws more) none))) =
    lower_names_fine (w, ws) (λ names done. goes_on (formal_expected (scoped base names) lower done) (λ fs. more names fs))

pub more_low_2 : (base : ScopeParts) → Makes base symbols.MoreLow 1 []
more_low_2 base _ none = lower_names_fine tt (λ names done. good)

-- Formals = "(" lower MoreLow ")" | none
pub formals_1 : (base : ScopeParts) → Makes base symbols.Formals 0 (k kinds.OpenRound ∷ k kinds.Lower ∷ s symbols.MoreLow ∷ k kinds.CloseRound ∷ [])
formals_1 base _ (a_token _ (a_token {n = first} w (a_part (lower_names_fine ws more) (a_token _ none)))) =
    formals_fine (λ names. goes_on (formal_expected (scoped base names) first []) (λ fs. more names fs))

pub formals_2 : (base : ScopeParts) → Makes base symbols.Formals 1 []
formals_2 base _ none = formals_fine (λ names. good)

-- NameList = lower MoreLow | none
pub name_list_1 : (base : ScopeParts) → Makes base symbols.NameList 0 (k kinds.Lower ∷ s symbols.MoreLow ∷ [])
name_list_1 base _ (a_token w (a_part (lower_names_fine ws more) none)) = names_fine (w, ws)

pub name_list_2 : (base : ScopeParts) → Makes base symbols.NameList 1 []
name_list_2 base _ none = names_fine tt

-- Names = "{" NameList "}" | none
pub names_1 : (base : ScopeParts) → Makes base symbols.Names 0 (k kinds.OpenBrace ∷ s symbols.NameList ∷ k kinds.CloseBrace ∷ [])
names_1 base _ (a_token _ (a_part (names_fine ws) (a_token _ none))) = names_fine ws

pub names_2 : (base : ScopeParts) → Makes base symbols.Names 1 []
names_2 base _ none = names_fine tt

-- IdNames = "," "{" NameList "}" | none
pub id_names_1 : (base : ScopeParts) → Makes base symbols.IdNames 0 (k kinds.Comma ∷ k kinds.OpenBrace ∷ s symbols.NameList ∷ k kinds.CloseBrace ∷ [])
id_names_1 base _ (a_token _ (a_token _ (a_part (names_fine ws) (a_token _ none)))) = names_fine ws

pub id_names_2 : (base : ScopeParts) → Makes base symbols.IdNames 1 []
id_names_2 base _ none = names_fine tt

-- U = Number | text | lower | "-" U | "(" X ")"
pub u_1 : (base : ScopeParts) → Makes base symbols.U 0 (s symbols.Number ∷ [])
u_1 base _ (a_part (number_fine {n = n} h) none) = formula_fine (λ names. goes_on (number_expected (scoped base names) n h) (λ z. good))

pub u_2 : (base : ScopeParts) → Makes base symbols.U 1 (k kinds.Text ∷ [])
u_2 base _ (a_token {n = n} h none) = formula_fine (λ names. goes_on (text_expected (scoped base names) n h) (λ text. good))

pub u_3 : (base : ScopeParts) → Makes base symbols.U 2 (k kinds.Lower ∷ [])
u_3 base _ (a_token {n = n} h none) = formula_fine (λ names. goes_on (named_expected (scoped base names) n) (λ number. good))

pub u_4 : (base : ScopeParts) → Makes base symbols.U 3 (k kinds.Minus ∷ s symbols.U ∷ [])
u_4 base _ (a_token _ (a_part (formula_fine u) none)) = formula_fine (λ names. goes_on (u names) (λ f. good))

pub u_5 : (base : ScopeParts) → Makes base symbols.U 4 (k kinds.OpenRound ∷ s symbols.X ∷ k kinds.CloseRound ∷ [])
u_5 base _ (a_token _ (a_part (formula_fine x) (a_token _ none))) = formula_fine x

-- T1 = "*" U T1 | "/" U T1 | none
pub t1_1 : (base : ScopeParts) → Makes base symbols.T1 0 (k kinds.Star ∷ s symbols.U ∷ s symbols.T1 ∷ [])
t1_1 base _ (a_token _ (a_part (formula_fine u) (a_part (formula_items_fine more) none))) =
    formula_items_fine (one_formula (λ names first f. goes_on (u names) (λ g. good)) more)

pub t1_2 : (base : ScopeParts) → Makes base symbols.T1 1 (k kinds.Slash ∷ s symbols.U ∷ s symbols.T1 ∷ [])
t1_2 base _ (a_token _ (a_part (formula_fine u) (a_part (formula_items_fine more) none))) =
    formula_items_fine (one_formula (λ names first f. goes_on (u names) (λ g. good)) more)

pub t1_3 : (base : ScopeParts) → Makes base symbols.T1 2 []
t1_3 base _ none = formula_items_fine no_formula

-- X1 = "+" T X1 | "-" T X1 | none
pub x1_1 : (base : ScopeParts) → Makes base symbols.X1 0 (k kinds.Plus ∷ s symbols.T ∷ s symbols.X1 ∷ [])
x1_1 base _ (a_token _ (a_part (formula_fine u) (a_part (formula_items_fine more) none))) =
    formula_items_fine (one_formula (λ names first f. goes_on (u names) (λ g. good)) more)

pub x1_2 : (base : ScopeParts) → Makes base symbols.X1 1 (k kinds.Minus ∷ s symbols.T ∷ s symbols.X1 ∷ [])
x1_2 base _ (a_token _ (a_part (formula_fine u) (a_part (formula_items_fine more) none))) =
    formula_items_fine (one_formula (λ names first f. goes_on (u names) (λ g. good)) more)

pub x1_3 : (base : ScopeParts) → Makes base symbols.X1 2 []
x1_3 base _ none = formula_items_fine no_formula

-- T = U T1
pub t_1 : (base : ScopeParts) → Makes base symbols.T 0 (s symbols.U ∷ s symbols.T1 ∷ [])
t_1 base _ (a_part (formula_fine {x = x} first) (a_part (formula_items_fine {items = items} more) none)) =
    formula_fine (λ names. goes_on (first names) (λ f. along_expected base items more names x.0 f))

-- X = T X1
pub x_1 : (base : ScopeParts) → Makes base symbols.X 0 (s symbols.T ∷ s symbols.X1 ∷ [])
x_1 base _ (a_part (formula_fine {x = x} first) (a_part (formula_items_fine {items = items} more) none)) =
    formula_fine (λ names. goes_on (first names) (λ f. along_expected base items more names x.0 f))

-- MoreX = "," X MoreX | none
pub more_x_1 : (base : ScopeParts) → Makes base symbols.MoreX 0 (k kinds.Comma ∷ s symbols.X ∷ s symbols.MoreX ∷ [])
more_x_1 base _ (a_token _ (a_part (formula_fine x) (a_part (operands_fine more) none))) =
    operands_fine (λ names. goes_on (goes_on (x names) (λ f. good)) (λ f. goes_on (more names) (λ fs. good)))

pub more_x_2 : (base : ScopeParts) → Makes base symbols.MoreX 1 []
more_x_2 base _ none = operands_fine (λ names. good)

-- Args = "(" X MoreX ")" | none
pub args_1 : (base : ScopeParts) → Makes base symbols.Args 0 (k kinds.OpenRound ∷ s symbols.X ∷ s symbols.MoreX ∷ k kinds.CloseRound ∷ [])
args_1 base _ (a_token _ (a_part (formula_fine x) (a_part (operands_fine more) (a_token _ none)))) =
    arguments_fine (λ names. goes_on (goes_on (x names) (λ f. good)) (λ f. goes_on (more names) (λ fs. good)))

pub args_2 : (base : ScopeParts) → Makes base symbols.Args 1 []
args_2 base _ none = arguments_fine (λ names. good)

-- Ref = lower Args
pub ref_1 : (base : ScopeParts) → Makes base symbols.Ref 0 (k kinds.Lower ∷ s symbols.Args ∷ [])
ref_1 base _ (a_token w (a_part (arguments_fine args) none)) = referred_fine w args
