-- What statements of a text's own tree say is never refused by number 31.
use Rattle.std.proofs.Common.{ℕ, ltb, List, [], ◌∷◌, length, nat_abs, arith}
use Rattle.bg_base.specs.Limits.{most_ports}
use Rattle.bg_base.specs.declared.signature.Kind.TheVariants.{Normal, Atomic}
use Rattle.bg_statements.specs.Statements.{arity_at}
use Rattle.bg_syntax.specs.declared.symbol.Symbol.TheVariants as symbols
use Rattle.bg_syntax.specs.Grammar.{k, s}
use Rattle.bg_text.specs.declared.token.TokenKind.TheVariants as kinds
use Rattle.bg_values.specs.Parameters.{texts_at}
use Rattle.bg_values.specs.Scopes.{ScopeParts}
use Rattle.bg_elab.proofs.Expected.{IsExpected, good, bad, goes_on, whether, numbers_expected, few_expected, evaluated_range_expected}
use Rattle.bg_elab.proofs.ExpectedUses.{new_word_expected, shape_expected, expression_expected, rule_expression_expected}
use Rattle.bg_elab.proofs.Fine.{Names, IsNumber, AreQuoted, scoped, Makes, none, a_token, a_part, number_fine, texts_fine, formals_fine, formula_fine, operands_fine, reading_fine, entries_fine, more_entries_fine, positive_fine, side_fine, condition_fine, more_conditions_fine, conditions_fine, map_fine, tail_fine, set_fine, control_fine, effect_fine, defines_fine}
use Rattle.bg_elab.proofs.FineExpressions.{word_expected}
use Rattle.bg_elab.proofs.FineFormulas.{number_expected, text_expected}
use Rattle.bg_elab.proofs.Said.{entry_by}

arity_expected : (text : ScopeParts) (n : ℕ) → IsNumber text n → IsExpected (arity_at text n)
arity_expected text n h = goes_on (number_expected text n h) (λ z. whether (ltb most_ports (nat_abs z)) (bad (λ e. omega arith)) good)

entry_expected : (text : ScopeParts) (n : ℕ) (done : List ℕ) → IsNumber text n → IsExpected (entry_by text n done)
entry_expected text n done h = goes_on (goes_on (number_expected text n h) (λ z. good)) (λ entry. good)

texts_expected : (base : ScopeParts) (ns : List ℕ) → AreQuoted base ns → (names : Names) → IsExpected (texts_at (scoped base names) ns)
texts_expected base [] h names = good
texts_expected base (n ∷ ns) h names =
    goes_on (text_expected (scoped base names) n h.0) (λ text. goes_on (texts_expected base ns h.1 names) (λ texts. good))

-- Fun = fun | none
pub fun_1 : (base : ScopeParts) → Makes base symbols.Fun 0 (k kinds.KwFun ∷ [])
fun_1 base _ (a_token _ none) = effect_fine

pub fun_2 : (base : ScopeParts) → Makes base symbols.Fun 1 []
fun_2 base _ none = effect_fine

-- Control = upper Formals "=" Number ";"
pub control_1 : (base : ScopeParts) → Makes base symbols.Control 0 (k kinds.Upper ∷ s symbols.Formals ∷ k kinds.Equals ∷ s symbols.Number ∷ k kinds.Semicolon ∷ [])
control_1 base _ (a_token {n = called} w (a_part (formals_fine fs) (a_token _ (a_part (number_fine {n = n} h) (a_token _ none))))) =
    control_fine (λ names kind d.
    goes_on (new_word_expected (scoped base names) d.controls called) (λ word.
    goes_on (word_expected base called w [] d.controls d.bigraphs) (λ spelled.
    goes_on (fs names) (λ formals.
    goes_on (arity_expected (scoped base names) n h) (λ arity.
    shape_expected called word (length formals) (record { word = spelled; arity = arity; kind = kind }) d)))))

-- Bigraph = lower Formals "=" E ";"
pub bigraph_1 : (base : ScopeParts) → Makes base symbols.Bigraph 0 (k kinds.Lower ∷ s symbols.Formals ∷ k kinds.Equals ∷ s symbols.E ∷ k kinds.Semicolon ∷ [])
bigraph_1 base _ (a_token {n = called} _ (a_part (formals_fine fs) (a_token _ (a_part (reading_fine e) (a_token _ none))))) =
    defines_fine (λ names d.
    goes_on (new_word_expected (scoped base names) d.bigraphs called) (λ word.
    goes_on (fs names) (λ formals.
    goes_on (e formals d.controls d.bigraphs) (λ x. expression_expected word (length formals) x d))))

-- React = lower Formals "=" E "-->" E Tail ";"
pub react_1 : (base : ScopeParts) → Makes base symbols.React 0 (k kinds.Lower ∷ s symbols.Formals ∷ k kinds.Equals ∷ s symbols.E ∷ k kinds.Arrow ∷ s symbols.E ∷ s symbols.Tail ∷ k kinds.Semicolon ∷ [])
react_1 base _ (a_token {n = called} _ (a_part (formals_fine fs) (a_token _ (a_part (reading_fine redex) (a_token _ (a_part (reading_fine reactum) (a_part (tail_fine rest) (a_token _ none)))))))) =
    defines_fine (λ names d.
    goes_on (new_word_expected (scoped base names) d.rules called) (λ word.
    goes_on (fs names) (λ formals.
    goes_on (goes_on (redex formals d.controls d.bigraphs) (λ one. goes_on (reactum formals d.controls d.bigraphs) (λ other.
    goes_on (rest formals d.controls d.bigraphs) (λ more. good)))) (λ rule. rule_expression_expected word (length formals) rule d))))

-- Numbers = Number MoreNum | none
pub numbers_1 : (base : ScopeParts) → Makes base symbols.Numbers 0 (s symbols.Number ∷ s symbols.MoreNum ∷ [])
numbers_1 base _ (a_part (number_fine {n = n} h) (a_part (more_entries_fine more) none)) =
    entries_fine (λ names. goes_on (entry_expected (scoped base names) n [] h) (λ es. more names es))

pub numbers_2 : (base : ScopeParts) → Makes base symbols.Numbers 1 []
numbers_2 base _ none = entries_fine (λ names. good)

-- MoreNum = "," Number MoreNum | none
pub more_num_1 : (base : ScopeParts) → Makes base symbols.MoreNum 0 (k kinds.Comma ∷ s symbols.Number ∷ s symbols.MoreNum ∷ [])
more_num_1 base _ (a_token _ (a_part (number_fine {n = n} h) (a_part (more_entries_fine more) none))) =
    more_entries_fine (λ names done. goes_on (entry_expected (scoped base names) n done h) (λ es. more names es))

pub more_num_2 : (base : ScopeParts) → Makes base symbols.MoreNum 1 []
more_num_2 base _ none = more_entries_fine (λ names done. good)

-- Eta = "@" "[" Numbers "]"
pub eta_1 : (base : ScopeParts) → Makes base symbols.Eta 0 (k kinds.At ∷ k kinds.OpenSquare ∷ s symbols.Numbers ∷ k kinds.CloseSquare ∷ [])
eta_1 base _ (a_token _ (a_token _ (a_part (entries_fine es) (a_token _ none)))) = map_fine (λ names. goes_on (es names) (λ e. good))

-- Not = "!" | none
pub not_1 : (base : ScopeParts) → Makes base symbols.Not 0 (k kinds.Bang ∷ [])
not_1 base _ (a_token _ none) = positive_fine

pub not_2 : (base : ScopeParts) → Makes base symbols.Not 1 []
not_2 base _ none = positive_fine

-- Side = ctx | param
pub side_1 : (base : ScopeParts) → Makes base symbols.Side 0 (k kinds.KwCtx ∷ [])
side_1 base _ (a_token _ none) = side_fine

pub side_2 : (base : ScopeParts) → Makes base symbols.Side 1 (k kinds.KwParam ∷ [])
side_2 base _ (a_token _ none) = side_fine

-- Test = Not E in Side
pub test_1 : (base : ScopeParts) → Makes base symbols.Test 0 (s symbols.Not ∷ s symbols.E ∷ k kinds.KwIn ∷ s symbols.Side ∷ [])
test_1 base _ (a_part positive_fine (a_part (reading_fine e) (a_token _ (a_part side_fine none)))) =
    condition_fine (λ names controls bigraphs. goes_on (e names controls bigraphs) (λ x. good))

-- Tests = "," Test Tests | none
pub tests_1 : (base : ScopeParts) → Makes base symbols.Tests 0 (k kinds.Comma ∷ s symbols.Test ∷ s symbols.Tests ∷ [])
tests_1 base _ (a_token _ (a_part (condition_fine test) (a_part (more_conditions_fine more) none))) =
    more_conditions_fine (λ done names controls bigraphs. goes_on (goes_on (test names controls bigraphs) (λ c. good)) (λ cs. more cs names controls bigraphs))

pub tests_2 : (base : ScopeParts) → Makes base symbols.Tests 1 []
tests_2 base _ none = more_conditions_fine (λ done names controls bigraphs. good)

-- Cond = if Test Tests
pub cond_1 : (base : ScopeParts) → Makes base symbols.Cond 0 (k kinds.KwIf ∷ s symbols.Test ∷ s symbols.Tests ∷ [])
cond_1 base _ (a_token _ (a_part (condition_fine test) (a_part (more_conditions_fine more) none))) =
    conditions_fine (λ names controls bigraphs. goes_on (goes_on (test names controls bigraphs) (λ c. good)) (λ cs. more cs names controls bigraphs))

-- IfTail = Cond | none
pub if_tail_1 : (base : ScopeParts) → Makes base symbols.IfTail 0 (s symbols.Cond ∷ [])
if_tail_1 base _ (a_part (conditions_fine found) none) = conditions_fine found

pub if_tail_2 : (base : ScopeParts) → Makes base symbols.IfTail 1 []
if_tail_2 base _ none = conditions_fine (λ names controls bigraphs. good)

-- EtaTail = Eta | none
pub eta_tail_1 : (base : ScopeParts) → Makes base symbols.EtaTail 0 (s symbols.Eta ∷ [])
eta_tail_1 base _ (a_part (map_fine found) none) = map_fine found

pub eta_tail_2 : (base : ScopeParts) → Makes base symbols.EtaTail 1 []
eta_tail_2 base _ none = map_fine (λ names. good)

-- Tail = Eta IfTail | Cond EtaTail | none
pub tail_1 : (base : ScopeParts) → Makes base symbols.Tail 0 (s symbols.Eta ∷ s symbols.IfTail ∷ [])
tail_1 base _ (a_part (map_fine listed) (a_part (conditions_fine found) none)) =
    tail_fine (λ names controls bigraphs. goes_on (listed names) (λ es. goes_on (found names controls bigraphs) (λ cs. good)))

pub tail_2 : (base : ScopeParts) → Makes base symbols.Tail 1 (s symbols.Cond ∷ s symbols.EtaTail ∷ [])
tail_2 base _ (a_part (conditions_fine found) (a_part (map_fine listed) none)) =
    tail_fine (λ names controls bigraphs. goes_on (found names controls bigraphs) (λ cs. goes_on (listed names) (λ es. good)))

pub tail_3 : (base : ScopeParts) → Makes base symbols.Tail 2 []
tail_3 base _ none = tail_fine (λ names controls bigraphs. good)

-- AfterFun = atomic ctrl Control | ctrl Control | big Bigraph | react React
pub after_fun_1 : (base : ScopeParts) → Makes base symbols.AfterFun 0 (k kinds.KwAtomic ∷ k kinds.KwCtrl ∷ s symbols.Control ∷ [])
after_fun_1 base _ (a_token _ (a_token _ (a_part (control_fine c) none))) = defines_fine (λ names d. c names Atomic d)

pub after_fun_2 : (base : ScopeParts) → Makes base symbols.AfterFun 1 (k kinds.KwCtrl ∷ s symbols.Control ∷ [])
after_fun_2 base _ (a_token _ (a_part (control_fine c) none)) = defines_fine (λ names d. c names Normal d)

pub after_fun_3 : (base : ScopeParts) → Makes base symbols.AfterFun 2 (k kinds.KwBig ∷ s symbols.Bigraph ∷ [])
after_fun_3 base _ (a_token _ (a_part (defines_fine f) none)) = defines_fine f

pub after_fun_4 : (base : ScopeParts) → Makes base symbols.AfterFun 3 (k kinds.KwReact ∷ s symbols.React ∷ [])
after_fun_4 base _ (a_token _ (a_part (defines_fine f) none)) = defines_fine f

-- IntSet = "{" X MoreX "}" | "[" X ":" X ":" X "]" | X
pub int_set_1 : (base : ScopeParts) → Makes base symbols.IntSet 0 (k kinds.OpenBrace ∷ s symbols.X ∷ s symbols.MoreX ∷ k kinds.CloseBrace ∷ [])
int_set_1 base _ (a_token _ (a_part (formula_fine x) (a_part (operands_fine more) (a_token _ none)))) =
    set_fine (λ names called.
    goes_on (goes_on (goes_on (x names) (λ f. good)) (λ f. goes_on (more names) (λ fs. good))) (λ fs.
    goes_on (numbers_expected [] fs) (λ vs. few_expected called vs)))

pub int_set_2 : (base : ScopeParts) → Makes base symbols.IntSet 1 (k kinds.OpenSquare ∷ s symbols.X ∷ k kinds.Colon ∷ s symbols.X ∷ k kinds.Colon ∷ s symbols.X ∷ k kinds.CloseSquare ∷ [])
int_set_2 base _ (a_token {n = bracket} _ (a_part (formula_fine x) (a_token _ (a_part (formula_fine y) (a_token _ (a_part (formula_fine z) (a_token _ none))))))) =
    set_fine (λ names called.
    goes_on (goes_on (x names) (λ f. good)) (λ f. goes_on (goes_on (y names) (λ g. good)) (λ g. goes_on (goes_on (z names) (λ h. good)) (λ h.
    evaluated_range_expected called bracket f g h))))

pub int_set_3 : (base : ScopeParts) → Makes base symbols.IntSet 2 (s symbols.X ∷ [])
int_set_3 base _ (a_part (formula_fine x) none) =
    set_fine (λ names called.
    goes_on (goes_on (goes_on (x names) (λ f. good)) (λ f. good)) (λ fs. goes_on (numbers_expected [] fs) (λ vs. few_expected called vs)))

-- MoreText = "," text MoreText | none
pub more_text_1 : (base : ScopeParts) → Makes base symbols.MoreText 0 (k kinds.Comma ∷ k kinds.Text ∷ s symbols.MoreText ∷ [])
more_text_1 base _ (a_token _ (a_token q (a_part (texts_fine qs) none))) = texts_fine (q, qs)

pub more_text_2 : (base : ScopeParts) → Makes base symbols.MoreText 1 []
more_text_2 base _ none = texts_fine tt

-- TextSet = "{" text MoreText "}" | text
pub text_set_1 : (base : ScopeParts) → Makes base symbols.TextSet 0 (k kinds.OpenBrace ∷ k kinds.Text ∷ s symbols.MoreText ∷ k kinds.CloseBrace ∷ [])
text_set_1 base _ (a_token _ (a_token {n = first} q (a_part (texts_fine {ns = more} qs) (a_token _ none)))) =
    set_fine (λ names called. goes_on (texts_expected base (first ∷ more) (q, qs) names) (λ vs. few_expected called vs))

pub text_set_2 : (base : ScopeParts) → Makes base symbols.TextSet 1 (k kinds.Text ∷ [])
text_set_2 base _ (a_token {n = only} q none) = set_fine (λ names called. texts_expected base (only ∷ []) (q, tt) names)

-- Param = int lower "=" IntSet ";" | string lower "=" TextSet ";"
pub param_1 : (base : ScopeParts) → Makes base symbols.Param 0 (k kinds.KwInt ∷ k kinds.Lower ∷ k kinds.Equals ∷ s symbols.IntSet ∷ k kinds.Semicolon ∷ [])
param_1 base _ (a_token _ (a_token {n = called} _ (a_token _ (a_part (set_fine vs) (a_token _ none))))) =
    defines_fine (λ names d.
    goes_on (new_word_expected (scoped base names) d.parameters called) (λ word. goes_on (vs [] called) (λ values. good)))

pub param_2 : (base : ScopeParts) → Makes base symbols.Param 1 (k kinds.KwString ∷ k kinds.Lower ∷ k kinds.Equals ∷ s symbols.TextSet ∷ k kinds.Semicolon ∷ [])
param_2 base _ (a_token _ (a_token {n = called} _ (a_token _ (a_part (set_fine vs) (a_token _ none))))) =
    defines_fine (λ names d.
    goes_on (new_word_expected (scoped base names) d.parameters called) (λ word. goes_on (vs [] called) (λ values. good)))

-- Stmt = atomic Fun ctrl Control | fun AfterFun | ctrl Control | big Bigraph | react React | Param
pub stmt_1 : (base : ScopeParts) → Makes base symbols.Stmt 0 (k kinds.KwAtomic ∷ s symbols.Fun ∷ k kinds.KwCtrl ∷ s symbols.Control ∷ [])
stmt_1 base _ (a_token _ (a_part effect_fine (a_token _ (a_part (control_fine c) none)))) = defines_fine (λ names d. c names Atomic d)

pub stmt_2 : (base : ScopeParts) → Makes base symbols.Stmt 1 (k kinds.KwFun ∷ s symbols.AfterFun ∷ [])
stmt_2 base _ (a_token _ (a_part (defines_fine f) none)) = defines_fine f

pub stmt_3 : (base : ScopeParts) → Makes base symbols.Stmt 2 (k kinds.KwCtrl ∷ s symbols.Control ∷ [])
stmt_3 base _ (a_token _ (a_part (control_fine c) none)) = defines_fine (λ names d. c names Normal d)

pub stmt_4 : (base : ScopeParts) → Makes base symbols.Stmt 3 (k kinds.KwBig ∷ s symbols.Bigraph ∷ [])
stmt_4 base _ (a_token _ (a_part (defines_fine f) none)) = defines_fine f

pub stmt_5 : (base : ScopeParts) → Makes base symbols.Stmt 4 (k kinds.KwReact ∷ s symbols.React ∷ [])
stmt_5 base _ (a_token _ (a_part (defines_fine f) none)) = defines_fine f

pub stmt_6 : (base : ScopeParts) → Makes base symbols.Stmt 5 (s symbols.Param ∷ [])
stmt_6 base _ (a_part (defines_fine f) none) = defines_fine f
