-- What a derivation tree says: the readings of typed trees, said of derivation trees, which have no addresses of boxes. So two
-- typed trees that are the same derivation tree are read alike.
use Rattle.std.specs.Prelude.{ℕ, zero, suc, ◌-◌, ◌+◌, ◌==◌, not, min, nat_abs, Bool, true, false, if◌then◌else◌, List, [], ◌∷◌, ◌++◌, length, Option, Some, None, Result, Ok}
use Rattle.bg_base.specs.declared.labels.Value.{Value}
use Rattle.bg_base.specs.declared.signature.Kind.{Kind}
use Rattle.bg_base.specs.declared.signature.Kind.TheVariants.{Normal, Atomic}
use Rattle.bg_base.specs.Elementary.{counted}
use Rattle.bg_elab.specs.Blocks.{Block, Listed}
use Rattle.bg_elab.specs.References.{Reference, name_read, with_tokens}
use Rattle.bg_elab.specs.Systems.{block_valued}
use Rattle.bg_rules.specs.declared.condition.Side.{Side}
use Rattle.bg_rules.specs.declared.condition.Side.TheVariants.{Ctx, Param}
use Rattle.bg_rules.specs.Systems.{SystemParts}
use Rattle.bg_statements.specs.Defined.{Defined, visible_with}
use Rattle.bg_statements.specs.Rules.{ConditionExpression, RuleExpression}
use Rattle.bg_statements.specs.Sound.{nothing}
use Rattle.bg_statements.specs.Statements.{new_word, with_formal, arity_at, with_shape, with_expression, with_rule_expression}
use Rattle.bg_statements.specs.Uses.{NameSpacesParts, spaces_of}
use Rattle.bg_terms.specs.declared.shape.ControlEntry.{ControlEntry}
use Rattle.bg_terms.specs.declared.shape.BinaryOperation.{BinaryOperation}
use Rattle.bg_terms.specs.declared.shape.BinaryOperation.TheVariants.{Composition, Tensor, Parallel, Merge}
use Rattle.bg_terms.specs.Expressions.{Expression, node, reference, identity_of, merger_of, barren, empty}
use Rattle.bg_terms.specs.Trees.{Visible, Form, Reading, Behind, Onward, word_at, words_at, names_atom, no_atom}
use Rattle.bg_terms.specs.Trees.{linking_read, names_read, brackets_read, closure_read, deeper_read, nested_read, items_read, binary_read}
use Rattle.bg_values.specs.declared.formula.Operator.TheVariants.{Add, Subtract, Multiply, Divide}
use Rattle.bg_values.specs.declared.refusal.Refusal.{Refusal}
use Rattle.bg_values.specs.declared.refusal.Cause.TheVariants.{NoBlock, UnknownName, WrongArguments, WrongPorts}
use Rattle.bg_values.specs.Names.{NamedValue, look_up}
use Rattle.bg_values.specs.Operands.{Operand, numbers}
use Rattle.bg_values.specs.Outcome.{◌>>=◌, refused, there_or}
use Rattle.bg_values.specs.Parameters.{few, few_texts, texts_at, evaluated_range, without_names}
use Rattle.bg_values.specs.Reading.{number_at, whole_at, named_at, negation_at, operated}
use Rattle.bg_values.specs.Reading.{Reading as FormulaReading, Onward as FormulaOnward, items_read as formula_along, words_at as text_formula}
use Rattle.bg_values.specs.Scopes.{ScopeParts, spelling}

-- ---- what the parts of trees say

-- formulas in a row: how many they are, and what each is
abbrev pub Operands : Type 0
Operands = ℕ × (ScopeParts → Result (List Operand) Refusal)

-- arguments: the formulas, and the tokens between the brackets
abbrev pub Arguments : Type 0
Arguments = Operands × List ℕ

-- a reference: its token, and its arguments
abbrev pub Referred : Type 0
Referred = ℕ × Arguments

-- names behind a comma: their tokens, and the formals that they are behind others
abbrev pub LowerNames : Type 0
LowerNames = List ℕ × (ScopeParts → List (NamedValue (Unit {0})) → Result (List (NamedValue (Unit {0}))) Refusal)

-- references in a row, as those of a class to rules, and as those to predicates
abbrev pub References : Type 0
References =
    (ScopeParts → NameSpacesParts → ℕ → List Listed → Result (List Listed) Refusal)
    × (ScopeParts → NameSpacesParts → List Reference → Result (List Reference) Refusal)

-- what a tree of a symbol says; `unread` are trees that are not by the grammar
pub data Said : Type 0 where
  unread : Said
  at_token : ℕ → Said
  tokens : List ℕ → Said
  lower_names : LowerNames → Said
  formals : (ScopeParts → Result (List (NamedValue (Unit {0}))) Refusal) → Said
  formula : FormulaReading → Said
  formula_items : List FormulaOnward → Said
  operands : Operands → Said
  arguments : Arguments → Said
  referred : Referred → Said
  identity : (ℕ → Visible → Result Expression Refusal) → Said
  form : Form → Said
  reading : Reading → Said
  behind : Behind → Said
  items : List Onward → Said
  entries : (ScopeParts → Result (List ℕ) Refusal) → Said
  more_entries : (ScopeParts → List ℕ → Result (List ℕ) Refusal) → Said
  positive : Bool → Said
  on_side : Side → Said
  condition : (Visible → Result ConditionExpression Refusal) → Said
  more_conditions : (Visible → List ConditionExpression → Result (List ConditionExpression) Refusal) → Said
  conditions : (Visible → Result (List ConditionExpression) Refusal) → Said
  a_map : (ScopeParts → Result (Option (List ℕ)) Refusal) → Said
  tail : (Visible → Result (Option (List ℕ) × List ConditionExpression) Refusal) → Said
  set_values : (ScopeParts → ℕ → Result (List Value) Refusal) → Said
  control : (ScopeParts → Kind → Defined → Result Defined Refusal) → Said
  no_effect : Said
  defines : (ScopeParts → Defined → Result Defined Refusal) → Said
  references : References → Said
  classes : (ScopeParts → NameSpacesParts → List Listed × ℕ → Result (List Listed × ℕ) Refusal) → Said
  predicates : (ScopeParts → NameSpacesParts → Result (List Reference) Refusal) → Said
  block : (ScopeParts → Defined → Result SystemParts Refusal) → Said
  model : (ScopeParts → Result SystemParts Refusal) → Said

-- the alternatives of a symbol, each by what its parts say
abbrev pub Meaning : Type 0
Meaning = ℕ → List Said → Said

-- ---- names

abbrev number_said : Meaning
number_said i (at_token token ∷ []) = at_token token
number_said i parts = unread

abbrev more_low_said : Meaning
more_low_said zero (at_token comma ∷ at_token lower ∷ lower_names more ∷ []) =
    lower_names (lower ∷ more.0, λ text done. with_formal text lower done >>= more.1 text)
more_low_said (suc zero) [] = lower_names ([], λ text done. Ok done)
more_low_said i parts = unread

abbrev formals_said : Meaning
formals_said zero (at_token bracket ∷ at_token first ∷ lower_names more ∷ at_token end ∷ []) = formals (λ text. with_formal text first [] >>= more.1 text)
formals_said (suc zero) [] = formals (λ text. Ok [])
formals_said i parts = unread

abbrev name_list_said : Meaning
name_list_said zero (at_token first ∷ lower_names more ∷ []) = tokens (first ∷ more.0)
name_list_said (suc zero) [] = tokens []
name_list_said i parts = unread

abbrev names_said : Meaning
names_said zero (at_token bracket ∷ tokens list ∷ at_token end ∷ []) = tokens list
names_said (suc zero) [] = tokens []
names_said i parts = unread

abbrev id_names_said : Meaning
id_names_said zero (at_token comma ∷ at_token bracket ∷ tokens list ∷ at_token end ∷ []) = tokens list
id_names_said (suc zero) [] = tokens []
id_names_said i parts = unread

-- ---- arithmetic

abbrev u_said : Meaning
u_said zero (at_token number ∷ []) = formula (number, λ scope. whole_at scope number)
u_said (suc zero) (at_token token ∷ []) = formula (token, λ scope. text_formula scope token)
u_said (suc (suc zero)) (at_token token ∷ []) = formula (token, λ scope. named_at scope token)
u_said (suc (suc (suc zero))) (at_token at ∷ formula u ∷ []) = formula (at, negation_at at u)
u_said (suc (suc (suc (suc zero)))) (at_token bracket ∷ formula x ∷ at_token end ∷ []) = formula (bracket, x.1)
u_said i parts = unread

-- a list of operations, which ends with the last of its alternatives
abbrev t1_said : Meaning
t1_said zero (at_token at ∷ formula u ∷ formula_items more ∷ []) = formula_items (operated Multiply at u ∷ more)
t1_said (suc zero) (at_token at ∷ formula u ∷ formula_items more ∷ []) = formula_items (operated Divide at u ∷ more)
t1_said (suc (suc zero)) [] = formula_items []
t1_said i parts = unread

abbrev x1_said : Meaning
x1_said zero (at_token at ∷ formula u ∷ formula_items more ∷ []) = formula_items (operated Add at u ∷ more)
x1_said (suc zero) (at_token at ∷ formula u ∷ formula_items more ∷ []) = formula_items (operated Subtract at u ∷ more)
x1_said (suc (suc zero)) [] = formula_items []
x1_said i parts = unread

-- a term or a sum: the first formula, and the operations behind it
abbrev x_said : Meaning
x_said zero (formula first ∷ formula_items more ∷ []) = formula (first.0, λ scope. first.1 scope >>= formula_along more scope first.0)
x_said i parts = unread

abbrev pub operand_by : FormulaReading → ScopeParts → Result Operand Refusal
operand_by x scope = x.1 scope >>= λ f. Ok (x.0, f)

abbrev pub operands_by : FormulaReading → Operands → ScopeParts → Result (List Operand) Refusal
operands_by x more scope = operand_by x scope >>= λ f. more.1 scope >>= λ fs. Ok (f ∷ fs)

abbrev more_x_said : Meaning
more_x_said zero (at_token comma ∷ formula x ∷ operands more ∷ []) = operands (suc more.0, operands_by x more)
more_x_said (suc zero) [] = operands (0, λ scope. Ok [])
more_x_said i parts = unread

-- ---- expressions

abbrev args_said : Meaning
args_said zero (at_token bracket ∷ formula x ∷ operands more ∷ at_token close ∷ []) =
    arguments ((suc more.0, operands_by x more), counted bracket (close - bracket))
args_said (suc zero) [] = arguments ((0, λ scope. Ok []), [])
args_said i parts = unread

abbrev ref_said : Meaning
ref_said zero (at_token at ∷ arguments args ∷ []) = referred (at, args)
ref_said i parts = unread

abbrev pub width_by : Visible → ℕ → Result ℕ Refusal
width_by visible number = number_at visible.scope number >>= λ z. Ok (nat_abs z)

abbrev id_tail_said : Meaning
id_tail_said zero (at_token bracket ∷ at_token number ∷ tokens list ∷ at_token end ∷ []) =
    identity (λ at visible. width_by visible number >>= λ width. words_at visible list >>= λ words. Ok (identity_of at width words))
id_tail_said (suc zero) (at_token bracket ∷ tokens list ∷ at_token end ∷ []) = identity (λ at visible. linking_read at list visible)
id_tail_said (suc (suc zero)) [] = identity (λ at visible. Ok (identity_of at 1 []))
id_tail_said i parts = unread

abbrev pub node_of : Visible → ℕ → Operands → List ℕ → ℕ × ControlEntry → Result Expression Refusal
node_of visible at args ports found =
    if not (args.0 == found.1.formals) then refused WrongArguments at else (
    if not (length ports == found.1.shape.arity) then refused WrongPorts at else
    (args.1 visible.scope >>= λ fs. words_at visible ports >>= λ words. Ok (node at found.0 fs words)))

abbrev pub node_by : ℕ → Operands → List ℕ → Visible → Result Expression Refusal
node_by at args ports visible =
    there_or UnknownName at (look_up (spelling visible.scope at) visible.controls) >>= node_of visible at args ports

abbrev pub definition_of : Visible → ℕ → Operands → ℕ × ℕ → Result Expression Refusal
definition_of visible at args found =
    if not (args.0 == found.1) then refused WrongArguments at else
    (args.1 visible.scope >>= λ fs. Ok (reference at found.0 fs))

abbrev pub definition_by : ℕ → Operands → Visible → Result Expression Refusal
definition_by at args visible =
    there_or UnknownName at (look_up (spelling visible.scope at) visible.bigraphs) >>= definition_of visible at args

abbrev a_said : Meaning
a_said zero (at_token upper ∷ arguments args ∷ tokens ports ∷ []) = form (upper, node_by upper args.0 ports, names_atom upper)
a_said (suc zero) (referred r ∷ []) = form (r.0, definition_by r.0 r.1.0, no_atom)
a_said (suc (suc zero)) (at_token bracket ∷ tokens list ∷ at_token end ∷ []) = form (bracket, names_read bracket list, no_atom)
a_said (suc (suc (suc zero))) (at_token at ∷ identity id_tail ∷ []) = form (at, id_tail at, no_atom)
a_said (suc (suc (suc (suc zero)))) (at_token at ∷ at_token bracket ∷ at_token number ∷ at_token end ∷ []) =
    form (at, λ visible. width_by visible number >>= λ width. Ok (merger_of at width), no_atom)
a_said (suc (suc (suc (suc (suc zero))))) (at_token at ∷ []) = form (at, λ visible. Ok (empty at), no_atom)
a_said (suc (suc (suc (suc (suc (suc zero)))))) (at_token at ∷ []) = form (at, λ visible. Ok (barren at), no_atom)
a_said (suc (suc (suc (suc (suc (suc (suc zero))))))) (at_token bracket ∷ reading e ∷ at_token end ∷ []) = form (bracket, brackets_read bracket e, no_atom)
a_said i parts = unread

abbrev k_said : Meaning
k_said zero (at_token slash ∷ at_token lower ∷ reading k ∷ []) = reading (slash, closure_read slash lower k)
k_said (suc zero) (reading n ∷ []) = reading (n.0, deeper_read n)
k_said i parts = unread

abbrev n1_said : Meaning
n1_said zero (at_token dot ∷ reading k ∷ []) = behind (Some (dot, k))
n1_said (suc zero) [] = behind None
n1_said i parts = unread

abbrev n_said : Meaning
n_said zero (form a ∷ behind b ∷ []) = reading (a.0, λ visible. a.1 visible >>= nested_read (a.2 visible) b visible)
n_said i parts = unread

-- an expression and the operations behind it
abbrev row_said : Meaning
row_said zero (reading first ∷ items more ∷ []) = reading (first.0, λ visible. first.1 visible >>= items_read more visible)
row_said i parts = unread

abbrev items_said : BinaryOperation → Meaning
items_said kind zero (at_token at ∷ reading right ∷ items more ∷ []) = items (binary_read kind at right ∷ more)
items_said kind (suc zero) [] = items []
items_said kind i parts = unread

-- ---- statements

abbrev fun_said : Meaning
fun_said i parts = no_effect

abbrev control_said : Meaning
control_said zero (at_token name ∷ formals fs ∷ at_token equals ∷ at_token number ∷ at_token end ∷ []) =
    control (λ text kind d.
    new_word text d.controls name >>= λ word.
    word_at (visible_with text [] d) name >>= λ spelled.
    fs text >>= λ formals.
    arity_at text number >>= λ arity.
    with_shape name word (length formals) (record { word = spelled; arity = arity; kind = kind }) d)
control_said i parts = unread

abbrev bigraph_said : Meaning
bigraph_said zero (at_token name ∷ formals fs ∷ at_token equals ∷ reading e ∷ at_token end ∷ []) =
    defines (λ text d.
    new_word text d.bigraphs name >>= λ word.
    fs text >>= λ formals.
    e.1 (visible_with text formals d) >>= λ e.
    with_expression word (length formals) e d)
bigraph_said i parts = unread

abbrev pub entry_by : ScopeParts → ℕ → List ℕ → Result (List ℕ) Refusal
entry_by text token done = (number_at text token >>= λ z. Ok (min (nat_abs z) 4294967295)) >>= λ entry. Ok (done ++ entry ∷ [])

abbrev more_num_said : Meaning
more_num_said zero (at_token comma ∷ at_token number ∷ more_entries more ∷ []) = more_entries (λ text done. entry_by text number done >>= more text)
more_num_said (suc zero) [] = more_entries (λ text done. Ok done)
more_num_said i parts = unread

abbrev numbers_said : Meaning
numbers_said zero (at_token first ∷ more_entries more ∷ []) = entries (λ text. entry_by text first [] >>= more text)
numbers_said (suc zero) [] = entries (λ text. Ok [])
numbers_said i parts = unread

abbrev eta_said : Meaning
eta_said zero (at_token at ∷ at_token bracket ∷ entries es ∷ at_token end ∷ []) = a_map (λ text. es text >>= λ entries. Ok (Some entries))
eta_said i parts = unread

abbrev negation_said : Meaning
negation_said zero (at_token mark ∷ []) = positive false
negation_said (suc zero) [] = positive true
negation_said i parts = unread

abbrev side_said : Meaning
side_said zero (at_token word ∷ []) = on_side Ctx
side_said (suc zero) (at_token word ∷ []) = on_side Param
side_said i parts = unread

abbrev test_said : Meaning
test_said zero (positive p ∷ reading e ∷ at_token at ∷ on_side side ∷ []) =
    condition (λ visible. e.1 visible >>= λ e. Ok (record { positive = p; side = side; at = at; pattern = e }))
test_said i parts = unread

abbrev condition_by : (Visible → Result ConditionExpression Refusal) → Visible → List ConditionExpression → Result (List ConditionExpression) Refusal
condition_by test visible done = test visible >>= λ condition. Ok (done ++ condition ∷ [])

abbrev tests_said : Meaning
tests_said zero (at_token comma ∷ condition test ∷ more_conditions more ∷ []) =
    more_conditions (λ visible done. condition_by test visible done >>= more visible)
tests_said (suc zero) [] = more_conditions (λ visible done. Ok done)
tests_said i parts = unread

abbrev cond_said : Meaning
cond_said zero (at_token word ∷ condition test ∷ more_conditions more ∷ []) = conditions (λ visible. condition_by test visible [] >>= more visible)
cond_said i parts = unread

abbrev if_tail_said : Meaning
if_tail_said zero (conditions found ∷ []) = conditions found
if_tail_said (suc zero) [] = conditions (λ visible. Ok [])
if_tail_said i parts = unread

abbrev eta_tail_said : Meaning
eta_tail_said zero (a_map found ∷ []) = a_map found
eta_tail_said (suc zero) [] = a_map (λ text. Ok None)
eta_tail_said i parts = unread

abbrev tail_said : Meaning
tail_said zero (a_map listed ∷ conditions found ∷ []) =
    tail (λ visible. listed visible.scope >>= λ es. found visible >>= λ conditions. Ok (es, conditions))
tail_said (suc zero) (conditions found ∷ a_map listed ∷ []) =
    tail (λ visible. found visible >>= λ conditions. listed visible.scope >>= λ es. Ok (es, conditions))
tail_said (suc (suc zero)) [] = tail (λ visible. Ok (None, []))
tail_said i parts = unread

abbrev rule_by : ℕ → Reading → Reading → (Visible → Result (Option (List ℕ) × List ConditionExpression) Refusal) → Visible → Result RuleExpression Refusal
rule_by at redex reactum rest visible =
    redex.1 visible >>= λ r. reactum.1 visible >>= λ s. rest visible >>= λ t.
    Ok (record { at = at; redex = r; reactum = s; map = t.0; conditions = t.1 })

abbrev react_said : Meaning
react_said zero (at_token name ∷ formals fs ∷ at_token equals ∷ reading redex ∷ at_token arrow ∷ reading reactum ∷ tail rest ∷ at_token end ∷ []) =
    defines (λ text d.
    new_word text d.rules name >>= λ word.
    fs text >>= λ formals.
    rule_by name redex reactum rest (visible_with text formals d) >>= λ rule.
    with_rule_expression word (length formals) rule d)
react_said i parts = unread

abbrev after_fun_said : Meaning
after_fun_said zero (at_token word ∷ at_token ctrl ∷ control c ∷ []) = defines (λ text d. c text Atomic d)
after_fun_said (suc zero) (at_token ctrl ∷ control c ∷ []) = defines (λ text d. c text Normal d)
after_fun_said (suc (suc zero)) (at_token big ∷ defines bigraph ∷ []) = defines bigraph
after_fun_said (suc (suc (suc zero))) (at_token react ∷ defines rule ∷ []) = defines rule
after_fun_said i parts = unread

abbrev int_set_said : Meaning
int_set_said zero (at_token bracket ∷ formula first ∷ operands more ∷ at_token end ∷ []) =
    set_values (λ scope name. operands_by first more scope >>= λ fs. numbers [] fs >>= few name)
int_set_said (suc zero) (at_token bracket ∷ formula from ∷ at_token colon ∷ formula step ∷ at_token colon2 ∷ formula to ∷ at_token end ∷ []) =
    set_values (λ scope name.
    operand_by from scope >>= λ f. operand_by step scope >>= λ g. operand_by to scope >>= λ h. evaluated_range name bracket f g h)
int_set_said (suc (suc zero)) (formula only ∷ []) =
    set_values (λ scope name. operands_by only (0, λ scope. Ok []) scope >>= λ fs. numbers [] fs >>= few name)
int_set_said i parts = unread

abbrev more_text_said : Meaning
more_text_said zero (at_token comma ∷ at_token text ∷ tokens more ∷ []) = tokens (text ∷ more)
more_text_said (suc zero) [] = tokens []
more_text_said i parts = unread

abbrev text_set_said : Meaning
text_set_said zero (at_token bracket ∷ at_token first ∷ tokens more ∷ at_token end ∷ []) = set_values (λ scope name. few_texts scope name first more)
text_set_said (suc zero) (at_token only ∷ []) = set_values (λ scope name. texts_at scope (only ∷ []))
text_set_said i parts = unread

abbrev param_said : Meaning
param_said i (at_token word ∷ at_token name ∷ at_token equals ∷ set_values values ∷ at_token end ∷ []) =
    defines (λ text d.
    new_word text d.parameters name >>= λ word.
    values (without_names text) name >>= λ values.
    Ok (record d { parameters = d.parameters ++ (word, values) ∷ [] }))
param_said i parts = unread

abbrev stmt_said : Meaning
stmt_said zero (at_token word ∷ no_effect ∷ at_token ctrl ∷ control c ∷ []) = defines (λ text d. c text Atomic d)
stmt_said (suc zero) (at_token fun ∷ defines rest ∷ []) = defines rest
stmt_said (suc (suc zero)) (at_token ctrl ∷ control c ∷ []) = defines (λ text d. c text Normal d)
stmt_said (suc (suc (suc zero))) (at_token big ∷ defines bigraph ∷ []) = defines bigraph
stmt_said (suc (suc (suc (suc zero)))) (at_token react ∷ defines rule ∷ []) = defines rule
stmt_said (suc (suc (suc (suc (suc zero))))) (defines parameter ∷ []) = defines parameter
stmt_said i parts = unread

-- statements, or parameters, in turn
abbrev stmts_said : Meaning
stmts_said zero (defines first ∷ defines more ∷ []) = defines (λ text d. first text d >>= more text)
stmts_said (suc zero) [] = defines (λ text d. Ok d)
stmts_said i parts = unread

-- ---- models

abbrev pub reference_of : Referred → ScopeParts → List (NamedValue (List Value)) → ℕ × ℕ → Result Reference Refusal
reference_of r text parameters found =
    if not (r.1.0.0 == found.1) then refused WrongArguments r.0 else
    (let o = with_tokens text parameters r.1.1 (record { names = []; lists = [] }) in
    name_read text r.0 >>= λ name.
    r.1.0.1 (record text { names = o.names }) >>= λ fs.
    Ok (record { at = r.0; name = name; number = found.0; arguments = fs; lists = o.lists }))

abbrev pub reference_by : Referred → ScopeParts → List (NamedValue (List Value)) → List (NamedValue ℕ) → Result Reference Refusal
reference_by r text parameters names = there_or UnknownName r.0 (look_up (spelling text r.0) names) >>= reference_of r text parameters

abbrev listed_by : Referred → ScopeParts → NameSpacesParts → ℕ → List Listed → Result (List Listed) Refusal
listed_by r text spaces class done =
    reference_by r text spaces.parameters spaces.rules >>= λ r. Ok (done ++ (record { class = class; reference = r }) ∷ [])

abbrev predicate_by : Referred → ScopeParts → NameSpacesParts → List Reference → Result (List Reference) Refusal
predicate_by r text spaces done = reference_by r text spaces.parameters spaces.bigraphs >>= λ r. Ok (done ++ r ∷ [])

abbrev and_more : Referred → References → References
and_more r more = (
  λ text spaces class done. listed_by r text spaces class done >>= more.0 text spaces class,
  λ text spaces done. predicate_by r text spaces done >>= more.1 text spaces,
)

abbrev no_more : References
no_more = (λ text spaces class done. Ok done, λ text spaces done. Ok done)

abbrev more_ref_said : Meaning
more_ref_said zero (at_token comma ∷ referred r ∷ references more ∷ []) = references (and_more r more)
more_ref_said (suc zero) [] = references no_more
more_ref_said i parts = unread

abbrev refs_said : Meaning
refs_said zero (referred r ∷ references more ∷ []) = references (and_more r more)
refs_said (suc zero) [] = references no_more
refs_said i parts = unread

abbrev class_said : Meaning
class_said i (at_token bracket ∷ references refs ∷ at_token close ∷ []) =
    classes (λ text spaces read. refs.0 text spaces read.1 read.0 >>= λ rules. Ok (rules, read.1 + 1))
class_said i parts = unread

abbrev more_cl_said : Meaning
more_cl_said zero (at_token comma ∷ classes first ∷ classes more ∷ []) = classes (λ text spaces read. first text spaces read >>= more text spaces)
more_cl_said (suc zero) [] = classes (λ text spaces read. Ok read)
more_cl_said i parts = unread

abbrev classes_said : Meaning
classes_said zero (classes first ∷ classes more ∷ []) = classes (λ text spaces read. first text spaces read >>= more text spaces)
classes_said (suc zero) [] = classes (λ text spaces read. Ok read)
classes_said i parts = unread

abbrev preds_said : Meaning
preds_said zero (at_token word ∷ at_token equals ∷ at_token bracket ∷ references refs ∷ at_token close ∷ at_token end ∷ []) =
    predicates (λ text spaces. refs.1 text spaces [])
preds_said (suc zero) [] = predicates (λ text spaces. Ok [])
preds_said i parts = unread

abbrev pub block_by : Referred → (ScopeParts → NameSpacesParts → List Listed × ℕ → Result (List Listed × ℕ) Refusal)
    → (ScopeParts → NameSpacesParts → Result (List Reference) Refusal) → ScopeParts → NameSpacesParts → Result Block Refusal
block_by init found preds text spaces =
    reference_by init text [] spaces.bigraphs >>= λ first. found text spaces ([], 0) >>= λ rules.
    preds text spaces >>= λ predicates.
    Ok (record { init = first; rules = rules.0; classes = rules.1; preds = predicates })

abbrev block_said : Meaning
block_said zero (at_token begin ∷ at_token brs ∷ defines params ∷ at_token word ∷ referred init ∷ at_token end ∷ at_token rules ∷ at_token equals
    ∷ at_token bracket ∷ classes found ∷ at_token close ∷ at_token end2 ∷ predicates preds ∷ at_token last ∷ []) =
    block (λ text d. params text d >>= λ e. block_by init found preds text (spaces_of e) >>= block_valued e)
block_said (suc zero) [] = block (λ text d. refused NoBlock (length text.tokens))
block_said i parts = unread

abbrev model_said : Meaning
model_said zero (defines statements ∷ block rest ∷ []) = model (λ text. statements text nothing >>= rest text)
model_said i parts = unread

-- ---- all symbols, by their numbers

abbrev pub meanings : List Meaning
meanings =
    model_said ∷ stmts_said ∷ stmt_said ∷ fun_said ∷ after_fun_said ∷ control_said ∷ bigraph_said ∷ react_said ∷ tail_said ∷ if_tail_said
    ∷ eta_tail_said ∷ eta_said ∷ numbers_said ∷ more_num_said ∷ number_said ∷ cond_said ∷ tests_said ∷ test_said ∷ negation_said ∷ side_said
    ∷ formals_said ∷ more_low_said ∷ param_said ∷ int_set_said ∷ text_set_said ∷ more_text_said ∷ block_said ∷ stmts_said ∷ classes_said
    ∷ more_cl_said ∷ class_said ∷ preds_said ∷ refs_said ∷ more_ref_said ∷ ref_said ∷ args_said ∷ more_x_said ∷ row_said
    ∷ items_said Tensor ∷ row_said ∷ items_said Parallel ∷ row_said ∷ items_said Merge ∷ row_said
    ∷ items_said Composition ∷ k_said ∷ n_said ∷ n1_said ∷ a_said ∷ names_said ∷ name_list_said ∷ id_tail_said ∷ id_names_said
    ∷ x_said ∷ x1_said ∷ x_said ∷ t1_said ∷ u_said ∷ []
