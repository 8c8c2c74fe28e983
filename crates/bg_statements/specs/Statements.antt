-- What each statement defines, where others stand before it, or its first refusal.
use Rattle.std.specs.Prelude.{ℕ, zero, suc, nat_lt, is_some, nat_abs, if◌then◌else◌, List, [], ◌∷◌, ◌++◌, length, Result, Ok}
use Rattle.bg_base.specs.Limits.{most_ports}
use Rattle.bg_base.specs.declared.signature.Control.{Control}
use Rattle.bg_base.specs.declared.signature.Kind.{Kind}
use Rattle.bg_base.specs.declared.signature.Kind.TheVariants.{Normal, Atomic}
use Rattle.bg_machine.specs.Calls.{begun, evaluated}
use Rattle.bg_statements.specs.Defined.{Defined, visible_with}
use Rattle.bg_statements.specs.InTurn.{in_turn}
use Rattle.bg_statements.specs.Rules.{RuleExpression, rule_read}
use Rattle.bg_statements.specs.RuleValues.{Setting, rule_valued}
use Rattle.bg_trees.specs.declared.names.SynFormals.{SynFormals}
use Rattle.bg_trees.specs.declared.names.SynFormals.TheVariants as formals_ways
use Rattle.bg_trees.specs.declared.names.SynMoreLowItem.{SynMoreLowItem}
use Rattle.bg_trees.specs.declared.models.SynParamsItem.{SynParamsItem}
use Rattle.bg_trees.specs.declared.models.SynStmtsItem.{SynStmtsItem}
use Rattle.bg_trees.specs.declared.statements.SynAfterFun.{SynAfterFun}
use Rattle.bg_trees.specs.declared.statements.SynAfterFun.TheVariants as after_fun
use Rattle.bg_trees.specs.declared.statements.SynBigraph.{SynBigraph}
use Rattle.bg_trees.specs.declared.statements.SynControl.{SynControl}
use Rattle.bg_trees.specs.declared.statements.SynParam.{SynParam}
use Rattle.bg_trees.specs.declared.statements.SynReact.{SynReact}
use Rattle.bg_trees.specs.declared.statements.SynStmt.{SynStmt}
use Rattle.bg_trees.specs.declared.statements.SynStmt.TheVariants as statements
use Rattle.bg_terms.specs.declared.shape.Shape.{Shape}
use Rattle.bg_terms.specs.Expansion.{control_of_shape, expand, meanings_of}
use Rattle.bg_terms.specs.Expressions.{Expression}
use Rattle.bg_terms.specs.Read.{shapes_of}
use Rattle.bg_terms.specs.Trees.{word_at, e_read}
use Rattle.bg_terms.specs.Values.{entered}
use Rattle.bg_values.specs.declared.refusal.Refusal.{Refusal}
use Rattle.bg_values.specs.declared.refusal.LimitWord.TheVariants.{Arity}
use Rattle.bg_values.specs.declared.refusal.Cause.TheVariants.{DuplicateName, TooLarge}
use Rattle.bg_values.specs.Names.{NamedValue, name_number}
use Rattle.bg_values.specs.Outcome.{◌>>=◌, refused}
use Rattle.bg_values.specs.Parameters.{parameter_values, name_token}
use Rattle.bg_values.specs.Reading.{number_at, number_token}
use Rattle.bg_values.specs.Scopes.{ScopeParts, spelling}

-- the word that the token spells, or 42 `DuplicateName` where a name of the space is that word already
abbrev pub new_word : {T : Type 0} → ScopeParts → List (NamedValue T) → ℕ → Result (List ℕ) Refusal
new_word text entries token =
    if is_some (name_number (spelling text token) entries) then refused DuplicateName token else Ok (spelling text token)

-- the formals with one more, which does not repeat
abbrev pub with_formal : ScopeParts → ℕ → List (NamedValue (Unit {0})) → Result (List (NamedValue (Unit {0}))) Refusal
with_formal text token formals = new_word text formals token >>= λ word. Ok (formals ++ (word, tt) ∷ [])

-- the formals with those of the items
abbrev pub with_formals : ScopeParts → List SynMoreLowItem → List (NamedValue (Unit {0})) → Result (List (NamedValue (Unit {0}))) Refusal
with_formals text = in_turn (λ (item : SynMoreLowItem). with_formal text item.part2)

-- the first formal and those of the items
abbrev pub listed_formals : ScopeParts → ℕ → List SynMoreLowItem → Result (List (NamedValue (Unit {0}))) Refusal
listed_formals text first items = with_formal text first [] >>= with_formals text items

-- the formals of a statement
abbrev pub formals_read : ScopeParts → SynFormals → Result (List (NamedValue (Unit {0}))) Refusal
formals_read text (formals_ways.Way1 bracket first more end) = listed_formals text first more.items
formals_read text formals_ways.Way2 = Ok []

-- ---- `ctrl K(n) = 2;`

-- the arity that the token writes, or 52 `TooLarge` where that is above 16
abbrev pub arity_at : ScopeParts → ℕ → Result ℕ Refusal
arity_at text token = number_at text token >>= λ z. if nat_lt most_ports (nat_abs z) then refused (TooLarge Arity) token else Ok (nat_abs z)

-- a control without formals enters the signature at its statement
abbrev pub entered_at_once : ℕ → ℕ → Shape → Defined → Result Defined Refusal
entered_at_once at zero shape d = entered at (control_of_shape shape []) d.signature >>= λ e. Ok (record d { signature = e.1 })
entered_at_once at (suc n) shape d = Ok d

-- a control with so many formals and that shape
abbrev pub with_shape : ℕ → List ℕ → ℕ → Shape → Defined → Result Defined Refusal
with_shape at word formals shape d =
    entered_at_once at formals shape d >>= λ t.
    Ok (record t { controls = t.controls ++ (word, record { formals = formals; shape = shape }) ∷ [] })

-- the definitions with the control of this statement: its name, then its formals, then its arity
abbrev pub with_control : ScopeParts → Kind → SynControl → Defined → Result Defined Refusal
with_control text kind tree d =
    new_word text d.controls tree.part1 >>= λ word.
    word_at (visible_with text [] d) tree.part1 >>= λ name.
    formals_read text tree.part2 >>= λ formals.
    arity_at text (number_token tree.part4) >>= λ arity.
    with_shape tree.part1 word (length formals) (record { word = name; arity = arity; kind = kind }) d

-- ---- `big b(n) = E;`

-- a definition without formals is evaluated at its statement, for its refusals and for the controls that enter
abbrev pub tried : ℕ → Expression → Defined → Result Defined Refusal
tried zero e d =
    evaluated (begun d.signature) (expand (shapes_of d.controls) (meanings_of (shapes_of d.controls) d.expressions) [] e) >>= λ v.
    Ok (record d { signature = v.1.signature })
tried (suc n) e d = Ok d

-- a bigraph with so many formals and that expression
abbrev pub with_expression : List ℕ → ℕ → Expression → Defined → Result Defined Refusal
with_expression word formals e d =
    tried formals e d >>= λ t. Ok (record t { bigraphs = t.bigraphs ++ (word, formals) ∷ []; expressions = t.expressions ++ e ∷ [] })

-- the definitions with the bigraph of this statement: its name, then its formals, then its expression
abbrev pub with_bigraph : ScopeParts → SynBigraph → Defined → Result Defined Refusal
with_bigraph text tree d =
    new_word text d.bigraphs tree.part1 >>= λ word.
    formals_read text tree.part2 >>= λ formals.
    (e_read tree.part4).1 (visible_with text formals d) >>= λ e.
    with_expression word (length formals) e d

-- ---- `react r(n) = E --> E @ [0] if E in ctx;`

-- what expressions without formals are evaluated in
abbrev pub setting_of : Defined → Setting
setting_of d = record { controls = d.controls; expressions = d.expressions; values = [] }

-- the signature that the evaluation of a rule without formals leaves
abbrev pub signature_after : RuleExpression → Defined → Result (List Control) Refusal
signature_after rule d = rule_valued (setting_of d) rule (begun d.signature) >>= λ v. Ok v.1.signature

-- a rule without formals is evaluated at its statement, for its refusals and for the controls that enter
abbrev pub rule_tried : ℕ → RuleExpression → Defined → Result Defined Refusal
rule_tried zero rule d = signature_after rule d >>= λ signature. Ok (record d { signature = signature })
rule_tried (suc n) rule d = Ok d

-- what is defined, and a rule with that name, so many formals and these expressions
abbrev pub and_rule : List ℕ → ℕ → RuleExpression → Defined → Defined
and_rule word formals rule d = record d { rules = d.rules ++ (word, formals) ∷ []; rule_expressions = d.rule_expressions ++ rule ∷ [] }

-- the same, once the rule was tried
abbrev pub with_rule_expression : List ℕ → ℕ → RuleExpression → Defined → Result Defined Refusal
with_rule_expression word formals rule d = rule_tried formals rule d >>= λ t. Ok (and_rule word formals rule t)

-- the name is new, the formals do not repeat, the names of the expressions are visible; then the rule is tried
abbrev pub with_rule : ScopeParts → SynReact → Defined → Result Defined Refusal
with_rule text tree d =
    new_word text d.rules tree.part1 >>= λ word.
    formals_read text tree.part2 >>= λ formals.
    rule_read (visible_with text formals d) tree >>= λ rule.
    with_rule_expression word (length formals) rule d

-- ---- `int n = 1;`

-- the definitions with the parameter of this statement: its name, then its values
abbrev pub with_parameter : ScopeParts → SynParam → Defined → Result Defined Refusal
with_parameter text tree d =
    new_word text d.parameters (name_token tree) >>= λ word.
    parameter_values text tree >>= λ values.
    Ok (record d { parameters = d.parameters ++ (word, values) ∷ [] })

-- ---- any statement; `fun` has no effect of its own

-- the definitions with what a statement behind `fun` defines
abbrev pub with_after_fun : ScopeParts → SynAfterFun → Defined → Result Defined Refusal
with_after_fun text (after_fun.Way1 word ctrl control) d = with_control text Atomic control d
with_after_fun text (after_fun.Way2 ctrl control) d = with_control text Normal control d
with_after_fun text (after_fun.Way3 big bigraph) d = with_bigraph text bigraph d
with_after_fun text (after_fun.Way4 react rule) d = with_rule text rule d

-- the definitions with what the statement defines
abbrev pub with_statement : ScopeParts → SynStmt → Defined → Result Defined Refusal
with_statement text (statements.Way1 word fun ctrl control) d = with_control text Atomic control d
with_statement text (statements.Way2 fun rest) d = with_after_fun text rest d
with_statement text (statements.Way3 ctrl control) d = with_control text Normal control d
with_statement text (statements.Way4 big bigraph) d = with_bigraph text bigraph d
with_statement text (statements.Way5 react rule) d = with_rule text rule d
with_statement text (statements.Way6 parameter) d = with_parameter text parameter d

-- statements in the order of the text
abbrev pub with_statements : ScopeParts → List SynStmtsItem → Defined → Result Defined Refusal
with_statements text = in_turn (λ (item : SynStmtsItem). with_statement text item.part1)

-- the parameters of a block, each as a statement
abbrev pub with_parameters : ScopeParts → List SynParamsItem → Defined → Result Defined Refusal
with_parameters text = in_turn (λ (item : SynParamsItem). with_parameter text item.part1)
