-- What a rule's statement defines stays sound, and so what any statement does.
use Rattle.std.proofs.Common.{◌≡◌, ◌++◌, ◌∷◌, [], ℕ, zero, suc, List, length, Option, Ok, sym, ap, subst, ◌∙◌, inl, inr}
use Rattle.bg_base.specs.declared.big.Big.{Big}
use Rattle.bg_base.specs.declared.labels.Value.{Value}
use Rattle.bg_base.specs.declared.signature.Control.{Control}
use Rattle.bg_base.specs.declared.signature.Kind.TheVariants.{Normal, Atomic}
use Rattle.bg_base.specs.Signatures.{IsSignature}
use Rattle.bg_lists.specs.Lists.{Mem, here, there}
use Rattle.bg_lists.proofs.Members.{Mem-append_cases}
use Rattle.bg_machine.specs.declared.met.Met.{Met}
use Rattle.bg_machine.specs.Calls.{begun, evaluated, valued}
use Rattle.bg_machine.specs.Whole.{whole}
use Rattle.bg_statements.specs.declared.rule_values.ConditionValue.{ConditionValue}
use Rattle.bg_statements.specs.declared.rule_values.RuleValue.{RuleValue}
use Rattle.bg_statements.specs.Defined.{Defined, visible_with}
use Rattle.bg_statements.specs.Rules.{ConditionExpression, RuleExpression, condition_read, with_condition, with_conditions, conditions_read, later_conditions, map_read, later_map, tail_read, rule_read}
use Rattle.bg_statements.specs.RuleValues.{Setting, term_in, whole_value, with_value, conditions_valued, rule_tested, map_or_identity, rule_valued}
use Rattle.bg_statements.specs.Sound.{IsRuleRead, IsSound, nothing}
use Rattle.bg_statements.specs.Statements.{new_word, formals_read, setting_of, signature_after, rule_tried, and_rule, with_rule_expression, with_rule, with_parameter, with_after_fun, with_statement, with_statements, with_parameters}
use Rattle.bg_statements.specs.Uses.{defined_by}
use Rattle.bg_statements.proofs.Sounds.{AreRulesRead, Entered, as_many_more, bigraphs_still, rules_still, grown, nothing_sound, control_sound, bigraph_sound, parameter_sound}
use Rattle.bg_statements.proofs.Turns.{turns_keep}
use Rattle.bg_trees.specs.declared.models.SynParamsItem.{SynParamsItem}
use Rattle.bg_trees.specs.declared.models.SynStmtsItem.{SynStmtsItem}
use Rattle.bg_trees.specs.declared.statements.SynAfterFun.{SynAfterFun}
use Rattle.bg_trees.specs.declared.statements.SynAfterFun.TheVariants as after_fun
use Rattle.bg_trees.specs.declared.statements.SynCond.{SynCond}
use Rattle.bg_trees.specs.declared.statements.SynIfTail.{SynIfTail}
use Rattle.bg_trees.specs.declared.statements.SynIfTail.TheVariants as if_tails
use Rattle.bg_trees.specs.declared.statements.SynReact.{SynReact}
use Rattle.bg_trees.specs.declared.statements.SynStmt.{SynStmt}
use Rattle.bg_trees.specs.declared.statements.SynStmt.TheVariants as statements
use Rattle.bg_trees.specs.declared.statements.SynTail.{SynTail}
use Rattle.bg_trees.specs.declared.statements.SynTail.TheVariants as tails
use Rattle.bg_trees.specs.declared.statements.SynTest.{SynTest}
use Rattle.bg_trees.specs.declared.statements.SynTestsItem.{SynTestsItem}
use Rattle.bg_terms.specs.declared.shape.Shape.{Shape}
use Rattle.bg_terms.specs.Expressions.{Expression}
use Rattle.bg_terms.specs.Read.{AreRead, IsRead, shapes_of}
use Rattle.bg_terms.specs.Shapes.{AreOfShapes}
use Rattle.bg_terms.specs.Trees.{Visible, e_read}
use Rattle.bg_terms.proofs.InTurn.{IsRead-now, read_fits}
use Rattle.bg_terms.proofs.Numbered.{bound}
use Rattle.bg_values.proofs.Bindings.{ok_same}
use Rattle.bg_values.specs.Scopes.{ScopeParts}

-- ---- what is read was read from trees

module _ (visible : Visible) where
  abbrev shapes : List Shape
  shapes = shapes_of visible.controls

  abbrev AreConditionsRead : List ConditionExpression → Type 0
  AreConditionsRead conditions = (condition : ConditionExpression) → Mem condition conditions → IsRead shapes condition.pattern

  condition_is_read : (tree : SynTest) (condition : ConditionExpression) → condition_read visible tree ≡ Ok condition → IsRead shapes condition.pattern
  condition_is_read tree condition is =
      let b = bound ((e_read tree.part2).1 visible) _ condition is in
      subst (λ (c : ConditionExpression). IsRead shapes c.pattern) (ok_same b.goes_on) (IsRead-now tree.part2 visible b.found b.is)

  one_more_read : (tree : SynTest) (done more : List ConditionExpression) → AreConditionsRead done → with_condition visible tree done ≡ Ok more
      → AreConditionsRead more
  one_more_read tree done more are is =
      let b = bound (condition_read visible tree) (λ condition. Ok (done ++ condition ∷ [])) more is in
      let last = condition_is_read tree b.found b.is in
      subst AreConditionsRead (ok_same b.goes_on)
      (λ condition m. elim (Mem-append_cases done (b.found ∷ []) m) [
        | inl among ↦ are condition among
        | inr (here same) ↦ subst (λ (c : ConditionExpression). IsRead shapes c.pattern) same last
        | inr (there none) ↦ elim none [ ]
      ])

  conditions_are_read : (tree : SynCond) (conditions : List ConditionExpression) → conditions_read visible tree ≡ Ok conditions → AreConditionsRead conditions
  conditions_are_read tree conditions is =
      let b = bound (with_condition visible tree.part2 []) (with_conditions visible tree.part3.items) conditions is in
      turns_keep (λ (item : SynTestsItem). with_condition visible item.part2) AreConditionsRead tree.part3.items
      (λ item m done more. one_more_read item.part2 done more) b.found conditions
      (one_more_read tree.part2 [] b.found (λ condition m. elim m [ ]) b.is) b.goes_on

  none_read : (conditions : List ConditionExpression) → [] ≡ conditions → AreConditionsRead conditions
  none_read conditions same = subst AreConditionsRead same (λ condition m. elim m [ ])

  later_are_read : (tree : SynIfTail) (conditions : List ConditionExpression) → later_conditions visible tree ≡ Ok conditions → AreConditionsRead conditions
  later_are_read (if_tails.Way1 tree) conditions is = conditions_are_read tree conditions is
  later_are_read if_tails.Way2 conditions is = none_read conditions (ok_same is)

  tail_is_read : (tree : SynTail) (tail : Option (List ℕ) × List ConditionExpression) → tail_read visible tree ≡ Ok tail → AreConditionsRead tail.1
  tail_is_read (tails.Way1 map rest) tail is =
      let a = bound (map_read visible.scope map) _ tail is in
      let b = bound (later_conditions visible rest) (λ conditions. Ok (a.found, conditions)) tail a.goes_on in
      subst AreConditionsRead (ap (λ (t : Option (List ℕ) × List ConditionExpression). t.1) (ok_same b.goes_on)) (later_are_read rest b.found b.is)
  tail_is_read (tails.Way2 tree rest) tail is =
      let a = bound (conditions_read visible tree) _ tail is in
      let b = bound (later_map visible.scope rest) (λ entries. Ok (entries, a.found)) tail a.goes_on in
      subst AreConditionsRead (ap (λ (t : Option (List ℕ) × List ConditionExpression). t.1) (ok_same b.goes_on)) (conditions_are_read tree a.found a.is)
  tail_is_read tails.Way3 tail is = none_read tail.1 (ap (λ (t : Option (List ℕ) × List ConditionExpression). t.1) (ok_same is))

  pub rule_is_read : (tree : SynReact) (rule : RuleExpression) → rule_read visible tree ≡ Ok rule → IsRuleRead shapes rule
  rule_is_read tree rule is =
      let a = bound ((e_read tree.part4).1 visible) _ rule is in
      let b = bound ((e_read tree.part6).1 visible) _ rule a.goes_on in
      let c = bound (tail_read visible tree.part7) _ rule b.goes_on in
      subst (IsRuleRead shapes) (ok_same c.goes_on)
      (record {
        redex = IsRead-now tree.part4 visible a.found a.is;
        reactum = IsRead-now tree.part6 visible b.found b.is;
        conditions = tail_is_read tree.part7 c.found c.is;
      })

-- ---- what a rule comes to leaves a signature of the controls

module _ (d : Defined) (sound : IsSound d) (env : List Value) where
  abbrev all_shapes : List Shape
  all_shapes = shapes_of d.controls

  abbrev here_set : Setting
  here_set = record { controls = d.controls; expressions = d.expressions; values = env }

  -- a signature of the controls with some arguments
  abbrev pub Fits : List Control → Type 0
  Fits signature = IsSignature signature × AreOfShapes all_shapes signature

  whole_fits : (e : Expression) → IsRead all_shapes e → (met : Met) (v : Big × Met) → Fits met.signature → whole_value here_set e met ≡ Ok v → Fits v.1.signature
  whole_fits e read met v fits is =
      let a = bound (valued (evaluated met (term_in here_set e))) (λ (w : Big × Met). Ok (whole w.0, w.1)) v is in
      let b = bound (evaluated met (term_in here_set e)) _ a.found a.is in
      let so = read_fits d.controls d.expressions sound.read env e read 0 _ b.found.1 b.found.0 fits.0 fits.1 b.is in
      let same : b.found.1.signature ≡ v.1.signature =
      ap (λ (w : Big × Met). w.1.signature) (ok_same b.goes_on) ∙ ap (λ (w : Big × Met). w.1.signature) (ok_same a.goes_on) in
      subst Fits same (so.kept, so.of_shapes)

  conditions_fit : (conditions : List ConditionExpression) → ((c : ConditionExpression) → Mem c conditions → IsRead all_shapes c.pattern)
      → (met : Met) (v : List ConditionValue × Met) → Fits met.signature → conditions_valued here_set conditions met ≡ Ok v → Fits v.1.signature
  conditions_fit conditions read met v fits is =
      turns_keep (with_value here_set) (λ (w : List ConditionValue × Met). Fits w.1.signature) conditions
      (λ c m w z holds one. let a = bound (whole_value here_set c.pattern w.1) _ z one in
      subst (λ (y : List ConditionValue × Met). Fits y.1.signature) (ok_same a.goes_on) (whole_fits c.pattern (read c m) w.1 a.found holds a.is))
      ([], met) v fits is

  pub rule_fits : (rule : RuleExpression) → IsRuleRead all_shapes rule → (met : Met) (v : RuleValue × Met) → Fits met.signature
      → rule_valued here_set rule met ≡ Ok v → Fits v.1.signature
  rule_fits rule read met v fits is =
      let a = bound (whole_value here_set rule.redex met) _ v is in
      let b = bound (whole_value here_set rule.reactum a.found.1) _ v a.goes_on in
      let c = bound (conditions_valued here_set rule.conditions b.found.1) _ v b.goes_on in
      let e = bound (rule_tested rule.at a.found.0 b.found.0 (map_or_identity rule.map a.found.0) c.found.0) (λ (value : RuleValue). Ok (value, c.found.1)) v c.goes_on in
      let redex = whole_fits rule.redex read.redex met a.found fits a.is in
      let reactum = whole_fits rule.reactum read.reactum a.found.1 b.found redex b.is in
      let conditions = conditions_fit rule.conditions read.conditions b.found.1 c.found reactum c.is in
      subst (λ (w : RuleValue × Met). Fits w.1.signature) (ok_same e.goes_on) conditions

-- ---- the statement

module _ (before : Defined) (sound : IsSound before) where
  tried : (formals : ℕ) (rule : RuleExpression) (after : Defined) → IsRuleRead (shapes_of before.controls) rule → rule_tried formals rule before ≡ Ok after
      → Entered (shapes_of before.controls) before after
  tried zero rule after read is =
      let b = bound (signature_after rule before) _ after is in
      let v = bound (rule_valued (setting_of before) rule (begun before.signature)) (λ (w : RuleValue × Met). Ok w.1.signature) b.found b.is in
      let fits = subst (Fits before sound []) (ok_same v.goes_on)
      (rule_fits before sound [] rule read (begun before.signature) v.found (sound.signature, sound.of_shapes) v.is) in
      grown (shapes_of before.controls) before after b.found b.goes_on fits.0 fits.1
  tried (suc n) rule after read is = grown (shapes_of before.controls) before after before.signature is sound.signature sound.of_shapes

  with_one : (rules : List RuleExpression) (rule : RuleExpression) → AreRulesRead (shapes_of before.controls) rules → IsRuleRead (shapes_of before.controls) rule
      → AreRulesRead (shapes_of before.controls) (rules ++ rule ∷ [])
  with_one rules rule are is other m =
      elim (Mem-append_cases rules (rule ∷ []) m) [
        | inl among ↦ are other among
        | inr (here same) ↦ subst (IsRuleRead (shapes_of before.controls)) same is
        | inr (there none) ↦ elim none [ ]
      ]

  expression_sound : (word : List ℕ) (formals : ℕ) (rule : RuleExpression) (after : Defined) → IsRuleRead (shapes_of before.controls) rule
      → with_rule_expression word formals rule before ≡ Ok after → IsSound after
  expression_sound word formals rule after read is =
      let b = bound (rule_tried formals rule before) (λ (t : Defined). Ok (and_rule word formals rule t)) after is in
      let so = tried formals rule b.found read b.is in
      let same = sym so.controls_same in
      subst IsSound (ok_same b.goes_on)
      (record {
        bigraphs_paired = bigraphs_still (shapes_of before.controls) before b.found so sound.bigraphs_paired;
        rules_paired = as_many_more b.found.rule_expressions b.found.rules rule (word, formals)
            (rules_still (shapes_of before.controls) before b.found so sound.rules_paired);
        read = subst (λ cs. AreRead cs b.found.expressions) same (subst (AreRead before.controls) (sym so.expressions_same) sound.read);
        rules_read = subst (λ cs. AreRulesRead (shapes_of cs) (b.found.rule_expressions ++ rule ∷ [])) same
            (subst (λ rules. AreRulesRead (shapes_of before.controls) (rules ++ rule ∷ [])) (sym so.rules_same) (with_one before.rule_expressions rule sound.rules_read read));
        signature = so.signature;
        of_shapes = subst (λ cs. AreOfShapes (shapes_of cs) b.found.signature) same so.of_shapes;
      })

pub rule_sound : (text : ScopeParts) (tree : SynReact) (before after : Defined) → IsSound before → with_rule text tree before ≡ Ok after → IsSound after
rule_sound text tree before after sound is =
    let a = bound (new_word text before.rules tree.part1) _ after is in
    let b = bound (formals_read text tree.part2) _ after a.goes_on in
    let c = bound (rule_read (visible_with text b.found before) tree) _ after b.goes_on in
    expression_sound before sound a.found (length b.found) c.found after (rule_is_read (visible_with text b.found before) tree c.found c.is) c.goes_on

-- ---- any statement

after_fun_sound : (text : ScopeParts) (tree : SynAfterFun) (before after : Defined) → IsSound before → with_after_fun text tree before ≡ Ok after → IsSound after
after_fun_sound text (after_fun.Way1 word ctrl control) before after sound is = control_sound text Atomic control before after sound is
after_fun_sound text (after_fun.Way2 ctrl control) before after sound is = control_sound text Normal control before after sound is
after_fun_sound text (after_fun.Way3 big bigraph) before after sound is = bigraph_sound text bigraph before after sound is
after_fun_sound text (after_fun.Way4 react rule) before after sound is = rule_sound text rule before after sound is

pub statement_sound : (text : ScopeParts) (tree : SynStmt) (before after : Defined) → IsSound before → with_statement text tree before ≡ Ok after → IsSound after
statement_sound text (statements.Way1 word fun ctrl control) before after sound is = control_sound text Atomic control before after sound is
statement_sound text (statements.Way2 fun rest) before after sound is = after_fun_sound text rest before after sound is
statement_sound text (statements.Way3 ctrl control) before after sound is = control_sound text Normal control before after sound is
statement_sound text (statements.Way4 big bigraph) before after sound is = bigraph_sound text bigraph before after sound is
statement_sound text (statements.Way5 react rule) before after sound is = rule_sound text rule before after sound is
statement_sound text (statements.Way6 parameter) before after sound is = parameter_sound text parameter before after sound is

pub statements_sound : (text : ScopeParts) (items : List SynStmtsItem) (before after : Defined) → IsSound before → with_statements text items before ≡ Ok after
    → IsSound after
statements_sound text items before after sound is =
    turns_keep (λ (item : SynStmtsItem). with_statement text item.part1) IsSound items (λ item m s t. statement_sound text item.part1 s t) before after sound is

-- ---- a whole text

pub parameters_sound : (text : ScopeParts) (items : List SynParamsItem) (before after : Defined) → IsSound before
    → with_parameters text items before ≡ Ok after → IsSound after
parameters_sound text items before after sound is =
    turns_keep (λ (item : SynParamsItem). with_parameter text item.part1) IsSound items (λ item m s t. parameter_sound text item.part1 s t) before after sound is

pub defined_sound : (text : ScopeParts) (statements : List SynStmtsItem) (parameters : List SynParamsItem) (d : Defined)
    → defined_by text statements parameters ≡ Ok d → IsSound d
defined_sound text statements parameters d is =
    let a = bound (with_statements text statements nothing) (with_parameters text parameters) d is in
    parameters_sound text parameters a.found d (statements_sound text statements nothing a.found nothing_sound a.is) a.goes_on
