-- What statements define stays sound.
use Rattle.std.proofs.Common.{◌≡◌, ◌≤◌, ◌++◌, ◌∷◌, [], ℕ, zero, suc, Bool, true, false, List, length, Option, Some, None, Result, Ok, Err, refl, sym, ap, subst, ◌∙◌, is_some, is_none, arith}
use Rattle.std.specs.Prelude.{nat_abs, nat_lt, if◌then◌else◌}
use Rattle.std.proofs.lemmas.Bool.Decides.{nat_tests}
use Rattle.std.proofs.lemmas.List.{length-append, map-append}
use Rattle.bg_base.specs.Limits.{most_ports}
use Rattle.bg_base.specs.declared.big.Big.{Big}
use Rattle.bg_base.specs.declared.labels.Value.{Value}
use Rattle.bg_base.specs.declared.signature.Control.{Control}
use Rattle.bg_base.specs.declared.signature.Kind.{Kind}
use Rattle.bg_base.specs.Signatures.{IsSignature}
use Rattle.bg_base.proofs.SignatureLaws.{no_controls}
use Rattle.bg_lists.specs.Lists.{Mem, here}
use Rattle.bg_lists.proofs.Members.{Mem-append_right}
use Rattle.bg_machine.specs.Calls.{begun, evaluated}
use Rattle.bg_statements.specs.Defined.{Defined, visible_with}
use Rattle.bg_statements.specs.Rules.{RuleExpression}
use Rattle.bg_statements.specs.Sound.{IsRuleRead, IsSound, nothing}
use Rattle.bg_statements.specs.Statements.{new_word, formals_read, arity_at, entered_at_once, with_shape, with_control, tried, with_expression, with_bigraph, with_parameter}
use Rattle.bg_trees.specs.declared.statements.SynBigraph.{SynBigraph}
use Rattle.bg_trees.specs.declared.statements.SynControl.{SynControl}
use Rattle.bg_trees.specs.declared.statements.SynParam.{SynParam}
use Rattle.bg_terms.specs.declared.shape.ControlEntry.{ControlEntry}
use Rattle.bg_terms.specs.declared.shape.Shape.{Shape}
use Rattle.bg_terms.specs.Expansion.{control_of_shape, expand, meanings_of}
use Rattle.bg_terms.specs.Expressions.{Expression}
use Rattle.bg_terms.specs.Read.{AreRead, IsRead, shapes_of}
use Rattle.bg_terms.specs.Shapes.{AreShapes, AreOfShapes, FitsShapes}
use Rattle.bg_terms.specs.Trees.{Visible, word_at, e_read}
use Rattle.bg_terms.specs.Values.{Reached, entered, value}
use Rattle.bg_terms.proofs.Controls.{controls_shapes}
use Rattle.bg_terms.proofs.InTurn.{IsRead-now, IsRead-more, read_none, read_control, read_definition, read_fits, AreOfShapes-more}
use Rattle.bg_terms.proofs.Numbered.{bound, tested, untested}
use Rattle.bg_terms.proofs.ShapesFit.{entered_fits}
use Rattle.bg_values.proofs.Bindings.{ok_same}
use Rattle.bg_values.specs.declared.refusal.Refusal.{Refusal}
use Rattle.bg_values.specs.Names.{NamedValue, name_number}
use Rattle.bg_values.specs.Parameters.{parameter_values, name_token}
use Rattle.bg_values.specs.Reading.{number_token, number_at}
use Rattle.bg_values.specs.Scopes.{ScopeParts, spelling}

pub nothing_sound : IsSound nothing
nothing_sound =
    record {
      bigraphs_paired = refl;
      rules_paired = refl;
      read = read_none;
      rules_read = λ rule m. elim m [ ];
      signature = no_controls;
      of_shapes = λ control m. elim m [ ];
    }

-- lists that are equally long are so with one more each
pub as_many_more : {A B : Type 0} (xs : List A) (ys : List B) (x : A) (y : B) → length xs ≡ length ys → length (xs ++ x ∷ []) ≡ length (ys ++ y ∷ [])
as_many_more xs ys x y same = omega (arith, same, length-append xs (x ∷ []), length-append ys (y ∷ []))

-- ---- what an Ok says of a name and of an arity

-- the word that the token spells is new in the table
record IsNew {T : Type 0} (text : ScopeParts) (entries : List (NamedValue T)) (token : ℕ) (word : List ℕ) : Type 0 where
  spelled : spelling text token ≡ word
  new : is_none (name_number word entries) ≡ true

none_there : {A B : Type 0} (o : Option A) (r : Result B Refusal) (e : Refusal) (y : B) → (if is_some o then Err e else r) ≡ Ok y → is_none o ≡ true
none_there (Some x) r e y is = absurd cc
none_there None r e y is = refl

is_new : {T : Type 0} (text : ScopeParts) (entries : List (NamedValue T)) (token : ℕ) (word : List ℕ) → new_word text entries token ≡ Ok word
    → IsNew text entries token word
is_new text entries token word is =
    let same = ok_same (untested (is_some (name_number (spelling text token) entries)) (Ok (spelling text token)) _ word is) in
    record {
      spelled = same;
      new = ap (λ w. is_none (name_number w entries)) (sym same) ∙ none_there (name_number (spelling text token) entries) (Ok (spelling text token)) _ word is;
    }

word_spelled : (visible : Visible) (token : ℕ) (word : List ℕ) → word_at visible token ≡ Ok word → spelling visible.scope token ≡ word
word_spelled visible token word is = ok_same (tested _ (Ok (spelling visible.scope token)) _ word is)

at_most : (n : ℕ) (e : Refusal) (y : ℕ) → (if nat_lt most_ports n then Err e else Ok n) ≡ Ok y → y ≤ most_ports
at_most n e y = by (nat_lt most_ports n) refl
  where
    by : (test : Bool) → nat_lt most_ports n ≡ test → (if test then Err e else Ok n) ≡ Ok y → y ≤ most_ports
    by true is_so made = absurd cc
    by false is_so made = let same : n ≡ y = ok_same made in grind (arith, nat_tests)

small_arity : (text : ScopeParts) (token arity : ℕ) → arity_at text token ≡ Ok arity → arity ≤ most_ports
small_arity text token arity is = let b = bound (number_at text token) _ arity is in at_most (nat_abs b.found) _ arity b.goes_on

-- ---- rules, where more controls are visible

abbrev pub AreRulesRead : List Shape → List RuleExpression → Type 0
AreRulesRead shapes rules = (rule : RuleExpression) → Mem rule rules → IsRuleRead shapes rule

rules_more : (shapes others : List Shape) (rules : List RuleExpression) → AreRulesRead shapes rules → AreRulesRead (shapes ++ others) rules
rules_more shapes others rules are rule m =
    let is = are rule m in
    record {
      redex = IsRead-more shapes others rule.redex is.redex;
      reactum = IsRead-more shapes others rule.reactum is.reactum;
      conditions = λ condition k. IsRead-more shapes others condition.pattern (is.conditions condition k);
    }

-- ---- the signature alone grows

-- nothing but the signature differs, and it is one of these controls
pub record Entered (shapes : List Shape) (before after : Defined) : Type 0 where
  pub controls_same : after.controls ≡ before.controls
  pub bigraphs_same : after.bigraphs ≡ before.bigraphs
  pub expressions_same : after.expressions ≡ before.expressions
  pub rule_names_same : after.rules ≡ before.rules
  pub rules_same : after.rule_expressions ≡ before.rule_expressions
  pub signature : IsSignature after.signature
  pub of_shapes : AreOfShapes shapes after.signature

pub grown : (shapes : List Shape) (before after : Defined) (signature : List Control) → ◌≡◌ {A = Result Defined Refusal} (Ok (record before { signature = signature })) (Ok after)
    → IsSignature signature → AreOfShapes shapes signature → Entered shapes before after
grown shapes before after signature is kept of_shapes =
    subst (Entered shapes before) (ok_same is)
    (record {
      controls_same = refl;
      bigraphs_same = refl;
      expressions_same = refl;
      rule_names_same = refl;
      rules_same = refl;
      signature = kept;
      of_shapes = of_shapes;
    })

-- there are as many expressions as names, of bigraphs and of rules
pub bigraphs_still : (shapes : List Shape) (before after : Defined) → Entered shapes before after → length before.expressions ≡ length before.bigraphs
    → length after.expressions ≡ length after.bigraphs
bigraphs_still shapes before after so paired = ap length so.expressions_same ∙ paired ∙ sym (ap length so.bigraphs_same)

pub rules_still : (shapes : List Shape) (before after : Defined) → Entered shapes before after → length before.rule_expressions ≡ length before.rules
    → length after.rule_expressions ≡ length after.rules
rules_still shapes before after so paired = ap length so.rules_same ∙ paired ∙ sym (ap length so.rule_names_same)

-- ---- controls

entered_once : (shapes : List Shape) → AreShapes shapes → (at formals : ℕ) (shape : Shape) (before after : Defined) → Mem shape shapes
    → IsSignature before.signature → AreOfShapes shapes before.signature → entered_at_once at formals shape before ≡ Ok after → Entered shapes before after
entered_once shapes are at zero shape before after among kept of_shapes is =
    let b = bound (entered at (control_of_shape shape []) before.signature) (λ e. Ok (record before { signature = e.1 })) after is in
    let so = entered_fits shapes are at shape [] before.signature b.found.1 b.found.0 among kept of_shapes b.is in
    grown shapes before after b.found.1 b.goes_on so.0 so.1
entered_once shapes are at (suc n) shape before after among kept of_shapes is = grown shapes before after before.signature is kept of_shapes

module _ (before : Defined) (sound : IsSound before) (word : List ℕ) (none : is_none (name_number word before.controls) ≡ true) where
  shape_sound : (at formals : ℕ) (shape : Shape) → shape.word ≡ word → shape.arity ≤ most_ports → (after : Defined)
      → with_shape at word formals shape before ≡ Ok after → IsSound after
  shape_sound at formals shape named small after is =
      let entry : ControlEntry = record { formals = formals; shape = shape } in
      let longer = before.controls ++ (word, entry) ∷ [] in
      let more : shapes_of longer ≡ shapes_of before.controls ++ shape ∷ [] = map-append (λ (e : NamedValue ControlEntry). e.1.shape) before.controls ((word, entry) ∷ []) in
      let are = read_control before.controls before.expressions word entry sound.read none named small in
      let b = bound (entered_at_once at formals shape before) (λ (t : Defined). Ok (record t { controls = t.controls ++ (word, entry) ∷ [] })) after is in
      let so = entered_once (shapes_of longer) (controls_shapes longer are.table) at formals shape before b.found
      (subst (Mem shape) (sym more) (Mem-append_right (shapes_of before.controls) (shape ∷ []) (here refl))) sound.signature
      (subst (λ ss. AreOfShapes ss before.signature) (sym more) (AreOfShapes-more (shapes_of before.controls) (shape ∷ []) before.signature sound.of_shapes)) b.is in
      let same : longer ≡ b.found.controls ++ (word, entry) ∷ [] = ap (λ cs. cs ++ (word, entry) ∷ []) (sym so.controls_same) in
      subst IsSound (ok_same b.goes_on)
      (record {
        bigraphs_paired = bigraphs_still (shapes_of longer) before b.found so sound.bigraphs_paired;
        rules_paired = rules_still (shapes_of longer) before b.found so sound.rules_paired;
        read = subst (λ cs. AreRead cs b.found.expressions) same (subst (AreRead longer) (sym so.expressions_same) are);
        rules_read = subst (λ cs. AreRulesRead (shapes_of cs) b.found.rule_expressions) same
            (subst (AreRulesRead (shapes_of longer)) (sym so.rules_same)
            (subst (λ ss. AreRulesRead ss before.rule_expressions) (sym more) (rules_more (shapes_of before.controls) (shape ∷ []) before.rule_expressions sound.rules_read)));
        signature = so.signature;
        of_shapes = subst (λ cs. AreOfShapes (shapes_of cs) b.found.signature) same so.of_shapes;
      })

pub control_sound : (text : ScopeParts) (kind : Kind) (tree : SynControl) (before after : Defined) → IsSound before
    → with_control text kind tree before ≡ Ok after → IsSound after
control_sound text kind tree before after sound is =
    let a = bound (new_word text before.controls tree.part1) _ after is in
    let b = bound (word_at (visible_with text [] before) tree.part1) _ after a.goes_on in
    let c = bound (formals_read text tree.part2) _ after b.goes_on in
    let d = bound (arity_at text (number_token tree.part4)) _ after c.goes_on in
    let new = is_new text before.controls tree.part1 a.found a.is in
    shape_sound before sound a.found new.new tree.part1 (length c.found) (record { word = b.found; arity = d.found; kind = kind })
    (sym (word_spelled (visible_with text [] before) tree.part1 b.found b.is) ∙ new.spelled)
    (small_arity text (number_token tree.part4) d.found d.is) after d.goes_on

-- ---- bigraphs

module _ (before : Defined) (sound : IsSound before) where
  abbrev shapes : List Shape
  shapes = shapes_of before.controls

  -- what an expression comes to
  pub value_fits : (e : Expression) → IsRead shapes e → (env : List Value) (depth nodes edges terms : ℕ) (big : Big) (after : Reached)
      → value depth (expand shapes (meanings_of shapes before.expressions) env e) (record { signature = before.signature; nodes = nodes; edges = edges; terms = terms }) ≡ Ok (big, after)
      → FitsShapes shapes after.signature big
  value_fits e read env depth nodes edges terms big after is =
      read_fits before.controls before.expressions sound.read env e read depth _ after big sound.signature sound.of_shapes is

  tried_sound : (formals : ℕ) (e : Expression) (after : Defined) → IsRead shapes e → tried formals e before ≡ Ok after → Entered shapes before after
  tried_sound zero e after read is =
      let b = bound (evaluated (begun before.signature) (expand shapes (meanings_of shapes before.expressions) [] e)) (λ v. Ok (record before { signature = v.1.signature })) after is in
      let so = value_fits e read [] 0 0 0 0 b.found.0 b.found.1 b.is in
      grown shapes before after b.found.1.signature b.goes_on so.kept so.of_shapes
  tried_sound (suc n) e after read is = grown shapes before after before.signature is sound.signature sound.of_shapes

  expression_sound : (word : List ℕ) (formals : ℕ) (e : Expression) (after : Defined) → IsRead shapes e
      → with_expression word formals e before ≡ Ok after → IsSound after
  expression_sound word formals e after read is =
      let b = bound (tried formals e before) (λ (t : Defined). Ok (record t { bigraphs = t.bigraphs ++ (word, formals) ∷ []; expressions = t.expressions ++ e ∷ [] })) after is in
      let so = tried_sound formals e b.found read b.is in
      let same = sym so.controls_same in
      subst IsSound (ok_same b.goes_on)
      (record {
        bigraphs_paired = as_many_more b.found.expressions b.found.bigraphs e (word, formals) (bigraphs_still shapes before b.found so sound.bigraphs_paired);
        rules_paired = rules_still shapes before b.found so sound.rules_paired;
        read = subst (λ cs. AreRead cs (b.found.expressions ++ e ∷ [])) same
            (subst (λ es. AreRead before.controls (es ++ e ∷ [])) (sym so.expressions_same) (read_definition before.controls before.expressions e sound.read read));
        rules_read = subst (λ cs. AreRulesRead (shapes_of cs) b.found.rule_expressions) same (subst (AreRulesRead shapes) (sym so.rules_same) sound.rules_read);
        signature = so.signature;
        of_shapes = subst (λ cs. AreOfShapes (shapes_of cs) b.found.signature) same so.of_shapes;
      })

pub bigraph_sound : (text : ScopeParts) (tree : SynBigraph) (before after : Defined) → IsSound before
    → with_bigraph text tree before ≡ Ok after → IsSound after
bigraph_sound text tree before after sound is =
    let a = bound (new_word text before.bigraphs tree.part1) _ after is in
    let b = bound (formals_read text tree.part2) _ after a.goes_on in
    let c = bound ((e_read tree.part4).1 (visible_with text b.found before)) _ after b.goes_on in
    expression_sound before sound a.found (length b.found) c.found after (IsRead-now tree.part4 (visible_with text b.found before) c.found c.is) c.goes_on

-- ---- parameters

pub parameter_sound : (text : ScopeParts) (tree : SynParam) (before after : Defined) → IsSound before
    → with_parameter text tree before ≡ Ok after → IsSound after
parameter_sound text tree before after sound is =
    let a = bound (new_word text before.parameters (name_token tree)) _ after is in
    let b = bound (parameter_values text tree) (λ values. Ok (record before { parameters = before.parameters ++ (a.found, values) ∷ [] })) after a.goes_on in
    subst IsSound (ok_same b.goes_on)
    (record {
      bigraphs_paired = sound.bigraphs_paired;
      rules_paired = sound.rules_paired;
      read = sound.read;
      rules_read = sound.rules_read;
      signature = sound.signature;
      of_shapes = sound.of_shapes;
    })
