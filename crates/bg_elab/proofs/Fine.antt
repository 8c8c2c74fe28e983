-- What holds of what the parts of a text's own tree say: none of it is refused by number 31. A predicate for each form of what
-- a symbol says; words, numbers and texts are spelled as they are to be.
use Rattle.std.proofs.Common.{◌≡◌, ℕ, Bool, true, List, [], ◌∷◌, Option, Some, None, Result, is_some, get_or}
use Rattle.bg_base.specs.declared.labels.Value.{Value}
use Rattle.bg_base.specs.declared.signature.Kind.{Kind}
use Rattle.bg_base.specs.Spelling.{is_ident, is_text}
use Rattle.bg_elab.specs.Blocks.{Listed}
use Rattle.bg_elab.specs.References.{Reference}
use Rattle.bg_grammar.specs.Grammar.{Part, kind, symbol}
use Rattle.bg_rules.specs.declared.condition.Side.{Side}
use Rattle.bg_rules.specs.Systems.{SystemParts}
use Rattle.bg_statements.specs.Defined.{Defined}
use Rattle.bg_statements.specs.Rules.{ConditionExpression}
use Rattle.bg_statements.specs.Uses.{NameSpacesParts}
use Rattle.bg_syntax.specs.declared.symbol.Symbol.{Symbol}
use Rattle.bg_syntax.specs.Numbers.{symbol_number}
use Rattle.bg_terms.specs.declared.shape.ControlEntry.{ControlEntry}
use Rattle.bg_terms.specs.Expressions.{Expression}
use Rattle.bg_terms.specs.Trees.{Visible, Form, Reading, Onward}
use Rattle.bg_values.specs.declared.refusal.Refusal.{Refusal}
use Rattle.bg_values.specs.Arithmetic.{Formula}
use Rattle.bg_values.specs.Names.{NamedValue}
use Rattle.bg_values.specs.Numbers.{number_in}
use Rattle.bg_values.specs.Reading.{between}
use Rattle.bg_values.specs.Reading.{Reading as FormulaReading, Onward as FormulaOnward}
use Rattle.bg_values.specs.Scopes.{ScopeParts, spelling}
use Rattle.bg_elab.proofs.Expected.{IsExpected}
use Rattle.bg_elab.proofs.Said.{Operands, Arguments, Referred, LowerNames, References, Said, at_token, tokens, lower_names, formals, formula, formula_items, operands, arguments, referred, identity, form, reading, behind, items, entries, more_entries, positive, on_side, condition, more_conditions, conditions, a_map, tail, set_values, control, no_effect, defines, references, classes, predicates, block, model}
use Rattle.bg_elab.proofs.SaidRows.{meaning}
use Rattle.bg_elab.proofs.TokensSpelled.{KindSpells}

-- the names of formals
abbrev pub Names : Type 0
Names = List (NamedValue (Unit {0}))

-- of a text with its tokens
module _ (base : ScopeParts) where
  abbrev pub IsWord : ℕ → Type 0
  IsWord n = is_ident (spelling base n) ≡ true

  abbrev pub IsNumber : ℕ → Type 0
  IsNumber n = is_some (number_in (spelling base n)) ≡ true

  abbrev pub IsQuoted : ℕ → Type 0
  IsQuoted n = is_text (between (spelling base n)) ≡ true

  abbrev pub AreWords : List ℕ → Type 0
  AreWords [] = Unit {0}
  AreWords (n ∷ ns) = IsWord n × AreWords ns

  abbrev pub AreQuoted : List ℕ → Type 0
  AreQuoted [] = Unit {0}
  AreQuoted (n ∷ ns) = IsQuoted n × AreQuoted ns

  -- the text, where these names are visible, and these controls and bigraphs too
  abbrev pub scoped : Names → ScopeParts
  scoped names = record base { names = names }

  abbrev pub seen : Names → List (NamedValue ControlEntry) → List (NamedValue ℕ) → Visible
  seen names controls bigraphs = record { scope = scoped names; controls = controls; bigraphs = bigraphs }

  -- whatever is visible, it is not refused by 31
  abbrev pub Scoped : {A : Type 0} → (ScopeParts → Result A Refusal) → Type 0
  Scoped f = (names : Names) → IsExpected (f (scoped names))

  abbrev pub Seen : {A : Type 0} → (Visible → Result A Refusal) → Type 0
  Seen f = (names : Names) (controls : List (NamedValue ControlEntry)) (bigraphs : List (NamedValue ℕ)) → IsExpected (f (seen names controls bigraphs))

  -- ---- names

  pub data NumberFine : Said → Type 0 where
    number_fine : {n : ℕ} → IsNumber n → NumberFine (at_token n)

  pub data NamesFine : Said → Type 0 where
    names_fine : {ns : List ℕ} → AreWords ns → NamesFine (tokens ns)

  pub data TextsFine : Said → Type 0 where
    texts_fine : {ns : List ℕ} → AreQuoted ns → TextsFine (tokens ns)

  pub data LowerNamesFine : Said → Type 0 where
    lower_names_fine : {x : LowerNames} → AreWords x.0 → ((names done : Names) → IsExpected (x.1 (scoped names) done)) → LowerNamesFine (lower_names x)

  pub data FormalsFine : Said → Type 0 where
    formals_fine : {f : ScopeParts → Result Names Refusal} → Scoped f → FormalsFine (formals f)

  -- ---- arithmetic

  pub data FormulaFine : Said → Type 0 where
    formula_fine : {x : FormulaReading} → Scoped x.1 → FormulaFine (formula x)

  pub data FormulasAlong : List FormulaOnward → Type 0 where
    no_formula : FormulasAlong []
    one_formula : {item : FormulaOnward} {items : List FormulaOnward}
        → ((names : Names) (first : ℕ) (f : Formula) → IsExpected (item (scoped names) first f)) → FormulasAlong items → FormulasAlong (item ∷ items)

  pub data FormulaItemsFine : Said → Type 0 where
    formula_items_fine : {items : List FormulaOnward} → FormulasAlong items → FormulaItemsFine (formula_items items)

  pub data OperandsFine : Said → Type 0 where
    operands_fine : {x : Operands} → Scoped x.1 → OperandsFine (operands x)

  pub data ArgumentsFine : Said → Type 0 where
    arguments_fine : {x : Arguments} → Scoped x.0.1 → ArgumentsFine (arguments x)

  pub data ReferredFine : Said → Type 0 where
    referred_fine : {x : Referred} → IsWord x.0 → Scoped x.1.0.1 → ReferredFine (referred x)

  -- ---- expressions

  pub data IdentityFine : Said → Type 0 where
    identity_fine : {f : ℕ → Visible → Result Expression Refusal} → ((at : ℕ) → Seen (f at)) → IdentityFine (identity f)

  pub data FormFine : Said → Type 0 where
    form_fine : {x : Form} → Seen x.1 → FormFine (form x)

  pub data ReadingFine : Said → Type 0 where
    reading_fine : {x : Reading} → Seen x.1 → ReadingFine (reading x)

  pub data BehindFine : Said → Type 0 where
    nothing_fine : BehindFine (behind None)
    behind_fine : {dot : ℕ} {x : Reading} → Seen x.1 → BehindFine (behind (Some (dot, x)))

  pub data Along : List Onward → Type 0 where
    no_item : Along []
    one_item : {item : Onward} {items : List Onward} → ((e : Expression) → Seen (λ visible. item visible e)) → Along items → Along (item ∷ items)

  pub data ItemsFine : Said → Type 0 where
    items_fine : {xs : List Onward} → Along xs → ItemsFine (items xs)

  -- ---- statements

  pub data EntriesFine : Said → Type 0 where
    entries_fine : {f : ScopeParts → Result (List ℕ) Refusal} → Scoped f → EntriesFine (entries f)

  pub data MoreEntriesFine : Said → Type 0 where
    more_entries_fine : {f : ScopeParts → List ℕ → Result (List ℕ) Refusal} → ((names : Names) (done : List ℕ) → IsExpected (f (scoped names) done))
        → MoreEntriesFine (more_entries f)

  pub data PositiveFine : Said → Type 0 where
    positive_fine : {b : Bool} → PositiveFine (positive b)

  pub data SideFine : Said → Type 0 where
    side_fine : {side : Side} → SideFine (on_side side)

  pub data ConditionFine : Said → Type 0 where
    condition_fine : {f : Visible → Result ConditionExpression Refusal} → Seen f → ConditionFine (condition f)

  pub data MoreConditionsFine : Said → Type 0 where
    more_conditions_fine : {f : Visible → List ConditionExpression → Result (List ConditionExpression) Refusal}
        → ((done : List ConditionExpression) → Seen (λ visible. f visible done)) → MoreConditionsFine (more_conditions f)

  pub data ConditionsFine : Said → Type 0 where
    conditions_fine : {f : Visible → Result (List ConditionExpression) Refusal} → Seen f → ConditionsFine (conditions f)

  pub data MapFine : Said → Type 0 where
    map_fine : {f : ScopeParts → Result (Option (List ℕ)) Refusal} → Scoped f → MapFine (a_map f)

  pub data TailFine : Said → Type 0 where
    tail_fine : {f : Visible → Result (Option (List ℕ) × List ConditionExpression) Refusal} → Seen f → TailFine (tail f)

  pub data SetFine : Said → Type 0 where
    set_fine : {f : ScopeParts → ℕ → Result (List Value) Refusal} → ((names : Names) (called : ℕ) → IsExpected (f (scoped names) called)) → SetFine (set_values f)

  pub data ControlFine : Said → Type 0 where
    control_fine : {f : ScopeParts → Kind → Defined → Result Defined Refusal}
        → ((names : Names) (kind : Kind) (d : Defined) → IsExpected (f (scoped names) kind d)) → ControlFine (control f)

  pub data EffectFine : Said → Type 0 where
    effect_fine : EffectFine no_effect

  pub data DefinesFine : Said → Type 0 where
    defines_fine : {f : ScopeParts → Defined → Result Defined Refusal} → ((names : Names) (d : Defined) → IsExpected (f (scoped names) d)) → DefinesFine (defines f)

  -- ---- models

  pub data ReferencesFine : Said → Type 0 where
    references_fine : {x : References}
        → ((names : Names) (spaces : NameSpacesParts) (class : ℕ) (done : List Listed) → IsExpected (x.0 (scoped names) spaces class done))
        → ((names : Names) (spaces : NameSpacesParts) (done : List Reference) → IsExpected (x.1 (scoped names) spaces done)) → ReferencesFine (references x)

  pub data ClassesFine : Said → Type 0 where
    classes_fine : {f : ScopeParts → NameSpacesParts → List Listed × ℕ → Result (List Listed × ℕ) Refusal}
        → ((names : Names) (spaces : NameSpacesParts) (read : List Listed × ℕ) → IsExpected (f (scoped names) spaces read)) → ClassesFine (classes f)

  pub data PredicatesFine : Said → Type 0 where
    predicates_fine : {f : ScopeParts → NameSpacesParts → Result (List Reference) Refusal}
        → ((names : Names) (spaces : NameSpacesParts) → IsExpected (f (scoped names) spaces)) → PredicatesFine (predicates f)

  pub data BlockFine : Said → Type 0 where
    block_fine : {f : ScopeParts → Defined → Result SystemParts Refusal} → ((names : Names) (d : Defined) → IsExpected (f (scoped names) d)) → BlockFine (block f)

  pub data ModelFine : Said → Type 0 where
    model_fine : {f : ScopeParts → Result SystemParts Refusal} → Scoped f → ModelFine (model f)

  -- ---- all symbols, by their numbers

  abbrev pub forms : List (Said → Type 0)
  forms =
      ModelFine ∷ DefinesFine ∷ DefinesFine ∷ EffectFine ∷ DefinesFine ∷ ControlFine ∷ DefinesFine ∷ DefinesFine ∷ TailFine ∷ ConditionsFine
      ∷ MapFine ∷ MapFine ∷ EntriesFine ∷ MoreEntriesFine ∷ NumberFine ∷ ConditionsFine ∷ MoreConditionsFine ∷ ConditionFine ∷ PositiveFine ∷ SideFine
      ∷ FormalsFine ∷ LowerNamesFine ∷ DefinesFine ∷ SetFine ∷ SetFine ∷ TextsFine ∷ BlockFine ∷ DefinesFine ∷ ClassesFine
      ∷ ClassesFine ∷ ClassesFine ∷ PredicatesFine ∷ ReferencesFine ∷ ReferencesFine ∷ ReferredFine ∷ ArgumentsFine ∷ OperandsFine ∷ ReadingFine
      ∷ ItemsFine ∷ ReadingFine ∷ ItemsFine ∷ ReadingFine ∷ ItemsFine ∷ ReadingFine
      ∷ ItemsFine ∷ ReadingFine ∷ ReadingFine ∷ BehindFine ∷ FormFine ∷ NamesFine ∷ NamesFine ∷ IdentityFine ∷ NamesFine
      ∷ FormulaFine ∷ FormulaItemsFine ∷ FormulaFine ∷ FormulaItemsFine ∷ FormulaFine ∷ []

  abbrev pub SymbolFine : ℕ → Said → Type 0
  SymbolFine head x = get_or forms head (λ y. ⊥) x

  -- the parts of an alternative say these, and all is well
  pub data Fine : List Part → List Said → Type 0 where
    none : Fine [] []
    a_token : {k n : ℕ} {way : List Part} {xs : List Said} → KindSpells k (spelling base n) → Fine way xs → Fine (kind k ∷ way) (at_token n ∷ xs)
    a_part : {s : ℕ} {x : Said} {way : List Part} {xs : List Said} → SymbolFine s x → Fine way xs → Fine (symbol s ∷ way) (x ∷ xs)

  -- so the alternative with that number does too
  abbrev pub Makes : Symbol → ℕ → List Part → Type 0
  Makes head i way = (xs : List Said) → Fine way xs → SymbolFine (symbol_number head) (meaning (symbol_number head) i xs)
