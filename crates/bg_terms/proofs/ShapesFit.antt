-- Terms of expressions have the arities of their controls, and their controls are one by their labels.
use Rattle.std.proofs.Common.{◌≡◌, ◌++◌, ◌∷◌, [], inl, inr, ℕ, zero, suc, List, length, Option, Some, None, Result, Ok, Err, refl, sym, ap, subst, ◌∙◌, slice_get}
use Rattle.bg_lists.specs.Lists.{Mem, here, there}
use Rattle.bg_lists.proofs.Members.{Mem-append_left, Mem-append_right, Mem-append_cases}
use Rattle.bg_base.specs.declared.big.Big.{Big}
use Rattle.bg_base.specs.declared.labels.Label.{Label}
use Rattle.bg_base.specs.declared.labels.Value.{Value}
use Rattle.bg_base.specs.declared.signature.Control.{Control}
use Rattle.bg_base.specs.Signatures.{IsSignature}
use Rattle.bg_values.specs.declared.refusal.Refusal.{Refusal}
use Rattle.bg_values.specs.Operands.{values}
use Rattle.bg_values.proofs.Items.{member_at}
use Rattle.bg_terms.specs.declared.shape.Shape.{Shape}
use Rattle.bg_terms.specs.Arities.{HaveArities, AreOneByLabel}
use Rattle.bg_terms.specs.Expansion.{Meaning, control_of_shape, with_values, node_term, meant, expand, meanings_after, meanings_of}
use Rattle.bg_terms.specs.Expressions.{Expression, node, reference, names, identity_of, merger_of, barren, empty, brackets, deeper, closure, nesting, binary}
use Rattle.bg_terms.specs.Order.{controls_of}
use Rattle.bg_terms.specs.Shapes.{AreShapes, HasPorts, IsOfShapes, AreOfShapes, FitsShapes}
use Rattle.bg_terms.specs.Terms as terms
use Rattle.bg_terms.specs.Terms.{Term}
use Rattle.bg_terms.specs.Values.{Reached, entered, value}
use Rattle.bg_terms.proofs.Fitting.{enters, fitting}
use Rattle.bg_terms.proofs.Ports.{as_many_ports}

-- the term has the arities of its controls, which are the shapes with some arguments
pub record Shaped (shapes : List Shape) (t : Term) : Type 0 where
  pub arities : HaveArities t
  pub of_shapes : AreOfShapes shapes (controls_of t)

-- each definition gives such terms
abbrev pub AreShaped : List Shape → List Meaning → Type 0
AreShaped shapes meanings = (number : ℕ) (meaning : Meaning) → slice_get meanings number ≡ Some meaning → (args : List Value) → Shaped shapes (meaning args)

module _ (shapes : List Shape) (are : AreShapes shapes) where
  refused_term : (r : Refusal) → Shaped shapes (terms.refusal r)
  refused_term r = record { arities = tt; of_shapes = λ control m. elim m [ ] }

  counted_shaped : (at : ℕ) (t : Term) → Shaped shapes t → Shaped shapes (terms.counted at t)
  counted_shaped at t so = record { arities = so.arities; of_shapes = so.of_shapes }

  node_shaped : (at : ℕ) (found : Option Shape) (ports : List (List ℕ)) (args : List Value)
      → ((shape : Shape) → found ≡ Some shape → Mem shape shapes × (length ports ≡ shape.arity)) → Shaped shapes (node_term at found ports args)
  node_shaped at None ports args known = counted_shaped at _ (refused_term _)
  node_shaped at (Some shape) ports args known =
      let so = known shape refl in
      record { arities = (so.1, are.small shape so.0); of_shapes = only so.0 }
    where
      only : Mem shape shapes → (control : Control) → Mem control (control_of_shape shape args ∷ []) → IsOfShapes shapes control
      only among control (here is) = record { shape = shape; args = args; among = among; is = sym is }
      only among control (there m) = elim m [ ]

  meant_shaped : (meanings : List Meaning) → AreShaped shapes meanings → (at number : ℕ) (args : List Value)
      → Shaped shapes (meant at (slice_get meanings number) args)
  meant_shaped meanings shaped at number args = by (slice_get meanings number) refl
    where
      by : (found : Option Meaning) → slice_get meanings number ≡ found → Shaped shapes (meant at found args)
      by (Some meaning) is = shaped number meaning is args
      by None is = refused_term _

  values_shaped : (at : ℕ) (r : Result (List Value) Refusal) (f : List Value → Term) → ((args : List Value) → Shaped shapes (f args))
      → Shaped shapes (with_values at r f)
  values_shaped at (Ok args) f shaped = shaped args
  values_shaped at (Err e) f shaped = counted_shaped at (terms.refusal e) (refused_term e)

  both_shaped : (t u : Term) → Shaped shapes t → Shaped shapes u → AreOfShapes shapes (controls_of t ++ controls_of u)
  both_shaped t u left right control m =
      elim (Mem-append_cases (controls_of t) (controls_of u) m) [ inl l ↦ left.of_shapes control l | inr r ↦ right.of_shapes control r ]

  none_there : (control : Control) → Mem control [] → IsOfShapes shapes control
  none_there control m = elim m [ ]

  pub shaped : (meanings : List Meaning) → AreShaped shapes meanings → (env : List Value) (e : Expression) → HasPorts shapes e
      → Shaped shapes (expand shapes meanings env e)
  shaped meanings known env (node at number args ports) has_ports =
      let ports_fit = as_many_ports shapes number (length ports) has_ports in
      values_shaped at (values env args) (node_term at (slice_get shapes number) ports)
      (λ vs. node_shaped at (slice_get shapes number) ports vs (λ shape is. (member_at shapes number shape is, ports_fit shape is)))
  shaped meanings known env (reference at number args) ports_fit =
      values_shaped at (values env args) (λ vs. terms.counted at (meant at (slice_get meanings number) vs))
      (λ vs. counted_shaped at _ (meant_shaped meanings known at number vs))
  shaped meanings known env (names at words) ports_fit = record { arities = tt; of_shapes = none_there }
  shaped meanings known env (identity_of at width words) ports_fit = record { arities = tt; of_shapes = none_there }
  shaped meanings known env (merger_of at width) ports_fit = record { arities = tt; of_shapes = none_there }
  shaped meanings known env (barren at) ports_fit = record { arities = tt; of_shapes = none_there }
  shaped meanings known env (empty at) ports_fit = record { arities = tt; of_shapes = none_there }
  shaped meanings known env (brackets at e) ports_fit = counted_shaped at _ (shaped meanings known env e ports_fit)
  shaped meanings known env (deeper at e) ports_fit =
      let so = shaped meanings known env e ports_fit in record { arities = so.arities; of_shapes = so.of_shapes }
  shaped meanings known env (closure at word e) ports_fit =
      let so = shaped meanings known env e ports_fit in record { arities = so.arities; of_shapes = so.of_shapes }
  shaped meanings known env (nesting at is_atom e d) ports_fit =
      let left = shaped meanings known env e ports_fit.0 in
      let right = shaped meanings known env d ports_fit.1 in
      record { arities = (left.arities, right.arities); of_shapes = both_shaped _ _ left right }
  shaped meanings known env (binary kind at e d) ports_fit =
      let left = shaped meanings known env e ports_fit.0 in
      let right = shaped meanings known env d ports_fit.1 in
      record { arities = (left.arities, right.arities); of_shapes = both_shaped _ _ left right }

  last_shaped : (meanings : List Meaning) (last : Meaning) → AreShaped shapes meanings → ((args : List Value) → Shaped shapes (last args))
      → AreShaped shapes (meanings ++ last ∷ [])
  last_shaped [] last known so zero meaning is args =
      let same : last ≡ meaning = cc in
      subst (λ (m : Meaning). Shaped shapes (m args)) same (so args)
  last_shaped [] last known so (suc number) meaning is args = absurd cc
  last_shaped (m ∷ meanings) last known so zero meaning is args = known zero meaning is args
  last_shaped (m ∷ meanings) last known so (suc number) meaning is args =
      last_shaped meanings last (λ n other there_is. known (suc n) other there_is) so number meaning is args

  after_shaped : (es : List Expression) (meanings : List Meaning) → AreShaped shapes meanings → ((e : Expression) → Mem e es → HasPorts shapes e)
      → AreShaped shapes (meanings_after shapes meanings es)
  after_shaped [] meanings known ports_fit = known
  after_shaped (e ∷ es) meanings known ports_fit =
      after_shaped es (meanings ++ (λ args. expand shapes meanings args e) ∷ [])
      (last_shaped meanings (λ args. expand shapes meanings args e) known (λ args. shaped meanings known args e (ports_fit e (here refl))))
      (λ other m. ports_fit other (there m))

  none_shaped : AreShaped shapes []
  none_shaped zero meaning is args = absurd cc
  none_shaped (suc number) meaning is args = absurd cc

  -- a label tells its word and its arguments, and the word its shape
  one_by_label : (controls : List Control) → AreOfShapes shapes controls → AreOneByLabel controls
  one_by_label controls of_shapes x y x_in y_in same =
      let a = of_shapes x x_in in
      let b = of_shapes y y_in in
      let labels : (control_of_shape a.shape a.args).label ≡ (control_of_shape b.shape b.args).label =
      sym (ap (λ (c : Control). c.label) a.is) ∙ same ∙ ap (λ (c : Control). c.label) b.is in
      let shape_is = are.once a.shape b.shape a.among b.among (ap (λ (l : Label). l.name) labels) in
      a.is ∙ ap (λ s. control_of_shape s a.args) shape_is ∙ ap (control_of_shape b.shape) (ap (λ (l : Label). l.args) labels) ∙ sym b.is

  -- a control of the shapes that enters the signature
  pub entered_fits : (at : ℕ) (shape : Shape) (args : List Value) (before after : List Control) (number : ℕ) → Mem shape shapes → IsSignature before
      → AreOfShapes shapes before → entered at (control_of_shape shape args) before ≡ Ok (number, after) → IsSignature after × AreOfShapes shapes after
  entered_fits at shape args before after number among kept of_shapes is =
      let all = before ++ control_of_shape shape args ∷ [] in
      let all_shaped : AreOfShapes shapes all = λ control m. elim (Mem-append_cases before (control_of_shape shape args ∷ []) m) [ inl l ↦ of_shapes control l | inr r ↦ last control r ] in
      let entry = enters all at (control_of_shape shape args) before number after (one_by_label all all_shaped) kept (are.small shape among)
      (λ x m. Mem-append_left before (control_of_shape shape args ∷ []) m) (Mem-append_right before (control_of_shape shape args ∷ []) (here refl)) is in
      (entry.kept, λ control m. all_shaped control (entry.inside control m))
    where
      last : (control : Control) → Mem control (control_of_shape shape args ∷ []) → IsOfShapes shapes control
      last control (here same) = record { shape = shape; args = args; among = among; is = sym same }
      last control (there m) = elim m [ ]

  pub fits : (definitions : List Expression) → ((e : Expression) → Mem e definitions → HasPorts shapes e)
      → (env : List Value) (e : Expression) → HasPorts shapes e
      → (depth : ℕ) (before after : Reached) (big : Big) → IsSignature before.signature → AreOfShapes shapes before.signature
      → value depth (expand shapes (meanings_of shapes definitions) env e) before ≡ Ok (big, after)
      → FitsShapes shapes after.signature big
  fits definitions fit env e e_fits depth before after big kept of_shapes is =
      let t = expand shapes (meanings_of shapes definitions) env e in
      let so = shaped (meanings_of shapes definitions) (after_shaped definitions [] none_shaped fit) env e e_fits in
      let all = before.signature ++ controls_of t in
      let all_shaped : AreOfShapes shapes all = λ control m.
      elim (Mem-append_cases before.signature (controls_of t) m) [ inl l ↦ of_shapes control l | inr r ↦ so.of_shapes control r ] in
      let made = fitting all (one_by_label all all_shaped) depth t before after big is kept so.arities
      (λ x m. Mem-append_left before.signature (controls_of t) m) (λ x m. Mem-append_right before.signature (controls_of t) m) in
      record { valid = made.fits; kept = made.kept; of_shapes = λ control m. all_shaped control (made.inside control m) }
