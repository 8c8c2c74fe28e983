-- Controls and definitions that become visible in turn.
use Rattle.std.proofs.Common.{◌≡◌, ◌≤◌, ◌++◌, ◌∷◌, [], inl, inr, ℕ, List, is_none, true, Ok, sym, ap, subst, ◌∙◌}
use Rattle.std.proofs.lemmas.List.{append_assoc, append-nil, map-append}
use Rattle.bg_lists.proofs.Members.{Mem-append_cases, Mem-append_left}
use Rattle.bg_base.specs.Limits.{most_ports}
use Rattle.bg_base.specs.declared.big.Big.{Big}
use Rattle.bg_base.specs.declared.labels.Value.{Value}
use Rattle.bg_base.specs.declared.signature.Control.{Control}
use Rattle.bg_base.specs.Signatures.{IsSignature}
use Rattle.bg_trees.specs.declared.expressions.SynE.{SynE}
use Rattle.bg_values.specs.Names.{NamedValue, name_number}
use Rattle.bg_terms.specs.declared.shape.ControlEntry.{ControlEntry}
use Rattle.bg_terms.specs.declared.shape.Shape.{Shape}
use Rattle.bg_terms.specs.Expansion.{expand, meanings_of}
use Rattle.bg_terms.specs.Expressions.{Expression}
use Rattle.bg_terms.specs.Read.{shapes_of, IsRead, AreRead}
use Rattle.bg_terms.specs.Shapes.{HasPorts, AreOfShapes, FitsShapes}
use Rattle.bg_terms.specs.Trees.{Visible, e_read}
use Rattle.bg_terms.specs.Values.{Reached, value}
use Rattle.bg_terms.proofs.Controls.{controls_none, controls_more, controls_shapes, only_one}
use Rattle.bg_terms.proofs.Ports.{ports_read, HasPorts-more}
use Rattle.bg_terms.proofs.ShapesFit.{fits}

-- ---- one expression

pub IsRead-now : (tree : SynE) (visible : Visible) (e : Expression) → (e_read tree).1 visible ≡ Ok e → IsRead (shapes_of visible.controls) e
IsRead-now tree visible e is = record { tree = tree; visible = visible; is = is; later = []; begins = sym (append-nil (shapes_of visible.controls)) }

pub IsRead-more : (shapes others : List Shape) (e : Expression) → IsRead shapes e → IsRead (shapes ++ others) e
IsRead-more shapes others e read = record {
  tree = read.tree;
  visible = read.visible;
  is = read.is;
  later = read.later ++ others;
  begins = ap (λ s. s ++ others) read.begins ∙ append_assoc (shapes_of read.visible.controls) read.later others;
}

pub IsRead-has_ports : (shapes : List Shape) (e : Expression) → IsRead shapes e → HasPorts shapes e
IsRead-has_ports shapes e read =
    subst (λ s. HasPorts s e) (sym read.begins)
    (HasPorts-more (shapes_of read.visible.controls) read.later e (ports_read read.tree read.visible e read.is))

-- ---- all that is visible

pub read_none : AreRead [] []
read_none = record { table = controls_none; each = λ e m. elim m [ ] }

pub read_control : (controls : List (NamedValue ControlEntry)) (definitions : List Expression) (word : List ℕ) (entry : ControlEntry) → AreRead controls definitions
    → is_none (name_number word controls) ≡ true → entry.shape.word ≡ word → entry.shape.arity ≤ most_ports → AreRead (controls ++ (word, entry) ∷ []) definitions
read_control controls definitions word entry are none named small = record {
  table = controls_more controls word entry are.table none named small;
  each = λ e m. subst (λ s. IsRead s e) (sym (map-append (λ (control : NamedValue ControlEntry). control.1.shape) controls ((word, entry) ∷ [])))
      (IsRead-more (shapes_of controls) (entry.shape ∷ []) e (are.each e m));
}

pub read_definition : (controls : List (NamedValue ControlEntry)) (definitions : List Expression) (e : Expression) → AreRead controls definitions
    → IsRead (shapes_of controls) e → AreRead controls (definitions ++ e ∷ [])
read_definition controls definitions e are read = record {
  table = are.table;
  each = λ d m. elim (Mem-append_cases definitions (e ∷ []) m)
      [ inl l ↦ are.each d l | inr r ↦ subst (IsRead (shapes_of controls)) (only_one r) read ];
}

-- ---- values

pub read_fits : (controls : List (NamedValue ControlEntry)) (definitions : List Expression) → AreRead controls definitions
    → (env : List Value) (e : Expression) → IsRead (shapes_of controls) e
    → (depth : ℕ) (before after : Reached) (big : Big) → IsSignature before.signature → AreOfShapes (shapes_of controls) before.signature
    → value depth (expand (shapes_of controls) (meanings_of (shapes_of controls) definitions) env e) before ≡ Ok (big, after)
    → FitsShapes (shapes_of controls) after.signature big
read_fits controls definitions are env e read =
    let shapes = shapes_of controls in
    fits shapes (controls_shapes controls are.table) definitions (λ d m. IsRead-has_ports shapes d (are.each d m)) env e (IsRead-has_ports shapes e read)

pub AreOfShapes-more : (shapes others : List Shape) (signature : List Control) → AreOfShapes shapes signature → AreOfShapes (shapes ++ others) signature
AreOfShapes-more shapes others signature are control m =
    let so = are control m in
    record { shape = so.shape; args = so.args; among = Mem-append_left shapes others so.among; is = so.is }
