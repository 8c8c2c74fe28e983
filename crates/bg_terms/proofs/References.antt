-- An expression without references.
use Rattle.std.proofs.Common.{◌≡◌, List, refl, ap, ◌∙◌}
use Rattle.bg_base.specs.declared.labels.Value.{Value}
use Rattle.bg_terms.specs.Expressions.{Expression, node, reference, names, identity_of, merger_of, barren, empty, brackets, deeper, closure, nesting, binary}
use Rattle.bg_terms.specs.Terms as terms
use Rattle.bg_terms.specs.declared.shape.Shape.{Shape}
use Rattle.bg_terms.specs.Expansion.{Meaning, expand, HasNoReference}

pub expands_alone : (shapes : List Shape) (meanings others : List Meaning) (env : List Value) (e : Expression) → HasNoReference e
    → expand shapes meanings env e ≡ expand shapes others env e
expands_alone shapes meanings others env (node at number args ports) none = refl
expands_alone shapes meanings others env (reference at number args) none = absurd none
expands_alone shapes meanings others env (names at words) none = refl
expands_alone shapes meanings others env (identity_of at width words) none = refl
expands_alone shapes meanings others env (merger_of at width) none = refl
expands_alone shapes meanings others env (barren at) none = refl
expands_alone shapes meanings others env (empty at) none = refl
expands_alone shapes meanings others env (brackets at e) none = ap (terms.counted at) (expands_alone shapes meanings others env e none)
expands_alone shapes meanings others env (deeper at e) none = ap (terms.deeper at) (expands_alone shapes meanings others env e none)
expands_alone shapes meanings others env (closure at word e) none = ap (terms.closure at word) (expands_alone shapes meanings others env e none)
expands_alone shapes meanings others env (nesting at is_atom e d) none =
    ap (λ t. terms.nesting at is_atom t (expand shapes meanings env d)) (expands_alone shapes meanings others env e none.0)
    ∙ ap (λ t. terms.nesting at is_atom (expand shapes others env e) t) (expands_alone shapes meanings others env d none.1)
expands_alone shapes meanings others env (binary kind at e d) none =
    ap (λ t. terms.binary kind at t (expand shapes meanings env d)) (expands_alone shapes meanings others env e none.0)
    ∙ ap (λ t. terms.binary kind at (expand shapes others env e) t) (expands_alone shapes meanings others env d none.1)
