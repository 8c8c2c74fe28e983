-- What a whole expression comes to is numbered from zero, with plain outer names, and within the limits.
use Rattle.std.proofs.Common.{◌≡◌, ◌≤◌, ℕ, List, length, Ok, All, IsTrue, refl, sym, ap, subst, ◌∙◌, arith}
use Rattle.std.proofs.lemmas.List.{length-map}
use Rattle.bg_lists.proofs.Words.{length-filter}
use Rattle.bg_base.specs.declared.big.Big.{Big}
use Rattle.bg_base.specs.declared.big.NodeRow.{NodeRow}
use Rattle.bg_base.specs.declared.names.Link.TheVariants.{Edge}
use Rattle.bg_base.specs.declared.names.Name.{Name}
use Rattle.bg_base.specs.Bigraph.{IsValid}
use Rattle.bg_base.specs.Elementary.{counted}
use Rattle.bg_base.specs.Products.{lean, has_point}
use Rattle.bg_base.specs.Translation.{rename, node_numbers}
use Rattle.bg_base.proofs.ProductLaws.{lean_outer}
use Rattle.bg_base.proofs.Counted.{length-counted}
use Rattle.bg_algebra.proofs.Changes.{lean_valid}
use Rattle.bg_algebra.proofs.Renamed.{rename_valid}
use Rattle.bg_algebra.specs.Frame.{is_plain}
use Rattle.bg_machine.specs.declared.met.Met.{Met}
use Rattle.bg_machine.specs.Calls.{evaluated, valued}
use Rattle.bg_machine.specs.Whole.{whole}
use Rattle.bg_machine.proofs.Wholes.{edges_differ, as_many_edges, nodes_differ, as_many_nodes, whole_nodes, whole_edges, whole_used}
use Rattle.bg_statements.specs.RuleValues.{Setting, term_in, whole_value}
use Rattle.bg_statements.specs.Settings.{IsWholeValue}
use Rattle.bg_terms.specs.Expressions.{Expression}
use Rattle.bg_terms.specs.Numbering.{symbols}
use Rattle.bg_terms.specs.Terms.{Term}
use Rattle.bg_terms.specs.Values.{Reached, value}
use Rattle.bg_terms.proofs.Limits.{value_limited}
use Rattle.bg_terms.proofs.Numbered.{bound, numbered}
use Rattle.bg_terms.proofs.OuterNames.{outer_plain}
use Rattle.bg_terms.proofs.Valid.{valid}
use Rattle.bg_values.proofs.Bindings.{ok_same}

-- ---- numbers in a row from 0 are as many as there are

as_long : (numbers : List ℕ) (count : ℕ) → numbers ≡ counted 0 count → numbers ≡ counted 0 (length numbers)
as_long numbers count is = is ∙ ap (λ n. counted 0 n) (sym (ap length is ∙ length-counted 0 count))

rows_as_long : (rows : List NodeRow) (count : ℕ) → node_numbers rows ≡ counted 0 count → node_numbers rows ≡ counted 0 (length rows)
rows_as_long rows count is =
    as_long (node_numbers rows) count is ∙ ap (λ n. counted 0 n) (length-map rows (λ (row : NodeRow). row.id))

-- ---- the end of a whole expression

rename_outer : (big : Big) (nodes edges : List ℕ) → (rename big nodes edges).outer ≡ big.outer
unfolding rename
rename_outer big nodes edges = refl

whole_outer : (big : Big) → (whole big).outer ≡ big.outer
whole_outer big = rename_outer (lean big) (node_numbers (lean big).nodes) (counted 0 (length (lean big).edges)) ∙ lean_outer big

lean_edges : (big : Big) → length (lean big).edges ≤ length big.edges
unfolding lean
lean_edges big = length-filter (λ edge. has_point big (Edge edge)) big.edges

whole_valid : (big : Big) → IsValid big → IsValid (whole big)
whole_valid big valid =
    let count = length (lean big).edges in
    let so = lean_valid big valid in
    rename_valid (lean big) (node_numbers (lean big).nodes) (counted 0 count) so (as_many_nodes (lean big).nodes) (as_many_edges count)
    (nodes_differ (lean big) so) (edges_differ count)

-- as many nodes, and at most as many edges
whole_length : (big : Big) → IsValid big → length (whole big).nodes ≡ length big.nodes
whole_length big valid =
    as_many_nodes (whole big).nodes ∙ ap length (whole_nodes big valid) ∙ sym (as_many_nodes big.nodes)

whole_edges_long : (big : Big) → length (whole big).edges ≡ length (lean big).edges
whole_edges_long big = ap length (whole_edges big) ∙ length-counted 0 (length (lean big).edges)

-- ---- the value

whole_of : (t : Term) (c d : Reached) (big : Big) → c.nodes ≡ 0 → value 0 t c ≡ Ok (big, d) → IsWholeValue (whole big)
whole_of t c d big none is =
    let so = valid 0 t c d big is in
    let limited = value_limited 0 t c d big is in
    let numbers = (numbered 0 t c d big is).numbers ∙ ap (λ n. counted n (symbols t)) none in
    let as_many = whole_length big so in
    let edges_long = whole_edges_long big in
    let fewer = lean_edges big in
    record {
      whole = record { valid = whole_valid big so; edges_used = whole_used big so };
      numbered = record {
        nodes_counted = rows_as_long (whole big).nodes (symbols t) (whole_nodes big so ∙ numbers);
        edges_counted = as_long (whole big).edges (length (lean big).edges) (whole_edges big);
      };
      names_plain = subst (λ names. All (λ (name : Name). IsTrue (is_plain name)) names) (sym (whole_outer big)) (outer_plain 0 t c d big is);
      few_nodes = omega (arith, as_many, limited.nodes_few);
      few_edges = omega (arith, edges_long, fewer, limited.edges_few);
    }

pub whole_value_is : (s : Setting) (e : Expression) (met : Met) (v : Big × Met) → whole_value s e met ≡ Ok v → IsWholeValue v.0
whole_value_is s e met v is =
    let a = bound (valued (evaluated met (term_in s e))) (λ (w : Big × Met). Ok (whole w.0, w.1)) v is in
    let b = bound (evaluated met (term_in s e)) _ a.found a.is in
    let same : whole b.found.0 ≡ v.0 =
    ap (λ (w : Big × Met). whole w.0) (ok_same b.goes_on) ∙ ap (λ (w : Big × Met). w.0) (ok_same a.goes_on) in
    subst IsWholeValue same (whole_of (term_in s e) _ b.found.1 b.found.0 refl b.is)
