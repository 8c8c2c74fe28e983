-- The nodes of a value stand in the order of the control symbols, and the signature goes on.
use Rattle.std.proofs.Common.{◌≡◌, ◌+◌, ◌++◌, ◌∷◌, [], ℕ, zero, suc, Bool, true, false, List, map, length, Option, Some, None, Ok, refl, sym, ap, subst, ◌∙◌, arith}
use Rattle.std.proofs.lemmas.List.{map-append, append_assoc, append-nil}
use Rattle.std.specs.Prelude.{if◌then◌else◌, is_some, nat_lt, option_map}
use Rattle.std.specs.Ordering.{is_lt}
use Rattle.bg_lists.proofs.Comparisons.{nat_cmp-lt}
use Rattle.bg_lists.specs.Lists.{put, sort}
use Rattle.bg_lists.specs.Orders.{before, set_of}
use Rattle.bg_base.specs.Limits.{most_controls, most_expression_places}
use Rattle.bg_base.specs.declared.names.Name.{Name}
use Rattle.bg_base.specs.declared.names.Name.TheVariants.{Plain}
use Rattle.bg_base.specs.declared.big.NodeRow.{NodeRow}
use Rattle.bg_base.specs.declared.big.Big.{Big}
use Rattle.bg_base.specs.declared.labels.Label.{Label}
use Rattle.bg_base.specs.declared.signature.Control.{Control}
use Rattle.bg_base.specs.declared.signature.Kind.{Kind}
use Rattle.bg_base.specs.declared.signature.Kind.TheVariants.{Normal, Atomic}
use Rattle.bg_base.specs.Order.{name_cmp}
use Rattle.bg_base.specs.Bigraph.{node_cmp, outer_of}
use Rattle.bg_base.specs.Elementary.{counted, identity, merger, idle, barren, empty, ion, atom}
use Rattle.bg_base.specs.Composition.{compose, row_through}
use Rattle.bg_base.specs.Products.{tensor, parallel, merge, nest, close, row_beside, row_in_one, row_closed}
use Rattle.bg_base.specs.Signatures.{control_number}
use Rattle.bg_base.specs.Translation.{node_numbers}
use Rattle.bg_values.proofs.Bindings.{ok_same}
use Rattle.bg_values.proofs.Items.{last_item}
use Rattle.bg_terms.specs.declared.shape.BinaryOperation.{BinaryOperation}
use Rattle.bg_terms.specs.declared.shape.BinaryOperation.TheVariants.{Composition, Tensor, Parallel, Merge}
use Rattle.bg_terms.specs.Terms as terms
use Rattle.bg_terms.specs.Terms.{Term}
use Rattle.bg_terms.specs.Values.{Reached, value, tallied, entered, entered_at, single, wide, plain_names, nested, combined, name_closed}
use Rattle.bg_terms.specs.Numbering.{symbols}
use Rattle.bg_terms.specs.Order.{controls_of, label_at, labels_of, labels_there, AreInOrder}
use Rattle.bg_terms.proofs.Labels.{found, still_labelled}
use Rattle.bg_terms.proofs.Numbers.{counted_both, numbers_kept, none_more, wider_numbers}
use Rattle.bg_terms.proofs.Numbered.{bound, tested, untested, Same, within_same, nested_same, numbered}

-- ---- rows whose numbers are in a row stand in their order

first_put : (row : NodeRow) (rows : List NodeRow) (from count : ℕ) → row.id ≡ from → node_numbers rows ≡ counted (suc from) count
    → put (before node_cmp) row rows ≡ row ∷ rows
unfolding put counted
first_put row [] from count is numbers = refl
first_put row (other ∷ rows) from zero is numbers = absurd cc
first_put row (other ∷ rows) from (suc count) is numbers =
    let next : other.id ≡ suc from = cc in
    ap (λ o. if is_lt o then row ∷ other ∷ rows else other ∷ put (before node_cmp) row rows) (nat_cmp-lt row.id other.id (omega (arith, is, next)))

rows_sorted : (rows : List NodeRow) (from count : ℕ) → node_numbers rows ≡ counted from count → sort (before node_cmp) rows ≡ rows
unfolding sort counted
rows_sorted [] from count numbers = refl
rows_sorted (row ∷ rows) from zero numbers = absurd cc
rows_sorted (row ∷ rows) from (suc count) numbers =
    let first : row.id ≡ from = cc in
    let others : node_numbers rows ≡ counted (suc from) count = cc in
    ap (put (before node_cmp) row) (rows_sorted rows (suc from) count others) ∙ first_put row rows from count first others

-- ---- the controls of rows

abbrev controls_in : List NodeRow → List ℕ
controls_in rows = map (λ (row : NodeRow). row.control) rows

controls_kept : (f : NodeRow → NodeRow) → ((row : NodeRow) → (f row).control ≡ row.control) → (rows : List NodeRow) → controls_in (map f rows) ≡ controls_in rows
controls_kept f keeps [] = refl
controls_kept f keeps (row ∷ rows) = ap (λ n. n ∷ controls_in (map f rows)) (keeps row) ∙ ap (λ ns. row.control ∷ ns) (controls_kept f keeps rows)

-- rows with numbers in a row, and behind them more, under a map that keeps numbers and controls
joined : (f : NodeRow → NodeRow) → ((row : NodeRow) → (f row).id ≡ row.id) → ((row : NodeRow) → (f row).control ≡ row.control)
    → (rows others : List NodeRow) (from count more : ℕ) → node_numbers rows ≡ counted from count → node_numbers others ≡ counted (from + count) more
    → controls_in (sort (before node_cmp) (rows ++ map f others)) ≡ controls_in rows ++ controls_in others
joined f same_id same_control rows others from count more first second =
    ap controls_in (rows_sorted (rows ++ map f others) from (count + more)
    (map-append (λ (row : NodeRow). row.id) rows (map f others)
    ∙ ap (λ ns. ns ++ node_numbers (map f others)) first
    ∙ ap (λ ns. counted from count ++ ns) (numbers_kept f same_id others ∙ second)
    ∙ counted_both from count more))
    ∙ map-append (λ (row : NodeRow). row.control) rows (map f others)
    ∙ ap (λ ns. controls_in rows ++ ns) (controls_kept f same_control others)

-- ---- the operations

-- G's rows stand behind F's, with the controls that they have
abbrev Follow : (f g whole : Big) (from count more : ℕ) → Type 0
Follow f g whole from count more =
    node_numbers f.nodes ≡ counted from count → node_numbers g.nodes ≡ counted (from + count) more
    → controls_in whole.nodes ≡ controls_in f.nodes ++ controls_in g.nodes

tensor_controls : (f g : Big) (from count more : ℕ) → Follow f g (tensor f g) from count more
unfolding tensor
tensor_controls f g from count more = joined (row_beside f.regions) (λ row. refl) (λ row. refl) f.nodes g.nodes from count more

parallel_controls : (f g : Big) (from count more : ℕ) → Follow f g (parallel f g) from count more
unfolding parallel
parallel_controls f g from count more = joined (row_beside f.regions) (λ row. refl) (λ row. refl) f.nodes g.nodes from count more

merge_controls : (f g : Big) (from count more : ℕ) → Follow f g (merge f g) from count more
unfolding merge
merge_controls f g from count more first second =
    controls_kept row_in_one (λ row. refl) (parallel f g).nodes ∙ parallel_controls f g from count more first second

compose_controls : (g f : Big) (from count more : ℕ) → Follow g f (compose g f) from count more
unfolding compose
compose_controls g f from count more = joined (row_through g) (λ row. refl) (λ row. refl) g.nodes f.nodes from count more

wider_controls : (f : Big) (names : List Name) (from count : ℕ) → node_numbers f.nodes ≡ counted from count
    → controls_in (parallel (identity 0 names) f).nodes ≡ controls_in f.nodes
unfolding parallel identity counted
wider_controls f names from count is =
    joined (row_beside 0) (λ row. refl) (λ row. refl) [] f.nodes from 0 count refl (is ∙ ap (λ n. counted n count) (sym (none_more from)))

nest_controls : (f g : Big) (from count more : ℕ) → Follow f g (nest f g) from count more
unfolding nest
nest_controls f g from count more first second =
    compose_controls (parallel (identity 0 g.outer) f) g from count more (wider_numbers f g.outer from count first) second
    ∙ ap (λ ns. ns ++ controls_in g.nodes) (wider_controls f g.outer from count first)

close_controls : (edge : ℕ) (name : Name) (big : Big) → controls_in (close big name edge).nodes ≡ controls_in big.nodes
unfolding close
close_controls edge name big = controls_kept (row_closed name edge) (λ row. refl) big.nodes

closed_controls : (edge : ℕ) (name : Name) (big : Big) → controls_in (name_closed edge name big).nodes ≡ controls_in big.nodes
closed_controls edge name big = by (is_some (outer_of big.outer name))
  where
    by : (b : Bool) → controls_in (if b then close big name edge else big).nodes ≡ controls_in big.nodes
    by true = close_controls edge name big
    by false = refl

combined_controls : (kind : BinaryOperation) (at : ℕ) (f g whole : Big) (from count more : ℕ) → combined kind at f g ≡ Ok whole → Follow f g whole from count more
combined_controls Composition at g f whole from count more is first second =
    ap (λ (b : Big). controls_in b.nodes) (sym (ok_same (tested _ _ _ _ is))) ∙ compose_controls g f from count more first second
combined_controls Tensor at f g whole from count more is first second =
    ap (λ (b : Big). controls_in b.nodes) (sym (ok_same (untested _ _ _ _ is))) ∙ tensor_controls f g from count more first second
combined_controls Parallel at f g whole from count more is first second =
    ap (λ (b : Big). controls_in b.nodes) (sym (ok_same (untested _ _ _ _ is))) ∙ parallel_controls f g from count more first second
combined_controls Merge at f g whole from count more is first second =
    ap (λ (b : Big). controls_in b.nodes) (sym (ok_same (untested _ _ _ _ is))) ∙ merge_controls f g from count more first second

single_controls : (kind : Kind) (control number : ℕ) (names : List Name) → controls_in (single kind control number names).nodes ≡ control ∷ []
unfolding ion atom
single_controls Normal control number names = refl
single_controls Atomic control number names = refl

-- ---- labels

-- the labels of these numbers
abbrev labels_at : List Control → List ℕ → List (Option Label)
labels_at signature numbers = map (label_at signature) numbers

labels_by_rows : (signature : List Control) (rows : List NodeRow) → labels_of signature rows ≡ labels_at signature (controls_in rows)
labels_by_rows signature [] = refl
labels_by_rows signature (row ∷ rows) = ap (λ ls. label_at signature row.control ∷ ls) (labels_by_rows signature rows)

labels_stay : (signature more controls : List Control) (numbers : List ℕ) → labels_at signature numbers ≡ labels_there controls
    → labels_at (signature ++ more) numbers ≡ labels_there controls
labels_stay signature more [] [] is = refl
labels_stay signature more [] (number ∷ numbers) is = absurd cc
labels_stay signature more (control ∷ controls) [] is = absurd cc
labels_stay signature more (control ∷ controls) (number ∷ numbers) is =
    let first : label_at signature number ≡ Some control.label = cc in
    let others : labels_at signature numbers ≡ labels_there controls = cc in
    let first_stays : label_at (signature ++ more) number ≡ Some control.label = still_labelled signature more number control.label first in
    let others_stay : labels_at (signature ++ more) numbers ≡ labels_there controls = labels_stay signature more controls numbers others in cc

-- the signature goes on, and in it the numbers have the labels of these controls
record Labelled (before controls : List Control) (numbers : List ℕ) (after : List Control) : Type 0 where
  entered : List Control
  goes_on : after ≡ before ++ entered
  labels : labels_at after numbers ≡ labels_there controls

-- a control symbol
record Enters (before : List Control) (control : Control) (number : ℕ) (after : List Control) : Type 0 where
  entered : List Control
  goes_on : after ≡ before ++ entered
  label : label_at after number ≡ Some control.label

enters : (at : ℕ) (control : Control) (before : List Control) (number : ℕ) (after : List Control) → entered at control before ≡ Ok (number, after)
    → Enters before control number after
enters at control before number after is = by (control_number before control.label) refl is
  where
    by : (o : Option ℕ) → control_number before control.label ≡ o → entered_at at control before o ≡ Ok (number, after) → Enters before control number after
    by (Some found_at) there e =
        let one = found before control.label found_at there in
        let pair : (found_at, before) ≡ (number, after) = ok_same e in
        let same : before ≡ after = ap (λ (p : ℕ × List Control). p.1) pair in
        let number_is : found_at ≡ number = ap (λ (p : ℕ × List Control). p.0) pair in
        record {
          entered = [];
          goes_on = sym same ∙ sym (append-nil before);
          label = ap (λ s. label_at s number) (sym same) ∙ ap (label_at before) (sym number_is)
              ∙ ap (option_map (λ (c : Control). c.label)) one.there ∙ ap Some one.labelled;
        }
    by None there e =
        let pair = ok_same (tested (nat_lt (length before) most_controls) (Ok (length before, before ++ control ∷ [])) _ (number, after) e) in
        let number_is : length before ≡ number = ap (λ (p : ℕ × List Control). p.0) pair in
        let after_is : before ++ control ∷ [] ≡ after = ap (λ (p : ℕ × List Control). p.1) pair in
        record {
          entered = control ∷ [];
          goes_on = sym after_is;
          label = ap (λ s. label_at s number) (sym after_is) ∙ ap (label_at (before ++ control ∷ [])) (sym number_is)
              ∙ ap (option_map (λ (c : Control). c.label)) (last_item before control);
        }

-- ---- each form

bare : (before after : List Control) (numbers : List ℕ) → numbers ≡ [] → after ≡ before → Labelled before [] numbers after
bare before after numbers none same = record { entered = []; goes_on = same ∙ sym (append-nil before); labels = ap (labels_at after) none }

both : (before mid after left right : List Control) (ms ns whole : List ℕ) → Labelled before left ms mid → Labelled mid right ns after → whole ≡ ms ++ ns
    → Labelled before (left ++ right) whole after
both before mid after left right ms ns whole first second is =
    record {
      entered = first.entered ++ second.entered;
      goes_on = second.goes_on ∙ ap (λ s. s ++ second.entered) first.goes_on ∙ append_assoc before first.entered second.entered;
      labels = ap (labels_at after) is ∙ map-append (label_at after) ms ns
          ∙ ap (λ ls. ls ++ labels_at after ns)
          (ap (λ s. labels_at s ms) second.goes_on ∙ labels_stay mid second.entered left ms first.labels)
          ∙ ap (λ ls. labels_there left ++ ls) second.labels
          ∙ sym (map-append (λ (c : Control). Some c.label) left right);
    }

kept : (before controls after : List Control) (numbers others : List ℕ) (last : List Control) → Labelled before controls numbers after → others ≡ numbers → last ≡ after
    → Labelled before controls others last
kept before controls after numbers others last so same reached =
    record { entered = so.entered; goes_on = reached ∙ so.goes_on; labels = ap (λ s. labels_at s others) reached ∙ ap (labels_at after) same ∙ so.labels }

pub tallied_signature : (at : ℕ) (c d : Reached) → tallied at c ≡ Ok d → d.signature ≡ c.signature
tallied_signature at c d is = sym (ap (λ (r : Reached). r.signature) (ok_same (tested _ _ _ _ is)))

pub wide_same : (at width : ℕ) (big found : Big) → wide at width big ≡ Ok found → found ≡ big
wide_same at width big found is = sym (ok_same (untested (nat_lt most_expression_places width) (Ok big) _ found is))

-- a form without nodes: the bigraph is kept, and the signature too
plain : (at : ℕ) (c t d : Reached) (big whole : Big) → tallied at c ≡ Ok t → Same big whole t d → controls_in big.nodes ≡ []
    → Labelled c.signature [] (controls_in whole.nodes) d.signature
plain at c t d big whole tally same none =
    bare c.signature d.signature (controls_in whole.nodes) (ap (λ (b : Big). controls_in b.nodes) same.big_is ∙ none)
    (ap (λ (r : Reached). r.signature) same.reached_is ∙ tallied_signature at c t tally)

labelled : (depth : ℕ) (t : Term) (c d : Reached) (big : Big) → value depth t c ≡ Ok (big, d)
    → Labelled c.signature (controls_of t) (controls_in big.nodes) d.signature
unfolding idle identity merger barren empty
labelled depth (terms.refusal r) c d big is = absurd cc
labelled depth (terms.node at control words) c d big is =
    let first = bound (tallied at c) _ (big, d) is in
    let t = first.found in
    let second = bound (entered at control t.signature) _ (big, d) first.goes_on in
    let one = single control.kind second.found.0 t.nodes (plain_names words) in
    let same = within_same at one big (record t { signature = second.found.1; nodes = t.nodes + 1 }) d second.goes_on in
    let enter = enters at control t.signature second.found.0 second.found.1 second.is in
    let after_is : d.signature ≡ second.found.1 = ap (λ (r : Reached). r.signature) same.reached_is in
    record {
      entered = enter.entered;
      goes_on = after_is ∙ enter.goes_on ∙ ap (λ s. s ++ enter.entered) (tallied_signature at c t first.is);
      labels = ap (λ s. labels_at s (controls_in big.nodes)) after_is
          ∙ ap (labels_at second.found.1) (ap (λ (b : Big). controls_in b.nodes) same.big_is ∙ single_controls control.kind second.found.0 t.nodes (plain_names words))
          ∙ ap (λ l. l ∷ []) enter.label;
    }
labelled depth (terms.names at words) c d big is =
    let first = bound (tallied at c) _ (big, d) is in
    let whole = idle (set_of name_cmp (plain_names words)) in
    plain at c first.found d whole big first.is (within_same at whole big first.found d first.goes_on) refl
labelled depth (terms.identity_of at width words) c d big is =
    let first = bound (tallied at c) _ (big, d) is in
    let whole = identity width (set_of name_cmp (plain_names words)) in
    let second = bound (wide at width whole) _ (big, d) first.goes_on in
    plain at c first.found d second.found big first.is (within_same at second.found big first.found d second.goes_on)
    (ap (λ (b : Big). controls_in b.nodes) (wide_same at width whole second.found second.is))
labelled depth (terms.merger_of at width) c d big is =
    let first = bound (tallied at c) _ (big, d) is in
    let second = bound (wide at width (merger width)) _ (big, d) first.goes_on in
    plain at c first.found d second.found big first.is (within_same at second.found big first.found d second.goes_on)
    (ap (λ (b : Big). controls_in b.nodes) (wide_same at width (merger width) second.found second.is))
labelled depth (terms.barren at) c d big is =
    let first = bound (tallied at c) _ (big, d) is in
    plain at c first.found d barren big first.is (within_same at barren big first.found d first.goes_on) refl
labelled depth (terms.empty at) c d big is =
    let first = bound (tallied at c) _ (big, d) is in
    plain at c first.found d empty big first.is (within_same at empty big first.found d first.goes_on) refl
labelled depth (terms.counted at t) c d big is =
    let first = bound (tallied at c) (value depth t) (big, d) is in
    subst (λ s. Labelled s (controls_of t) (controls_in big.nodes) d.signature) (tallied_signature at c first.found first.is)
    (labelled depth t first.found d big first.goes_on)
labelled depth (terms.deeper at t) c d big is = labelled (depth + 1) t c d big (tested _ _ _ _ is)
labelled depth (terms.closure at word t) c d big is =
    let start : Reached = record c { edges = c.edges + 1 } in
    let first = bound (value depth t start) _ (big, d) is in
    let f = first.found.0 in
    let same = within_same at (name_closed c.edges (Plain word) f) big first.found.1 d first.goes_on in
    kept c.signature (controls_of t) first.found.1.signature (controls_in f.nodes) (controls_in big.nodes) d.signature
    (labelled depth t start first.found.1 f first.is)
    (ap (λ (b : Big). controls_in b.nodes) same.big_is ∙ closed_controls c.edges (Plain word) f)
    (ap (λ (r : Reached). r.signature) same.reached_is)
labelled depth (terms.nesting at is_atom t u) c d big is =
    let first = bound (value depth t c) _ (big, d) is in
    let f = first.found.0 in
    let second = bound (value depth u first.found.1) _ (big, d) first.goes_on in
    let g = second.found.0 in
    let third = bound (nested at is_atom f g) _ (big, d) second.goes_on in
    let same = within_same at third.found big second.found.1 d third.goes_on in
    let f_nodes = numbered depth t c first.found.1 f first.is in
    let g_nodes = numbered depth u first.found.1 second.found.1 g second.is in
    both c.signature first.found.1.signature d.signature (controls_of t) (controls_of u) (controls_in f.nodes) (controls_in g.nodes) (controls_in big.nodes)
    (labelled depth t c first.found.1 f first.is)
    (subst (Labelled first.found.1.signature (controls_of u) (controls_in g.nodes)) (sym (ap (λ (r : Reached). r.signature) same.reached_is))
    (labelled depth u first.found.1 second.found.1 g second.is))
    (ap (λ (b : Big). controls_in b.nodes) (same.big_is ∙ sym (nested_same at is_atom f g third.found third.is))
    ∙ nest_controls f g c.nodes (symbols t) (symbols u) f_nodes.numbers (g_nodes.numbers ∙ ap (λ n. counted n (symbols u)) f_nodes.next))
labelled depth (terms.binary kind at t u) c d big is =
    let first = bound (value depth t c) _ (big, d) is in
    let f = first.found.0 in
    let second = bound (value depth u first.found.1) _ (big, d) first.goes_on in
    let g = second.found.0 in
    let third = bound (combined kind at f g) _ (big, d) second.goes_on in
    let same = within_same at third.found big second.found.1 d third.goes_on in
    let f_nodes = numbered depth t c first.found.1 f first.is in
    let g_nodes = numbered depth u first.found.1 second.found.1 g second.is in
    both c.signature first.found.1.signature d.signature (controls_of t) (controls_of u) (controls_in f.nodes) (controls_in g.nodes) (controls_in big.nodes)
    (labelled depth t c first.found.1 f first.is)
    (subst (Labelled first.found.1.signature (controls_of u) (controls_in g.nodes)) (sym (ap (λ (r : Reached). r.signature) same.reached_is))
    (labelled depth u first.found.1 second.found.1 g second.is))
    (ap (λ (b : Big). controls_in b.nodes) same.big_is
    ∙ combined_controls kind at f g third.found c.nodes (symbols t) (symbols u) third.is f_nodes.numbers
    (g_nodes.numbers ∙ ap (λ n. counted n (symbols u)) f_nodes.next))

pub in_order : (depth : ℕ) (t : Term) (c d : Reached) (big : Big) → value depth t c ≡ Ok (big, d)
    → AreInOrder c.signature (controls_of t) big d.signature
in_order depth t c d big is =
    let so = labelled depth t c d big is in
    record { entered = so.entered; goes_on = so.goes_on; labels = labels_by_rows d.signature big.nodes ∙ so.labels }
