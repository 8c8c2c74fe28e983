-- What a term comes to is valid under the signature reached, where its symbols have the arities of their controls.
use Rattle.std.proofs.Common.{◌≡◌, ◌+◌, ◌<◌, ◌≤◌, ◌++◌, ◌∷◌, [], ◌||◌, inl, inr, ℕ, Bool, true, false, List, length, Option, Some, None, Result, Ok, Err, refl, sym, ap, subst, ◌∙◌, arith}
use Rattle.std.specs.Prelude.{if◌then◌else◌, is_some, nat_lt, option_map, slice_get, unwrap_or}
use Rattle.std.proofs.lemmas.List.{length-append, length-map}
use Rattle.std.proofs.lemmas.Option.{slice_get_within}
use Rattle.bg_lists.specs.Lists.{Mem, here, there}
use Rattle.bg_lists.specs.Orders.{set_of}
use Rattle.bg_lists.proofs.Members.{Mem-append_left, Mem-append_right, Mem-append_cases}
use Rattle.bg_lists.proofs.Words.{All-member}
use Rattle.bg_lists.proofs.Places.{slice_get-append_left}
use Rattle.bg_base.specs.Limits.{most_controls, most_ports}
use Rattle.bg_base.specs.declared.names.Name.{Name}
use Rattle.bg_base.specs.declared.names.Name.TheVariants.{Plain}
use Rattle.bg_base.specs.declared.names.Place.{Place}
use Rattle.bg_base.specs.declared.names.Place.TheVariants.{Node, Region}
use Rattle.bg_base.specs.declared.big.NodeRow.{NodeRow}
use Rattle.bg_base.specs.declared.big.Big.{Big}
use Rattle.bg_base.specs.declared.signature.Control.{Control}
use Rattle.bg_base.specs.declared.signature.Kind.{Kind}
use Rattle.bg_base.specs.declared.signature.Kind.TheVariants.{Normal, Atomic}
use Rattle.bg_base.specs.Order.{name_cmp}
use Rattle.bg_base.specs.Bigraph.{IsValidUnder, row_of, outer_of, arity_of, is_atomic, is_atomic_control, is_atomic_kind}
use Rattle.bg_base.specs.Composition.{compose, faces_agree, SupportsApart}
use Rattle.bg_base.specs.Elementary.{identity, merger, idle, barren, empty}
use Rattle.bg_base.specs.Products.{tensor, parallel, merge, close}
use Rattle.bg_base.specs.Signatures.{IsSignature, control_number}
use Rattle.bg_base.proofs.LookUps.{row_from_row_of}
use Rattle.bg_base.proofs.SignatureLaws.{one_more_control}
use Rattle.bg_base.proofs.ComposedValid.{compose_valid_under}
use Rattle.bg_base.proofs.CompositionTests.{FacesAgree-from_test}
use Rattle.bg_algebra.proofs.Parts.{valid_under_from_rows}
use Rattle.bg_algebra.proofs.Beside.{parallel_valid_under, tensor_valid_under}
use Rattle.bg_algebra.proofs.Changes.{close_valid_under}
use Rattle.bg_algebra.proofs.Merged.{merge_valid_under}
use Rattle.bg_algebra.proofs.Nested.{identity_valid_under, idle_valid_under, merger_valid_under, barren_valid_under, empty_valid_under, ion_valid_under, atom_valid_under, nest_valid_under}
use Rattle.bg_values.specs.declared.refusal.Refusal.{Refusal}
use Rattle.bg_values.proofs.Bindings.{ok_same}
use Rattle.bg_values.proofs.Items.{member_at, last_item}
use Rattle.bg_terms.specs.Arities.{HaveArities, AreOneByLabel}
use Rattle.bg_terms.specs.declared.shape.BinaryOperation.{BinaryOperation}
use Rattle.bg_terms.specs.declared.shape.BinaryOperation.TheVariants.{Composition, Tensor, Parallel, Merge}
use Rattle.bg_terms.specs.Order.{controls_of}
use Rattle.bg_terms.specs.Terms as terms
use Rattle.bg_terms.specs.Terms.{Term}
use Rattle.bg_terms.specs.Values.{Reached, value, tallied, entered, entered_at, single, wide, plain_names, nested, combined, name_closed, inner_meets, outer_meets}
use Rattle.bg_terms.proofs.Closures.{within_closures}
use Rattle.bg_terms.proofs.Labels.{found}
use Rattle.bg_terms.proofs.Numbered.{bound, tested, Same, within_same}
use Rattle.bg_terms.proofs.Ordered.{in_order, wide_same, tallied_signature}
use Rattle.bg_terms.proofs.Valid.{apart_values, inner_apart, outer_apart, nests, set_up}

-- ---- a signature that goes on

same_arity : (signature more : List Control) (number : ℕ) → number < length signature → arity_of (signature ++ more) number ≡ arity_of signature number
same_arity signature more number below =
    ap (λ o. unwrap_or (option_map (λ (found : Control). found.arity) o) 0) (slice_get-append_left signature more number below)

same_kind : (signature more : List Control) (number : ℕ) → number < length signature
    → is_atomic_control (signature ++ more) number ≡ is_atomic_control signature number
same_kind signature more number below =
    ap (λ o. unwrap_or (option_map (λ (found : Control). is_atomic_kind found.kind) o) false) (slice_get-append_left signature more number below)

same_atomic : (signature more : List Control) (big : Big) → IsValidUnder signature big → (place : Place)
    → is_atomic (signature ++ more) big place ≡ is_atomic signature big place
same_atomic signature more big fits (Region region) = refl
same_atomic signature more big fits (Node node) = by (row_of big.nodes node) refl
  where
    by : (o : Option NodeRow) → row_of big.nodes node ≡ o
        → unwrap_or (option_map (λ (row : NodeRow). is_atomic_control (signature ++ more) row.control) o) false
        ≡ unwrap_or (option_map (λ (row : NodeRow). is_atomic_control signature row.control) o) false
    by None is = refl
    by (Some row) is =
        same_kind signature more row.control
        (All-member (λ (r : NodeRow). r.control < length signature) big.nodes fits.controls_there (row_from_row_of big.nodes node is).0)

pub still_fits : (signature more : List Control) (big : Big) → IsValidUnder signature big → IsValidUnder (signature ++ more) big
still_fits signature more big fits =
    valid_under_from_rows (signature ++ more) big fits.valid
    (λ row m.
    let below : row.control < length signature = All-member (λ (r : NodeRow). r.control < length signature) big.nodes fits.controls_there m in
    let longer = length-append signature more in
    record {
      control_there = omega (arith, below, longer);
      ports_fit = All-member (λ (r : NodeRow). length r.links ≡ arity_of signature r.control) big.nodes fits.ports_fit m
          ∙ sym (same_arity signature more row.control below);
      normal_parent = same_atomic signature more big fits row.parent
          ∙ All-member (λ (r : NodeRow). is_atomic signature big r.parent ≡ false) big.nodes fits.no_atomic_parent m;
    })
    (λ place m. same_atomic signature more big fits place
    ∙ All-member (λ (p : Place). is_atomic signature big p ≡ false) big.sites fits.no_atomic_site m)

-- ---- a control symbol

abbrev pub Within : (controls all : List Control) → Type 0
Within controls all = (x : Control) → Mem x controls → Mem x all

pub record EntersAt (all : List Control) (control : Control) (number : ℕ) (after : List Control) : Type 0 where
  pub is_there : slice_get after number ≡ Some control
  pub kept : IsSignature after
  pub inside : Within after all

-- the answer at a control that is new, where there is room or not
abbrev last_where : Bool → List Control → Control → Refusal → Result (ℕ × List Control) Refusal
last_where b old control r = if b then Ok (length old, old ++ control ∷ []) else Err r

-- a control that enters last
entry_last : (all : List Control) (control : Control) (old : List Control) (number : ℕ) (after : List Control) → IsSignature old → control.arity ≤ most_ports
    → Within old all → Mem control all → control_number old control.label ≡ None → (b : Bool) → nat_lt (length old) most_controls ≡ b → (r : Refusal)
    → last_where b old control r ≡ Ok (number, after) → EntersAt all control number after
entry_last all control old number after kept small inside member new false room r e = absurd cc
entry_last all control old number after kept small inside member new true room r e =
    let below : length old < most_controls = grind (arith, room) in
    let pair : (length old, old ++ control ∷ []) ≡ (number, after) = ok_same e in
    let number_is : length old ≡ number = ap (λ (p : ℕ × List Control). p.0) pair in
    let same : old ++ control ∷ [] ≡ after = ap (λ (p : ℕ × List Control). p.1) pair in
    record {
      is_there = ap (λ s. slice_get s number) (sym same) ∙ ap (slice_get (old ++ control ∷ [])) (sym number_is) ∙ last_item old control;
      kept = subst IsSignature same (one_more_control old control kept new small below);
      inside = subst (λ s. Within s all) same
          (λ x m. elim (Mem-append_cases old (control ∷ []) m) [ inl left ↦ inside x left | inr right ↦ last_one x right ]);
    }
  where
    last_one : (x : Control) → Mem x (control ∷ []) → Mem x all
    last_one x (here is) = subst (λ y. Mem y all) is member
    last_one x (there m) = elim m [ ]

pub enters : (all : List Control) (at : ℕ) (control : Control) (old : List Control) (number : ℕ) (after : List Control) → AreOneByLabel all
    → IsSignature old → control.arity ≤ most_ports → Within old all → Mem control all → entered at control old ≡ Ok (number, after)
    → EntersAt all control number after
enters all at control old number after one kept small inside member is = by (control_number old control.label) refl is
  where
    by : (o : Option ℕ) → control_number old control.label ≡ o → entered_at at control old o ≡ Ok (number, after) → EntersAt all control number after
    by (Some found_at) known e =
        let there_already = found old control.label found_at known in
        let pair : (found_at, old) ≡ (number, after) = ok_same e in
        let number_is : found_at ≡ number = ap (λ (p : ℕ × List Control). p.0) pair in
        let same : old ≡ after = ap (λ (p : ℕ × List Control). p.1) pair in
        let control_is : there_already.control ≡ control =
        one there_already.control control (inside there_already.control (member_at old found_at there_already.control there_already.there)) member there_already.labelled in
        record {
          is_there = ap (λ s. slice_get s number) (sym same) ∙ ap (slice_get old) (sym number_is) ∙ there_already.there ∙ ap Some control_is;
          kept = subst IsSignature same kept;
          inside = subst (λ s. Within s all) same inside;
        }
    by None new e = entry_last all control old number after kept small inside member new (nat_lt (length old) most_controls) refl _ e

single_fits : (signature : List Control) (control : Control) (number node : ℕ) (words : List (List ℕ)) → slice_get signature number ≡ Some control
    → length words ≡ control.arity → IsValidUnder signature (single control.kind number node (plain_names words))
single_fits signature control number node words is ports = by control.kind refl
  where
    below : number < length signature
    below = slice_get_within signature number control is

    names_fit : length (plain_names words) ≡ arity_of signature number
    names_fit = length-map words Plain ∙ ports ∙ sym (ap (λ o. unwrap_or (option_map (λ (found : Control). found.arity) o) 0) is)

    by : (kind : Kind) → control.kind ≡ kind → IsValidUnder signature (single kind number node (plain_names words))
    by Normal kind_is =
        ion_valid_under number node (plain_names words) signature below names_fit
        (ap (λ o. unwrap_or (option_map (λ (found : Control). is_atomic_kind found.kind) o) false) is ∙ ap is_atomic_kind kind_is)
    by Atomic kind_is = atom_valid_under number node (plain_names words) signature below names_fit

-- ---- binary operations and closures

combined_fits : (signature : List Control) (kind : BinaryOperation) (at : ℕ) (f g whole : Big) → combined kind at f g ≡ Ok whole
    → IsValidUnder signature f → IsValidUnder signature g → SupportsApart f g → IsValidUnder signature whole
combined_fits signature Composition at g f whole made g_fits f_fits apart = by _ (faces_agree g f) refl made
  where
    by : (r : Refusal) (b : Bool) → faces_agree g f ≡ b → (if b then Ok (compose g f) else Err r) ≡ Ok whole → IsValidUnder signature whole
    by r true e is =
        subst (IsValidUnder signature) (ok_same is)
        (compose_valid_under g f (FacesAgree-from_test g f e) apart g_fits.valid f_fits.valid signature g_fits f_fits)
    by r false e is = absurd cc
combined_fits signature Tensor at f g whole made f_fits g_fits apart = by _ (inner_meets f g) (outer_meets f g) refl refl made
  where
    by : (r : Refusal) (a b : Bool) → inner_meets f g ≡ a → outer_meets f g ≡ b → (if a || b then Err r else Ok (tensor f g)) ≡ Ok whole
        → IsValidUnder signature whole
    by r true b ae be is = absurd cc
    by r false true ae be is = absurd cc
    by r false false ae be is =
        subst (IsValidUnder signature) (ok_same is)
        (tensor_valid_under f g f_fits.valid g_fits.valid apart (inner_apart f g ae) (outer_apart f g be) signature f_fits g_fits)
combined_fits signature Parallel at f g whole made f_fits g_fits apart = by _ (inner_meets f g) refl made
  where
    by : (r : Refusal) (a : Bool) → inner_meets f g ≡ a → (if a then Err r else Ok (parallel f g)) ≡ Ok whole → IsValidUnder signature whole
    by r true ae is = absurd cc
    by r false ae is =
        subst (IsValidUnder signature) (ok_same is)
        (parallel_valid_under f g f_fits.valid g_fits.valid apart (inner_apart f g ae) signature f_fits g_fits)
combined_fits signature Merge at f g whole made f_fits g_fits apart = by _ (inner_meets f g) refl made
  where
    by : (r : Refusal) (a : Bool) → inner_meets f g ≡ a → (if a then Err r else Ok (merge f g)) ≡ Ok whole → IsValidUnder signature whole
    by r true ae is = absurd cc
    by r false ae is =
        subst (IsValidUnder signature) (ok_same is)
        (merge_valid_under f g f_fits.valid g_fits.valid apart (inner_apart f g ae) signature f_fits g_fits)

closed_fits : (signature : List Control) (number : ℕ) (name : Name) (f : Big) → IsValidUnder signature f → (Mem number f.edges → ⊥)
    → IsValidUnder signature (name_closed number name f)
closed_fits signature number name f fits new = by (is_some (outer_of f.outer name))
  where
    by : (b : Bool) → IsValidUnder signature (if b then close f name number else f)
    by true = close_valid_under f name number fits.valid new signature fits
    by false = fits

-- ---- each form

-- the value fits the signature reached, which has no control but some
pub record Fitting (all signature : List Control) (big : Big) : Type 0 where
  pub fits : IsValidUnder signature big
  pub kept : IsSignature signature
  pub inside : Within signature all

fitting_same : (all signature last : List Control) (big whole : Big) → Fitting all signature big → whole ≡ big → last ≡ signature → Fitting all last whole
fitting_same all signature last big whole so big_is signature_is =
    subst (λ s. Fitting all s whole) (sym signature_is) (subst (Fitting all signature) (sym big_is) so)

-- a form without nodes
plain : (all : List Control) (at : ℕ) (c t d : Reached) (big whole : Big) → tallied at c ≡ Ok t → Same big whole t d → IsSignature c.signature
    → Within c.signature all → IsValidUnder c.signature big → Fitting all d.signature whole
plain all at c t d big whole tally same kept inside fits =
    fitting_same all c.signature d.signature big whole (record { fits = fits; kept = kept; inside = inside }) same.big_is
    (ap (λ (r : Reached). r.signature) same.reached_is ∙ tallied_signature at c t tally)

module _ (all : List Control) (one : AreOneByLabel all) where
  pub fitting : (depth : ℕ) (t : Term) (c d : Reached) (big : Big) → value depth t c ≡ Ok (big, d) → IsSignature c.signature → HaveArities t
      → Within c.signature all → Within (controls_of t) all → Fitting all d.signature big
  fitting depth (terms.refusal r) c d big is kept arities inside symbols = absurd cc
  fitting depth (terms.node at control words) c d big is kept arities inside symbols =
      let first = bound (tallied at c) _ (big, d) is in
      let t = first.found in
      let same_start = tallied_signature at c t first.is in
      let second = bound (entered at control t.signature) _ (big, d) first.goes_on in
      let number = second.found.0 in
      let whole = single control.kind number t.nodes (plain_names words) in
      let same = within_same at whole big (record t { signature = second.found.1; nodes = t.nodes + 1 }) d second.goes_on in
      let entry = enters all at control t.signature number second.found.1 one (subst IsSignature (sym same_start) kept) arities.1
      (subst (λ s. Within s all) (sym same_start) inside) (symbols control (here refl)) second.is in
      fitting_same all second.found.1 d.signature whole big
      (record { fits = single_fits second.found.1 control number t.nodes words entry.is_there arities.0; kept = entry.kept; inside = entry.inside })
      same.big_is (ap (λ (r : Reached). r.signature) same.reached_is)
  fitting depth (terms.names at words) c d big is kept arities inside symbols =
      let first = bound (tallied at c) _ (big, d) is in
      let names = set_of name_cmp (plain_names words) in
      plain all at c first.found d (idle names) big first.is (within_same at (idle names) big first.found d first.goes_on) kept inside
      (idle_valid_under names (set_up (plain_names words)) c.signature)
  fitting depth (terms.identity_of at width words) c d big is kept arities inside symbols =
      let first = bound (tallied at c) _ (big, d) is in
      let names = set_of name_cmp (plain_names words) in
      let second = bound (wide at width (identity width names)) _ (big, d) first.goes_on in
      plain all at c first.found d second.found big first.is (within_same at second.found big first.found d second.goes_on) kept inside
      (subst (IsValidUnder c.signature) (sym (wide_same at width (identity width names) second.found second.is))
      (identity_valid_under width names (set_up (plain_names words)) c.signature))
  fitting depth (terms.merger_of at width) c d big is kept arities inside symbols =
      let first = bound (tallied at c) _ (big, d) is in
      let second = bound (wide at width (merger width)) _ (big, d) first.goes_on in
      plain all at c first.found d second.found big first.is (within_same at second.found big first.found d second.goes_on) kept inside
      (subst (IsValidUnder c.signature) (sym (wide_same at width (merger width) second.found second.is)) (merger_valid_under width c.signature))
  fitting depth (terms.barren at) c d big is kept arities inside symbols =
      let first = bound (tallied at c) _ (big, d) is in
      plain all at c first.found d barren big first.is (within_same at barren big first.found d first.goes_on) kept inside (barren_valid_under c.signature)
  fitting depth (terms.empty at) c d big is kept arities inside symbols =
      let first = bound (tallied at c) _ (big, d) is in
      plain all at c first.found d empty big first.is (within_same at empty big first.found d first.goes_on) kept inside (empty_valid_under c.signature)
  fitting depth (terms.counted at t) c d big is kept arities inside symbols =
      let first = bound (tallied at c) (value depth t) (big, d) is in
      let same_start = tallied_signature at c first.found first.is in
      fitting depth t first.found d big first.goes_on (subst IsSignature (sym same_start) kept) arities (subst (λ s. Within s all) (sym same_start) inside) symbols
  fitting depth (terms.deeper at t) c d big is kept arities inside symbols = fitting (depth + 1) t c d big (tested _ _ _ _ is) kept arities inside symbols
  fitting depth (terms.closure at word t) c d big is kept arities inside symbols =
      let start : Reached = record c { edges = c.edges + 1 } in
      let first = bound (value depth t start) _ (big, d) is in
      let f = first.found.0 in
      let same = within_same at (name_closed c.edges (Plain word) f) big first.found.1 d first.goes_on in
      let edges = within_closures depth t start first.found.1 f first.is in
      let so = fitting depth t start first.found.1 f first.is kept arities inside symbols in
      fitting_same all first.found.1.signature d.signature (name_closed c.edges (Plain word) f) big
      (record {
        fits = closed_fits first.found.1.signature c.edges (Plain word) f so.fits (λ m. omega (arith, edges.from_there c.edges m));
        kept = so.kept;
        inside = so.inside;
      })
      same.big_is (ap (λ (r : Reached). r.signature) same.reached_is)
  fitting depth (terms.nesting at is_atom t u) c d big is kept arities inside symbols =
      let first = bound (value depth t c) _ (big, d) is in
      let f = first.found.0 in
      let mid = first.found.1 in
      let second = bound (value depth u mid) _ (big, d) first.goes_on in
      let g = second.found.0 in
      let third = bound (nested at is_atom f g) _ (big, d) second.goes_on in
      let same = within_same at third.found big second.found.1 d third.goes_on in
      let f_so = fitting depth t c mid f first.is kept arities.0 inside (λ x m. symbols x (Mem-append_left (controls_of t) (controls_of u) m)) in
      let g_so = fitting depth u mid second.found.1 g second.is f_so.kept arities.1 f_so.inside (λ x m. symbols x (Mem-append_right (controls_of t) (controls_of u) m)) in
      let more = in_order depth u mid second.found.1 g second.is in
      let f_fits = subst (λ s. IsValidUnder s f) (sym more.goes_on) (still_fits mid.signature more.entered f f_so.fits) in
      let apart = apart_values depth t u c mid second.found.1 f g first.is second.is in
      let nests_so = nests at is_atom f g third.found third.is in
      fitting_same all second.found.1.signature d.signature third.found big
      (record {
        fits = subst (IsValidUnder second.found.1.signature) nests_so.is
            (nest_valid_under f g f_fits.valid g_so.fits.valid nests_so.no_inner nests_so.widths apart second.found.1.signature f_fits g_so.fits);
        kept = g_so.kept;
        inside = g_so.inside;
      })
      same.big_is (ap (λ (r : Reached). r.signature) same.reached_is)
  fitting depth (terms.binary kind at t u) c d big is kept arities inside symbols =
      let first = bound (value depth t c) _ (big, d) is in
      let f = first.found.0 in
      let mid = first.found.1 in
      let second = bound (value depth u mid) _ (big, d) first.goes_on in
      let g = second.found.0 in
      let third = bound (combined kind at f g) _ (big, d) second.goes_on in
      let same = within_same at third.found big second.found.1 d third.goes_on in
      let f_so = fitting depth t c mid f first.is kept arities.0 inside (λ x m. symbols x (Mem-append_left (controls_of t) (controls_of u) m)) in
      let g_so = fitting depth u mid second.found.1 g second.is f_so.kept arities.1 f_so.inside (λ x m. symbols x (Mem-append_right (controls_of t) (controls_of u) m)) in
      let more = in_order depth u mid second.found.1 g second.is in
      let f_fits = subst (λ s. IsValidUnder s f) (sym more.goes_on) (still_fits mid.signature more.entered f f_so.fits) in
      let apart = apart_values depth t u c mid second.found.1 f g first.is second.is in
      fitting_same all second.found.1.signature d.signature third.found big
      (record { fits = combined_fits second.found.1.signature kind at f g third.found third.is f_fits g_so.fits apart; kept = g_so.kept; inside = g_so.inside })
      same.big_is (ap (λ (r : Reached). r.signature) same.reached_is)

-- where all controls, those of the signature before and those of the term, are one by their labels
pub fits_before : (depth : ℕ) (t : Term) (c d : Reached) (big : Big) → value depth t c ≡ Ok (big, d) → IsSignature c.signature → HaveArities t
    → AreOneByLabel (c.signature ++ controls_of t) → Fitting (c.signature ++ controls_of t) d.signature big
fits_before depth t c d big is kept arities one =
    fitting (c.signature ++ controls_of t) one depth t c d big is kept arities (λ x m. Mem-append_left c.signature (controls_of t) m)
    (λ x m. Mem-append_right c.signature (controls_of t) m)
