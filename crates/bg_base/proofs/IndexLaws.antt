-- The index of nodes, as rows are put into it from the last to the first.
use Rattle.std.proofs.Common.{◌≡◌, ℕ, zero, suc, ◌-◌, ◌<◌, ◌≤◌, Bool, true, false, cond, eqb, Option, Some, None, List, ◌∷◌, length, drop, get_or, sym, ap, ◌∙◌, arith}
use Rattle.std.specs.Option.{MatchOption}
use Rattle.std.specs.List.{slice_get}
use Rattle.std.specs.Ordering.{nat_cmp, eq_by_cmp}
use Rattle.std.specs.Cmp.{unsigned_tied}
use Rattle.std.specs.BTreeMap.{BTreeMap, get}
use Rattle.std.proofs.lemmas.Option.{slice_get-get_or}
use Rattle.std.proofs.Math.Seq.{drop-cons}
use Rattle.bg_base.specs.declared.big.NodeRow.{NodeRow}
use Rattle.bg_base.specs.Bigraph.{row_of}
use Rattle.bg_base.specs.Lookup.{IsIndexOf}

put_case : (rows part : List NodeRow) (row : NodeRow) (at node : ℕ) (old : Option ℕ) (b : Bool)
    → slice_get rows at ≡ Some row
    → MatchOption old (row_of part node ≡ None) (λ k. slice_get rows k ≡ row_of part node)
    → MatchOption (cond b (Some at) old) (cond b (Some row) (row_of part node) ≡ None) (λ k. slice_get rows k ≡ cond b (Some row) (row_of part node))
put_case rows part row at node old true there is = there
put_case rows part row at node old false there is = is

-- the row at a position goes in front of the later rows
put_front : (rows part : List NodeRow) (index new : BTreeMap ℕ ℕ) (row : NodeRow) (at : ℕ)
    → slice_get rows at ≡ Some row → IsIndexOf index rows part
    → ((node : ℕ) → get nat_cmp new node ≡ cond (eq_by_cmp nat_cmp row.id node) (Some at) (get nat_cmp index node))
    → IsIndexOf new rows (row ∷ part)
put_front rows part index new row at there is updates node =
    rw (updates node, unsigned_tied row.id node) (put_case rows part row at node (get nat_cmp index node) (eqb row.id node) there (is node))

pub index_turn : (rows : List NodeRow) (n : ℕ) (index new : BTreeMap ℕ ℕ) (row : NodeRow)
    → 0 < n → n ≤ length rows → row ≡ get_or rows (n - 1) row → IsIndexOf index rows (drop n rows)
    → ((node : ℕ) → get nat_cmp new node ≡ cond (eq_by_cmp nat_cmp row.id node) (Some (n - 1)) (get nat_cmp index node))
    → IsIndexOf new rows (drop (n - 1) rows)
index_turn rows zero index new row some within at is updates = absurd (omega arith)
index_turn rows (suc m) index new row some within at is updates =
    let less : suc m - 1 ≡ m = omega arith in
    let short : m < length rows = omega arith in
    let here : row ≡ get_or rows m row = rw (← less) at in
    let there : slice_get rows m ≡ Some row = slice_get-get_or rows m row short ∙ ap Some (sym here) in
    let front : drop m rows ≡ row ∷ drop (suc m) rows = drop-cons rows m row short ∙ ap (λ x. x ∷ drop (suc m) rows) (sym here) in
    let written : (node : ℕ) → get nat_cmp new node ≡ cond (eq_by_cmp nat_cmp row.id node) (Some m) (get nat_cmp index node) = rw (← less) updates in
    rw (less, front) (put_front rows (drop (suc m) rows) index new row m there is written)
