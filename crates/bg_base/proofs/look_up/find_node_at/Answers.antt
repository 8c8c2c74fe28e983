use Rattle.std.proofs.Common.{rules, ◌≡◌, ◌+◌, ◌-◌, None, sym, subst, ◌∙◌}
use Rattle.std.specs.Option.{MatchOption}
use Rattle.std.proofs.lemmas.Option.{slice_get_within}
use Rattle.bg_base.specs.declared.big.NodeRow.{NodeRow}
use Rattle.bg_base.specs.Bigraph.{node_cmp, row_of}
use Rattle.bg_base.specs.Lookup.{IsFirstRow}
use Rattle.bg_base.proofs.LookUps.{first_row_in_part}
use Rattle.bg_lists.proofs.Parts.{sorted-part}
use Rattle.bg_base.proofs.Reaches.{find-in_part}
use Rattle.bg_base.proofs.look_up.find_node_at.Goals as goal

pub find_within-requires : goal.find_within-requires
find_within-requires c =
    record { ascending = sorted-part node_cmp c.reach-from.result.0 (c.reach-from.result.1 - c.reach-from.result.0) c.args.rows.now c.requires.ascending }

pub returns-in_err-at : goal.returns-in_err-at
returns-in_err-at c =
    let same = find-in_part (λ (row : NodeRow). row.id) c.args.rows.now c.args.node c.reach-from.result.0 c.reach-from.result.1 c.in_ok-last.last.now
    c.requires.ascending (search rules) c.reach-from.ensures.inside in
    subst (λ r. MatchOption r (row_of c.args.rows.now c.args.node ≡ None) (λ found. IsFirstRow c.args.rows.now c.args.node found.0 found.1.now))
    (sym c.from_residual-in_err-at.ensures) (sym same ∙ c.in_err-at.ensures)

first_row : (c : goal.In_ok-at) → IsFirstRow c.args.rows.now c.args.node (c.reach-from.result.0 + c.in_ok-at.at) c.in_ok-at.row.now
first_row c =
    first_row_in_part c.args.rows.now c.args.node c.reach-from.result.0 c.reach-from.result.1 c.in_ok-at.at c.in_ok-at.row.now
    (find-in_part (λ (row : NodeRow). row.id) c.args.rows.now c.args.node c.reach-from.result.0 c.reach-from.result.1 c.in_ok-last.last.now
    c.requires.ascending (search rules) c.reach-from.ensures.inside) c.in_ok-at.ensures

pub overflow_add-result : goal.overflow_add-result
overflow_add-result c =
    let below = slice_get_within c.args.rows.now (c.reach-from.result.0 + c.in_ok-at.at) c.in_ok-at.row.now (first_row c).there in search rules

pub returns : goal.returns
returns c = first_row c
