use Rattle.std.proofs.Common.{◌≡◌, ◌++◌, List, map, nat_cmp, subst, ap, ◌∙◌}
use Rattle.bg_lists.specs.Orders.{set_of}
use Rattle.bg_base.specs.declared.big.NodeRow.{NodeRow}
use Rattle.bg_base.specs.Order.{name_cmp}
use Rattle.bg_base.specs.Lookup.{IsSortedCopy}
use Rattle.bg_base.specs.Translation.{node_numbers}
use Rattle.bg_cond.specs.Pieces.{tied_edges, tied_names, edges_outside, piece_row, piece_rows, holes}
use Rattle.bg_cond.proofs.Made.{rows_same}
use Rattle.bg_cond.proofs.piece.piece_of.Goals as goal

pub returns : goal.returns
returns c =
    let host = c.args.host.now.nodes in
    let part = c.args.part.now.nodes in
    let cut = c.in_ok-cut.cut.items in
    let copy : IsSortedCopy nat_cmp (edges_outside host (node_numbers part)) cut
    = subst (λ (rs : List NodeRow). IsSortedCopy nat_cmp (edges_outside rs (node_numbers part)) cut) c.deref.ensures
    (subst (λ (ps : List NodeRow). IsSortedCopy nat_cmp (edges_outside c.deref.result.now (node_numbers ps)) cut) c.deref-2.ensures c.in_ok-cut.ensures) in
    let rows : c.in_ok-rows.rows.items ≡ map (piece_row host cut) part
    = c.in_ok-rows.ensures ∙ (λ t. map (piece_row (c.deref-3.ensures t) (c.as_slice.ensures.value t)) (c.deref-4.ensures t)) in
    let nodes : c.push_holes.new.rows.items ≡ piece_rows host part ++ holes c.args.first c.args.places.now
    = c.in_ok-push_holes.ensures ∙ ap (λ (rs : List NodeRow). rs ++ holes c.args.first c.args.places.now)
    (rows ∙ rows_same (edges_outside host (node_numbers part)) cut copy host part) in
    let edges : c.in_ok-edges.edges ≡ set_of nat_cmp (tied_edges (piece_rows host part ++ holes c.args.first c.args.places.now))
    = c.in_ok-edges.ensures ∙ ap (set_of nat_cmp) (c.in_ok-tied_edges.ensures ∙ ap tied_edges (c.as_slice-2.ensures.value ∙ nodes)) in
    let names : c.in_ok-outer.outer ≡ set_of name_cmp (tied_names (piece_rows host part ++ holes c.args.first c.args.places.now))
    = c.in_ok-outer.ensures ∙ ap (set_of name_cmp) (c.in_ok-tied_names.ensures ∙ ap tied_names (c.as_slice-3.ensures.value ∙ nodes)) in
    let whole = c.in_ok-try_from_vec.ensures.same ∙ nodes in
    let sites = c.from_vec.ensures ∙ c.new.ensures.items in
    let inner = c.from_vec-2.ensures ∙ c.new-2.ensures.items in
    λ t. record { nodes = whole t; edges = edges t; sites = sites t; inner = inner t; regions = c.args.part.now.regions; outer = names t }
