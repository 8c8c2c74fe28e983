use Rattle.std.proofs.Common.{List, nat_cmp, sym, subst, ◌∙◌}
use Rattle.std.specs.List.Sorted.{IsStrictlySortedBy}
use Rattle.bg_base.specs.declared.names.Place.TheVariants.{Node}
use Rattle.bg_base.specs.declared.big.NodeRow.{NodeRow}
use Rattle.bg_place.specs.Rows.{HasGroups}
use Rattle.bg_place.proofs.GroupLaws.{same_numbers}
use Rattle.bg_index.specs.Arriving.{arriving}
use Rattle.bg_index.proofs.ChildLaws.{nested_same}
use Rattle.bg_index.proofs.children.filling_of.Goals as goal

pub nests_of-requires-clause-arrivals_ascend : goal.nests_of-requires-clause-arrivals_ascend
nests_of-requires-clause-arrivals_ascend c =
    let moves = c.args.moves.now in
    let new = c.args.new.items in
    let incoming = c.in_ok-incoming.incoming in
    let has = subst (λ (rows : List NodeRow). HasGroups incoming (arriving moves rows)) c.deref.ensures.value c.in_ok-incoming.ensures in
    λ place. subst (IsStrictlySortedBy nat_cmp) (sym (same_numbers place incoming (arriving moves new) has)) (c.requires.arrivals_ascend place)

pub returns-clause-filled : goal.returns-clause-filled
returns-clause-filled c =
    let moves = c.args.moves.now in
    let new = c.args.new.items in
    let incoming = c.in_ok-incoming.incoming in
    let has = subst (λ (rows : List NodeRow). HasGroups incoming (arriving moves rows)) c.deref.ensures.value c.in_ok-incoming.ensures in
    λ entry m. c.in_ok-entries.ensures.children entry m ∙ same_numbers (Node entry.row.id) incoming (arriving moves new) has

pub returns-clause-nested : goal.returns-clause-nested
returns-clause-nested c =
    let moves = c.args.moves.now in
    let new = c.args.new.items in
    let incoming = c.in_ok-incoming.incoming in
    let has = subst (λ (rows : List NodeRow). HasGroups incoming (arriving moves rows)) c.deref.ensures.value c.in_ok-incoming.ensures in
    λ nest m. nested_same c.args.host.now.big c.args.reading.now.images.items incoming (arriving moves new) nest.place nest.children.items has
    (c.in_ok-nests.ensures.nested nest m)
