use Rattle.std.proofs.Common.{◌≡◌, List, nat_cmp, refl, sym, subst}
use Rattle.std.specs.List.Sorted.{IsStrictlySortedBy}
use Rattle.bg_base.specs.declared.names.Place.TheVariants.{Node}
use Rattle.bg_place.specs.Places.{numbers_in}
use Rattle.bg_index.specs.declared.plans.Move.{Move}
use Rattle.bg_index.specs.Arriving.{AreNestedIn, arriving, places_in}
use Rattle.bg_index.proofs.ChildLaws.{all_filled, are_nests, arrivals_up}
use Rattle.bg_index.proofs.PlanningLaws.{put_plan}
use Rattle.bg_index.proofs.planning.put_together.Goals as goal

pub filling_of-requires-clause-arrivals_ascend : goal.filling_of-requires-clause-arrivals_ascend
filling_of-requires-clause-arrivals_ascend c =
    let new = c.args.nodes.new.items in
    let are = c.requires.nodes_are in
    λ place. subst (λ (moves : List Move). IsStrictlySortedBy nat_cmp (numbers_in place (arriving moves new))) (sym c.deref.ensures.value)
    (arrivals_up c.args.host.now c.args.rule.now c.args.map.now c.args.reading.now c.args.nodes.gone.items c.args.nodes.moves.items new c.requires.read
    are.gone_are are.moves_are are.rows_are place)

pub returns : goal.returns
returns c =
    let host = c.args.host.now in
    let reading = c.args.reading.now in
    let gone = c.args.nodes.gone.items in
    let moves = c.args.nodes.moves.items in
    let new = c.args.nodes.new.items in
    let are = c.requires.nodes_are in
    let filling = c.in_ok-filling.filling in
    let e = c.in_ok-filling.ensures in
    put_plan host c.args.rule.now c.args.map.now reading c.requires.read _ new are.gone_ascends
    are.gone_are are.moves_are are.rows_are c.requires.links_are.idle_ascends
    c.requires.links_are.idle_are c.requires.links_are.used_are c.requires.links_are.bundles_are c.requires.next_node c.requires.next_edge
    e.rows
    (all_filled host c.args.rule.now c.args.map.now reading gone moves new c.requires.read are.gone_are are.moves_are are.rows_are filling.entries.items e.rows
    (λ entry m. subst (λ (ms : List Move). entry.children.items ≡ numbers_in (Node entry.row.id) (arriving ms new)) c.deref.ensures.value (e.filled entry m)))
    (are_nests host c.args.rule.now c.args.map.now reading gone moves new c.requires.read are.gone_are are.moves_are are.rows_are
    (places_in filling.nests.items) filling.nests.items e.places refl
    (λ nest m. subst (λ (ms : List Move). AreNestedIn host.big reading.images.items (arriving ms new) nest.place nest.children.items) c.deref.ensures.value (e.nested nest m)))
    c.requires.fits c.requires.links_are.few_edges
