use Rattle.std.proofs.Common.{length, take, refl, sym, subst, ◌∙◌, arith, append-nil}
use Rattle.std.proofs.lemmas.Iterator.Adapters.{YieldsList-from_vec}
use Rattle.std.proofs.lemmas.Iterator.Consumers.{YieldsList-turn, YieldsList-so_far}
use Rattle.bg_lists.specs.Lists.{Mem}
use Rattle.bg_lists.proofs.Ascents.{Ascending-from_sorted}
use Rattle.bg_lists.proofs.Comparisons.{lt-from_nat_cmp}
use Rattle.bg_lists.proofs.Places.{At-get_or, At-same, Mem-from_At, length-append_one}
use Rattle.bg_index.specs.Commits.{entry_cmp}
use Rattle.bg_index.specs.Indexed.{rows_of}
use Rattle.bg_index.proofs.CommitNodeLaws.{front_below, pushed_none, pushed_more, went_through}
use Rattle.bg_index.proofs.commit_nodes.push_entries.Goals as goal

pub loop-entry-init : goal.loop-entry-init
loop-entry-init c = record {
  pushed = pushed_none c.args.nodes.now c.args.slots.now.items c.requires.held (sym (append-nil (rows_of c.args.nodes.now c.args.slots.now.items)));
  count = omega arith;
  capacity = refl;
  slots_count = omega arith;
  slots_capacity = refl;
}

pub push_entry-requires : goal.push_entry-requires
push_entry-requires c =
    let many = c.args.entries.ok.0 in
    let turn = YieldsList-turn (YieldsList-from_vec {s = c.into_iter-entry-iterator.result} c.args.entries.items (cc) (cc)) c.loop-entry.yielded c.loop-entry.entry-iterator c.loop-entry.yielded_by c.next.result c.next.new.self c.in-Some.entry c.in-Some.is c.next.ensures.steps in
    let less = turn.0 in
    let i = c.loop-entry.invariant in
    let count = i.count in
    let capacity = i.capacity in
    let slots_count = i.slots_count in
    let slots_capacity = i.slots_capacity in
    let room = c.requires.room in
    let few = c.requires.few in
    let slot_room = c.requires.slot_room in
    record { room = omega arith; few = omega arith; slot_room = omega arith }

pub loop-entry-preserved : goal.loop-entry-preserved
loop-entry-preserved c =
    let many = c.args.entries.ok.0 in
    let whole = YieldsList-from_vec {s = c.into_iter-entry-iterator.result} c.args.entries.items (cc) (cc) in
    let turn = YieldsList-turn whole c.loop-entry.yielded c.loop-entry.entry-iterator c.loop-entry.yielded_by c.next.result c.next.new.self c.in-Some.entry c.in-Some.is c.next.ensures.steps in
    let front = YieldsList-so_far whole c.loop-entry.yielded c.loop-entry.entry-iterator c.loop-entry.yielded_by in
    let at = At-same (sym turn.1) (At-get_or c.args.entries.items (length c.loop-entry.yielded) c.in-Some.entry turn.0) in
    let longer = length-append_one c.loop-entry.yielded c.in-Some.entry in
    let i = c.loop-entry.invariant in
    let count = i.count in
    let slots_count = i.slots_count in
    let one = c.push_entry.ensures.count in
    let slot_one = c.push_entry.ensures.slots_count in
    record {
      pushed = pushed_more c.args.nodes.now c.loop-entry.nodes c.push_entry.new.nodes c.args.slots.now.items c.loop-entry.slots.items c.push_entry.new.slots.items
          c.loop-entry.yielded c.in-Some.entry i.pushed c.push_entry.ensures.pushed
          (λ slot m. c.requires.above slot c.in-Some.entry m (Mem-from_At at))
          (λ made m. lt-from_nat_cmp made.row.id c.in-Some.entry.row.id
          (front_below (length c.loop-entry.yielded) c.args.entries.items (Ascending-from_sorted {cmp = entry_cmp} c.args.entries.items c.requires.ascend) at
          (subst (λ es. Mem made es) (went_through c.loop-entry.yielded (take (length c.loop-entry.yielded) c.args.entries.items) front) m)));
      count = omega arith;
      capacity = c.push_entry.ensures.capacity ∙ i.capacity;
      slots_count = omega arith;
      slots_capacity = c.push_entry.ensures.slots_capacity ∙ i.slots_capacity;
    }
