use Rattle.std.proofs.Common.{◌≡◌, ◌∙◌, ◌<◌, ◌++◌, ◌∷◌, [], length, Err, ap, sym, arith, subst, List}
use Rattle.bg_base.specs.declared.history.Entry.{Entry}
use Rattle.bg_cond.specs.Boards.{IsFull}
use Rattle.bg_cond.specs.Drawn.{entry_of}
use Rattle.bg_seats.specs.Histories.{PassView, TurnView, WorkersBelow}
use Rattle.bg_shared.specs.Shared.{CoreView, IsLocked}
use Rattle.bg_shared.proofs.Committing.{legal_now, seen_all, newest, full_locked, grown_locked}
use Rattle.bg_shared.proofs.locked.Core.commit.Goals as goal

pub take_step_in_place-requires : goal.take_step_in_place-requires
take_step_in_place-requires g c = rw c.requires.system (legal_now c.self.invariant c.compare.ensures.grows c.requires.found (omega arith))

pub returns-in-Err-Full-clause-committed : goal.returns-in-Err-Full-clause-committed
returns-in-Err-Full-clause-committed g c =
    let kept = c.self.invariant in
    let journal = c.self.inside.journal.items in
    let bound = kept.bound_is in
    let within = kept.within in
    let room : length journal < g.N.HostName.limit = grind arith in
    let large = rw c.requires.system at (c.in-Err-Full.ensures.full (ap Err c.in-Err-Full.field-0-is)) in
    subst (λ (xs : List Entry). IsFull g.N.HostName.system g.N.HostName.limit c.args.pass.now.worker c.args.self.now.journal xs c.args.found.now)
    (sym c.reserve.ensures.items)
    (subst (λ (v : CoreView). IsFull g.N.HostName.system g.N.HostName.limit c.args.pass.now.worker v.journal journal c.args.found.now) c.self.view_is
    (full_locked kept c.args.pass.now.worker c.args.found.now (newest kept c.compare.ensures.grows c.requires.found (omega arith)) room large))

pub append-version-requires-clause-seen : goal.append-version-requires-clause-seen
append-version-requires-clause-seen g c =
    ap (λ (p : PassView). p.seen) c.compare.ensures.pass
    ∙ (seen_all c.self.invariant c.compare.ensures.grows c.requires.found (omega arith) ∙ ap (λ (t : TurnView). t.list) (sym c.compare.ensures.turn))

pub invariant_of-self-in-Ok : goal.invariant_of-self-in-Ok
invariant_of-self-in-Ok g c =
    let kept = c.self.invariant in
    let journal = c.self.inside.journal.items in
    let legal = legal_now kept c.compare.ensures.grows c.requires.found (omega arith) in
    let entry : Entry = entry_of c.worker.result c.args.found.now.step in
    let appended : c.push_reserved.new.self.items ≡ journal ++ entry ∷ [] = c.push_reserved.ensures.items
    ∙ ap (λ (xs : List Entry). xs ++ c.in_ok-entry.entry ∷ []) c.reserve.ensures.items ∙ ap (λ (x : Entry). journal ++ x ∷ []) c.in_ok-entry.ensures in
    let before = c.compare.ensures.turn ∙ kept.turn_is in
    let after = c.append-version.ensures.turn ∙ (ap (λ (t : TurnView). record t { list = t.list ++ c.in_ok-entry.entry ∷ [] }) before
    ∙ ap (λ (x : Entry). record { table = g.N.HostName.table; passes = g.N.HostName.passes; list = journal ++ x ∷ [] }) c.in_ok-entry.ensures) in
    let below = subst (λ (t : TurnView). WorkersBelow t.passes (journal ++ entry ∷ [])) before
    (subst (λ (t : TurnView). WorkersBelow c.compare.new.turn.passes t.list) after c.append-version.ensures.numbered) in
    let bound = kept.bound_is in
    let within = kept.within in
    let room : length journal < g.N.HostName.limit = grind arith in
    let leads = rw c.requires.system at c.in-Ok.ensures.leads in
    subst (λ (xs : List Entry). IsLocked g.N.HostName.table g.N.HostName.system g.N.HostName.limit g.N.HostName.passes c.append-version.new.turn c.take_step_in_place.new.host xs c.self.inside.limit)
    (sym appended) (grown_locked kept c.worker.result legal leads after room below)

pub returns-in-Ok-clause-run : goal.returns-in-Ok-clause-run
returns-in-Ok-clause-run g c = let kept = invariant_of-self-in-Ok g c in kept.run

pub returns-in-Ok-clause-history : goal.returns-in-Ok-clause-history
returns-in-Ok-clause-history g c =
    let kept = invariant_of-self-in-Ok g c in
    record { host = c.take_step_in_place.new.host; run = kept.run; within = kept.within; below = kept.below }
