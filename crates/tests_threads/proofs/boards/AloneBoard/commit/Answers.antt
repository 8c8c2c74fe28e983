use Rattle.std.proofs.Common.{◌≡◌, ◌∙◌, ◌≤◌, ◌+◌, ◌++◌, ◌∷◌, [], length, length-append, List, ap, sym, subst, arith}
use Rattle.bg_base.specs.declared.history.Entry.{Entry}
use Rattle.bg_cond.proofs.Committing.{newest_legal}
use Rattle.bg_cond.proofs.Runs.{run_snoc}
use Rattle.bg_cond.specs.Drawn.{entry_of}
use Rattle.bg_cond.specs.Steps.{IsLegal, IsRun}
use Rattle.bg_rules.specs.Reaction.{HostState}
use Rattle.tests_threads.proofs.boards.AloneBoard.commit.Goals as goal

pub take_step-requires : goal.take_step-requires
take_step-requires g c =
    let of = c.requires.of in
    subst (λ (h : HostState). IsLegal h c.args.self.now.system.rules c.args.found.now.step) (sym c.in_ok-next.ensures)
    (newest_legal c.args.self.now.system of.3 c.args.pass.now.journal of.0 c.args.found.now c.requires.found (omega arith))

pub returns-clause-of : goal.returns-clause-of
returns-clause-of g c =
    let of = c.requires.of in
    let system = c.args.self.now.system in
    let journal = c.args.pass.now.journal in
    let entry : Entry = entry_of c.args.pass.now.worker c.args.found.now.step in
    let legal = newest_legal system of.3 journal of.0 c.args.found.now c.requires.found (omega arith) in
    let leads = rw c.in_ok-next.ensures at c.in-Ok.ensures.leads in
    let entry_is = ap (λ map. record { worker = c.args.pass.now.worker; rule = c.args.found.now.step.rule; map = map }) c.in_ok-copy.ensures in
    let made : Entry = record { worker = c.args.pass.now.worker; rule = c.args.found.now.step.rule; map = c.in_ok-copy.field-0 } in
    let copied = c.in_ok-entries.ensures ∙ c.as_slice.ensures.same in
    let appended : c.in_ok-pass.field-0 ≡ journal ++ entry ∷ [] = c.in_ok-pass.ensures.same ∙ (c.in_ok-push.ensures.items
    ∙ (ap (λ (xs : List Entry). xs ++ made ∷ []) copied ∙ ap (λ (x : Entry). journal ++ x ∷ []) entry_is)) in
    let long = ap length appended ∙ length-append journal (entry ∷ []) in
    let within = of.1 in
    let room = c.if-count-self.false in
    let count = c.len-count.ensures.count in (
      subst (λ (xs : List Entry). IsRun system.rules system.init xs c.take_step.new.host) (sym appended) (run_snoc entry of.0 legal leads),
      omega (arith, long, within, room, count),
      of.2,
      of.3,
    )
