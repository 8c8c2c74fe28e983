use Rattle.std.proofs.Common.{ℕ, ◌∷◌, [], Err, ap, sym, subst}
use Rattle.bg_base.specs.declared.history.Step.{Step}
use Rattle.bg_cond.proofs.DrawnRuns.{system_rules}
use Rattle.bg_cond.specs.Followers.{HasFollowed}
use Rattle.bg_cond.specs.Steps.{IsLegal, LeadsTo, IsTooLarge}
use Rattle.bg_rules.specs.Hosts.{IsHost}
use Rattle.bg_incr.specs.Replicas.{ReplicaState}
use Rattle.bg_incr.proofs.Following.{is_legal, has_room, has_taken}
use Rattle.bg_incr.proofs.replica.Replica.take.Goals as goal

pub take_step-requires-clause-legal : goal.take_step-requires-clause-legal
take_step-requires-clause-legal c =
    subst (λ (step : Step). IsLegal c.args.self.now.host c.args.system.now.rules step) (sym c.in_ok-step.ensures) (is_legal c.requires.entry)

pub unreachable-requires : goal.unreachable-requires
unreachable-requires c =
    let is = subst (λ (r : ReplicaState). IsHost r.host) c.self.view_is c.keeps.ensures.host in
    has_room (system_rules c.args.system.now c.signature-system.ensures.kept) is c.requires.entry
    (subst (λ (step : Step). IsTooLarge c.args.self.now.host c.args.system.now.rules step) c.in_ok-step.ensures (c.in-Err-Full.ensures.full (ap Err c.in-Err-Full.field-0-is)))

pub returns-in-Ok-clause-followed : goal.returns-in-Ok-clause-followed
returns-in-Ok-clause-followed c =
    let leads = subst (λ (step : Step). LeadsTo c.args.self.now.host c.args.system.now.rules step c.take_step.new.self.host) c.in_ok-step.ensures c.in-Ok.ensures.leads in
    subst (λ (n : ℕ). HasFollowed c.args.system.now.rules c.args.self.now.version c.args.self.now.host (c.args.entry.now ∷ []) n c.take_step.new.self.host)
    (sym c.in-Ok.ensures.version) (has_taken c.args.self.now.version c.requires.entry leads)
