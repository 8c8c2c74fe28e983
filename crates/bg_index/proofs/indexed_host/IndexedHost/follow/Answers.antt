use Rattle.std.proofs.Common.{subst, ◌∙◌}
use Rattle.bg_rules.specs.Hosts.{IsHost}
use Rattle.bg_index.proofs.ReactingLaws.{can_be_done, done_host, done_index}
use Rattle.bg_index.proofs.indexed_host.IndexedHost.follow.Goals as goal

pub carry_out-requires-clause-ready : goal.carry_out-requires-clause-ready
carry_out-requires-clause-ready c =
    let by = c.requires.planned in
    can_be_done c.args.self.now by.rule by.nodes c.args.plan (subst IsHost c.self.view_is c.self.invariant.is_host) by.is_rule by.occurs by.is_plan
    c.make_room.new.index c.in_ok-make_room.ensures.index (c.in_ok-make_room.ensures.same ∙ c.self.view_is)

pub invariant_of-self-2 : goal.invariant_of-self-2
invariant_of-self-2 c =
    let by = c.requires.planned in
    done_index c.args.self.now by.rule by.nodes c.args.plan (subst IsHost c.self.view_is c.self.invariant.is_host) by.is_rule by.occurs by.is_plan
    c.make_room.new.index c.in_ok-make_room.ensures.index (c.in_ok-make_room.ensures.same ∙ c.self.view_is) c.carry_out.new.index c.carry_out.ensures

pub returns-clause-done : goal.returns-clause-done
returns-clause-done c =
    let by = c.requires.planned in
    done_host c.args.self.now by.rule by.nodes c.args.plan (subst IsHost c.self.view_is c.self.invariant.is_host) by.is_rule by.occurs by.is_plan
    c.make_room.new.index c.in_ok-make_room.ensures.index (c.in_ok-make_room.ensures.same ∙ c.self.view_is) c.carry_out.new.index c.carry_out.ensures
