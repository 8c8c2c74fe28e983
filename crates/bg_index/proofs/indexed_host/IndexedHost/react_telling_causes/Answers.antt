use Rattle.std.proofs.Common.{subst}
use Rattle.bg_rules.specs.Hosts.{IsHost}
use Rattle.bg_index.proofs.ReactingLaws.{is_planned, done_reacts, done_causes, done_within, names_there}
use Rattle.bg_index.proofs.indexed_host.IndexedHost.react_telling_causes.Goals as goal

pub follow-requires : goal.follow-requires
follow-requires c =
    record {
      planned = is_planned c.args.self.now c.args.rule.now c.args.map.now c.in_ok-plan.plan (subst IsHost c.self.view_is c.self.invariant.is_host)
          c.redex-pattern.ensures.kept c.requires.occurs c.in_ok-plan.ensures.plan;
    }

pub returns-clause-reacts : goal.returns-clause-reacts
returns-clause-reacts c =
    done_reacts c.args.self.now c.args.rule.now c.args.map.now c.in_ok-plan.plan (subst IsHost c.self.view_is c.self.invariant.is_host)
    c.redex-pattern.ensures.kept c.requires.occurs c.in_ok-plan.ensures.plan c.follow.new.self c.in_ok-follow.ensures.done

pub returns-clause-within : goal.returns-clause-within
returns-clause-within c =
    done_within c.args.self.now c.args.rule.now c.args.map.now c.in_ok-plan.plan (subst IsHost c.self.view_is c.self.invariant.is_host)
    c.redex-pattern.ensures.kept c.requires.occurs c.in_ok-plan.ensures.plan c.follow.new.self c.in_ok-follow.ensures.done

pub causes_of-requires : goal.causes_of-requires
causes_of-requires c =
    record {
      named = names_there c.args.self.now c.args.rule.now c.args.map.now c.in_ok-plan.plan (subst IsHost c.self.view_is c.self.invariant.is_host)
          c.redex-pattern.ensures.kept c.requires.occurs c.in_ok-plan.ensures.plan;
    }

pub returns-clause-causes : goal.returns-clause-causes
returns-clause-causes c =
    done_causes c.args.self.now c.args.rule.now c.args.map.now c.in_ok-plan.plan (subst IsHost c.self.view_is c.self.invariant.is_host)
    c.redex-pattern.ensures.kept c.requires.occurs c.in_ok-plan.ensures.plan c.follow.new.self c.in_ok-follow.ensures.done
    c.in_ok-causes.causes c.in_ok-causes.ensures
