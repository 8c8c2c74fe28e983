use Rattle.std.proofs.Common.{subst}
use Rattle.bg_rules.specs.Hosts.{IsHost}
use Rattle.bg_index.proofs.ReactingLaws.{is_planned, done_reacts, done_touched, done_within, gone_up, names_there}
use Rattle.bg_index.proofs.indexed_host.IndexedHost.react_in_place.Goals as goal

pub follow-requires : goal.follow-requires
follow-requires c =
    record {
      planned = is_planned c.args.self.now c.args.rule.now c.args.map.now c.in_ok-plan.plan (subst IsHost c.self.view_is c.self.invariant.is_host)
          c.redex-pattern.ensures.kept c.requires.occurs c.in_ok-plan.ensures.plan;
    }

pub returns-clause-reacts : goal.returns-clause-reacts
returns-clause-reacts c =
    done_reacts c.args.self.now c.args.rule.now c.args.map.now c.in_ok-plan.plan (subst IsHost c.self.view_is c.self.invariant.is_host)
    c.redex-pattern.ensures.kept c.requires.occurs c.in_ok-plan.ensures.plan c.follow.new.self c.in_ok-follow.ensures.done

pub returns-clause-within : goal.returns-clause-within
returns-clause-within c =
    done_within c.args.self.now c.args.rule.now c.args.map.now c.in_ok-plan.plan (subst IsHost c.self.view_is c.self.invariant.is_host)
    c.redex-pattern.ensures.kept c.requires.occurs c.in_ok-plan.ensures.plan c.follow.new.self c.in_ok-follow.ensures.done

pub touched_by-requires : goal.touched_by-requires
touched_by-requires c =
    record {
      gone_ascends = gone_up c.args.self.now c.args.rule.now c.args.map.now c.in_ok-plan.plan (subst IsHost c.self.view_is c.self.invariant.is_host)
          c.redex-pattern.ensures.kept c.requires.occurs c.in_ok-plan.ensures.plan;
      named = names_there c.args.self.now c.args.rule.now c.args.map.now c.in_ok-plan.plan (subst IsHost c.self.view_is c.self.invariant.is_host)
          c.redex-pattern.ensures.kept c.requires.occurs c.in_ok-plan.ensures.plan;
    }

pub returns-clause-touched : goal.returns-clause-touched
returns-clause-touched c =
    done_touched c.args.self.now c.args.rule.now c.args.map.now c.in_ok-plan.plan (subst IsHost c.self.view_is c.self.invariant.is_host)
    c.redex-pattern.ensures.kept c.requires.occurs c.in_ok-plan.ensures.plan c.follow.new.self c.in_ok-follow.ensures.done
    c.in_ok-touched.touched.gone.items c.in_ok-touched.touched.changed.items c.in_ok-touched.ensures.gone
    c.in_ok-touched.ensures.ascending c.in_ok-touched.ensures.noted
