use Rattle.command_replay.proofs.Texts.{failing_told, higher_told}
use Rattle.command_replay.proofs.text.put_verdict.Goals as goal

pub returns-in_ok-push-in-ConditionFails : goal.returns-in_ok-push-in-ConditionFails
returns-in_ok-push-in-ConditionFails c =
    failing_told c.args.out.now.items c.extend_from_slice-in-ConditionFails.new.self.items c.write_number.new.out.items c.push.new.self.items
    c.in-ConditionFails.number c.args.verdict.now c.in-ConditionFails.is c.in_ok-extend_from_slice-in-ConditionFails.ensures.items
    c.in_ok-write_number-in-ConditionFails.ensures.ok c.in_ok-push-in-ConditionFails.ensures.items

pub returns-in_ok-extend_from_slice-in-HigherClass : goal.returns-in_ok-extend_from_slice-in-HigherClass
returns-in_ok-extend_from_slice-in-HigherClass c =
    higher_told c.args.out.now.items c.extend_from_slice-in-HigherClass.new.self.items c.write_step.new.out.items c.in-HigherClass.step
    c.as_slice.result.now c.args.verdict.now c.write_step.result c.in-HigherClass.is c.as_slice.ensures.same
    c.in_ok-extend_from_slice-in-HigherClass.ensures.items c.write_step.ensures.ok
