use Rattle.std.proofs.Common.{sym, ◌∙◌}
use Rattle.bg_index.proofs.CommitNodeLaws.{take_left}
use Rattle.bg_index.proofs.commit_nodes.take_node.Goals as goal

pub returns-in-Some-clause-left : goal.returns-in-Some-clause-left
returns-in-Some-clause-left c = λ first gone held among so_far.
    take_left first c.args.nodes.now c.take_entry.new.nodes c.args.slots.now gone c.args.node c.in-Some.slot held so_far
    (sym c.find_slot.ensures ∙ c.in-Some.is) among c.take_entry.ensures.others
