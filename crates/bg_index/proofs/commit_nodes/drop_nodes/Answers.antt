use Rattle.std.proofs.Common.{subst}
use Rattle.bg_lists.specs.Lists.{Mem}
use Rattle.bg_index.specs.Commits.{AreLeft}
use Rattle.bg_index.proofs.CommitNodeLaws.{left_so}
use Rattle.bg_index.proofs.commit_nodes.drop_nodes.Goals as goal

pub returns-clause-left : goal.returns-clause-left
returns-clause-left c = λ slot m.
    left_so c.args.nodes.now c.take_entries.new.nodes c.args.slots.now.items c.args.gone.now c.requires.held
    (subst (λ ss. AreLeft c.args.nodes.now ss c.args.gone.now c.take_entries.new.nodes) c.deref.ensures.value c.take_entries.ensures.left)
    slot (subst (λ ss. Mem slot ss) c.keep_slots.ensures.kept m)
