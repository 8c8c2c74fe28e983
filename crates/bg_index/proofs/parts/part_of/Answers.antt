use Rattle.std.proofs.Common.{subst}
use Rattle.bg_index.specs.Walks.{IsWalked}
use Rattle.bg_index.proofs.WalkLaws.{walk_ends}
use Rattle.bg_index.proofs.parts.part_of.Goals as goal

pub returns : goal.returns
returns c =
    walk_ends c.args.host.now c.args.images.now c.args.image c.requires.host c.requires.walkable c.in_ok-numbers.numbers.items c.sort_unstable.new.self.items
    (subst (λ n. IsWalked c.args.host.now.big c.args.images.now c.args.image n c.in_ok-numbers.numbers.items) c.in_ok-numbers.numbers.ok.0 c.in_ok-numbers.ensures)
    c.sort_unstable.ensures.permutation c.sort_unstable.ensures.sorted
