use Rattle.std.proofs.Common.{◌<◌, length, IsSome, sym, arith}
use Rattle.bg_lists.proofs.Merges.{take_first, take_second, none_first, none_second, sorted_rest}
use Rattle.bg_lists.proofs.merging.take_next.Goals as goal

pub returns-then-is_next-clause-taken : goal.returns-then-is_next-clause-taken
returns-then-is_next-clause-taken g c =
    take_first g.T.Numbered.number c.args.first.now.items c.args.second.now.items c.pop_front.new.self.items c.pop_front.result
    c.pop_front.ensures.items c.requires.first_ascends c.requires.second_ascends (sym c.if-is_next.ensures)

pub returns-then-is_next-clause-none : goal.returns-then-is_next-clause-none
returns-then-is_next-clause-none g c =
    let some : 0 < length c.args.first.now.items → IsSome c.pop_front.result = λ h. c.pop_front.ensures.variant.1 (omega arith) in
    none_first g.T.Numbered.number c.args.first.now.items c.args.second.now.items c.pop_front.new.self.items c.pop_front.result
    some (sym c.if-is_next.ensures)

pub returns-then-is_next-clause-first_ascends : goal.returns-then-is_next-clause-first_ascends
returns-then-is_next-clause-first_ascends g c =
    sorted_rest g.T.Numbered.number c.args.first.now.items c.pop_front.new.self.items c.pop_front.result
    c.pop_front.ensures.items c.requires.first_ascends

pub returns-else-is_next-clause-taken : goal.returns-else-is_next-clause-taken
returns-else-is_next-clause-taken g c =
    take_second g.T.Numbered.number c.args.first.now.items c.args.second.now.items c.pop_front-else-is_next.new.self.items c.pop_front-else-is_next.result
    c.pop_front-else-is_next.ensures.items c.requires.first_ascends c.requires.second_ascends (sym c.if-is_next.ensures)

pub returns-else-is_next-clause-none : goal.returns-else-is_next-clause-none
returns-else-is_next-clause-none g c =
    let some : 0 < length c.args.second.now.items → IsSome c.pop_front-else-is_next.result = λ h. c.pop_front-else-is_next.ensures.variant.1 (omega arith) in
    none_second g.T.Numbered.number c.args.first.now.items c.args.second.now.items c.pop_front-else-is_next.new.self.items c.pop_front-else-is_next.result
    c.pop_front-else-is_next.ensures.items some (sym c.if-is_next.ensures)

pub returns-else-is_next-clause-second_ascends : goal.returns-else-is_next-clause-second_ascends
returns-else-is_next-clause-second_ascends g c =
    sorted_rest g.T.Numbered.number c.args.second.now.items c.pop_front-else-is_next.new.self.items c.pop_front-else-is_next.result
    c.pop_front-else-is_next.ensures.items c.requires.second_ascends
