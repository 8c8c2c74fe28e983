use Rattle.std.proofs.Common.{ℕ, List, length, rules, sym, ap, subst, ◌∙◌}
use Rattle.std.proofs.lemmas.List.Sorted.{answers_always}
use Rattle.bg_index.specs.declared.plans.Move.{Move}
use Rattle.bg_index.specs.Copying.{AreMoved}
use Rattle.bg_index.specs.Readings.{AreLate, boundary_of}
use Rattle.bg_index.proofs.MoveLaws.{moves_are}
use Rattle.bg_index.proofs.moves.moves_of.Goals as goal

pub collected-requires-clause-late : goal.collected-requires-clause-late
collected-requires-clause-late c =
    subst (λ (entries : List ℕ). AreLate entries c.args.reading.now.late.items) (sym (c.deref.ensures ∙ c.map.ensures.same)) c.requires.read.reads.late_are

pub returns : goal.returns
returns c =
    moves_are c.args.host.now c.args.rule.now c.args.map.now c.args.reading.now c.requires.read c.in_ok-moves.moves.items c.sort_unstable_by_key.new.self.items
    (subst (λ n. AreMoved c.args.host.now c.args.rule.now c.args.map.now (boundary_of c.args.reading.now) n c.in_ok-moves.moves.items)
    (ap length (c.deref.ensures ∙ c.map.ensures.same)) c.in_ok-moves.ensures)
    c.sort_unstable_by_key.ensures.permutation
    (c.sort_unstable_by_key.ensures.sorted (λ (move : Move). move.node) (answers_always _ _ _ (λ f a r g called. search rules)))
