use Rattle.std.proofs.Common.{◌≡◌, ◌+◌, ◌*◌, length, drop}
use Rattle.bg_machine.specs.Machine as definition
use Rattle.bg_terms.specs.Read.{shapes_of}
use Rattle.bg_machine.proofs.running.+machine.Given as goal

abbrev pub decreases-call : goal.decreases-call
decreases-call l = 4 * length l.definitions.now

abbrev pub decreases-refer : goal.decreases-refer
decreases-refer l = 4 * length l.definitions.now + 1

abbrev pub decreases-take_operation : goal.decreases-take_operation
decreases-take_operation l = 4 * length l.definitions.now + 2

abbrev pub decreases-run : goal.decreases-run
decreases-run l = 4 * length l.definitions.now + 3

abbrev pub invariant-run-loop-operation : goal.invariant-run-loop-operation
invariant-run-loop-operation l =
    definition.run (shapes_of l.controls) (definition.running_of (shapes_of l.controls) l.definitions) l.env l.operations l.initial.machine
    ≡ definition.run (shapes_of l.controls) (definition.running_of (shapes_of l.controls) l.definitions) l.env (drop l.operation-index l.operations) l.machine
