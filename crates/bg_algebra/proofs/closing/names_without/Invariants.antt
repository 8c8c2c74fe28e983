use Rattle.std.proofs.Common.{◌≡◌, take, filter, not}
use Rattle.std.specs.Ordering.{is_eq}
use Rattle.bg_base.specs.declared.names.Name.{Name}
use Rattle.bg_base.specs.Order.{name_cmp}
use Rattle.bg_algebra.proofs.closing.names_without.Given as goal

abbrev pub invariant-loop-other : goal.invariant-loop-other
invariant-loop-other l =
    l.made.items ≡ filter (λ (other : Name). not (is_eq (name_cmp other l.name))) (take l.other-index l.names)
