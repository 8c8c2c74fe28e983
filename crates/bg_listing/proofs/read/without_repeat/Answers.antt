use Rattle.std.proofs.Common.{◌++◌, ◌∙◌, refl, sym, ap, arith}
use Rattle.std.specs.Vec.Iter.{into_iter_items}
use Rattle.bg_listing.proofs.Passes.{control_fits}
use Rattle.bg_listing.proofs.read.without_repeat.Goals as goal

pub unreachable-requires : goal.unreachable-requires
unreachable-requires c =
    let fits = control_fits c.args.rows c.loop-control.signature c.in-Some.control (into_iter_items c.next.new.self)
    (ap (λ later. c.loop-control.signature ++ later) (sym c.in-Some.ensures.items) ∙ c.loop-control.invariant.whole) c.requires.limits in
    let told = rw c.in-Err-ArityTooLarge.field-0-is at c.in-Err-ArityTooLarge.ensures in
    let above = told.arity_too_large.0 refl in
    omega (arith, fits.0, above.1)

pub unreachable-requires-in-Err-TooManyControls : goal.unreachable-requires-in-Err-TooManyControls
unreachable-requires-in-Err-TooManyControls c =
    let fits = control_fits c.args.rows c.loop-control.signature c.in-Some.control (into_iter_items c.next.new.self)
    (ap (λ later. c.loop-control.signature ++ later) (sym c.in-Some.ensures.items) ∙ c.loop-control.invariant.whole) c.requires.limits in
    let told = rw c.in-Err-TooManyControls.field-0-is at c.in-Err-TooManyControls.ensures in
    let full = told.too_many.0 refl in
    omega (arith, fits.1, full.2)
