use Rattle.std.proofs.Common.{◌∙◌, ap, sym}
use Rattle.bg_shared.proofs.Committing.{opened_locked}
use Rattle.bg_shared.specs.Shared.{PartsView}
use Rattle.bg_shared.proofs.host.SharedHost.start.Goals as goal

pub invariant_of-core : goal.invariant_of-core
invariant_of-core g c =
    let parts = sym c.parts.view_is in
    opened_locked c.parts.invariant (c.requires.0 ∙ ap (λ (p : PartsView). p.table) parts) (c.requires.1 ∙ ap (λ (p : PartsView). p.system) parts)
    (c.requires.2 ∙ ap (λ (p : PartsView). p.limit) parts) (c.requires.3 ∙ ap (λ (p : PartsView). p.passes) parts)
