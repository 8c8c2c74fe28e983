-- A step that was found in a view.
use Rattle.std.proofs.Common.{◌≡◌, ℕ, List, Option, None, Some, IfSome}
use Rattle.bg_base.specs.declared.history.Entry.{Entry}
use Rattle.bg_cond.proofs.Committing.{found_at_view}
use Rattle.bg_cond.specs.Boards.{IsViewOf, IsFound}
use Rattle.bg_cond.specs.Steps.{IsLegal}
use Rattle.bg_cond.specs.declared.commits.Found.{Found}
use Rattle.bg_cond.specs.declared.commits.View.{View}
use Rattle.bg_rules.specs.Systems.{SystemParts}

pub found_shown : (system : SystemParts) (limit : ℕ) (seen : List Entry) (view : View) (found : Option Found) → IsViewOf system limit seen view
    → IfSome found (λ (it : Found). (it.version ≡ view.version) × IsLegal view.host system.rules it.step) → IfSome found (λ (it : Found). IsFound system seen it)
found_shown system limit seen view None shows is = tt
found_shown system limit seen view (Some it) shows is = found_at_view system limit seen view it shows is.0 is.1
