-- What a text describes is a system.
use Rattle.std.proofs.Common.{◌≡◌, ℕ, List, Result, Ok, Err, refl, sym, ◌∙◌}
use Rattle.bg_elab.specs.declared.fault.ModelFault.{ModelFault}
use Rattle.bg_elab.specs.Elaboration.{text_of}
use Rattle.bg_elab.specs.Reading.{at_its_byte, IsReading, no_tokens, unexpected, too_deep, comes_to}
use Rattle.bg_elab.specs.Systems.{elaborated}
use Rattle.bg_elab.proofs.SystemsKept.{elaborated_is_system}
use Rattle.bg_rules.specs.Systems.{SystemParts, IsSystem}
use Rattle.bg_values.specs.declared.refusal.Refusal.{Refusal}
use Rattle.bg_values.specs.Scopes.{ScopeParts}

told_ok : (text : ScopeParts) (outcome : Result SystemParts Refusal) (system : SystemParts) → at_its_byte text outcome ≡ Ok system → outcome ≡ Ok system
told_ok text (Ok other) system is =
    let plain : ◌≡◌ {A = Result SystemParts ModelFault} (Ok other) (Ok system) = is in
    let same : other ≡ system = cc in
    cc
told_ok text (Err refusal) system is = absurd cc

read_is_system : (bytes : List ℕ) (outcome : Result SystemParts ModelFault) (system : SystemParts) → IsReading bytes outcome → outcome ≡ Ok system → IsSystem system
read_is_system bytes outcome system (no_tokens only) is = absurd cc
read_is_system bytes outcome system (unexpected tokens cut fault) is = absurd cc
read_is_system bytes outcome system (too_deep tokens cut fault) is = absurd cc
read_is_system bytes outcome system (comes_to tokens tree cut of comes) is =
    let text = text_of bytes tokens in
    elaborated_is_system text tree system (told_ok text (elaborated text tree) system (sym comes ∙ is))

pub described_is_system : (bytes : List ℕ) (system : SystemParts) → IsReading bytes (Ok system) → IsSystem system
described_is_system bytes system reading = read_is_system bytes (Ok system) system reading refl
