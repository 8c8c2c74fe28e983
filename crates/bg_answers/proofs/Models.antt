-- What is read of a model is one system or one refusal.
use Rattle.std.proofs.Common.{◌≡◌, List, ℕ, Ok, sym, ap, ◌∙◌}
use Rattle.bg_elab.specs.Reading.{IsReading}
use Rattle.bg_elab.proofs.Readings.{one_reading}
use Rattle.bg_rules.specs.Systems.{SystemParts}
use Rattle.bg_answers.specs.Described.{refused_at, IsRefusedModel}
use Rattle.bg_answers.specs.declared.refusal.Refusal.{Refusal}

-- the systems that the input describes are one
pub one_system : (input : List ℕ) {system other : SystemParts} → IsReading input (Ok system) → IsReading input (Ok other) → system ≡ other
one_system input read also = let same = one_reading input _ _ read also in cc

-- the refusals of the input are one
pub one_refusal : (input : List ℕ) (one other : Refusal) → IsRefusedModel input one → IsRefusedModel input other → one ≡ other
one_refusal input one other first second =
    let same = one_reading input _ _ first.refused second.refused in
    let codes : first.code ≡ second.code = cc in
    let details : first.detail ≡ second.detail = cc in
    let offsets : first.offset ≡ second.offset = cc in
    first.refusal_is ∙ ap (λ n. refused_at input n first.detail first.offset) codes
    ∙ ap (λ d. refused_at input second.code d first.offset) details ∙ ap (refused_at input second.code second.detail) offsets
    ∙ sym second.refusal_is

-- an input that is refused describes no system
pub no_system : (input : List ℕ) {system : SystemParts} {refusal : Refusal} → IsReading input (Ok system) → IsRefusedModel input refusal → ⊥
no_system input read is = let same = one_reading input _ _ is.refused read in absurd cc
