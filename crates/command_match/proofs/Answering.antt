-- What is made of a system, as an answer.
use Rattle.std.proofs.Common.{◌≡◌, ℕ, Bool, Result, Ok, Err, IfOk, ◌<◌, List, [], Some, length, slice_get, sym, subst, ◌∙◌}
use Rattle.std.proofs.lemmas.Option.{slice_get_within}
use Rattle.bg_answers.specs.Answer.{Answer, answer_of}
use Rattle.bg_answers.specs.declared.reply.Reply.{Reply}
use Rattle.bg_answers.specs.declared.status.Status.TheVariants.{Done, TooMany}
use Rattle.bg_match_text.specs.Appending.{Appends}
use Rattle.bg_match_text.specs.Counts.{AreFew, IsFirstExcess, excess_line}
use Rattle.bg_match_text.specs.MatchText.{IsMatchText}
use Rattle.bg_rules.specs.Rules.{RuleParts}
use Rattle.bg_rules.specs.Systems.{SystemParts}
use Rattle.command_match.specs.Match.{IsMatchAnswer, listed, too_many}

-- the texts of all rules, written behind nothing
pub all_listed : (most : ℕ) (explain : Bool) (system : SystemParts) (text : List ℕ) → AreFew most system
    → Appends (IsMatchText system explain) [] text → IsMatchAnswer most explain system (record { status = Done; text = text })
all_listed most explain system text few written =
    listed few (subst (IsMatchText system explain) (sym written.appended) written.is_text)

-- the first rule with too many is one of the rules
pub first_below : (most : ℕ) (system : SystemParts) (number : ℕ) → (rule : RuleParts) × IsFirstExcess most system number rule
    → number < length system.rules
first_below most system number first = slice_get_within system.rules number first.0 first.1.there

-- the line of a rule that is the first with too many
told_of : (most : ℕ) (explain : Bool) (system : SystemParts) (number : ℕ) (answer : Answer)
    → (rule : RuleParts) × IsFirstExcess most system number rule
    → (rule : RuleParts) × (slice_get system.rules number ≡ Some rule) × (answer ≡ record { status = TooMany; text = excess_line number rule most })
    → IsMatchAnswer most explain system answer
told_of most explain system number answer first told =
    let is : Some first.0 ≡ Some told.0 = sym first.1.there ∙ told.1 in
    let same : first.0 ≡ told.0 = cc in
    subst (IsMatchAnswer most explain system) (sym told.2)
    (too_many (subst (IsFirstExcess most system number) same first.1))

pub told_by : {E : Type 0} (most : ℕ) (explain : Bool) (system : SystemParts) (number : ℕ) (reply : Result Reply E)
    → (rule : RuleParts) × IsFirstExcess most system number rule
    → IfOk reply (λ reply. (rule : RuleParts) × (slice_get system.rules number ≡ Some rule)
    × (answer_of reply ≡ record { status = TooMany; text = excess_line number rule most }))
    → IfOk reply (λ reply. IsMatchAnswer most explain system (answer_of reply))
told_by most explain system number (Ok reply) first told = told_of most explain system number (answer_of reply) first told
told_by most explain system number (Err e) first told = tt
