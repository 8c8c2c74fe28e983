-- The lines that say why an input is refused.
use Rattle.std.specs.Prelude.{ℕ, List, [], ◌∷◌, ◌++◌, ◌==◌, if◌then◌else◌, codes}
use Rattle.std.specs.Fmt.{decimal}
use Rattle.bg_elab.specs.declared.fault.Detail.{Detail}
use Rattle.bg_elab.specs.declared.fault.Detail.TheVariants.{Nothing, Clause, Limit}
use Rattle.bg_values.specs.declared.refusal.LimitWord.{LimitWord}
use Rattle.bg_values.specs.declared.refusal.LimitWord.TheVariants as limits
use Rattle.bg_answers.specs.Answer.{Answer, line}
use Rattle.bg_answers.specs.declared.status.Status.TheVariants as statuses
use Rattle.bg_answers.specs.declared.refusal.Refusal.{Refusal}
use Rattle.bg_answers.specs.declared.refusal.Refusal.TheVariants.{Listing, Model, FacesDiffer, SupportMeets, NamesMeet, InnerNamesMeet, WidthsDiffer, NoSuchName, HasInnerNames}

-- the name of a code by which a listing is refused
abbrev pub fault_name : ℕ → List ℕ
fault_name code =
    if code == 1 then codes "BadLine"
    else (if code == 2 then codes "TooMany"
    else (if code == 3 then codes "NotAscending"
    else (if code == 4 then codes "Unknown"
    else (if code == 5 then codes "WrongPorts"
    else (if code == 6 then codes "AtomicHasChild"
    else (if code == 7 then codes "Cycle"
    else (if code == 8 then codes "Extra"
    else codes "DuplicateLabel")))))))

-- the name of a code in a table; where it is not there, the last name
abbrev pub name_in : List (ℕ × List ℕ) → List ℕ → ℕ → List ℕ
name_in [] last code = last
name_in (row ∷ table) last code = if code == row.0 then row.1 else name_in table last code

-- the names of the codes by which a text describes no system
abbrev pub model_fault_name : ℕ → List ℕ
model_fault_name =
    name_in (
    (11, codes "FacesDiffer") ∷ (13, codes "NamesMeet") ∷ (14, codes "InnerNamesMeet") ∷ (15, codes "WidthsDiffer")
    ∷ (17, codes "HasInnerNames") ∷ (21, codes "BadByte") ∷ (22, codes "OpenString") ∷ (23, codes "NumberTooLarge")
    ∷ (24, codes "DecimalNumber") ∷ (31, codes "Unexpected") ∷ (32, codes "TooDeep") ∷ (41, codes "UnknownName")
    ∷ (42, codes "DuplicateName") ∷ (43, codes "WrongPorts") ∷ (44, codes "AtomicHasChild") ∷ (45, codes "WrongArguments")
    ∷ (46, codes "NotGround") ∷ (47, codes "SidesDiffer") ∷ (48, codes "BadMap") ∷ (49, codes "NotSolid")
    ∷ (50, codes "NumberOverflow") ∷ (51, codes "ZeroDivisor") ∷ (52, codes "TooLarge") ∷ (53, codes "NoBlock")
    ∷ (54, codes "EmptyRange") ∷ []) (codes "WrongKind")

-- the name of a limit
abbrev pub limit_word : LimitWord → List ℕ
limit_word limits.Arity = codes "arity"
limit_word limits.Controls = codes "controls"
limit_word limits.Values = codes "values"
limit_word limits.Nodes = codes "nodes"
limit_word limits.Edges = codes "edges"
limit_word limits.Places = codes "places"
limit_word limits.Terms = codes "terms"
limit_word limits.Depth = codes "depth"
limit_word limits.Rules = codes "rules"
limit_word limits.Preds = codes "preds"

-- the detail, in front of the rest of the line
abbrev pub with_detail : Detail → List ℕ → List ℕ
with_detail Nothing rest = rest
with_detail (Clause clause) rest = codes " clause " ++ decimal clause ++ rest
with_detail (Limit limit) rest = codes " " ++ limit_word limit ++ rest

-- the line, without its line feed
abbrev pub refusal_text : Refusal → List ℕ
refusal_text (Listing code line) = codes "refused " ++ decimal code ++ codes " " ++ fault_name code ++ codes " at " ++ decimal line
refusal_text (Model code detail line column) =
    codes "refused " ++ decimal code ++ codes " " ++ model_fault_name code
    ++ with_detail detail (codes " at " ++ decimal line ++ codes ":" ++ decimal column)
refusal_text FacesDiffer = codes "refused 11 FacesDiffer"
refusal_text SupportMeets = codes "refused 12 SupportMeets"
refusal_text NamesMeet = codes "refused 13 NamesMeet"
refusal_text InnerNamesMeet = codes "refused 14 InnerNamesMeet"
refusal_text WidthsDiffer = codes "refused 15 WidthsDiffer"
refusal_text NoSuchName = codes "refused 16 NoSuchName"
refusal_text HasInnerNames = codes "refused 17 HasInnerNames"

-- the answer that is this line
abbrev pub refusing : Refusal → Answer
refusing refusal = record { status = statuses.Refused; text = line (refusal_text refusal) }
