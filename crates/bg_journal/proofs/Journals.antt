-- The laws of the texts of journals.
use Rattle.std.proofs.Common.{◌≡◌, ℕ, zero, suc, ◌+◌, ◌-◌, ◌<◌, ◌≤◌, false, eqb, List, [], ◌∷◌, ◌++◌, length, drop, Result, Ok, Err, refl, sym, ap, ◌∙◌, append_assoc, arith}
use Rattle.std.specs.Prelude.{codes, IfOk, IfErr}
use Rattle.std.specs.List.{flat_map, AllByRecursion}
use Rattle.std.specs.Fmt.{decimal}
use Rattle.std.proofs.lemmas.Bool.{eq-eqb}
use Rattle.std.proofs.lemmas.List.{append-nil, append_cancel_left, length-append, drop_at}
use Rattle.std.proofs.lemmas.Grind.{flat_map-append}
use Rattle.bg_base.specs.Limits.{most_steps}
use Rattle.bg_base.specs.declared.history.Entry.{Entry}
use Rattle.bg_listing.proofs.Combinators.{no_two}
use Rattle.bg_journal.specs.declared.fault.JournalFault.{JournalFault}
use Rattle.bg_journal.specs.declared.fault.JournalFault.TheVariants.{Bad, OutOfMemory}
use Rattle.bg_journal.specs.JournalText.{step_text, entry_line, journal_text}
use Rattle.bg_journal.specs.JournalReading.{IsEntry, IsJournal, BeginsWithJournal, IsWithoutEntry, AreInFront, IsBadAt, at_first, later, TellsFault, ReadsJournal}
use Rattle.bg_journal.proofs.EntryLines.{entry_reads}

-- ---- lines of entries, one after the other

abbrev pub AreEntries : List Entry → Type 0
AreEntries entries = AllByRecursion IsEntry entries

-- no entry follows where there may be one more
abbrev Stops : ℕ → List Entry → List ℕ → Type 0
Stops most entries rest = length entries < most → IsWithoutEntry rest

abbrev pub lines_of : List Entry → List ℕ
lines_of entries = flat_map entry_line entries

-- lines of entries are those of one list, where no further one may follow
same_entries : (most : ℕ) (a b : List Entry) (x y : List ℕ) → length a ≤ most → length b ≤ most → AreEntries a → AreEntries b → Stops most a x → Stops most b y
    → lines_of a ++ x ≡ lines_of b ++ y → (a ≡ b) × (x ≡ y)
same_entries most [] [] x y la lb fa fb sa sb e = (refl, e)
same_entries most [] (b ∷ bs) x y la lb fa fb sa sb e =
    absurd (sa (omega arith) b (lines_of bs ++ y) fb.0 (e ∙ append_assoc (entry_line b) (lines_of bs) y))
same_entries most (a ∷ others) [] x y la lb fa fb sa sb e =
    absurd (sb (omega arith) a (lines_of others ++ x) fa.0 (sym e ∙ append_assoc (entry_line a) (lines_of others) x))
same_entries zero (a ∷ others) (b ∷ bs) x y la lb fa fb sa sb e = absurd (omega arith)
same_entries (suc most) (a ∷ others) (b ∷ bs) x y la lb fa fb sa sb e =
    let regrouped : entry_line a ++ (lines_of others ++ x) ≡ entry_line b ++ (lines_of bs ++ y) = sym (append_assoc (entry_line a) (lines_of others) x) ∙ e ∙ append_assoc (entry_line b) (lines_of bs) y in
    let first = no_two entry_reads a b (lines_of others ++ x) (lines_of bs ++ y) fa.0 fb.0 regrouped in
    let rest_same = same_entries most others bs x y (omega arith) (omega arith) fa.1 fb.1 (λ lt. sa (omega arith)) (λ lt. sb (omega arith)) first.1 in
    (ap (λ c. c ∷ others) first.0 ∙ ap (λ cs. b ∷ cs) rest_same.0, rest_same.1)

-- one more entry behind those that stand in front
pub one_more : (lines : List ℕ) (entries : List Entry) (entry : Entry) (rest behind : List ℕ) → lines ≡ lines_of entries ++ rest → rest ≡ entry_line entry ++ behind → lines ≡ lines_of (entries ++ entry ∷ []) ++ behind
one_more lines entries entry rest behind e s =
    let last : lines_of (entry ∷ []) ≡ entry_line entry = append-nil (entry_line entry) in
    e ∙ ap (λ y. lines_of entries ++ y) s ∙ sym (append_assoc (lines_of entries) (entry_line entry) behind)
    ∙ ap (λ y. (lines_of entries ++ y) ++ behind) (sym last) ∙ ap (λ y. y ++ behind) (sym (flat_map-append entry_line entries (entry ∷ [])))

pub all_and_one : (entries : List Entry) (entry : Entry) → AreEntries entries → IsEntry entry → AreEntries (entries ++ entry ∷ [])
all_and_one [] entry f g = (g, tt)
all_and_one (e ∷ es) entry f g = (f.0, all_and_one es entry f.1 g)

-- ---- the text of a journal

first_of : List ℕ → ℕ
first_of [] = 0
first_of (b ∷ bytes) = b

apart : (n m : ℕ) → eqb n m ≡ false → n ≡ m → ⊥
apart n m differ same = let equal = eq-eqb n m same in cc

other_first : (a b : List ℕ) → 101 ∷ a ≡ 115 ∷ b → ⊥
unfolding first_of
other_first a b e = apart 101 115 refl (ap first_of e)

-- the last line is not that of an entry
end_is_no_entry : (rest : List ℕ) → IsWithoutEntry (codes "end\n" ++ rest)
unfolding entry_line
end_is_no_entry rest = λ entry more f e. other_first (codes "nd\n" ++ rest) (codes "tep " ++ (decimal entry.worker ++ (codes " " ++ step_text entry.rule entry.map)) ++ more) e

pub text_is : (entries : List Entry) (rest : List ℕ) → journal_text entries ++ rest ≡ codes "journal 1\n" ++ (lines_of entries ++ (codes "end\n" ++ rest))
unfolding journal_text
text_is entries rest = append_assoc (codes "journal 1\n") (lines_of entries ++ codes "end\n") rest ∙ ap (λ y. codes "journal 1\n" ++ y) (append_assoc (lines_of entries) (codes "end\n") rest)

pub one_text : (a b : List Entry) (x y : List ℕ) → IsJournal a → IsJournal b → journal_text a ++ x ≡ journal_text b ++ y → (a ≡ b) × (x ≡ y)
one_text a b x y fa fb e =
    let lines : lines_of a ++ (codes "end\n" ++ x) ≡ lines_of b ++ (codes "end\n" ++ y) =
    append_cancel_left (codes "journal 1\n") (lines_of a ++ (codes "end\n" ++ x)) (lines_of b ++ (codes "end\n" ++ y)) (sym (text_is a x) ∙ e ∙ text_is b y) in
    let same = same_entries most_steps a b (codes "end\n" ++ x) (codes "end\n" ++ y) fa.many fb.many fa.all fb.all (λ _. end_is_no_entry x) (λ _. end_is_no_entry y) lines in
    (same.0, append_cancel_left (codes "end\n") x y same.1)

pub no_journal : (bytes : List ℕ) (line : ℕ) → IsBadAt bytes line → (entries : List Entry) (rest : List ℕ) → IsJournal entries → bytes ≡ journal_text entries ++ rest → ⊥
no_journal bytes line (at_first is none) entries rest f e = none (lines_of entries ++ (codes "end\n" ++ rest)) (e ∙ text_is entries rest)
no_journal bytes line (later before lines behind is there front none) entries rest f e =
    let same_lines : lines_of before ++ behind ≡ lines_of entries ++ (codes "end\n" ++ rest) =
    sym front.text_there ∙ append_cancel_left (codes "journal 1\n") lines (lines_of entries ++ (codes "end\n" ++ rest)) (sym there ∙ e ∙ text_is entries rest) in
    let same = same_entries most_steps before entries behind (codes "end\n" ++ rest) front.journal.many f.many front.journal.all f.all front.no_more (λ _. end_is_no_entry rest) same_lines in
    none rest same.1

pub one_bad_line : (bytes : List ℕ) (a b : ℕ) → IsBadAt bytes a → IsBadAt bytes b → a ≡ b
one_bad_line bytes a b (at_first is none) (at_first is_too none_too) = is ∙ sym is_too
one_bad_line bytes a b (at_first is none) (later entries lines rest is_too there front none_too) = absurd (none lines there)
one_bad_line bytes a b (later entries lines rest is there front none) (at_first is_too none_too) = absurd (none_too lines there)
one_bad_line bytes a b (later entries lines rest is there front none) (later others lines_too rest_too is_too there_too front_too none_too) =
    let same_lines : lines_of entries ++ rest ≡ lines_of others ++ rest_too =
    sym front.text_there ∙ append_cancel_left (codes "journal 1\n") lines lines_too (sym there ∙ there_too) ∙ front_too.text_there in
    let same = same_entries most_steps entries others rest rest_too front.journal.many front_too.journal.many front.journal.all front_too.journal.all front.no_more front_too.no_more same_lines in
    is ∙ ap (λ es. length es + 2) same.0 ∙ sym is_too

-- ---- what the reader returns

pub begins : (bytes lines : List ℕ) (entries : List Entry) (rest behind : List ℕ) → bytes ≡ codes "journal 1\n" ++ lines → AreInFront lines entries rest → rest ≡ codes "end\n" ++ behind
    → BeginsWithJournal bytes entries (length bytes - length behind)
begins bytes lines entries rest behind there front ends =
    let text : bytes ≡ journal_text entries ++ behind =
    there ∙ ap (λ y. codes "journal 1\n" ++ y) (front.text_there ∙ ap (λ y. lines_of entries ++ y) ends) ∙ sym (text_is entries behind) in
    let used : length bytes - length behind ≡ length (journal_text entries) = omega (arith, ap length text, length-append (journal_text entries) behind) in
    let back : drop (length bytes - length behind) bytes ≡ behind = ap (drop (length bytes - length behind)) text ∙ drop_at (journal_text entries) behind (length bytes - length behind) (sym used) in
    record { journal = front.journal; text_there = text ∙ ap (λ y. journal_text entries ++ y) (sym back); text_length = used }

pub only_that : (bytes : List ℕ) (result : Result (List Entry × ℕ) JournalFault) → IfOk result (λ x. BeginsWithJournal bytes x.0 x.1) → IfErr result (TellsFault bytes)
    → (entries : List Entry) (rest : List ℕ) → IsJournal entries → bytes ≡ journal_text entries ++ rest → ReadsJournal result entries
only_that bytes (Ok x) h k entries rest f e =
    let same = one_text x.0 entries (drop x.1 bytes) rest h.journal f (sym h.text_there ∙ e) in
    (same.0, h.text_length ∙ ap (λ es. length (journal_text es)) same.0)
only_that bytes (Err (Bad line)) h k entries rest f e = no_journal bytes line k entries rest f e
only_that bytes (Err OutOfMemory) h k entries rest f e = tt
