-- A text is bad at the line at which it stops being that of a journal.
use Rattle.std.proofs.Common.{◌≡◌, ℕ, zero, suc, ◌+◌, ◌<◌, ◌≤◌, true, List, [], ◌∷◌, ◌++◌, length, Result, Ok, Err, refl, sym, ap, ◌∙◌, append_assoc, arith}
use Rattle.std.specs.Prelude.{codes}
use Rattle.std.specs.List.{list_all, AllByRecursion}
use Rattle.std.specs.Char.{is_ascii_digit}
use Rattle.std.specs.Fmt.{decimal}
use Rattle.std.proofs.lemmas.Bool.{and_parts, and_from}
use Rattle.std.proofs.lemmas.Fmt.{digits_decimal}
use Rattle.std.proofs.lemmas.List.Folds.{list_all-append}
use Rattle.bg_base.specs.Limits.{most_steps}
use Rattle.bg_base.specs.declared.history.Entry.{Entry}
use Rattle.bg_listing.specs.Spelling.{numbers_line}
use Rattle.bg_listing.specs.Limits.{IsNumber}
use Rattle.bg_listing.specs.Combinators.{after}
use Rattle.bg_listing.specs.Verdict.{line_feeds}
use Rattle.bg_listing.specs.Stops.{first_line, AreLines, StopsAt, StopsAtLine, HasText}
use Rattle.bg_listing.proofs.Numbers.{own, digits_all}
use Rattle.bg_listing.proofs.Stopping.{is_inside, IsLine, line_lines, lines_append, first_line_is, behind_line, first_and_behind}
use Rattle.bg_listing.proofs.SettledRows.{feeds-append, line_feed_once}
use Rattle.bg_journal.specs.JournalText.{step_text, entry_line, journal_text}
use Rattle.bg_journal.specs.JournalReading.{IsEntry, IsJournal, IsWithout, IsWithoutEntry, AreInFront, IsBadAt, at_first, later, beginning}
use Rattle.bg_journal.specs.EntryReading.{entry_at}
use Rattle.bg_journal.proofs.EntryLines.{entry_read, no_entry_read, word_read, no_word_read}
use Rattle.bg_journal.proofs.Journals.{lines_of, AreEntries, text_is, no_journal}

-- ---- the line of an entry is one line

-- no line feed among the bytes
abbrev Free : List ℕ → Type 0
Free bytes = list_all is_inside bytes ≡ true

digit_inside : (b : ℕ) → is_ascii_digit b ≡ true → is_inside b ≡ true
digit_inside b e = grind arith

digits_free : (bytes : List ℕ) → list_all is_ascii_digit bytes ≡ true → Free bytes
digits_free [] e = refl
digits_free (b ∷ bytes) e =
    let t = and_parts (is_ascii_digit b) (list_all is_ascii_digit bytes) e in
    and_from (is_inside b) (list_all is_inside bytes) (digit_inside b t.0) (digits_free bytes t.1)

number_free : (number : ℕ) → IsNumber number → Free (decimal number)
number_free number le = digits_free (decimal number) (digits_all (decimal number) (digits_decimal own number (omega arith)))

free_and_line : (front text : List ℕ) → Free front → IsLine text → IsLine (front ++ text)
free_and_line front text free l = record {
  inside = front ++ l.inside;
  text_is = ap (λ t. front ++ t) l.text_is ∙ sym (append_assoc front l.inside (10 ∷ []));
  free = list_all-append is_inside front l.inside ∙ and_from (list_all is_inside front) (list_all is_inside l.inside) free l.free;
}

map_is_line : (images : List ℕ) → AllByRecursion IsNumber images → IsLine (numbers_line images)
map_is_line [] f = record { inside = []; text_is = refl; free = refl }
map_is_line (image ∷ images) f = free_and_line (32 ∷ decimal image) (numbers_line images) (number_free image f.0) (map_is_line images f.1)

entry_is_line : (entry : Entry) → IsEntry entry → IsLine (entry_line entry)
unfolding entry_line step_text
entry_is_line entry f =
    let rule = free_and_line (decimal entry.rule) (numbers_line entry.map) (number_free entry.rule f.rule) (map_is_line entry.map f.map.all) in
    let behind_worker = free_and_line (codes " ") (decimal entry.rule ++ numbers_line entry.map) refl rule in
    free_and_line (codes "step ") (decimal entry.worker ++ (codes " " ++ (decimal entry.rule ++ numbers_line entry.map))) refl
    (free_and_line (decimal entry.worker) (codes " " ++ (decimal entry.rule ++ numbers_line entry.map)) (number_free entry.worker f.worker) behind_worker)

entries_lines : (entries : List Entry) → AreEntries entries → AreLines (lines_of entries)
entries_lines [] f = refl
entries_lines (entry ∷ entries) f = lines_append (entry_line entry) (lines_of entries) (line_lines (entry_line entry) (entry_is_line entry f.0)) (entries_lines entries f.1)

entries_feeds : (entries : List Entry) → AreEntries entries → line_feeds (lines_of entries) ≡ length entries
entries_feeds [] f = refl
entries_feeds (entry ∷ entries) f = omega (arith, feeds-append (entry_line entry) (lines_of entries), line_feed_once (entry_line entry) (entry_is_line entry f.0), entries_feeds entries f.1)

-- ---- what does not stand in front, does not where the first line is the same

there_too : (word bytes others rest : List ℕ) → IsLine word → first_line others ≡ first_line bytes → others ≡ word ++ rest → bytes ≡ word ++ behind_line bytes
there_too word bytes others rest l same e = first_and_behind bytes ∙ ap (λ y. y ++ behind_line bytes) (sym same ∙ ap first_line e ∙ first_line_is word rest l)

without_too : (word bytes others : List ℕ) → IsLine word → first_line others ≡ first_line bytes → IsWithout word bytes → IsWithout word others
without_too word bytes others l same none = λ rest e. none (behind_line bytes) (there_too word bytes others rest l same e)

without_entry_too : (bytes others : List ℕ) → first_line others ≡ first_line bytes → IsWithoutEntry bytes → IsWithoutEntry others
without_entry_too bytes others same none = λ entry rest f e. none entry (behind_line bytes) f (there_too (entry_line entry) bytes others rest (entry_is_line entry f) same e)

-- ---- the bad line

first_is_line : IsLine (codes "journal 1\n")
first_is_line = record { inside = codes "journal 1"; text_is = refl; free = refl }

end_is_line : IsLine (codes "end\n")
end_is_line = record { inside = codes "end"; text_is = refl; free = refl }

stops_at_first : (bytes : List ℕ) → IsWithout (codes "journal 1\n") bytes → StopsAt journal_text IsJournal bytes [] bytes
stops_at_first bytes none = record {
  there = refl;
  whole = refl;
  begins = record { value = []; more = journal_text []; fits = record { many = omega arith; all = tt }; text_is = refl };
  none = λ others same entries rest f e. no_journal others 1 (at_first refl (without_too (codes "journal 1\n") bytes others first_is_line same none)) entries rest f e;
}

front_text : (entries : List Entry) (rest : List ℕ) → (codes "journal 1\n" ++ lines_of entries) ++ rest ≡ codes "journal 1\n" ++ (lines_of entries ++ rest)
front_text entries rest = append_assoc (codes "journal 1\n") (lines_of entries) rest

bad_behind : (entries : List Entry) (others : List ℕ) → IsJournal entries → (length entries < most_steps → IsWithoutEntry others) → IsWithout (codes "end\n") others
    → IsBadAt ((codes "journal 1\n" ++ lines_of entries) ++ others) (length entries + 2)
bad_behind entries others f no_more none = later entries (lines_of entries ++ others) others refl (front_text entries others) (record { journal = f; text_there = refl; no_more = no_more }) none

begins_there : (entries : List Entry) → journal_text entries ≡ (codes "journal 1\n" ++ lines_of entries) ++ codes "end\n"
unfolding journal_text
begins_there entries = sym (append_assoc (codes "journal 1\n") (lines_of entries) (codes "end\n"))

stops_later : (bytes lines rest : List ℕ) (entries : List Entry) → bytes ≡ codes "journal 1\n" ++ lines → AreInFront lines entries rest → IsWithout (codes "end\n") rest
    → StopsAt journal_text IsJournal bytes (codes "journal 1\n" ++ lines_of entries) rest
stops_later bytes lines rest entries there front none = record {
  there = there ∙ ap (λ y. codes "journal 1\n" ++ y) front.text_there ∙ sym (front_text entries rest);
  whole = lines_append (codes "journal 1\n") (lines_of entries) refl (entries_lines entries front.journal.all);
  begins = record { value = entries; more = codes "end\n"; fits = front.journal; text_is = begins_there entries };
  none = λ others same found more f e. no_journal ((codes "journal 1\n" ++ lines_of entries) ++ others) (length entries + 2)
      (bad_behind entries others front.journal (λ few. without_entry_too rest others same (front.no_more few)) (without_too (codes "end\n") rest others end_is_line same none)) found more f e;
}

pub stops_there : (bytes : List ℕ) (line : ℕ) → IsBadAt bytes line → StopsAtLine journal_text IsJournal bytes beginning line
stops_there bytes line (at_first is none) = record { lines = []; behind = bytes; line_is = is; stops = stops_at_first bytes none }
stops_there bytes line (later entries lines rest is there front none) = record {
  lines = codes "journal 1\n" ++ lines_of entries;
  behind = rest;
  line_is = omega (arith, is, feeds-append (codes "journal 1\n") (lines_of entries), line_feed_once (codes "journal 1\n") first_is_line, entries_feeds entries front.journal.all);
  stops = stops_later bytes lines rest entries there front none;
}

-- ---- each text begins with that of a journal, or has a bad line

-- the entries whose lines stand in front, at most so many
record Front (most : ℕ) (bytes : List ℕ) : Type 0 where
  entries : List Entry
  rest : List ℕ
  few : length entries ≤ most
  fits : AreEntries entries
  there : bytes ≡ lines_of entries ++ rest
  no_more : length entries < most → IsWithoutEntry rest

front_if : (most : ℕ) (bytes : List ℕ) (read : Result (Entry × List ℕ) (Unit {0})) → entry_at bytes ≡ read → ((rest : List ℕ) → Front most rest) → Front (suc most) bytes
front_if most bytes (Err e) is others = record { entries = []; rest = bytes; few = omega arith; fits = tt; there = refl; no_more = λ _. no_entry_read bytes is }
front_if most bytes (Ok x) is others =
    let first = entry_read bytes x.0 x.1 is in
    let behind = others x.1 in
    let few = behind.few in
    record {
      entries = x.0 ∷ behind.entries;
      rest = behind.rest;
      few = omega arith;
      fits = (first.1, behind.fits);
      there = first.0 ∙ ap (λ y. entry_line x.0 ++ y) behind.there ∙ sym (append_assoc (entry_line x.0) (lines_of behind.entries) behind.rest);
      no_more = λ fewer. behind.no_more (omega arith);
    }

front_of : (most : ℕ) (bytes : List ℕ) → Front most bytes
front_of zero bytes = record { entries = []; rest = bytes; few = omega arith; fits = tt; there = refl; no_more = λ fewer. absurd (omega arith) }
front_of (suc most) bytes = front_if most bytes (entry_at bytes) refl (front_of most)

-- the bytes, of which no journal's text is a beginning, have a bad line
abbrev HasBadLine : List ℕ → Type 0
HasBadLine bytes = (line : ℕ) × IsBadAt bytes line

end_if : (bytes lines : List ℕ) → bytes ≡ codes "journal 1\n" ++ lines → ¬ HasText journal_text IsJournal bytes → (front : Front most_steps lines) (read : Result (List ℕ) (Unit {0})) → after (codes "end\n") front.rest ≡ read → HasBadLine bytes
end_if bytes lines there none front (Err e) is = (
  length front.entries + 2,
  later front.entries lines front.rest refl there
      (record { journal = record { many = front.few; all = front.fits }; text_there = front.there; no_more = front.no_more }) (no_word_read (codes "end\n") front.rest is),
)
end_if bytes lines there none front (Ok behind) is =
    let text : bytes ≡ journal_text front.entries ++ behind =
    there ∙ ap (λ y. codes "journal 1\n" ++ y) (front.there ∙ ap (λ y. lines_of front.entries ++ y) (word_read (codes "end\n") front.rest behind is)) ∙ sym (text_is front.entries behind) in
    absurd (none (record { value = front.entries; rest = behind; fits = record { many = front.few; all = front.fits }; there = text }))

first_if : (bytes : List ℕ) → ¬ HasText journal_text IsJournal bytes → (read : Result (List ℕ) (Unit {0})) → after (codes "journal 1\n") bytes ≡ read → HasBadLine bytes
first_if bytes none (Err e) is = (1, at_first refl (no_word_read (codes "journal 1\n") bytes is))
first_if bytes none (Ok lines) is =
    let front = front_of most_steps lines in
    end_if bytes lines (word_read (codes "journal 1\n") bytes lines is) none front (after (codes "end\n") front.rest) refl

pub some_bad_line : (bytes : List ℕ) → ¬ HasText journal_text IsJournal bytes → (line : ℕ) × IsBadAt bytes line
some_bad_line bytes none = first_if bytes none (after (codes "journal 1\n") bytes) refl
