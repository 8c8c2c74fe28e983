-- The laws of the line of an entry.
use Rattle.std.proofs.Common.{◌≡◌, ℕ, zero, suc, ◌+◌, ◌-◌, ◌<◌, ◌≤◌, true, false, nat_eq, List, [], ◌∷◌, ◌++◌, length, map, take, drop, Option, Some, None, Result, Ok, Err, refl, sym, ap, subst, ◌∙◌, append_assoc, lit<, arith, Bor}
use Rattle.std.specs.Prelude.{codes, nat_lt, MatchOption}
use Rattle.std.specs.List.{AllByRecursion}
use Rattle.std.specs.Cmp.Lexicographic.{pointwise}
use Rattle.std.specs.Fmt.{decimal}
use Rattle.std.proofs.lemmas.Bool.{ltb-true, lt-ltb}
use Rattle.bg_base.specs.declared.history.Entry.{Entry}
use Rattle.bg_listing.specs.Spelling.{space, line_feed, numbers_line}
use Rattle.bg_listing.specs.Limits.{greatest_number, IsNumber, AreCounted}
use Rattle.bg_listing.specs.Combinators.{◌>>=◌, after, both, with_front, next, further, chain_within}
use Rattle.bg_listing.specs.Reading.{not_there, number_at}
use Rattle.bg_listing.specs.Verdict.{IsNumberAt}
use Rattle.bg_listing.specs.Answers.{Finds}
use Rattle.bg_listing.proofs.Combinators.{Holds, found, refused, Reads, Anything, as_reads, behind_reads, only_if_reads, both_read, chain_begins, chain_within_sound, chain_within_again, map_same, IsAfter, after_sound, after_again}
use Rattle.bg_listing.proofs.Numbers.{IsEnded, whole_number_reads}
use Rattle.bg_listing.proofs.Parts.{listed_numbers}
use Rattle.bg_listing.proofs.FixedBytes.{after_starts, after_not}
use Rattle.bg_listing.proofs.Longest.{number_found, given}
use Rattle.bg_journal.specs.JournalText.{step_text, entry_line}
use Rattle.bg_journal.specs.JournalReading.{most_images, IsEntry, IsWithout, IsWithoutEntry}
use Rattle.bg_journal.specs.EntryReading.{images_at, map_at, head_at, entry_from, entry_at}

-- ---- what the calls of other crates tell, in reading functions

pub behind_found : (word bytes : List ℕ) (found : Option (Bor (List ℕ)))
    → MatchOption found (pointwise nat_eq (take (length word) bytes) word ≡ false) (λ x. (pointwise nat_eq (take (length word) bytes) word ≡ true) × (x.now ≡ drop (length word) bytes) × (length x.now + length word ≡ length bytes))
    → Finds (λ rest. rest.now) found (after word bytes)
behind_found word bytes (Some x) h = after_starts word bytes h.0 ∙ ap (λ rest. Ok rest) (sym h.1)
behind_found word bytes None h = after_not word bytes h

pub number_read : (bytes : List ℕ) (number end : ℕ) → number ≤ greatest_number → IsNumberAt bytes 0 number end → number_at greatest_number bytes ≡ Ok (number, drop end bytes)
number_read bytes number end le h = ap (number_at greatest_number) h.text ∙ (whole_number_reads greatest_number (lit< tt)).again number (drop end bytes) le h.whole

none_read : (bytes : List ℕ) (read : Result (ℕ × List ℕ) (Unit {0})) → number_at greatest_number bytes ≡ read → ((number end : ℕ) → number ≤ greatest_number → ¬ IsNumberAt bytes 0 number end) → read ≡ Err tt
none_read bytes (Ok x) e none =
    let there = number_found bytes 0 greatest_number x.0 x.1 (lit< tt) e in
    absurd (none x.0 (length bytes - length x.1) there.1 there.0)
none_read bytes (Err y) e none = refl

pub no_number_read : (bytes : List ℕ) → ((number end : ℕ) → number ≤ greatest_number → ¬ IsNumberAt bytes 0 number end) → number_at greatest_number bytes ≡ Err tt
no_number_read bytes none = none_read bytes (number_at greatest_number bytes) refl none

-- ---- the same text in other words

spelled_holds : {D X E : Type 0} {v : D → X} {t : D → List ℕ} {F : D → Type 0} (u : D → List ℕ) → ((d : D) → t d ≡ u d) → (bytes : List ℕ) (r : Result (X × List ℕ) E) → Holds v t F bytes r → Holds v u F bytes r
spelled_holds u alike bytes r (found d x rest e fits same) = found d x rest (e ∙ ap (λ y. y ++ rest) (alike d)) fits same
spelled_holds u alike bytes r (refused e) = refused e

spelled_reads : {D X E : Type 0} {Next : List ℕ → Type 0} {v : D → X} {t : D → List ℕ} {F : D → Type 0} {read : List ℕ → Result (X × List ℕ) E} (u : D → List ℕ)
    → ((d : D) → t d ≡ u d) → Reads Next v t F read → Reads Next v u F read
spelled_reads {read = read} u alike r = record {
  sound = λ bytes. spelled_holds u alike bytes (read bytes) (r.sound bytes);
  again = λ d rest f n. ap (λ y. read (y ++ rest)) (sym (alike d)) ∙ r.again d rest f n;
}

-- ---- maps

abbrev IsFew : {A : Type 0} → ℕ → Result (List A × List ℕ) (Unit {0}) → Type 0
IsFew most (Ok x) = length x.0 < most
IsFew most (Err e) = Unit {0}

front_few : {A : Type 0} (a : A) (most : ℕ) (read : Result (List A × List ℕ) (Unit {0})) → IsFew most read → IsFew (suc most) (with_front (a ∷ []) read)
front_few a most (Ok x) few = omega arith
front_few a most (Err e) few = tt

further_few : {A : Type 0} (most : ℕ) (a : Option A) (rest : List ℕ) (others : Result (List A × List ℕ) (Unit {0})) → IsFew most others → IsFew (suc most) (further a rest others)
further_few most None rest others few = omega arith
further_few most (Some a) rest others few = front_few a most others few

next_few : {A : Type 0} (most : ℕ) (n : Result (Option A × List ℕ) (Unit {0})) (others : List ℕ → Result (List A × List ℕ) (Unit {0})) → ((rest : List ℕ) → IsFew most (others rest))
    → IsFew (suc most) (n >>= λ x. further x.0 x.1 (others x.1))
next_few most (Ok x) others few = further_few most x.0 x.1 (others x.1) (few x.1)
next_few most (Err e) others few = tt

-- a chain that is read in so many steps has fewer items
chain_few : {A : Type 0} (closing separator : ℕ) (read : List ℕ → Result (A × List ℕ) (Unit {0})) (most : ℕ) (bytes : List ℕ) → IsFew most (chain_within closing separator read most bytes)
unfolding chain_within
chain_few closing separator read zero bytes = tt
chain_few closing separator read (suc most) bytes = next_few most (next closing separator read bytes) (chain_within closing separator read most) (chain_few closing separator read most)

-- where the next step of a chain refuses, so does the whole
pub chain_refuses : {A : Type 0} (closing separator : ℕ) (read : List ℕ → Result (A × List ℕ) (Unit {0})) (front : List A) (count i : ℕ) (bytes : List ℕ) (total : Result (List A × List ℕ) (Unit {0}))
    → i < count → next closing separator read bytes ≡ Err tt → with_front front (chain_within closing separator read (count - i) bytes) ≡ total → total ≡ Err tt
unfolding chain_within
chain_refuses closing separator read front count i bytes total lt h so_far =
    let k : count - i ≡ suc (count - (i + 1)) = omega arith in
    let refuses : with_front front (chain_within closing separator read (count - i) bytes) ≡ Err tt = rw (k, h) refl in
    sym so_far ∙ refuses

few_holds : {A : Type 0} {t : List A → List ℕ} {F : A → Type 0} (most : ℕ) (bytes : List ℕ) (read : Result (List A × List ℕ) (Unit {0}))
    → Holds (map (λ x. x)) t (AllByRecursion F) bytes read → IsFew (most + 1) read → Holds (λ xs. xs) t (AreCounted most F) bytes read
few_holds most bytes read (found ds xs rest e fits same) few =
    let seen : ds ≡ xs = sym (map_same ds) ∙ same in
    found ds xs rest e (record { many = omega (arith, ap length seen); all = fits }) seen
few_holds most bytes read (refused e) few = refused e

few_reads : (most : ℕ) → Reads Anything (λ numbers. numbers) numbers_line (AreCounted most IsNumber) (chain_within line_feed space (number_at greatest_number) (most + 1))
few_reads most = record {
  sound = λ bytes. few_holds most bytes (chain_within line_feed space (number_at greatest_number) (most + 1) bytes)
      (chain_within_sound line_feed space listed_numbers (most + 1) bytes) (chain_few line_feed space (number_at greatest_number) (most + 1) bytes);
  again = λ numbers rest f _.
      let many = f.many in
      let fewer : length numbers < most + 1 = omega arith in
      chain_within_again line_feed space (λ more. refl) (λ more. refl) refl listed_numbers (most + 1) numbers rest fewer f.all ∙ ap (λ y. Ok (y, rest)) (map_same numbers);
}

images_reads : Reads Anything (λ numbers. numbers) numbers_line (AreCounted most_images IsNumber) images_at
unfolding images_at
images_reads = few_reads most_images

map_reads : Reads Anything (λ numbers. numbers) numbers_line (λ numbers. AreCounted most_images IsNumber numbers × (nat_lt 0 (length numbers) ≡ true)) map_at
unfolding map_at
map_reads = only_if_reads not_there (λ numbers. nat_lt 0 (length numbers)) images_reads

-- ---- lines of entries

abbrev head_text : ℕ × ℕ → List ℕ
head_text head = (codes "step " ++ decimal head.0) ++ (codes " " ++ decimal head.1)

head_reads : Reads IsEnded (λ head. head) head_text (λ head. IsNumber head.0 × IsNumber head.1) head_at
unfolding head_at
head_reads = both_read (λ rule rest f n. refl) (behind_reads (codes "step ") listed_numbers) (behind_reads (codes " ") listed_numbers)

abbrev Parts : Type 0
Parts = (ℕ × ℕ) × List ℕ

abbrev parts_of : Entry → Parts
parts_of entry = ((entry.worker, entry.rule), entry.map)

abbrev parts_text : Parts → List ℕ
parts_text parts = head_text parts.0 ++ numbers_line parts.1

abbrev FitParts : Parts → Type 0
FitParts parts = (IsNumber parts.0.0 × IsNumber parts.0.1) × (AreCounted most_images IsNumber parts.1 × (nat_lt 0 (length parts.1) ≡ true))

entry_fits : (parts : Parts) → FitParts parts → IsEntry (entry_from parts)
entry_fits parts f = record { worker = f.0.0; rule = f.0.1; some = ltb-true 0 (length parts.1) f.1.1; map = f.1.0 }

parts_fit : (entry : Entry) → IsEntry entry → FitParts (parts_of entry)
parts_fit entry f = ((f.worker, f.rule), (f.map, lt-ltb 0 (length entry.map) f.some))

one_line : (entry : Entry) → parts_text (parts_of entry) ≡ entry_line entry
unfolding entry_line step_text
one_line entry = ap (λ y. codes "step " ++ y) (append_assoc (decimal entry.worker) (codes " " ++ decimal entry.rule) (numbers_line entry.map))

parts_read : Reads Anything (λ parts. parts) parts_text FitParts (both head_at map_at)
parts_read = both_read (λ numbers rest f n. chain_begins IsEnded line_feed space decimal (λ more. refl) (λ more. refl) numbers rest) head_reads map_reads

pub entry_reads : Reads Anything (λ entry. entry) entry_line IsEntry entry_at
unfolding entry_at
entry_reads = spelled_reads entry_line one_line
    (as_reads {w = λ entry. entry} {G = IsEntry} entry_from parts_of entry_from (λ parts f. refl) entry_fits parts_fit (λ entry f. refl) parts_read)

-- ---- what is read, and what is not

pub entry_read : (bytes : List ℕ) (entry : Entry) (rest : List ℕ) → entry_at bytes ≡ Ok (entry, rest) → (bytes ≡ entry_line entry ++ rest) × IsEntry entry
entry_read bytes entry rest e = let r = given entry_reads bytes entry rest e in (r.there, r.fits)

not_both : {A E : Type 0} (read : Result A E) (a : A) (e : E) → read ≡ Err e → read ≡ Ok a → ⊥
not_both read a e refuses gives = cc

pub no_entry_read : (bytes : List ℕ) → entry_at bytes ≡ Err tt → IsWithoutEntry bytes
no_entry_read bytes e = λ entry rest f there. not_both (entry_at bytes) (entry, rest) tt e (ap entry_at there ∙ entry_reads.again entry rest f tt)

pub no_word_read : (word bytes : List ℕ) → after word bytes ≡ Err tt → IsWithout word bytes
no_word_read word bytes e = λ rest there. not_both (after word bytes) rest tt e (ap (after word) there ∙ after_again word rest)

pub word_read : (word bytes rest : List ℕ) → after word bytes ≡ Ok rest → bytes ≡ word ++ rest
word_read word bytes rest e = subst (IsAfter word bytes) e (after_sound word bytes)
