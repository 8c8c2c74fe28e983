-- The laws of the parts of a line.
use Rattle.std.proofs.Common.{◌≡◌, ℕ, suc, ◌-◌, ◌<◌, ◌≤◌, ◌^◌, true, false, not, ◌&&◌, cond, eqb, List, [], ◌∷◌, ◌++◌, length, Result, Ok, Err, refl, sym, ap, ◌∙◌, lit<, arith}
use Rattle.std.specs.Prelude.{pos, negsuc, codes}
use Rattle.std.specs.List.{list_all, AllByRecursion}
use Rattle.std.specs.Char.{is_ascii_digit}
use Rattle.std.specs.Fmt.{decimal, signed_decimal}
use Rattle.std.proofs.lemmas.Bool.{eqb-true, and_parts}
use Rattle.std.proofs.lemmas.Fmt.{digits_decimal, decimal_nonempty}
use Rattle.bg_base.specs.Spelling.{is_word_byte, is_text_byte, is_lower_case, is_upper_case}
use Rattle.bg_base.specs.declared.names.Name.{Name}
use Rattle.bg_base.specs.declared.names.Name.TheVariants.{Plain, Port, Opened}
use Rattle.bg_base.specs.declared.names.Place.{Place}
use Rattle.bg_base.specs.declared.names.Place.TheVariants.{Node, Region}
use Rattle.bg_base.specs.declared.names.Link.{Link}
use Rattle.bg_base.specs.declared.names.Link.TheVariants.{Edge, Outer}
use Rattle.bg_base.specs.declared.labels.Value.{Value}
use Rattle.bg_base.specs.declared.labels.Value.TheVariants.{Int, Words}
use Rattle.bg_base.specs.declared.signature.Kind.{Kind}
use Rattle.bg_base.specs.declared.signature.Kind.TheVariants.{Normal, Atomic}
use Rattle.bg_listing.specs.Spelling.{chain_text, comma, closing_bracket, place_text, name_text, link_text, value_text, args_text, label_text, kind_text}
use Rattle.bg_listing.specs.Limits.{greatest_number, greatest_int, IsPlace, IsName, IsLink, IsInner, IsInt, IsValue, IsLabel}
use Rattle.bg_listing.specs.Combinators.{◌>>=◌, mapped, after, or_else, chain}
use Rattle.bg_listing.specs.Reading.{not_there, number_at, place_at, word_at, port_at, name_at, link_at, inner_at, negative_at, quoted_at, value_at, args_at, args_or_none, optional_args_at, label_at, kind_at, control_at}
use Rattle.bg_listing.proofs.Combinators.{Holds, found, refused, Reads, Anything, IsAfter, after_sound, holds_if, as_reads, mapped_reads, behind_reads, ended_reads, only_if_reads, run_reads, both_read, chain_reads, chain_begins, viewed_reads, map_same, IsNoMore}
use Rattle.bg_listing.proofs.Numbers.{IsEnded, ended_word, own, digits_all, number_reads, word_reads, whole_word_reads}

-- what stands behind a byte that tells its kind
tagged : {D C : Type 0} {t : D → List ℕ} {F : D → Type 0} (text : C → List ℕ) (Fits : C → Type 0) (make : D → C) (tag b : ℕ) (bytes : List ℕ) (r : Result (D × List ℕ) (Unit {0}))
    → ((d : D) → text (make d) ≡ tag ∷ t d) → ((d : D) → F d → Fits (make d)) → eqb b tag ≡ true
    → Holds (λ d. d) t F bytes r → Holds (λ c. c) text Fits (b ∷ bytes) (mapped make r)
tagged text Fits make tag b bytes r spelled to e (found d x rest s fits same) =
    found (make d) (make x) rest (ap (λ c. c ∷ bytes) (eqb-true b tag e) ∙ ap (λ y. tag ∷ y) s ∙ ap (λ y. y ++ rest) (sym (spelled d))) (to d fits) (ap make same)
tagged text Fits make tag b bytes r spelled to e (refused x) = refused x

-- a kind that no byte tells
untagged : {D C : Type 0} {t : D → List ℕ} {F : D → Type 0} (text : C → List ℕ) (Fits : C → Type 0) (make : D → C) (bytes : List ℕ) (r : Result (D × List ℕ) (Unit {0}))
    → ((d : D) → text (make d) ≡ t d) → ((d : D) → F d → Fits (make d)) → Holds (λ d. d) t F bytes r → Holds (λ c. c) text Fits bytes (mapped make r)
untagged text Fits make bytes r spelled to (found d x rest s fits same) = found (make d) (make x) rest (s ∙ ap (λ y. y ++ rest) (sym (spelled d))) (to d fits) (ap make same)
untagged text Fits make bytes r spelled to (refused x) = refused x

abbrev pub listed_numbers : Reads IsEnded (λ n. n) decimal (λ n. n ≤ greatest_number) (number_at greatest_number)
listed_numbers = number_reads greatest_number (lit< tt)

-- ---- places

place_sound : (bytes : List ℕ) → Holds (λ p. p) place_text IsPlace bytes (place_at bytes)
unfolding place_at
place_sound [] = refused tt
place_sound (b ∷ bytes) = holds_if (b ∷ bytes) (eqb b 110) (mapped Node (number_at greatest_number bytes)) (cond (eqb b 114) (mapped Region (number_at greatest_number bytes)) (Err tt))
    (λ e. tagged place_text IsPlace Node 110 b bytes (number_at greatest_number bytes) (λ n. refl) (λ n f. f) e (listed_numbers.sound bytes))
    (λ _. holds_if (b ∷ bytes) (eqb b 114) (mapped Region (number_at greatest_number bytes)) (Err tt)
    (λ e. tagged place_text IsPlace Region 114 b bytes (number_at greatest_number bytes) (λ n. refl) (λ n f. f) e (listed_numbers.sound bytes))
    (λ _. refused tt))

place_again : (p : Place) (rest : List ℕ) → IsPlace p → IsEnded rest → place_at (place_text p ++ rest) ≡ Ok (p, rest)
unfolding place_at
place_again (Node n) rest f s = rw (listed_numbers.again n rest f s) refl
place_again (Region n) rest f s = rw (listed_numbers.again n rest f s) refl

pub place_reads : Reads IsEnded (λ p. p) place_text IsPlace place_at
place_reads = record { sound = place_sound; again = place_again }

-- ---- names

port_reads : Reads IsEnded (λ p. p) (λ p. decimal p.0 ++ (46 ∷ decimal p.1)) (λ p. (p.0 ≤ greatest_number) × (p.1 ≤ greatest_number)) port_at
port_reads = both_read (λ n rest f s. refl) listed_numbers (behind_reads (codes ".") listed_numbers)

name_sound : (bytes : List ℕ) → Holds (λ n. n) name_text IsName bytes (name_at bytes)
unfolding name_at
name_sound [] = refused tt
name_sound (b ∷ bytes) = holds_if (b ∷ bytes) (eqb b 64) (mapped (λ p. Port p.0 p.1) (port_at bytes)) (cond (eqb b 126) (mapped Opened (number_at greatest_number bytes)) (mapped Plain (word_at is_lower_case (b ∷ bytes))))
    (λ e. tagged name_text IsName (λ p. Port p.0 p.1) 64 b bytes (port_at bytes) (λ p. refl) (λ p f. f) e (port_reads.sound bytes))
    (λ _. holds_if (b ∷ bytes) (eqb b 126) (mapped Opened (number_at greatest_number bytes)) (mapped Plain (word_at is_lower_case (b ∷ bytes)))
    (λ e. tagged name_text IsName Opened 126 b bytes (number_at greatest_number bytes) (λ n. refl) (λ n f. f) e (listed_numbers.sound bytes))
    (λ _. untagged name_text IsName Plain (b ∷ bytes) (word_at is_lower_case (b ∷ bytes)) (λ w. refl) (λ w f. f) ((word_reads is_lower_case).sound (b ∷ bytes))))

lower_is_no_tag : (b : ℕ) → is_lower_case b ≡ true → (eqb b 64 ≡ false) × (eqb b 126 ≡ false)
lower_is_no_tag b e = (grind arith, grind arith)

name_again : (n : Name) (rest : List ℕ) → IsName n → IsEnded rest → name_at (name_text n ++ rest) ≡ Ok (n, rest)
unfolding name_at
name_again (Plain []) rest f s = absurd cc
name_again (Plain (b ∷ word)) rest f s =
    let t = lower_is_no_tag b f.1 in
    rw (t.0, t.1, (word_reads is_lower_case).again (b ∷ word) rest f s) refl
name_again (Port v i) rest f s = rw (port_reads.again (v, i) rest f s) refl
name_again (Opened n) rest f s = rw (listed_numbers.again n rest f s) refl

pub name_reads : Reads IsEnded (λ n. n) name_text IsName name_at
name_reads = record { sound = name_sound; again = name_again }

-- ---- links

link_sound : (bytes : List ℕ) → Holds (λ l. l) link_text IsLink bytes (link_at bytes)
unfolding link_at
link_sound [] = refused tt
link_sound (b ∷ bytes) = holds_if (b ∷ bytes) (eqb b 35) (mapped Edge (number_at greatest_number bytes)) (cond (eqb b 61) (mapped Outer (name_at bytes)) (Err tt))
    (λ e. tagged link_text IsLink Edge 35 b bytes (number_at greatest_number bytes) (λ n. refl) (λ n f. f) e (listed_numbers.sound bytes))
    (λ _. holds_if (b ∷ bytes) (eqb b 61) (mapped Outer (name_at bytes)) (Err tt)
    (λ e. tagged link_text IsLink Outer 61 b bytes (name_at bytes) (λ n. refl) (λ n f. f) e (name_reads.sound bytes))
    (λ _. refused tt))

link_again : (l : Link) (rest : List ℕ) → IsLink l → IsEnded rest → link_at (link_text l ++ rest) ≡ Ok (l, rest)
unfolding link_at
link_again (Edge n) rest f s = rw (listed_numbers.again n rest f s) refl
link_again (Outer n) rest f s = rw (name_reads.again n rest f s) refl

pub link_reads : Reads IsEnded (λ l. l) link_text IsLink link_at
link_reads = record { sound = link_sound; again = link_again }

pub inner_reads : Reads IsEnded (λ r. r) (λ r. name_text r.name ++ (codes " " ++ link_text r.link)) IsInner inner_at
unfolding inner_at
inner_reads = mapped_reads (λ p. record { name = p.0; link = p.1 }) (λ r. (r.name, r.link)) (λ p. record { name = p.0; link = p.1 }) (λ p. refl)
    (both_read (λ l rest f s. refl) name_reads (behind_reads (codes " ") link_reads))

-- ---- values

one_more_one_less : (n : ℕ) → not (eqb n 0) ≡ true → suc (n - 1) ≡ n
one_more_one_less n e = grind arith

negative_fits : (n : ℕ) → n ≤ 9223372036854775808 → not (eqb n 0) ≡ true → n - 1 ≤ greatest_int
negative_fits n le e = grind arith

negative_from : (n : ℕ) → n ≤ greatest_int → (suc n ≤ 9223372036854775808) × (not (eqb (suc n) 0) ≡ true)
negative_from n le = (omega arith, grind arith)

negative_reads : Reads IsEnded (λ n. n) (λ n. decimal (suc n)) (λ n. n ≤ greatest_int) negative_at
unfolding negative_at
negative_reads = as_reads {w = λ n. n} {G = λ n. n ≤ greatest_int} (λ n. n - 1) suc (λ n. n - 1) (λ n f. one_more_one_less n f.1) (λ n f. negative_fits n f.0 f.1) (λ n f. negative_from n f) (λ n f. omega arith)
    (only_if_reads not_there (λ n. not (eqb n 0)) (number_reads 9223372036854775808 (lit< tt)))

quoted_reads : Reads Anything (λ t. t) (λ t. t ++ codes "\"") (λ t. list_all is_text_byte t ≡ true) quoted_at
unfolding quoted_at
quoted_reads = ended_reads (codes "\"") (λ rest. refl) (run_reads is_text_byte)

value_sound : (bytes : List ℕ) → Holds (λ v. v) value_text IsValue bytes (value_at bytes)
unfolding value_at
value_sound [] = refused tt
value_sound (b ∷ bytes) = holds_if (b ∷ bytes) (eqb b 34) (mapped Words (quoted_at bytes)) (cond (eqb b 45) (mapped Int (mapped negsuc (negative_at bytes))) (mapped Int (mapped pos (number_at greatest_int (b ∷ bytes)))))
    (λ e. tagged value_text IsValue Words 34 b bytes (quoted_at bytes) (λ t. refl) (λ t f. f) e (quoted_reads.sound bytes))
    (λ _. holds_if (b ∷ bytes) (eqb b 45) (mapped Int (mapped negsuc (negative_at bytes))) (mapped Int (mapped pos (number_at greatest_int (b ∷ bytes))))
    (λ e. untagged value_text IsValue Int (b ∷ bytes) (mapped negsuc (negative_at bytes)) (λ z. refl) (λ z f. f) (tagged signed_decimal IsInt negsuc 45 b bytes (negative_at bytes) (λ n. refl) (λ n f. f) e (negative_reads.sound bytes)))
    (λ _. untagged value_text IsValue Int (b ∷ bytes) (mapped pos (number_at greatest_int (b ∷ bytes))) (λ z. refl) (λ z f. f) (untagged signed_decimal IsInt pos (b ∷ bytes) (number_at greatest_int (b ∷ bytes)) (λ n. refl) (λ n f. f) ((number_reads greatest_int (lit< tt)).sound (b ∷ bytes)))))

digit_is_no_tag : (b : ℕ) → is_ascii_digit b ≡ true → (eqb b 34 ≡ false) × (eqb b 45 ≡ false)
digit_is_no_tag b e = (grind arith, grind arith)

-- a list of digits that is read is read as a number
int_again : (ds : List ℕ) (n : ℕ) (rest : List ℕ) → 0 < length ds → list_all is_ascii_digit ds ≡ true → number_at greatest_int (ds ++ rest) ≡ Ok (n, rest) → value_at (ds ++ rest) ≡ Ok (Int (pos n), rest)
unfolding value_at
int_again [] n rest long all e = absurd (omega arith)
int_again (d ∷ ds) n rest long all e =
    let t = digit_is_no_tag d (and_parts (is_ascii_digit d) (list_all is_ascii_digit ds) all).0 in
    rw (t.0, t.1, e) refl

value_again : (v : Value) (rest : List ℕ) → IsValue v → IsEnded rest → value_at (value_text v ++ rest) ≡ Ok (v, rest)
unfolding value_at
value_again (Int (pos n)) rest f s =
    let lt : n < 2 ^ 64 = omega arith in
    int_again (decimal n) n rest (decimal_nonempty n lt) (digits_all (decimal n) (digits_decimal own n lt)) ((number_reads greatest_int (lit< tt)).again n rest f s)
value_again (Int (negsuc n)) rest f s = rw (negative_reads.again n rest f s) refl
value_again (Words t) rest f s = rw (quoted_reads.again t rest f tt) refl

pub value_reads : Reads IsEnded (λ v. v) value_text IsValue value_at
value_reads = record { sound = value_sound; again = value_again }

-- ---- labels

values_reads : Reads Anything (λ vs. vs) (chain_text closing_bracket comma value_text) (AllByRecursion IsValue) (chain closing_bracket comma value_at)
values_reads = viewed_reads (λ vs. vs) map_same (chain_reads closing_bracket comma (λ rest. refl) (λ rest. refl) refl value_reads)

-- arguments in their brackets, one at least
pub args_read : Reads {D = Value × List Value} Anything (λ p. p.0 ∷ p.1) (λ p. 40 ∷ value_text p.0 ++ chain_text closing_bracket comma value_text p.1) (λ p. IsValue p.0 × AllByRecursion IsValue p.1) args_at
unfolding args_at
args_read = mapped_reads (λ p. p) (λ p. p) (λ p. p.0 ∷ p.1) (λ p. refl)
    (behind_reads (codes "(") (both_read (λ vs rest f n. chain_begins IsEnded closing_bracket comma value_text (λ rest. refl) (λ rest. refl) vs rest) value_reads values_reads))

optional_sound : (bytes : List ℕ) (r : Result (List Value × List ℕ) (Unit {0}))
    → Holds {D = Value × List Value} (λ p. p.0 ∷ p.1) (λ p. 40 ∷ value_text p.0 ++ chain_text closing_bracket comma value_text p.1) (λ p. IsValue p.0 × AllByRecursion IsValue p.1) bytes r
    → Holds {E = Unit {0}} (λ vs. vs) args_text (AllByRecursion IsValue) bytes (Ok (args_or_none r bytes))
optional_sound bytes r (found p x rest e fits same) = found (p.0 ∷ p.1) x rest e fits same
optional_sound bytes r (refused e) = found [] [] bytes refl tt refl

no_bracket : (b : ℕ) → (not (is_word_byte b) && not (eqb b 40)) ≡ true → eqb b 40 ≡ false
no_bracket b e = grind arith

no_args : (rest : List ℕ) → IsEnded rest → args_at rest ≡ Err tt
unfolding args_at
no_args [] e = refl
no_args (b ∷ rest) e = rw (no_bracket b e) refl

optional_again : (vs : List Value) (rest : List ℕ) → AllByRecursion IsValue vs → IsEnded rest → optional_args_at (args_text vs ++ rest) ≡ Ok (vs, rest)
optional_again [] rest f e = rw (no_args rest e) refl
optional_again (v ∷ vs) rest f e = rw (args_read.again (v, vs) rest f tt) refl

pub optional_reads : Reads IsEnded (λ vs. vs) args_text (AllByRecursion IsValue) optional_args_at
optional_reads = record { sound = λ bytes. optional_sound bytes (args_at bytes) (args_read.sound bytes); again = optional_again }

word_ends : (vs : List Value) (rest : List ℕ) → AllByRecursion IsValue vs → IsEnded rest → IsNoMore is_word_byte (args_text vs ++ rest)
word_ends [] rest f e = ended_word rest e
word_ends (v ∷ vs) rest f e = refl

pub label_reads : Reads IsEnded (λ l. l) label_text IsLabel label_at
unfolding label_at
label_reads = mapped_reads (λ p. record { name = p.0; args = p.1 }) (λ l. (l.name, l.args)) (λ p. record { name = p.0; args = p.1 }) (λ p. refl)
    (both_read word_ends (whole_word_reads is_upper_case) optional_reads)

-- ---- rows of a signature

kind_if : (bytes : List ℕ) (normal atomic : Result (List ℕ) (Unit {0})) → IsAfter (codes "normal") bytes normal → IsAfter (codes "atomic") bytes atomic
    → Holds {E = Unit {0}} (λ k. k) kind_text (λ k. Unit {0}) bytes (or_else (normal >>= λ rest. Ok (Normal, rest)) (atomic >>= λ rest. Ok (Atomic, rest)))
kind_if bytes (Ok rest) atomic n a = found Normal Normal rest n tt refl
kind_if bytes (Err e) (Ok rest) n a = found Atomic Atomic rest a tt refl
kind_if bytes (Err e) (Err x) n a = refused x

kind_again : (k : Kind) (rest : List ℕ) → kind_at (kind_text k ++ rest) ≡ Ok (k, rest)
unfolding kind_at
kind_again Normal rest = refl
kind_again Atomic rest = refl

pub kind_reads : Reads Anything (λ k. k) kind_text (λ k. Unit {0}) kind_at
unfolding kind_at
kind_reads = record {
  sound = λ bytes. kind_if bytes (after (codes "normal") bytes) (after (codes "atomic") bytes) (after_sound (codes "normal") bytes) (after_sound (codes "atomic") bytes);
  again = λ k rest f n. kind_again k rest;
}

pub control_reads : Reads Anything (λ c. c) (λ c. label_text c.label ++ (codes " " ++ (decimal c.arity ++ (codes " " ++ kind_text c.kind)))) (λ c. IsLabel c.label × ((c.arity ≤ greatest_number) × Unit {0})) control_at
unfolding control_at
control_reads = mapped_reads (λ p. record { label = p.0; arity = p.1.0; kind = p.1.1 }) (λ c. (c.label, (c.arity, c.kind))) (λ p. record { label = p.0; arity = p.1.0; kind = p.1.1 }) (λ p. refl)
    (both_read (λ p rest f n. refl) label_reads (behind_reads (codes " ") (both_read (λ k rest f n. refl) listed_numbers (behind_reads (codes " ") kind_reads))))
