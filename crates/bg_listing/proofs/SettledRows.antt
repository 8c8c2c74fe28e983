-- A row that breaks a rule whatever the rows behind it are: no text of rows that keep the rule begins so.
use Rattle.std.proofs.Common.{◌≡◌, ℕ, ◌+◌, ◌<◌, ◌≤◌, Bool, true, false, not, cond, eqb, Option, Some, None, List, [], ◌∷◌, ◌++◌, length, map, Result, refl, sym, ap, subst, ◌∙◌, append_assoc, arith}
use Rattle.std.specs.List.{flat_map, AllByRecursion, list_all}
use Rattle.std.proofs.lemmas.Bool.{and_parts}
use Rattle.std.proofs.lemmas.List.{length-append}
use Rattle.std.proofs.lemmas.List.Sums.{sum_by-append}
use Rattle.bg_base.specs.Faults.{codes_from, first_fault, shifted}
use Rattle.bg_base.proofs.FaultLaws.{clean_head}
use Rattle.bg_listing.specs.Spelling.{count_line, section_text}
use Rattle.bg_listing.specs.Limits.{AreCounted}
use Rattle.bg_listing.specs.Lines.{Bad, count_at}
use Rattle.bg_listing.specs.Verdict.{line_feeds}
use Rattle.bg_listing.specs.Stops.{first_line, AreLines, NoneBegins}
use Rattle.bg_listing.proofs.Combinators.{joined, FitBoth, no_two}
use Rattle.bg_listing.proofs.Stopping.{is_inside, IsLine, IsRow, IsPart, line_lines, lines_append, rows_are_lines, behind_line, first_and_behind, first_line_is, none_first, none_second}

-- ---- line feeds

pub feeds-append : (xs ys : List ℕ) → line_feeds (xs ++ ys) ≡ line_feeds xs + line_feeds ys
feeds-append xs ys = sum_by-append (λ b. cond (eqb b 10) 1 0) xs ys

no_feed : (b : ℕ) (feeds : Bool) → eqb b 10 ≡ feeds → not feeds ≡ true → 0 + cond {A = ℕ} feeds 1 0 ≡ 0
no_feed b true e f = absurd cc
no_feed b false e f = refl

no_feeds : (bytes : List ℕ) → list_all is_inside bytes ≡ true → line_feeds bytes ≡ 0
no_feeds [] free = refl
no_feeds (b ∷ bytes) free =
    let t = and_parts (is_inside b) (list_all is_inside bytes) free in
    let one : line_feeds (b ∷ []) ≡ 0 = no_feed b (eqb b 10) refl t.0 in
    omega (arith, feeds-append (b ∷ []) bytes, one, no_feeds bytes t.1)

pub line_feed_once : (text : List ℕ) → IsLine text → line_feeds text ≡ 1
line_feed_once text l =
    let last : line_feeds (10 ∷ []) ≡ 1 = refl in
    omega (arith, ap line_feeds l.text_is, feeds-append l.inside (10 ∷ []), no_feeds l.inside l.free, last)

pub rows_feeds : {D X : Type 0} {v : D → X} {t : D → List ℕ} {F : D → Type 0} {read : List ℕ → Result (X × List ℕ) Bad} → IsRow v t F read → (ds : List D) → AllByRecursion F ds → line_feeds (flat_map t ds) ≡ length ds
rows_feeds w [] f = refl
rows_feeds {t = t} w (d ∷ ds) f = omega (arith, feeds-append (t d) (flat_map t ds), line_feed_once (t d) (w.line d f.0), rows_feeds w ds f.1)

-- ---- rows that begin a text of rows

rows_begin : {D X : Type 0} {v : D → X} {t : D → List ℕ} {F : D → Type 0} {read : List ℕ → Result (X × List ℕ) Bad} → IsRow v t F read → (front : List D) (d : D) (r : List ℕ) (ds : List D) (rest : List ℕ)
    → AllByRecursion F front → F d → AllByRecursion F ds → length front < length ds → flat_map t front ++ (t d ++ r) ≡ flat_map t ds ++ rest → (more : List X) × (map v ds ≡ map v front ++ v d ∷ more)
rows_begin w front d r [] rest fs f gs lt e = absurd (omega arith)
rows_begin {v = v} {t = t} w [] d r (c ∷ cs) rest fs f gs lt e =
    let same = no_two w.reads d c r (flat_map t cs ++ rest) f gs.0 (e ∙ append_assoc (t c) (flat_map t cs) rest) in
    (map v cs, ap (λ x. x ∷ map v cs) (sym same.0))
rows_begin {v = v} {t = t} w (a ∷ front) d r (c ∷ cs) rest fs f gs lt e =
    let less : length front < length cs = omega arith in
    let same = no_two w.reads a c (flat_map t front ++ (t d ++ r)) (flat_map t cs ++ rest) fs.0 gs.0 (sym (append_assoc (t a) (flat_map t front) (t d ++ r)) ∙ e ∙ append_assoc (t c) (flat_map t cs) rest) in
    let later = rows_begin w front d r cs rest fs.1 f gs.1 less same.1 in
    (later.0, ap (λ x. x ∷ map v cs) (sym same.0) ∙ ap (λ xs. v a ∷ xs) later.1)

pub section_none : {D X : Type 0} {v : D → X} {t : D → List ℕ} {F : D → Type 0} {read : List ℕ → Result (X × List ℕ) Bad} (most : ℕ) (word : List ℕ) → IsRow (λ n. n) (count_line word) (λ n. n ≤ most) (count_at most word) → IsRow v t F read
    → (Keeps : List X → Type 0) (n : ℕ) (front : List D) (d : D) (behind : List ℕ) → n ≤ most → AllByRecursion F front → F d → length front < n → first_line behind ≡ t d → ((more : List X) → Keeps (map v front ++ v d ∷ more) → ⊥)
    → NoneBegins (section_text word t) (λ ds. AreCounted most F ds × Keeps (map v ds)) (count_line word n ++ flat_map t front) behind
section_none {v = v} {t = t} most word count w Keeps n front d behind le fs f lt first bad others same ds rest g there =
    let others_is : others ≡ t d ++ behind_line others = first_and_behind others ∙ ap (λ y. y ++ behind_line others) (same ∙ first) in
    let counted = no_two count.reads n (length ds) (flat_map t front ++ others) (flat_map t ds ++ rest) le g.0.many
    (sym (append_assoc (count_line word n) (flat_map t front) others) ∙ there ∙ append_assoc (count_line word (length ds)) (flat_map t ds) rest) in
    let less : length front < length ds = subst (λ k. length front < k) counted.0 lt in
    let begun = rows_begin w front d (behind_line others) ds rest fs f g.0.all less (ap (λ y. flat_map t front ++ y) (sym others_is) ∙ counted.1) in
    bad begun.0 (subst Keeps begun.1 g.1)

-- ---- where a text stops

-- behind so many lines of the bytes stands a line with which no text of a value that fits goes on
pub record StopsIn {W : Type 0} (tw : W → List ℕ) (FW : W → Type 0) (bytes : List ℕ) (count : ℕ) : Type 0 where
  pub lines : List ℕ
  pub behind : List ℕ
  pub there : bytes ≡ lines ++ behind
  pub whole : AreLines lines
  pub feeds : line_feeds lines ≡ count
  pub none : NoneBegins tw FW lines behind

pub in_kind : {A W : Type 0} {ta : A → List ℕ} {FA : A → Type 0} {tw : W → List ℕ} {FW : W → Type 0} (bytes : List ℕ) (count : ℕ)
    → ((w : W) → FW w → (a : A) × (more : List ℕ) × FA a × (tw w ≡ ta a ++ more)) → StopsIn ta FA bytes count → StopsIn tw FW bytes count
in_kind {ta = ta} {tw = tw} bytes count back s = record { lines = s.lines; behind = s.behind; there = s.there; whole = s.whole; feeds = s.feeds; none = none_first ta tw s.lines s.behind back s.none }

pub in_first : {A B : Type 0} {ta : A → List ℕ} {FA : A → Type 0} (tb : B → List ℕ) (FB : B → Type 0) (bytes : List ℕ) (count : ℕ) → StopsIn ta FA bytes count → StopsIn (joined ta tb) (FitBoth FA FB) bytes count
in_first tb FB bytes count s = in_kind bytes count (λ w f. (w.0, tb w.1, f.0, refl)) s

pub in_second : {A X B : Type 0} {va : A → X} {ta : A → List ℕ} {FA : A → Type 0} {ra : List ℕ → Result (X × List ℕ) Bad} {tb : B → List ℕ} {FB : B → Type 0} → IsPart va ta FA ra → (a : A) → FA a → (text bytes : List ℕ) (count feeds : ℕ) → text ≡ ta a ++ bytes → line_feeds (ta a) ≡ feeds
    → StopsIn tb FB bytes count → StopsIn (joined ta tb) (FitBoth FA FB) text (feeds + count)
in_second {ta = ta} {tb = tb} part a f text bytes count feeds e fed s = record {
  lines = ta a ++ s.lines;
  behind = s.behind;
  there = e ∙ ap (λ y. ta a ++ y) s.there ∙ sym (append_assoc (ta a) s.lines s.behind);
  whole = lines_append (ta a) s.lines (part.lines a f) s.whole;
  feeds = omega (arith, feeds-append (ta a) s.lines, fed, s.feeds);
  none = none_second tb (joined ta tb) (ta a) s.lines s.behind
      (λ w others more g there. (w.1, g.1, (no_two part.reads a w.0 others (tb w.1 ++ more) f g.0 (there ∙ append_assoc (ta w.0) (tb w.1) more)).1)) s.none;
}

-- ---- the first row that breaks a rule

-- each row passes a test beside the key of the row before it
abbrev pub Passes : {K X : Type 0} → (X → K) → (Option K → X → Bool) → Option K → List X → Type 0
Passes key test last [] = Unit {0}
Passes key test last (x ∷ xs) = (test last x ≡ true) × Passes key test (Some (key x)) xs

last_key : {K X : Type 0} → (X → K) → Option K → List X → Option K
last_key key last [] = last
last_key key last (x ∷ xs) = last_key key (Some (key x)) xs

passes_at : {K X : Type 0} (key : X → K) (test : Option K → X → Bool) (last : Option K) (front : List X) (x : X) (more : List X) → Passes key test last (front ++ x ∷ more) → test (last_key key last front) x ≡ true
unfolding last_key
passes_at key test last [] x more p = p.0
passes_at key test last (y ∷ front) x more p = passes_at key test (Some (key y)) front x more p.1

-- rows of which none breaks a rule pass a test that the rules imply
pub passes_from : {K X : Type 0} (key : X → K) (code : Option K → X → ℕ) (test : Option K → X → Bool) → ((last : Option K) (x : X) → code last x ≡ 0 → test last x ≡ true) → (last : Option K) (xs : List X)
    → first_fault (codes_from key code last xs) ≡ None → Passes key test last xs
passes_from key code test h last [] none = tt
passes_from key code test h last (x ∷ xs) none =
    let t = clean_head (code last x) (first_fault (codes_from key code (Some (key x)) xs)) (eqb (code last x) 0) refl none in
    (h last x t.0, passes_from key code test h (Some (key x)) xs t.1)

-- the row of a fault, with the rows before it
record FaultAt {K D X : Type 0} (v : D → X) (key : X → K) (code : Option K → X → ℕ) (last : Option K) (ds : List D) (i k : ℕ) : Type 0 where
  front : List D
  d : D
  later : List D
  rows : ds ≡ front ++ d ∷ later
  many : length front ≡ i
  code_is : code (last_key key last (map v front)) (v d) ≡ k

same_some : (a b : ℕ × ℕ) → Some a ≡ Some b → a ≡ b
same_some a b e = cc

fault_if : {K D X : Type 0} (v : D → X) (key : X → K) (code : Option K → X → ℕ) (last : Option K) (d : D) (ds : List D) (i k : ℕ) (clean : Bool) (later : Option (ℕ × ℕ)) → eqb (code last (v d)) 0 ≡ clean
    → ((j : ℕ) → later ≡ Some (j, k) → FaultAt v key code (Some (key (v d))) ds j k) → cond clean (shifted 1 later) (Some (0, code last (v d))) ≡ Some (i, k) → FaultAt v key code last (d ∷ ds) i k
unfolding last_key
fault_if v key code last d ds i k true None e h f = absurd cc
fault_if v key code last d ds i k true (Some g) e h f =
    let pair : (1 + g.0, g.1) ≡ (i, k) = same_some (1 + g.0, g.1) (i, k) f in
    let second : g.1 ≡ k = ap (λ p. p.1) pair in
    let first : 1 + g.0 ≡ i = ap (λ p. p.0) pair in
    let there : Some g ≡ Some (g.0, k) = ap (λ m. Some (g.0, m)) second in
    let s = h g.0 there in
    record { front = d ∷ s.front; d = s.d; later = s.later; rows = ap (λ xs. d ∷ xs) s.rows; many = omega (arith, s.many, first); code_is = s.code_is }
fault_if v key code last d ds i k false later e h f =
    let pair = same_some (0, code last (v d)) (i, k) f in
    record { front = []; d = d; later = ds; rows = refl; many = ap (λ p. p.0) pair; code_is = ap (λ p. p.1) pair }

fault_at : {K D X : Type 0} (v : D → X) (key : X → K) (code : Option K → X → ℕ) (last : Option K) (ds : List D) (i k : ℕ) → first_fault (codes_from key code last (map v ds)) ≡ Some (i, k) → FaultAt v key code last ds i k
fault_at v key code last [] i k e = absurd cc
fault_at v key code last (d ∷ ds) i k e =
    fault_if v key code last d ds i k (eqb (code last (v d)) 0) (first_fault (codes_from key code (Some (key (v d))) (map v ds))) refl (λ j f. fault_at v key code (Some (key (v d))) ds j k f) e

pub all_front : {A : Type 0} (P : A → Type 0) (front : List A) (x : A) (later : List A) → AllByRecursion P (front ++ x ∷ later) → AllByRecursion P front × P x
all_front P [] x later all = (tt, all.0)
all_front P (a ∷ front) x later all = let t = all_front P front x later all.1 in ((all.0, t.0), t.1)

pub flat_map_at : {A : Type 0} (t : A → List ℕ) (front : List A) (x : A) (later : List A) (rest : List ℕ) → flat_map t (front ++ x ∷ later) ++ rest ≡ flat_map t front ++ (t x ++ (flat_map t later ++ rest))
flat_map_at t [] x later rest = append_assoc (t x) (flat_map t later) rest
flat_map_at t (a ∷ front) x later rest =
    append_assoc (t a) (flat_map t (front ++ x ∷ later)) rest ∙ ap (λ y. t a ++ y) (flat_map_at t front x later rest) ∙ sym (append_assoc (t a) (flat_map t front) (t x ++ (flat_map t later ++ rest)))

no_pass : (b : Bool) → b ≡ false → b ≡ true → ⊥
no_pass b e f = absurd cc

-- a section of which no other goes on from its first rows and this one
unfoldable pub section_stops_at : {D X : Type 0} {v : D → X} {t : D → List ℕ} {F : D → Type 0} {read : List ℕ → Result (X × List ℕ) Bad} (most : ℕ) (word : List ℕ) → IsRow (λ n. n) (count_line word) (λ n. n ≤ most) (count_at most word) → IsRow v t F read
    → (Keeps : List X → Type 0) (ds front : List D) (d : D) (later : List D) (bytes rest : List ℕ) → AreCounted most F ds → ds ≡ front ++ d ∷ later → bytes ≡ section_text word t ds ++ rest → ((more : List X) → Keeps (map v front ++ v d ∷ more) → ⊥)
    → StopsIn (section_text word t) (λ cs. AreCounted most F cs × Keeps (map v cs)) bytes (1 + length front)
section_stops_at {v = v} {t = t} {F = F} most word count w Keeps ds front d later bytes rest fits rows e bad =
    let all = all_front F front d later (subst (λ xs. AllByRecursion F xs) rows fits.all) in
    let long : length front < length ds = omega (arith, ap length rows, length-append front (d ∷ later)) in
    let n : ℕ = length ds in
    let behind : List ℕ = t d ++ (flat_map t later ++ rest) in
    record {
      lines = count_line word n ++ flat_map t front;
      behind = behind;
      there = e ∙ append_assoc (count_line word n) (flat_map t ds) rest ∙ ap (λ xs. count_line word n ++ (flat_map t xs ++ rest)) rows
          ∙ ap (λ y. count_line word n ++ y) (flat_map_at t front d later rest) ∙ sym (append_assoc (count_line word n) (flat_map t front) behind);
      whole = lines_append (count_line word n) (flat_map t front) (line_lines (count_line word n) (count.line n fits.many)) (rows_are_lines w front all.0);
      feeds = omega (arith, feeds-append (count_line word n) (flat_map t front), line_feed_once (count_line word n) (count.line n fits.many), rows_feeds w front all.0);
      none = section_none most word count w Keeps n front d behind fits.many all.0 all.1 long (first_line_is (t d) (flat_map t later ++ rest) (w.line d all.1)) bad;
    }

-- a section whose first row that breaks a rule fails a test
pub section_stops_in : {K D X : Type 0} {v : D → X} {t : D → List ℕ} {F : D → Type 0} {read : List ℕ → Result (X × List ℕ) Bad} (most : ℕ) (word : List ℕ) → IsRow (λ n. n) (count_line word) (λ n. n ≤ most) (count_at most word) → IsRow v t F read
    → (key : X → K) (code : Option K → X → ℕ) (test : Option K → X → Bool) (ds : List D) (bytes rest : List ℕ) (i k : ℕ) → AreCounted most F ds → bytes ≡ section_text word t ds ++ rest → ((last : Option K) (x : X) → code last x ≡ k → test last x ≡ false)
    → first_fault (codes_from key code None (map v ds)) ≡ Some (i, k) → StopsIn (section_text word t) (λ cs. AreCounted most F cs × Passes key test None (map v cs)) bytes (1 + i)
section_stops_in {v = v} {t = t} {F = F} most word count w key code test ds bytes rest i k fits e fails fault =
    let s = fault_at v key code None ds i k fault in
    subst (λ j. StopsIn (section_text word t) (λ cs. AreCounted most F cs × Passes key test None (map v cs)) bytes (1 + j)) s.many
    (section_stops_at most word count w (Passes key test None) ds s.front s.d s.later bytes rest fits s.rows e
    (λ more p. no_pass (test (last_key key None (map v s.front)) (v s.d)) (fails (last_key key None (map v s.front)) (v s.d) s.code_is) (passes_at key test None (map v s.front) (v s.d) more p)))

pub section_feeds : {D X : Type 0} {v : D → X} {t : D → List ℕ} {F : D → Type 0} {read : List ℕ → Result (X × List ℕ) Bad} (most : ℕ) (word : List ℕ) → IsRow (λ n. n) (count_line word) (λ n. n ≤ most) (count_at most word) → IsRow v t F read
    → (ds : List D) → AreCounted most F ds → line_feeds (section_text word t ds) ≡ 1 + length ds
section_feeds {t = t} most word count w ds f =
    omega (arith, feeds-append (count_line word (length ds)) (flat_map t ds), line_feed_once (count_line word (length ds)) (count.line (length ds) f.many), rows_feeds w ds f.all)

-- a part in front, of a text with a rest
pub behind_part : {A X B : Type 0} {va : A → X} {ta : A → List ℕ} {FA : A → Type 0} {ra : List ℕ → Result (X × List ℕ) Bad} {tb : B → List ℕ} {FB : B → Type 0} → IsPart va ta FA ra → (a : A) → FA a → (text rest : List ℕ) (count feeds : ℕ) → line_feeds (ta a) ≡ feeds
    → StopsIn tb FB (text ++ rest) count → StopsIn (joined ta tb) (FitBoth FA FB) ((ta a ++ text) ++ rest) (feeds + count)
behind_part {ta = ta} part a f text rest count feeds fed s = in_second part a f ((ta a ++ text) ++ rest) (text ++ rest) count feeds (append_assoc (ta a) text rest) fed s

pub counted_as : {W : Type 0} {tw : W → List ℕ} {FW : W → Type 0} (bytes : List ℕ) (count other : ℕ) → count ≡ other → StopsIn tw FW bytes count → StopsIn tw FW bytes other
counted_as {tw = tw} {FW = FW} bytes count other e s = subst (StopsIn tw FW bytes) e s
