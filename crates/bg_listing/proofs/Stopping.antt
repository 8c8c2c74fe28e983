-- The laws of the line at which a text stops being the listing of a value, once for texts of every kind.
use Rattle.std.proofs.Common.{◌≡◌, ℕ, zero, suc, ◌≤◌, Bool, true, false, not, cond, eqb, List, [], ◌∷◌, ◌++◌, length, map, Result, Ok, Err, refl, sym, ap, subst, ◌∙◌, append_assoc, append-nil, arith}
use Rattle.std.specs.List.{flat_map, AllByRecursion, list_all}
use Rattle.std.proofs.lemmas.Bool.{and_parts}
use Rattle.bg_listing.specs.Spelling.{count_line, section_text}
use Rattle.bg_listing.specs.Limits.{greatest_number, AreCounted}
use Rattle.bg_listing.specs.Combinators.{◌>>=◌, mapped, with_front, both, each}
use Rattle.bg_listing.specs.Lines.{Bad, count_at, section_at}
use Rattle.bg_listing.specs.Stops.{first_line, ends_line, AreLines, NoneBegins, StopsAt}
use Rattle.bg_listing.proofs.Combinators.{Holds, found, refused, Reads, Anything, AreThisMany, pair_of, joined, FitBoth, both_read, no_two}
use Rattle.bg_listing.proofs.Listings.{section_reads}

-- ---- lines

pub ends_line-append : (ended : Bool) (xs ys : List ℕ) → ends_line ended (xs ++ ys) ≡ ends_line (ends_line ended xs) ys
ends_line-append ended [] ys = refl
ends_line-append ended (x ∷ xs) ys = ends_line-append (eqb x 10) xs ys

pub lines_append : (xs ys : List ℕ) → AreLines xs → AreLines ys → AreLines (xs ++ ys)
lines_append xs ys x y = ends_line-append true xs ys ∙ ap (λ b. ends_line b ys) x ∙ y

abbrev pub is_inside : ℕ → Bool
is_inside b = not (eqb b 10)

-- one line: its only line feed stands last
pub record IsLine (text : List ℕ) : Type 0 where
  pub inside : List ℕ
  pub text_is : text ≡ inside ++ 10 ∷ []
  pub free : list_all is_inside inside ≡ true

pub line_lines : (text : List ℕ) → IsLine text → AreLines text
line_lines text l = ap (ends_line true) l.text_is ∙ ends_line-append true l.inside (10 ∷ [])

first_inside : (inside rest : List ℕ) → list_all is_inside inside ≡ true → first_line (inside ++ 10 ∷ rest) ≡ inside ++ 10 ∷ []
first_inside [] rest free = refl
first_inside (b ∷ inside) rest free = first_inside_if b inside rest (eqb b 10) (and_parts (not (eqb b 10)) (list_all is_inside inside) free).0 (first_inside inside rest (and_parts (not (eqb b 10)) (list_all is_inside inside) free).1)
  where
    first_inside_if : (b : ℕ) (inside rest : List ℕ) (feeds : Bool) → not feeds ≡ true → first_line (inside ++ 10 ∷ rest) ≡ inside ++ 10 ∷ [] → b ∷ cond feeds [] (first_line (inside ++ 10 ∷ rest)) ≡ b ∷ inside ++ 10 ∷ []
    first_inside_if b inside rest true h e = absurd cc
    first_inside_if b inside rest false h e = ap (λ y. b ∷ y) e

pub first_line_is : (text rest : List ℕ) → IsLine text → first_line (text ++ rest) ≡ text
first_line_is text rest l =
    let moved : text ++ rest ≡ l.inside ++ 10 ∷ rest = ap (λ t. t ++ rest) l.text_is ∙ append_assoc l.inside (10 ∷ []) rest in
    ap first_line moved ∙ first_inside l.inside rest l.free ∙ sym l.text_is

-- what stands behind the first line
pub behind_line : List ℕ → List ℕ
behind_line [] = []
behind_line (b ∷ bytes) = cond (eqb b 10) bytes (behind_line bytes)

pub first_and_behind : (bytes : List ℕ) → bytes ≡ first_line bytes ++ behind_line bytes
unfolding behind_line
first_and_behind [] = refl
first_and_behind (b ∷ bytes) = first_if b bytes (eqb b 10) (first_and_behind bytes)
  where
    first_if : (b : ℕ) (bytes : List ℕ) (feeds : Bool) → bytes ≡ first_line bytes ++ behind_line bytes → b ∷ bytes ≡ (b ∷ cond feeds [] (first_line bytes)) ++ cond feeds bytes (behind_line bytes)
    first_if b bytes true e = refl
    first_if b bytes false e = ap (λ y. b ∷ y) e

-- ---- where a reading function refuses

-- the refusal names the beginning of the bytes, with code 1 or 2
abbrev pub Names : List ℕ → Bad → Type 0
Names bytes bad = (bad.left ≡ length bytes) × (bad.code ≤ 2)

pub data Stops {D X : Type 0} (text : D → List ℕ) (Fits : D → Type 0) (bytes : List ℕ) : Result (X × List ℕ) Bad → Type 0 where
  goes : (x : X × List ℕ) → Stops text Fits bytes (Ok x)
  stops : (bad : Bad) (lines behind : List ℕ) → Names behind bad → StopsAt text Fits bytes lines behind → Stops text Fits bytes (Err bad)

-- a row: its text is one line, a refusal names its beginning, and there is such a row
pub record IsRow {D X : Type 0} (v : D → X) (t : D → List ℕ) (F : D → Type 0) (read : List ℕ → Result (X × List ℕ) Bad) : Type 0 where
  pub reads : Reads Anything v t F read
  pub here : (bytes : List ℕ) (bad : Bad) → read bytes ≡ Err bad → Names bytes bad
  pub line : (d : D) → F d → IsLine (t d)
  pub some : D
  pub some_fits : F some

not_both : {A : Type 0} (r : Result A Bad) (bad : Bad) (x : A) → r ≡ Err bad → r ≡ Ok x → ⊥
not_both r bad x e f = cc

row_none : {D X : Type 0} {v : D → X} {t : D → List ℕ} {F : D → Type 0} {read : List ℕ → Result (X × List ℕ) Bad} → IsRow v t F read → (bytes : List ℕ) (bad : Bad) → read bytes ≡ Err bad
    → (others : List ℕ) → first_line others ≡ first_line bytes → (d : D) (rest : List ℕ) → F d → others ≡ t d ++ rest → ⊥
row_none {v = v} {t = t} {read = read} w bytes bad refuses others same d rest f e =
    let first : first_line bytes ≡ t d = sym same ∙ ap first_line e ∙ first_line_is (t d) rest (w.line d f) in
    let there : bytes ≡ t d ++ behind_line bytes = first_and_behind bytes ∙ ap (λ y. y ++ behind_line bytes) first in
    not_both (read bytes) bad (v d, behind_line bytes) refuses (ap read there ∙ w.reads.again d (behind_line bytes) f tt)

row_if : {D X : Type 0} {v : D → X} {t : D → List ℕ} {F : D → Type 0} {read : List ℕ → Result (X × List ℕ) Bad} → IsRow v t F read → (bytes : List ℕ) (r : Result (X × List ℕ) Bad) → read bytes ≡ r → Stops t F bytes r
row_if w bytes (Ok x) e = goes x
row_if {t = t} w bytes (Err bad) e = stops bad [] bytes (w.here bytes bad e) (record {
  there = refl;
  whole = refl;
  begins = record { value = w.some; more = t w.some; fits = w.some_fits; text_is = refl };
  none = row_none w bytes bad e;
})

pub row_stops : {D X : Type 0} {v : D → X} {t : D → List ℕ} {F : D → Type 0} {read : List ℕ → Result (X × List ℕ) Bad} → IsRow v t F read → (bytes : List ℕ) → Stops t F bytes (read bytes)
row_stops {read = read} w bytes = row_if w bytes (read bytes) refl

-- ---- one after the other

stops_then : {D X Y : Type 0} {t : D → List ℕ} {F : D → Type 0} (bytes : List ℕ) (r : Result (X × List ℕ) Bad) (make : X × List ℕ → Y × List ℕ) → Stops t F bytes r → Stops t F bytes (r >>= λ x. Ok (make x))
stops_then bytes r make (goes x) = goes (make x)
stops_then bytes r make (stops bad lines behind left at) = stops bad lines behind left at

-- what a text of two parts is made of: some text goes on from each first part, and each text begins with one
pub record GoesOn {A W : Type 0} (ta : A → List ℕ) (FA : A → Type 0) (tw : W → List ℕ) (FW : W → Type 0) : Type 0 where
  pub on : (a : A) → FA a → (w : W) × (more : List ℕ) × FW w × (tw w ≡ ta a ++ more)
  pub back : (w : W) → FW w → (a : A) × (more : List ℕ) × FA a × (tw w ≡ ta a ++ more)

-- the texts of a kind that begin with a front: each end makes one, and each has an end
pub record Ends {B W : Type 0} (front : List ℕ) (tb : B → List ℕ) (FB : B → Type 0) (tw : W → List ℕ) (FW : W → Type 0) : Type 0 where
  pub make : (b : B) → FB b → (w : W) × FW w × (tw w ≡ front ++ tb b)
  pub end : (w : W) (others rest : List ℕ) → FW w → front ++ others ≡ tw w ++ rest → (b : B) × FB b × (others ≡ tb b ++ rest)

-- the values of a kind whose texts begin with those of another kind
pub none_first : {A W : Type 0} (ta : A → List ℕ) {FA : A → Type 0} (tw : W → List ℕ) {FW : W → Type 0} (lines behind : List ℕ)
    → ((w : W) → FW w → (a : A) × (more : List ℕ) × FA a × (tw w ≡ ta a ++ more)) → NoneBegins ta FA lines behind → NoneBegins tw FW lines behind
none_first ta tw lines behind back none others same value rest f e =
    let a = back value f in
    none others same a.0 (a.1 ++ rest) a.2 (e ∙ ap (λ y. y ++ rest) a.3 ∙ append_assoc (ta a.0) a.1 rest)

-- the values of a kind whose texts end with those of another kind, behind a front
pub none_second : {B W : Type 0} (tb : B → List ℕ) {FB : B → Type 0} (tw : W → List ℕ) {FW : W → Type 0} (front lines behind : List ℕ)
    → ((w : W) (others rest : List ℕ) → FW w → front ++ others ≡ tw w ++ rest → (b : B) × FB b × (others ≡ tb b ++ rest)) → NoneBegins tb FB lines behind → NoneBegins tw FW (front ++ lines) behind
none_second tb tw front lines behind end none others same value more f there =
    let c = end value (lines ++ others) more f (sym (append_assoc front lines others) ∙ there) in
    none others same c.0 more c.1 c.2

first_at : {A W : Type 0} {ta : A → List ℕ} {FA : A → Type 0} {tw : W → List ℕ} {FW : W → Type 0} → GoesOn ta FA tw FW → (bytes lines behind : List ℕ) → StopsAt ta FA bytes lines behind → StopsAt tw FW bytes lines behind
first_at {ta = ta} {tw = tw} g bytes lines behind s =
    let b = s.begins in
    let w = g.on b.value b.fits in
    record {
      there = s.there;
      whole = s.whole;
      begins = record { value = w.0; more = b.more ++ w.1; fits = w.2; text_is = w.3 ∙ ap (λ y. y ++ w.1) b.text_is ∙ append_assoc lines b.more w.1 };
      none = none_first ta tw lines behind g.back s.none;
    }

second_at : {B W : Type 0} {tb : B → List ℕ} {FB : B → Type 0} {tw : W → List ℕ} {FW : W → Type 0} (front bytes rest lines behind : List ℕ) → AreLines front → bytes ≡ front ++ rest → Ends front tb FB tw FW → StopsAt tb FB rest lines behind → StopsAt tw FW bytes (front ++ lines) behind
second_at {tb = tb} {tw = tw} front bytes rest lines behind whole e ends s =
    let b = s.begins in
    let w = ends.make b.value b.fits in
    record {
      there = e ∙ ap (λ y. front ++ y) s.there ∙ sym (append_assoc front lines behind);
      whole = lines_append front lines whole s.whole;
      begins = record { value = w.0; more = b.more; fits = w.1; text_is = w.2 ∙ ap (λ y. front ++ y) b.text_is ∙ sym (append_assoc front lines b.more) };
      none = none_second tb tw front lines behind ends.end s.none;
    }

second_stops : {B Y W : Type 0} {tb : B → List ℕ} {FB : B → Type 0} {tw : W → List ℕ} {FW : W → Type 0} (front bytes rest : List ℕ) (r : Result (Y × List ℕ) Bad) → AreLines front → bytes ≡ front ++ rest → Ends front tb FB tw FW → Stops tb FB rest r → Stops tw FW bytes r
second_stops front bytes rest r whole e ends (goes x) = goes x
second_stops front bytes rest r whole e ends (stops bad lines behind left at) = stops bad (front ++ lines) behind left (second_at front bytes rest lines behind whole e ends at)

stops_bind : {A X W Z : Type 0} {va : A → X} {ta : A → List ℕ} {FA : A → Type 0} {tw : W → List ℕ} {FW : W → Type 0} (bytes : List ℕ) (r : Result (X × List ℕ) Bad) (f : X × List ℕ → Result (Z × List ℕ) Bad)
    → GoesOn ta FA tw FW → Holds va ta FA bytes r → Stops ta FA bytes r → ((a : A) (rest : List ℕ) → bytes ≡ ta a ++ rest → FA a → Stops tw FW bytes (f (va a, rest))) → Stops tw FW bytes (r >>= f)
stops_bind {tw = tw} {FW = FW} bytes r f g (found d x rest e fits same) s h = subst (λ y. Stops tw FW bytes (f (y, rest))) same (h d rest e fits)
stops_bind bytes r f g (refused _) (stops bad lines behind left at) h = stops bad lines behind left (first_at g bytes lines behind at)

-- a part and another
pub record IsPart {D X : Type 0} (v : D → X) (t : D → List ℕ) (F : D → Type 0) (read : List ℕ → Result (X × List ℕ) Bad) : Type 0 where
  pub reads : Reads Anything v t F read
  pub stopped : (bytes : List ℕ) → Stops t F bytes (read bytes)
  pub lines : (d : D) → F d → AreLines (t d)
  pub some : D
  pub some_fits : F some

pub both_stop : {A X B Y : Type 0} {va : A → X} {ta : A → List ℕ} {FA : A → Type 0} {vb : B → Y} {tb : B → List ℕ} {FB : B → Type 0} {ra : List ℕ → Result (X × List ℕ) Bad} {rb : List ℕ → Result (Y × List ℕ) Bad}
    → IsPart va ta FA ra → IsPart vb tb FB rb → (bytes : List ℕ) → Stops (joined ta tb) (FitBoth FA FB) bytes (both ra rb bytes)
both_stop {va = va} {ta = ta} {FA = FA} {tb = tb} {FB = FB} {ra = ra} {rb = rb} a b bytes =
    stops_bind bytes (ra bytes) (λ x. rb x.1 >>= λ y. Ok ((x.0, y.0), y.1))
    (record {
      on = λ d f. ((d, b.some), tb b.some, (f, b.some_fits), refl);
      back = λ w f. (w.0, tb w.1, f.0, refl);
    })
    (a.reads.sound bytes) (a.stopped bytes)
    (λ d rest e f. second_stops (ta d) bytes rest (rb rest >>= λ y. Ok ((va d, y.0), y.1)) (a.lines d f) e (record {
      make = λ c g. ((d, c), (f, g), refl);
      end = λ w others more g there. (w.1, g.1, (no_two a.reads d w.0 others (tb w.1 ++ more) f g.0 (there ∙ append_assoc (ta w.0) (tb w.1) more)).1);
    }) (stops_then rest (rb rest) (λ y. ((va d, y.0), y.1)) (b.stopped rest)))

-- ---- this many rows, and the number in front

some_rows : {D : Type 0} → ℕ → D → List D
some_rows zero d = []
some_rows (suc n) d = d ∷ some_rows n d

some_rows_fit : {D : Type 0} {F : D → Type 0} (n : ℕ) (d : D) → F d → AreThisMany F n (some_rows n d)
unfolding some_rows
some_rows_fit zero d f = record { many = refl; all = tt }
some_rows_fit {F = F} (suc n) d f =
    let others : AreThisMany F n (some_rows n d) = some_rows_fit n d f in
    record { many = ap suc others.many; all = (f, others.all) }

pub each_stop : {D X : Type 0} {v : D → X} {t : D → List ℕ} {F : D → Type 0} {read : List ℕ → Result (X × List ℕ) Bad} → IsRow v t F read → (n : ℕ) (bytes : List ℕ) → Stops (flat_map t) (AreThisMany F n) bytes (each read n bytes)
unfolding each
each_stop w zero bytes = goes ([], bytes)
each_stop {v = v} {t = t} {F = F} {read = read} w (suc n) bytes =
    stops_bind bytes (read bytes) (λ a. with_front (a.0 ∷ []) (each read n a.1))
    (record {
      on = λ d f. let others : AreThisMany F n (some_rows n w.some) = some_rows_fit n w.some w.some_fits in
          (d ∷ some_rows n w.some, flat_map t (some_rows n w.some), record { many = ap suc others.many; all = (f, others.all) }, refl);
      back = first_row w n;
    })
    (w.reads.sound bytes) (row_stops w bytes)
    (λ d rest e f. second_stops (t d) bytes rest (with_front (v d ∷ []) (each read n rest)) (line_lines (t d) (w.line d f)) e (record {
      make = λ ds g. (d ∷ ds, record { many = ap suc g.many; all = (f, g.all) }, refl);
      end = later_rows w n d f;
    }) (stops_then rest (each read n rest) (λ x. ((v d ∷ []) ++ x.0, x.1)) (each_stop w n rest)))
  where
    first_row : {D X : Type 0} {v : D → X} {t : D → List ℕ} {F : D → Type 0} {read : List ℕ → Result (X × List ℕ) Bad} → IsRow v t F read → (n : ℕ) (ds : List D) → AreThisMany F (suc n) ds → (a : D) × (more : List ℕ) × F a × (flat_map t ds ≡ t a ++ more)
    first_row w n [] g = absurd cc
    first_row {t = t} w n (d ∷ ds) g = (d, flat_map t ds, g.all.0, refl)

    later_rows : {D X : Type 0} {v : D → X} {t : D → List ℕ} {F : D → Type 0} {read : List ℕ → Result (X × List ℕ) Bad} → IsRow v t F read → (n : ℕ) (d : D) → F d → (ds : List D) (others rest : List ℕ) → AreThisMany F (suc n) ds → t d ++ others ≡ flat_map t ds ++ rest
        → (cs : List D) × AreThisMany F n cs × (others ≡ flat_map t cs ++ rest)
    later_rows w n d f [] others rest g there = absurd cc
    later_rows {t = t} w n d f (c ∷ cs) others rest g there =
        let many : length cs ≡ n = omega (arith, g.many) in
        (cs, record { many = many; all = g.all.1 }, (no_two w.reads d c others (flat_map t cs ++ rest) f g.all.0 (there ∙ append_assoc (t c) (flat_map t cs) rest)).1)

pub section_stop : {D X : Type 0} {v : D → X} {t : D → List ℕ} {F : D → Type 0} {read : List ℕ → Result (X × List ℕ) Bad} (most : ℕ) (word : List ℕ) → IsRow (λ n. n) (count_line word) (λ n. n ≤ most) (count_at most word) → IsRow v t F read
    → (bytes : List ℕ) → Stops (section_text word t) (AreCounted most F) bytes (section_at most word read bytes)
unfolding section_at
section_stop {t = t} {F = F} {read = read} most word count w bytes =
    stops_bind bytes (count_at most word bytes) (λ n. each read n.0 n.1)
    (record {
      on = λ n le. let rows : AreThisMany F n (some_rows n w.some) = some_rows_fit n w.some w.some_fits in
          (some_rows n w.some, flat_map t (some_rows n w.some), record { many = rw rows.many le; all = rows.all }, ap (λ k. count_line word k ++ flat_map t (some_rows n w.some)) rows.many);
      back = λ ds g. (length ds, flat_map t ds, g.many, refl);
    })
    (count.reads.sound bytes) (row_stops count bytes)
    (λ n rest e le. second_stops (count_line word n) bytes rest (each read n rest) (line_lines (count_line word n) (count.line n le)) e (record {
      make = λ ds g. (ds, record { many = rw g.many le; all = g.all }, ap (λ k. count_line word k ++ flat_map t ds) g.many);
      end = λ ds others more g there.
          let same = no_two count.reads n (length ds) others (flat_map t ds ++ more) le g.many (there ∙ append_assoc (count_line word (length ds)) (flat_map t ds) more) in
          (ds, record { many = sym same.0; all = g.all }, same.1);
    }) (each_stop w n rest))

-- ---- parts that are put together

pub both_part : {A X B Y : Type 0} {va : A → X} {ta : A → List ℕ} {FA : A → Type 0} {vb : B → Y} {tb : B → List ℕ} {FB : B → Type 0} {ra : List ℕ → Result (X × List ℕ) Bad} {rb : List ℕ → Result (Y × List ℕ) Bad}
    → IsPart va ta FA ra → IsPart vb tb FB rb → IsPart (pair_of va vb) (joined ta tb) (FitBoth FA FB) (both ra rb)
both_part {ta = ta} {tb = tb} a b = record {
  reads = both_read (λ p rest f n. tt) a.reads b.reads;
  stopped = both_stop a b;
  lines = λ p f. lines_append (ta p.0) (tb p.1) (a.lines p.0 f.0) (b.lines p.1 f.1);
  some = (a.some, b.some);
  some_fits = (a.some_fits, b.some_fits);
}

pub row_part : {D X : Type 0} {v : D → X} {t : D → List ℕ} {F : D → Type 0} {read : List ℕ → Result (X × List ℕ) Bad} → IsRow v t F read → IsPart v t F read
row_part {t = t} w = record { reads = w.reads; stopped = row_stops w; lines = λ d f. line_lines (t d) (w.line d f); some = w.some; some_fits = w.some_fits }

pub rows_are_lines : {D X : Type 0} {v : D → X} {t : D → List ℕ} {F : D → Type 0} {read : List ℕ → Result (X × List ℕ) Bad} → IsRow v t F read → (ds : List D) → AllByRecursion F ds → AreLines (flat_map t ds)
rows_are_lines w [] f = refl
rows_are_lines {t = t} w (d ∷ ds) f = lines_append (t d) (flat_map t ds) (line_lines (t d) (w.line d f.0)) (rows_are_lines w ds f.1)

pub section_part : {D X : Type 0} {v : D → X} {t : D → List ℕ} {F : D → Type 0} {read : List ℕ → Result (X × List ℕ) Bad} (most : ℕ) (word : List ℕ) → most ≤ greatest_number → IsRow (λ n. n) (count_line word) (λ n. n ≤ most) (count_at most word) → IsRow v t F read
    → IsPart (map v) (section_text word t) (AreCounted most F) (section_at most word read)
section_part {t = t} most word small count w = record {
  reads = section_reads most word small w.reads;
  stopped = section_stop most word count w;
  lines = λ ds f. lines_append (count_line word (length ds)) (flat_map t ds) (line_lines (count_line word (length ds)) (count.line (length ds) f.many)) (rows_are_lines w ds f.all);
  some = [];
  some_fits = record { many = omega arith; all = tt };
}

pub mapped_stop : {D X Y : Type 0} {t : D → List ℕ} {F : D → Type 0} (bytes : List ℕ) (r : Result (X × List ℕ) Bad) (make : X → Y) → Stops t F bytes r → Stops t F bytes (mapped make r)
mapped_stop bytes r make s = stops_then bytes r (λ x. (make x.0, x.1)) s

-- the same texts, as those of values of another kind
pub other_stop : {A W X : Type 0} {ta : A → List ℕ} {FA : A → Type 0} {tw : W → List ℕ} {FW : W → Type 0} (bytes : List ℕ) (r : Result (X × List ℕ) Bad)
    → ((a : A) → FA a → (w : W) × FW w × (tw w ≡ ta a)) → ((w : W) → FW w → (a : A) × FA a × (tw w ≡ ta a)) → Stops ta FA bytes r → Stops tw FW bytes r
other_stop bytes r to from (goes x) = goes x
other_stop {ta = ta} bytes r to from (stops bad lines behind left at) = stops bad lines behind left (first_at (record {
  on = λ a f. let w = to a f in (w.0, [], w.1, w.2 ∙ sym (append-nil (ta a)));
  back = λ w f. let a = from w f in (a.0, [], a.1, a.2 ∙ sym (append-nil (ta a.0)));
}) bytes lines behind at)
