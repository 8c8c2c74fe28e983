-- The laws of reading, once for texts of every kind.
use Rattle.std.proofs.Common.{◌≡◌, ℕ, zero, suc, ◌+◌, ◌<◌, Bool, true, false, cond, eqb, List, [], ◌∷◌, ◌++◌, length, map, take, drop, Option, Some, None, Result, Ok, Err, refl, sym, ap, subst, ◌∙◌, append_assoc, arith}
use Rattle.std.specs.List.{flat_map, AllByRecursion, prefix_len, list_all}
use Rattle.std.proofs.lemmas.Bool.{eqb-true, eq-eqb, and_parts}
use Rattle.std.proofs.lemmas.List.Sums.{prefix_len-le-length}
use Rattle.std.proofs.lemmas.List.{length-append, take-append-drop, take_at, drop_at}
use Rattle.bg_listing.specs.Combinators.{◌>>=◌, mapped, after, behind, ended, line, only_if, run, both, with_front, each, next, further, chain_within, chain}
use Rattle.bg_listing.specs.Spelling.{chain_text}

-- what was read is what some value with a spelling shows, whose text stands in front
pub data Holds {D X E : Type 0} (view : D → X) (text : D → List ℕ) (Fits : D → Type 0) (bytes : List ℕ) : Result (X × List ℕ) E → Type 0 where
  found : (d : D) (x : X) (rest : List ℕ) → bytes ≡ text d ++ rest → Fits d → view d ≡ x → Holds view text Fits bytes (Ok (x, rest))
  refused : (e : E) → Holds view text Fits bytes (Err e)

-- `read` reads exactly the texts of the values with a spelling, and shows them by `view`;
-- `Next` says what must stand behind a text for it to end there
pub record Reads {D X E : Type 0} (Next : List ℕ → Type 0) (view : D → X) (text : D → List ℕ) (Fits : D → Type 0) (read : List ℕ → Result (X × List ℕ) E) : Type 0 where
  pub sound : (bytes : List ℕ) → Holds view text Fits bytes (read bytes)
  pub again : (d : D) (rest : List ℕ) → Fits d → Next rest → read (text d ++ rest) ≡ Ok (view d, rest)

-- nothing is asked of what stands behind
abbrev pub Anything : List ℕ → Type 0
Anything rest = Unit {0}

abbrev pub done : {X E : Type 0} → X × List ℕ → Result (X × List ℕ) E
done x = Ok x

pub done_is : {X E : Type 0} (x y : X × List ℕ) → done {E = E} x ≡ done y → x ≡ y
done_is x y e = cc

-- ---- steps

pub holds_if : {D X E : Type 0} {view : D → X} {text : D → List ℕ} {Fits : D → Type 0} (bytes : List ℕ) (b : Bool) (r s : Result (X × List ℕ) E)
    → (b ≡ true → Holds view text Fits bytes r) → (b ≡ false → Holds view text Fits bytes s) → Holds view text Fits bytes (cond b r s)
holds_if bytes true r s h k = h refl
holds_if bytes false r s h k = k refl

pub holds_bind : {A X B Y E : Type 0} {va : A → X} {ta : A → List ℕ} {FA : A → Type 0} {vb : B → Y} {tb : B → List ℕ} {FB : B → Type 0} (bytes : List ℕ) (r : Result (X × List ℕ) E) (f : X × List ℕ → Result (Y × List ℕ) E)
    → Holds va ta FA bytes r → ((a : A) (rest : List ℕ) → bytes ≡ ta a ++ rest → FA a → Holds vb tb FB bytes (f (va a, rest))) → Holds vb tb FB bytes (r >>= f)
holds_bind {vb = vb} {tb = tb} {FB = FB} bytes r f (found d x rest e fits same) h = subst (λ y. Holds vb tb FB bytes (f (y, rest))) same (h d rest e fits)
holds_bind bytes r f (refused e) h = refused e

-- a text behind another
pub holds_behind : {D X E : Type 0} {view : D → X} {text : D → List ℕ} {Fits : D → Type 0} (front bytes rest : List ℕ) (r : Result (X × List ℕ) E)
    → bytes ≡ front ++ rest → Holds view text Fits rest r → Holds view (λ d. front ++ text d) Fits bytes r
holds_behind {text = text} front bytes rest r e (found d x more s fits same) = found d x more (e ∙ ap (λ t. front ++ t) s ∙ sym (append_assoc front (text d) more)) fits same
holds_behind front bytes rest r e (refused f) = refused f

-- ---- what is mapped

as_holds : {D C X Y E : Type 0} {v : D → X} {t : D → List ℕ} {F : D → Type 0} {w : C → Y} {G : C → Type 0} (make : D → C) (parts : C → D) (show : X → Y)
    → ((d : D) → F d → parts (make d) ≡ d) → ((d : D) → F d → G (make d)) → ((c : C) → G c → w c ≡ show (v (parts c)))
    → (bytes : List ℕ) (r : Result (X × List ℕ) E) → Holds v t F bytes r → Holds w (λ c. t (parts c)) G bytes (mapped show r)
as_holds {v = v} {t = t} make parts show back to seen bytes r (found d x rest e fits same) =
    found (make d) (show x) rest (e ∙ ap (λ c. t c ++ rest) (sym (back d fits))) (to d fits) (seen (make d) (to d fits) ∙ ap (λ c. show (v c)) (back d fits) ∙ ap show same)
as_holds make parts show back to seen bytes r (refused e) = refused e

-- the same text read as a value of another kind
pub as_reads : {D C X Y E : Type 0} {Next : List ℕ → Type 0} {v : D → X} {t : D → List ℕ} {F : D → Type 0} {read : List ℕ → Result (X × List ℕ) E} {w : C → Y} {G : C → Type 0} (make : D → C) (parts : C → D) (show : X → Y)
    → ((d : D) → F d → parts (make d) ≡ d) → ((d : D) → F d → G (make d)) → ((c : C) → G c → F (parts c)) → ((c : C) → G c → w c ≡ show (v (parts c)))
    → Reads Next v t F read → Reads Next w (λ c. t (parts c)) G (λ bytes. mapped show (read bytes))
as_reads {read = read} make parts show back to from seen r = record {
  sound = λ bytes. as_holds make parts show back to seen bytes (read bytes) (r.sound bytes);
  again = λ c rest f n. ap (mapped show) (r.again (parts c) rest (from c f) n) ∙ ap (λ y. Ok (y, rest)) (sym (seen c f));
}

pub mapped_reads : {D C X Y E : Type 0} {Next : List ℕ → Type 0} {v : D → X} {t : D → List ℕ} {F : D → Type 0} {read : List ℕ → Result (X × List ℕ) E} (make : D → C) (parts : C → D) (show : X → Y)
    → ((d : D) → parts (make d) ≡ d) → Reads Next v t F read → Reads Next (λ c. show (v (parts c))) (λ c. t (parts c)) (λ c. F (parts c)) (λ bytes. mapped show (read bytes))
mapped_reads {F = F} make parts show back r = as_reads make parts show (λ d f. back d) (λ d f. subst F (sym (back d)) f) (λ c f. f) (λ c f. refl) r

-- what must stand behind may be more
pub next_reads : {D X E : Type 0} {Next More : List ℕ → Type 0} {v : D → X} {t : D → List ℕ} {F : D → Type 0} {read : List ℕ → Result (X × List ℕ) E}
    → ((rest : List ℕ) → More rest → Next rest) → Reads Next v t F read → Reads More v t F read
next_reads more r = record { sound = r.sound; again = λ d rest f m. r.again d rest f (more rest m) }

viewed_holds : {D X E : Type 0} {v : D → X} {t : D → List ℕ} {F : D → Type 0} (w : D → X) → ((d : D) → v d ≡ w d) → (bytes : List ℕ) (r : Result (X × List ℕ) E) → Holds v t F bytes r → Holds w t F bytes r
viewed_holds w alike bytes r (found d x rest e fits same) = found d x rest e fits (sym (alike d) ∙ same)
viewed_holds w alike bytes r (refused e) = refused e

-- the same seen by an equal view
pub viewed_reads : {D X E : Type 0} {Next : List ℕ → Type 0} {v : D → X} {t : D → List ℕ} {F : D → Type 0} {read : List ℕ → Result (X × List ℕ) E} (w : D → X)
    → ((d : D) → v d ≡ w d) → Reads Next v t F read → Reads Next w t F read
viewed_reads {read = read} w alike r = record {
  sound = λ bytes. viewed_holds w alike bytes (read bytes) (r.sound bytes);
  again = λ d rest f n. r.again d rest f n ∙ ap (λ x. Ok (x, rest)) (alike d);
}

fits_holds : {D X E : Type 0} {v : D → X} {t : D → List ℕ} {F : D → Type 0} (G : D → Type 0) → ((d : D) → F d → G d) → (bytes : List ℕ) (r : Result (X × List ℕ) E) → Holds v t F bytes r → Holds v t G bytes r
fits_holds G to bytes r (found d x rest e fits same) = found d x rest e (to d fits) same
fits_holds G to bytes r (refused e) = refused e

-- the same where what has a spelling is told in other words
pub fits_reads : {D X E : Type 0} {Next : List ℕ → Type 0} {v : D → X} {t : D → List ℕ} {F : D → Type 0} {read : List ℕ → Result (X × List ℕ) E} (G : D → Type 0)
    → ((d : D) → F d → G d) → ((d : D) → G d → F d) → Reads Next v t F read → Reads Next v t G read
fits_reads {read = read} G to from r = record {
  sound = λ bytes. fits_holds G to bytes (read bytes) (r.sound bytes);
  again = λ d rest g n. r.again d rest (from d g) n;
}

pub map_same : {A : Type 0} (xs : List A) → map (λ x. x) xs ≡ xs
map_same [] = refl
map_same (x ∷ xs) = ap (λ ys. x ∷ ys) (map_same xs)

-- ---- fixed bytes

abbrev pub IsAfter : List ℕ → List ℕ → Result (List ℕ) (Unit {0}) → Type 0
IsAfter word bytes (Ok rest) = bytes ≡ word ++ rest
IsAfter word bytes (Err e) = Unit {0}

after_more : (w b : ℕ) (ws bytes : List ℕ) (r : Result (List ℕ) (Unit {0})) → b ≡ w → IsAfter ws bytes r → IsAfter (w ∷ ws) (b ∷ bytes) r
after_more w b ws bytes (Ok rest) e s = ap (λ c. c ∷ bytes) e ∙ ap (λ t. w ∷ t) s
after_more w b ws bytes (Err e) h s = tt

after_if : (w b : ℕ) (ws bytes : List ℕ) (same : Bool) → (same ≡ true → b ≡ w) → IsAfter ws bytes (after ws bytes) → IsAfter (w ∷ ws) (b ∷ bytes) (cond same (after ws bytes) (Err tt))
after_if w b ws bytes true h s = after_more w b ws bytes (after ws bytes) (h refl) s
after_if w b ws bytes false h s = tt

pub after_sound : (word bytes : List ℕ) → IsAfter word bytes (after word bytes)
after_sound [] bytes = refl
after_sound (w ∷ ws) [] = tt
after_sound (w ∷ ws) (b ∷ bytes) = after_if w b ws bytes (eqb b w) (eqb-true b w) (after_sound ws bytes)

pub after_again : (word rest : List ℕ) → after word (word ++ rest) ≡ Ok rest
after_again [] rest = refl
after_again (w ∷ ws) rest = rw (eq-eqb w w refl) (after_again ws rest)

behind_holds : {D X : Type 0} {view : D → X} {text : D → List ℕ} {Fits : D → Type 0} (word bytes : List ℕ) (r : Result (List ℕ) (Unit {0})) (read : List ℕ → Result (X × List ℕ) (Unit {0}))
    → IsAfter word bytes r → ((rest : List ℕ) → Holds view text Fits rest (read rest)) → Holds view (λ d. word ++ text d) Fits bytes (r >>= read)
behind_holds word bytes (Ok rest) read s h = holds_behind word bytes rest (read rest) s (h rest)
behind_holds word bytes (Err e) read s h = refused e

pub behind_reads : {D X : Type 0} {Next : List ℕ → Type 0} {v : D → X} {t : D → List ℕ} {F : D → Type 0} {read : List ℕ → Result (X × List ℕ) (Unit {0})} (word : List ℕ)
    → Reads Next v t F read → Reads Next v (λ d. word ++ t d) F (behind word read)
behind_reads {v = v} {t = t} {F = F} {read = read} word r = record {
  sound = λ bytes. behind_holds word bytes (after word bytes) read (after_sound word bytes) r.sound;
  again = λ d rest f n.
      let regrouped : (word ++ t d) ++ rest ≡ word ++ (t d ++ rest) = append_assoc word (t d) rest in
      ap (behind word read) regrouped ∙ rw (after_again word (t d ++ rest)) (r.again d rest f n);
}

ended_holds : {D X : Type 0} (view : D → X) (text : D → List ℕ) (Fits : D → Type 0) (word bytes : List ℕ) (d : D) (rest : List ℕ) (r : Result (List ℕ) (Unit {0}))
    → bytes ≡ text d ++ rest → Fits d → IsAfter word rest r → Holds view (λ d. text d ++ word) Fits bytes (r >>= λ more. Ok (view d, more))
ended_holds view text Fits word bytes d rest (Ok more) e f s = found d (view d) more (e ∙ ap (λ x. text d ++ x) s ∙ sym (append_assoc (text d) word more)) f refl
ended_holds view text Fits word bytes d rest (Err x) e f s = refused x

pub ended_reads : {D X : Type 0} {Next : List ℕ → Type 0} {v : D → X} {t : D → List ℕ} {F : D → Type 0} {read : List ℕ → Result (X × List ℕ) (Unit {0})} (word : List ℕ)
    → ((rest : List ℕ) → Next (word ++ rest)) → Reads Next v t F read → Reads Anything v (λ d. t d ++ word) F (ended word read)
ended_reads {v = v} {t = t} {F = F} {read = read} word ends r = record {
  sound = λ bytes. holds_bind bytes (read bytes) (λ a. after word a.1 >>= λ rest. Ok (a.0, rest)) (r.sound bytes)
      (λ d rest e f. ended_holds v t F word bytes d rest (after word rest) e f (after_sound word rest));
  again = λ d rest f n.
      let regrouped : (t d ++ word) ++ rest ≡ t d ++ (word ++ rest) = append_assoc (t d) word rest in
      ap (ended word read) regrouped ∙ rw (r.again d (word ++ rest) f (ends rest), after_again word rest) refl;
}

pub line_reads : {D X : Type 0} {Next : List ℕ → Type 0} {v : D → X} {t : D → List ℕ} {F : D → Type 0} {read : List ℕ → Result (X × List ℕ) (Unit {0})}
    → ((rest : List ℕ) → Next (10 ∷ rest)) → Reads Next v t F read → Reads Anything v (λ d. t d ++ 10 ∷ []) F (line read)
line_reads ends r = ended_reads (10 ∷ []) ends r

-- ---- a test

only_if_holds : {D X E : Type 0} (v : D → X) (t : D → List ℕ) (F : D → Type 0) (test : X → Bool) (bytes : List ℕ) (d : D) (rest : List ℕ) (refusal : E) (passes : Bool)
    → test (v d) ≡ passes → bytes ≡ t d ++ rest → F d → Holds v t (λ c. F c × (test (v c) ≡ true)) bytes (cond passes (Ok (v d, rest)) (Err refusal))
only_if_holds v t F test bytes d rest refusal true p e f = found d (v d) rest e (f, p) refl
only_if_holds v t F test bytes d rest refusal false p e f = refused refusal

pub only_if_reads : {D X E : Type 0} {Next : List ℕ → Type 0} {v : D → X} {t : D → List ℕ} {F : D → Type 0} {read : List ℕ → Result (X × List ℕ) E} (refusal : List ℕ → E) (test : X → Bool)
    → Reads Next v t F read → Reads Next v t (λ d. F d × (test (v d) ≡ true)) (only_if refusal test read)
only_if_reads {v = v} {t = t} {F = F} {read = read} refusal test r = record {
  sound = λ bytes. holds_bind bytes (read bytes) (λ a. cond (test a.0) (Ok a) (Err (refusal bytes))) (r.sound bytes)
      (λ d rest e f. only_if_holds v t F test bytes d rest (refusal bytes) (test (v d)) refl e f);
  again = λ d rest f n. rw (r.again d rest f.0 n, f.1) refl;
}

-- ---- one after the other

abbrev pub pair_of : {A B X Y : Type 0} → (A → X) → (B → Y) → A × B → X × Y
pair_of va vb p = (va p.0, vb p.1)

abbrev pub joined : {A B : Type 0} → (A → List ℕ) → (B → List ℕ) → A × B → List ℕ
joined ta tb p = ta p.0 ++ tb p.1

abbrev pub FitBoth : {A B : Type 0} → (A → Type 0) → (B → Type 0) → A × B → Type 0
FitBoth FA FB p = FA p.0 × FB p.1

both_holds : {A X B Y E : Type 0} (va : A → X) (ta : A → List ℕ) (FA : A → Type 0) {vb : B → Y} {tb : B → List ℕ} {FB : B → Type 0} (bytes : List ℕ) (a : A) (rest : List ℕ) (r : Result (Y × List ℕ) E)
    → bytes ≡ ta a ++ rest → FA a → Holds vb tb FB rest r → Holds (pair_of va vb) (joined ta tb) (FitBoth FA FB) bytes (r >>= λ b. Ok ((va a, b.0), b.1))
both_holds va ta FA {tb = tb} bytes a rest r e f (found d y more s fits same) = found (a, d) (va a, y) more (e ∙ ap (λ x. ta a ++ x) s ∙ sym (append_assoc (ta a) (tb d) more)) (f, fits) (ap (λ b. (va a, b)) same)
both_holds va ta FA bytes a rest r e f (refused x) = refused x

pub both_read : {A X B Y E : Type 0} {NA NB : List ℕ → Type 0} {va : A → X} {ta : A → List ℕ} {FA : A → Type 0} {vb : B → Y} {tb : B → List ℕ} {FB : B → Type 0} {ra : List ℕ → Result (X × List ℕ) E} {rb : List ℕ → Result (Y × List ℕ) E}
    → ((b : B) (rest : List ℕ) → FB b → NB rest → NA (tb b ++ rest)) → Reads NA va ta FA ra → Reads NB vb tb FB rb
    → Reads NB (pair_of va vb) (joined ta tb) (FitBoth FA FB) (both ra rb)
both_read {va = va} {ta = ta} {FA = FA} {vb = vb} {tb = tb} {FB = FB} {ra = ra} {rb = rb} ends a b = record {
  sound = λ bytes. holds_bind bytes (ra bytes) (λ x. rb x.1 >>= λ y. Ok ((x.0, y.0), y.1)) (a.sound bytes)
      (λ d rest e f. both_holds va ta FA bytes d rest (rb rest) e f (b.sound rest));
  again = λ p rest f n.
      let regrouped : (ta p.0 ++ tb p.1) ++ rest ≡ ta p.0 ++ (tb p.1 ++ rest) = append_assoc (ta p.0) (tb p.1) rest in
      ap (both ra rb) regrouped ∙ rw (a.again p.0 (tb p.1 ++ rest) f.0 (ends p.1 rest f.1 n), b.again p.1 rest f.1 n) refl;
}

-- ---- this many

pub record AreThisMany {A : Type 0} (Fits : A → Type 0) (n : ℕ) (xs : List A) : Type 0 where
  pub many : length xs ≡ n
  pub all : AllByRecursion Fits xs

each_more : {D X E : Type 0} (v : D → X) (t : D → List ℕ) {F : D → Type 0} (n : ℕ) (bytes : List ℕ) (d : D) (rest : List ℕ) (r : Result (List X × List ℕ) E)
    → bytes ≡ t d ++ rest → F d → Holds (map v) (flat_map t) (AreThisMany F n) rest r → Holds (map v) (flat_map t) (AreThisMany F (suc n)) bytes (with_front (v d ∷ []) r)
each_more v t n bytes d rest r e f (found ds xs more s fits same) = found (d ∷ ds) (v d ∷ xs) more (e ∙ ap (λ y. t d ++ y) s ∙ sym (append_assoc (t d) (flat_map t ds) more)) (record { many = ap suc fits.many; all = (f, fits.all) }) (ap (λ ys. v d ∷ ys) same)
each_more v t n bytes d rest r e f (refused x) = refused x

each_sound : {D X E : Type 0} {v : D → X} {t : D → List ℕ} {F : D → Type 0} {read : List ℕ → Result (X × List ℕ) E} (r : Reads Anything v t F read) (n : ℕ) (bytes : List ℕ)
    → Holds (map v) (flat_map t) (AreThisMany F n) bytes (each read n bytes)
unfolding each
each_sound r zero bytes = found [] [] bytes refl (record { many = refl; all = tt }) refl
each_sound {v = v} {t = t} {read = read} r (suc n) bytes = holds_bind bytes (read bytes) (λ a. with_front (a.0 ∷ []) (each read n a.1)) (r.sound bytes)
    (λ d rest e f. each_more v t n bytes d rest (each read n rest) e f (each_sound r n rest))

pub each_again : {D X E : Type 0} {v : D → X} {t : D → List ℕ} {F : D → Type 0} {read : List ℕ → Result (X × List ℕ) E} (r : Reads Anything v t F read) (xs : List D) (rest : List ℕ)
    → AllByRecursion F xs → each read (length xs) (flat_map t xs ++ rest) ≡ Ok (map v xs, rest)
unfolding each
each_again r [] rest f = refl
each_again {v = v} {t = t} {read = read} r (d ∷ ds) rest f =
    let regrouped : (t d ++ flat_map t ds) ++ rest ≡ t d ++ (flat_map t ds ++ rest) = append_assoc (t d) (flat_map t ds) rest in
    ap (each read (suc (length ds))) regrouped ∙ rw (r.again d (flat_map t ds ++ rest) f.0 tt, each_again r ds rest f.1) refl

pub each_reads : {D X E : Type 0} {v : D → X} {t : D → List ℕ} {F : D → Type 0} {read : List ℕ → Result (X × List ℕ) E} (n : ℕ)
    → Reads Anything v t F read → Reads Anything (map v) (flat_map t) (AreThisMany F n) (each read n)
each_reads {v = v} {t = t} {F = F} {read = read} n r = record {
  sound = each_sound r n;
  again = λ xs rest f _. subst (λ m. each read m (flat_map t xs ++ rest) ≡ Ok (map v xs, rest)) f.many (each_again r xs rest f.all);
}

-- ---- chains

-- the first byte of a chain is its closing byte or its separator
pub chain_begins : {A : Type 0} (Next : List ℕ → Type 0) (closing separator : ℕ) (text : A → List ℕ) → ((rest : List ℕ) → Next (closing ∷ rest)) → ((rest : List ℕ) → Next (separator ∷ rest))
    → (xs : List A) (rest : List ℕ) → Next (chain_text closing separator text xs ++ rest)
chain_begins Next closing separator text c s [] rest = c rest
chain_begins Next closing separator text c s (x ∷ xs) rest = s ((text x ++ chain_text closing separator text xs) ++ rest)

-- a chain has more bytes than items
chain_longer : {A : Type 0} (closing separator : ℕ) (text : A → List ℕ) (xs : List A) → length xs < length (chain_text closing separator text xs)
chain_longer closing separator text [] = omega arith
chain_longer closing separator text (x ∷ xs) = omega (arith, chain_longer closing separator text xs, length-append (text x) (chain_text closing separator text xs))

-- what the next step of a chain found
pub data IsNext {D X : Type 0} (v : D → X) (t : D → List ℕ) (F : D → Type 0) (closing separator : ℕ) (bytes : List ℕ) : Result (Option X × List ℕ) (Unit {0}) → Type 0 where
  closed : (rest : List ℕ) → bytes ≡ closing ∷ rest → IsNext v t F closing separator bytes (Ok (None, rest))
  one : (d : D) (x : X) (rest : List ℕ) → bytes ≡ separator ∷ t d ++ rest → F d → v d ≡ x → IsNext v t F closing separator bytes (Ok (Some x, rest))
  neither : (e : Unit {0}) → IsNext v t F closing separator bytes (Err e)

one_more : {D X : Type 0} {v : D → X} {t : D → List ℕ} {F : D → Type 0} (closing separator b : ℕ) (bytes : List ℕ) (r : Result (X × List ℕ) (Unit {0}))
    → b ≡ separator → Holds v t F bytes r → IsNext v t F closing separator (b ∷ bytes) (mapped Some r)
one_more closing separator b bytes r e (found d x rest s fits same) = one d x rest (ap (λ c. c ∷ bytes) e ∙ ap (λ y. separator ∷ y) s) fits same
one_more closing separator b bytes r e (refused f) = neither f

next_if : {D X : Type 0} {v : D → X} {t : D → List ℕ} {F : D → Type 0} (closing separator b : ℕ) (bytes : List ℕ) (is_closing is_separator : Bool) (r : Result (X × List ℕ) (Unit {0}))
    → (is_closing ≡ true → b ≡ closing) → (is_separator ≡ true → b ≡ separator) → Holds v t F bytes r
    → IsNext v t F closing separator (b ∷ bytes) (cond is_closing (Ok (None, bytes)) (cond is_separator (mapped Some r) (Err tt)))
next_if closing separator b bytes true s r hc hs h = closed bytes (ap (λ c. c ∷ bytes) (hc refl))
next_if closing separator b bytes false true r hc hs h = one_more closing separator b bytes r (hs refl) h
next_if closing separator b bytes false false r hc hs h = neither tt

next_sound : {D X : Type 0} {Next : List ℕ → Type 0} {v : D → X} {t : D → List ℕ} {F : D → Type 0} {read : List ℕ → Result (X × List ℕ) (Unit {0})} (closing separator : ℕ) (r : Reads Next v t F read) (bytes : List ℕ)
    → IsNext v t F closing separator bytes (next closing separator read bytes)
unfolding next
next_sound closing separator r [] = neither tt
next_sound {read = read} closing separator r (b ∷ bytes) = next_if closing separator b bytes (eqb b closing) (eqb b separator) (read bytes) (eqb-true b closing) (eqb-true b separator) (r.sound bytes)

chain_more : {D X : Type 0} (v : D → X) (t : D → List ℕ) {F : D → Type 0} (closing separator : ℕ) (bytes : List ℕ) (d : D) (x : X) (rest : List ℕ) (r : Result (List X × List ℕ) (Unit {0}))
    → bytes ≡ separator ∷ t d ++ rest → F d → v d ≡ x → Holds (map v) (chain_text closing separator t) (AllByRecursion F) rest r
    → Holds (map v) (chain_text closing separator t) (AllByRecursion F) bytes (with_front (x ∷ []) r)
chain_more v t closing separator bytes d x rest r e f seen (found ds xs more s fits same) =
    found (d ∷ ds) (x ∷ xs) more (e ∙ ap (λ y. separator ∷ t d ++ y) s ∙ ap (λ y. separator ∷ y) (sym (append_assoc (t d) (chain_text closing separator t ds) more))) (f, fits)
    (ap (λ y. y ∷ map v ds) seen ∙ ap (λ ys. x ∷ ys) same)
chain_more v t closing separator bytes d x rest r e f seen (refused y) = refused y

chain_closed : {D X : Type 0} {v : D → X} {t : D → List ℕ} {F : D → Type 0} (closing separator : ℕ) (bytes : List ℕ) (n : Result (Option X × List ℕ) (Unit {0})) (others : List ℕ → Result (List X × List ℕ) (Unit {0}))
    → IsNext v t F closing separator bytes n → ((rest : List ℕ) → Holds (map v) (chain_text closing separator t) (AllByRecursion F) rest (others rest))
    → Holds (map v) (chain_text closing separator t) (AllByRecursion F) bytes (n >>= λ x. further x.0 x.1 (others x.1))
chain_closed closing separator bytes n others (closed rest e) h = found [] [] rest e tt refl
chain_closed {v = v} {t = t} closing separator bytes n others (one d x rest e fits same) h = chain_more v t closing separator bytes d x rest (others rest) e fits same (h rest)
chain_closed closing separator bytes n others (neither e) h = refused e

pub chain_within_sound : {D X : Type 0} {Next : List ℕ → Type 0} {v : D → X} {t : D → List ℕ} {F : D → Type 0} {read : List ℕ → Result (X × List ℕ) (Unit {0})} (closing separator : ℕ) (r : Reads Next v t F read) (most : ℕ) (bytes : List ℕ)
    → Holds (map v) (chain_text closing separator t) (AllByRecursion F) bytes (chain_within closing separator read most bytes)
unfolding chain_within
chain_within_sound closing separator r zero bytes = refused tt
chain_within_sound {read = read} closing separator r (suc most) bytes =
    chain_closed closing separator bytes (next closing separator read bytes) (chain_within closing separator read most) (next_sound closing separator r bytes) (chain_within_sound closing separator r most)

pub chain_within_again : {D X : Type 0} {Next : List ℕ → Type 0} {v : D → X} {t : D → List ℕ} {F : D → Type 0} {read : List ℕ → Result (X × List ℕ) (Unit {0})} (closing separator : ℕ)
    → ((rest : List ℕ) → Next (closing ∷ rest)) → ((rest : List ℕ) → Next (separator ∷ rest)) → eqb separator closing ≡ false → Reads Next v t F read
    → (most : ℕ) (xs : List D) (rest : List ℕ) → length xs < most → AllByRecursion F xs
    → chain_within closing separator read most (chain_text closing separator t xs ++ rest) ≡ Ok (map v xs, rest)
unfolding chain_within next
chain_within_again closing separator nc ns apart r zero xs rest lt f = absurd (omega arith)
chain_within_again closing separator nc ns apart r (suc most) [] rest lt f = rw (eq-eqb closing closing refl) refl
chain_within_again {Next = Next} {v = v} {t = t} {read = read} closing separator nc ns apart r (suc most) (d ∷ ds) rest lt f =
    let regrouped : (t d ++ chain_text closing separator t ds) ++ rest ≡ t d ++ (chain_text closing separator t ds ++ rest) = append_assoc (t d) (chain_text closing separator t ds) rest in
    let fewer : length ds < most = omega arith in
    ap (λ y. chain_within closing separator read (suc most) (separator ∷ y)) regrouped
    ∙ rw (apart, eq-eqb separator separator refl, r.again d (chain_text closing separator t ds ++ rest) f.0 (chain_begins Next closing separator t nc ns ds rest), chain_within_again closing separator nc ns apart r most ds rest fewer f.1) refl

pub chain_reads : {D X : Type 0} {Next : List ℕ → Type 0} {v : D → X} {t : D → List ℕ} {F : D → Type 0} {read : List ℕ → Result (X × List ℕ) (Unit {0})} (closing separator : ℕ)
    → ((rest : List ℕ) → Next (closing ∷ rest)) → ((rest : List ℕ) → Next (separator ∷ rest)) → eqb separator closing ≡ false → Reads Next v t F read
    → Reads Anything (map v) (chain_text closing separator t) (AllByRecursion F) (chain closing separator read)
chain_reads {t = t} closing separator nc ns apart r = record {
  sound = λ bytes. chain_within_sound closing separator r (length bytes) bytes;
  again = λ xs rest f _.
      let enough : length xs < length (chain_text closing separator t xs ++ rest) = omega (arith, chain_longer closing separator t xs, length-append (chain_text closing separator t xs) rest) in
      chain_within_again closing separator nc ns apart r (length (chain_text closing separator t xs ++ rest)) xs rest enough f;
}

-- ---- runs

list_all-take_if : (p : ℕ → Bool) (b : ℕ) (bytes : List ℕ) (passes : Bool) → p b ≡ passes → list_all p (take (prefix_len p bytes) bytes) ≡ true
    → list_all p (take (cond passes (1 + prefix_len p bytes) 0) (b ∷ bytes)) ≡ true
list_all-take_if p b bytes true e all = let k : 1 + prefix_len p bytes ≡ suc (prefix_len p bytes) = omega arith in rw (k, e) all
list_all-take_if p b bytes false e all = refl

pub list_all-take : (p : ℕ → Bool) (bytes : List ℕ) → list_all p (take (prefix_len p bytes) bytes) ≡ true
list_all-take p [] = refl
list_all-take p (b ∷ bytes) = list_all-take_if p b bytes (p b) refl (list_all-take p bytes)

pub prefix_len-append : (p : ℕ → Bool) (xs rest : List ℕ) → list_all p xs ≡ true → prefix_len p (xs ++ rest) ≡ length xs + prefix_len p rest
prefix_len-append p [] rest all = omega arith
prefix_len-append p (x ∷ xs) rest all =
    let t = and_parts (p x) (list_all p xs) all in
    rw (t.0, prefix_len-append p xs rest t.1) (omega arith)

abbrev pub IsNoMore : (ℕ → Bool) → List ℕ → Type 0
IsNoMore p rest = prefix_len p rest ≡ 0

pub run_reads : (p : ℕ → Bool) → Reads (IsNoMore p) (λ xs. xs) (λ xs. xs) (λ xs. list_all p xs ≡ true) (run p)
run_reads p = record {
  sound = λ bytes. found (take (prefix_len p bytes) bytes) (take (prefix_len p bytes) bytes) (drop (prefix_len p bytes) bytes) (sym (take-append-drop (prefix_len p bytes) bytes)) (list_all-take p bytes) refl;
  again = λ xs rest all n.
      let long : prefix_len p (xs ++ rest) ≡ length xs = omega (arith, prefix_len-append p xs rest all) in
      rw (long, take_at xs rest (length xs) refl, drop_at xs rest (length xs) refl) refl;
}

-- ---- one text for one value

pub no_two : {D X E : Type 0} {v : D → X} {t : D → List ℕ} {F : D → Type 0} {read : List ℕ → Result (X × List ℕ) E} → Reads Anything v t F read
    → (a b : D) (x y : List ℕ) → F a → F b → t a ++ x ≡ t b ++ y → (v a ≡ v b) × (x ≡ y)
no_two {v = v} {read = read} r a b x y fa fb e =
    let same : (v a, x) ≡ (v b, y) = done_is (v a, x) (v b, y) (sym (r.again a x fa tt) ∙ ap read e ∙ r.again b y fb tt) in
    (ap (λ p. p.0) same, ap (λ p. p.1) same)

pub ruleset run_laws = (list_all-take, prefix_len-le-length)
