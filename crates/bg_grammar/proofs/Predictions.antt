-- By a plan that passes the test, the next token tells the alternative, and the machine goes the way of every derivation.
use Rattle.std.proofs.Common.{◌≡◌, ℕ, zero, suc, ◌+◌, ◌<◌, ◌≤◌, true, List, [], ◌∷◌, ◌++◌, map, length, get_or, refl, sym, ap, subst, ◌∙◌, arith}
use Rattle.bg_lists.specs.Lists.{At, at_here, at_there}
use Rattle.bg_lists.proofs.Places.{At-one}
use Rattle.bg_grammar.specs.Grammar.{Part, kind, symbol, Expected, expect, GrammarStep, opened, taken, Grammar, ways_of, depth_below, under, Derives, finished, take_kind, open_symbol, kinds_of, depths_of}
use Rattle.bg_grammar.specs.Faults.{IsShallow}
use Rattle.bg_grammar.specs.Plan.{Plan, row, follow, rank, head_fits, rest_fits, is_low, fits}
use Rattle.bg_grammar.specs.Machine.{look, Runs, stay, step_kind, step_symbol}
use Rattle.bg_grammar.proofs.Plans.{both_left, both_right, less_numbers, within_at, Starts, starts_at, way_of, low_of}

-- a stack whose symbols all have ranks, and behind each stands only what may follow it
pub data Good (p : Plan) : List Expected → Type 0 where
  good_none : Good p []
  good_kind : {d t : ℕ} {es : List Expected} → Good p es → Good p (record { depth = d; part = kind t } ∷ es)
  good_symbol : {d s : ℕ} {es : List Expected} → 0 < rank p s → ((k : ℕ) → Starts p es k → get_or (follow p s) k 0 ≡ 1) → Good p es
      → Good p (record { depth = d; part = symbol s } ∷ es)

one_or_none : (n : ℕ) → n ≡ 1 → n ≡ 0 → ⊥
one_or_none n e f = omega arith

-- the parts of an alternative in front of what may follow its symbol
pub good_under : (p : Plan) (d s : ℕ) (way : List Part) (es : List Expected) → rest_fits p s way ≡ true → ((k : ℕ) → Starts p es k → get_or (follow p s) k 0 ≡ 1) → Good p es
    → Good p (map (expect d) way ++ es)
good_under p d s [] es e follows good = good
good_under p d s (kind t ∷ way) es e follows good = good_kind (good_under p d s way es e follows good)
good_under p d s (symbol b ∷ []) es e follows good =
    good_symbol (less_numbers _ _ (both_left _ _ e)) (λ k st. within_at 1 (follow p s) (follow p b) k (both_right _ _ e) (one_or_none _ (follows k st))) good
good_under p d s (symbol b ∷ q ∷ way) es e follows good =
    good_symbol (less_numbers _ _ (both_left _ _ e)) (λ k st. starts_at p 1 q (follow p b) k (both_left _ _ (both_right _ _ e)) st)
    (good_under p d s (q ∷ way) es (both_right _ _ (both_right _ _ e)) follows good)

head_at : (p : Plan) (d s i : ℕ) (way : List Part) (es : List Expected) (k : ℕ) → head_fits p s i way ≡ true → ((k : ℕ) → Starts p es k → get_or (follow p s) k 0 ≡ 1)
    → Starts p (map (expect d) way ++ es) k → get_or (row p s) k 0 ≡ suc i
head_at p d s i [] es k e follows st = within_at (suc i) (follow p s) (row p s) k e (one_or_none _ (follows k st))
head_at p d s i (q ∷ way) es k e follows st = starts_at p (suc i) q (row p s) k e st

not_none : (n i : ℕ) → n ≡ suc i → n ≡ 0 → ⊥
not_none n i e f = omega arith

same_next : (n m i j : ℕ) → n ≡ suc i → m ≡ suc j → n ≡ m → i ≡ j
same_next n m i j e f h = omega arith

pub look_front : (p : Plan) (xs more others : List ℕ) → look p more ≡ look p others → look p (xs ++ more) ≡ look p (xs ++ others)
look_front p [] more others e = e
look_front p (x ∷ xs) more others e = refl

pub look_inside : (p : Plan) (xs more others : List ℕ) (k : ℕ) → k < length xs → look p (xs ++ more) ≡ look p (xs ++ others)
look_inside p [] more others k l = absurd (omega arith)
look_inside p (x ∷ xs) more others k l = refl

pub kinds_joined : (ss ts : List GrammarStep) → kinds_of (ss ++ ts) ≡ kinds_of ss ++ kinds_of ts
kinds_joined [] ts = refl
kinds_joined (opened s i ∷ ss) ts = kinds_joined ss ts
kinds_joined (taken k d n ∷ ss) ts = ap (λ z. k ∷ z) (kinds_joined ss ts)

pub depths_joined : (ss ts : List GrammarStep) → depths_of (ss ++ ts) ≡ depths_of ss ++ depths_of ts
depths_joined [] ts = refl
depths_joined (opened s i ∷ ss) ts = depths_joined ss ts
depths_joined (taken k d n ∷ ss) ts = ap (λ z. d ∷ z) (depths_joined ss ts)

pub as_many_depths : (ss : List GrammarStep) → length (depths_of ss) ≡ length (kinds_of ss)
as_many_depths [] = refl
as_many_depths (opened s i ∷ ss) = as_many_depths ss
as_many_depths (taken k d n ∷ ss) = ap suc (as_many_depths ss)

-- what is left of a derivation behind a run
pub record After (g : Grammar) (m : ℕ) (fs : List Expected) (ss ts : List GrammarStep) (more : List ℕ) : Type 0 where
  pub steps : List GrammarStep
  pub is : ts ≡ ss ++ steps
  pub derives : Derives g m fs steps
  pub spells : kinds_of steps ≡ more

-- steps that derive the stack
pub record Word (g : Grammar) (n : ℕ) (es : List Expected) : Type 0 where
  pub steps : List GrammarStep
  pub derives : Derives g n es steps

tail_is : (k j : ℕ) (ks js : List ℕ) → k ∷ ks ≡ j ∷ js → ks ≡ js
tail_is k j ks js e = cc

module _ (g : Grammar) (p : Plan) (ok : fits g p ≡ true) where
  good_open : {d s : ℕ} {es : List Expected} (i : ℕ) (way : List Part) → At way i (ways_of g s) → Good p (record { depth = d; part = symbol s } ∷ es) → Good p (under g d s way ++ es)
  good_open {d} {s} {es} i way a (good_symbol low follows good) = good_under p (depth_below g s d) s way es (way_of g p ok s i way a).rest follows good

  head_of : {d s : ℕ} {es : List Expected} (i : ℕ) (way : List Part) (k : ℕ) → At way i (ways_of g s) → Good p (record { depth = d; part = symbol s } ∷ es)
      → Starts p (under g d s way ++ es) k → get_or (row p s) k 0 ≡ suc i
  head_of {d} {s} {es} i way k a (good_symbol low follows good) st = head_at p (depth_below g s d) s i way es k (way_of g p ok s i way a).head follows st

  -- what a derivation spells begins as the table says
  pub predict : {n : ℕ} {es : List Expected} {ss : List GrammarStep} → Derives g n es ss → Good p es → Starts p es (look p (kinds_of ss))
  predict finished good = refl
  predict (take_kind d) good = refl
  predict (open_symbol {i = i} {way = way} a d) good = not_none _ i (head_of i way _ a good (predict d (good_open i way a good)))

  -- the alternative that a derivation takes is the table's
  chosen : {n d s : ℕ} {es : List Expected} {ss : List GrammarStep} (i : ℕ) (way : List Part) → Good p (record { depth = d; part = symbol s } ∷ es) → At way i (ways_of g s)
      → Derives g n (under g d s way ++ es) ss → get_or (row p s) (look p (kinds_of ss)) 0 ≡ suc i
  chosen i way good a d = head_of i way _ a good (predict d (good_open i way a good))

  -- a derivation and a step of the machine that see the same kind take the same alternative
  same_way : {n d s : ℕ} {es : List Expected} {ss : List GrammarStep} (i j : ℕ) (way other : List Part) (k : ℕ) → Good p (record { depth = d; part = symbol s } ∷ es)
      → get_or (row p s) k 0 ≡ suc i → At way i (ways_of g s) → look p (kinds_of ss) ≡ k → At other j (ways_of g s) → Derives g n (under g d s other ++ es) ss
      → (i ≡ j) × Derives g n (under g d s way ++ es) ss
  same_way {n} {d} {s} {es} {ss} i j way other k good entry a e b r =
      let same : i ≡ j = same_next _ _ i j entry (chosen j other good b r) (ap (λ z. get_or (row p s) z 0) (sym e)) in
      (same, subst (λ z. Derives g n (under g d s z ++ es) ss) (At-one (subst (λ z. At other z (ways_of g s)) (sym same) b) a) r)

  module _ (most : ℕ) where
    pub run_kinds : {n m : ℕ} {ks ls : List ℕ} {es fs : List Expected} {ss : List GrammarStep} → Runs g p most n ks es ss m ls fs → ks ≡ kinds_of ss ++ ls
    run_kinds stay = refl
    run_kinds (step_kind {k = k} l r) = ap (λ z. k ∷ z) (run_kinds r)
    run_kinds (step_symbol e a r) = run_kinds r

    pub run_count : {n m : ℕ} {ks ls : List ℕ} {es fs : List Expected} {ss : List GrammarStep} → Runs g p most n ks es ss m ls fs → m ≡ n + length (kinds_of ss)
    run_count stay = omega arith
    run_count (step_kind l r) = let h = run_count r in omega arith
    run_count (step_symbol e a r) = run_count r

    pub run_good : {n m : ℕ} {ks ls : List ℕ} {es fs : List Expected} {ss : List GrammarStep} → Runs g p most n ks es ss m ls fs → Good p es → Good p fs
    run_good stay good = good
    run_good (step_kind l r) (good_kind good) = run_good r good
    run_good (step_symbol {i = i} {way = way} e a r) good = run_good r (good_open i way a good)

    -- the machine's steps derive
    pub run_sound : {n m : ℕ} {ks ls : List ℕ} {es fs : List Expected} {ss us : List GrammarStep} → Runs g p most n ks es ss m ls fs → Derives g m fs us → Derives g n es (ss ++ us)
    run_sound stay d = d
    run_sound (step_kind l r) d = take_kind (run_sound r d)
    run_sound (step_symbol e a r) d = open_symbol a (run_sound r d)

    pub run_on : {n m o : ℕ} {ks ls qs : List ℕ} {es fs gs : List Expected} {ss us : List GrammarStep} → Runs g p most n ks es ss m ls fs → Runs g p most m ls fs us o qs gs
        → Runs g p most n ks es (ss ++ us) o qs gs
    run_on stay q = q
    run_on (step_kind l r) q = step_kind l (run_on r q)
    run_on (step_symbol e a r) q = step_symbol e a (run_on r q)

    -- no token taken is too deep
    pub run_shallow : {n m : ℕ} {ks ls : List ℕ} {es fs : List Expected} {ss : List GrammarStep} → Runs g p most n ks es ss m ls fs → (t d : ℕ) → At d t (depths_of ss) → d ≤ most
    run_shallow stay t d a = elim a [ ]
    run_shallow (step_kind l r) t d a = run_shallow_at l (λ u b. run_shallow r u d b) a
      where
        run_shallow_at : {e t : ℕ} {ds : List ℕ} → e ≤ most → ((u : ℕ) → At d u ds → d ≤ most) → At d t (e ∷ ds) → d ≤ most
        run_shallow_at l more (at_here q) = omega arith
        run_shallow_at l more (at_there b) = more _ b
    run_shallow (step_symbol e x r) t d a = run_shallow r t d a

    -- each derivation that spells what the machine has taken begins with its steps
    pub follow_run : {n m : ℕ} {ks ls : List ℕ} {es fs : List Expected} {ss : List GrammarStep} → Runs g p most n ks es ss m ls fs → {ts : List GrammarStep} → Good p es → (more : List ℕ)
        → look p more ≡ look p ls → kinds_of ts ≡ kinds_of ss ++ more → Derives g n es ts → After g m fs ss ts more
    follow_run stay {ts} good more same e d = record { steps = ts; is = refl; derives = d; spells = e }
    follow_run (step_kind {n = n} {d = d} {k = k} l r) (good_kind good) more same e (take_kind t) =
        let a = follow_run r good more same (tail_is _ _ _ _ e) t in
        record { steps = a.steps; is = ap (λ z. taken k d n ∷ z) a.is; derives = a.derives; spells = a.spells }
    follow_run (step_symbol {n = n} {s = s} {i = i} {way = way} {ls = ls} {ss = ss} entry a r) good more same e (open_symbol {i = j} {way = other} {steps = us} b t) =
        let w = same_way i j way other _ good entry a (ap (look p) e ∙ look_front p (kinds_of ss) more ls same ∙ ap (look p) (sym (run_kinds r))) b t in
        let f = follow_run r (good_open i way a good) more same e w.1 in
        record { steps = f.steps; is = ap (λ z. opened s z ∷ us) (sym w.0) ∙ ap (λ z. opened s i ∷ z) f.is; derives = f.derives; spells = f.spells }

    -- and has no token deeper among them
    pub same_depths : {n m : ℕ} {ks ls : List ℕ} {es fs : List Expected} {ss : List GrammarStep} → Runs g p most n ks es ss m ls fs → {ts : List GrammarStep} → Good p es → (more : List ℕ)
        → kinds_of ts ≡ kinds_of ss ++ more → Derives g n es ts → (t d : ℕ) → t < length (kinds_of ss) → At d t (depths_of ts) → d ≤ most
    same_depths stay good more e x t d low a = absurd (omega arith)
    same_depths (step_kind {d = q} l r) (good_kind good) more e (take_kind {steps = us} x) t d low a =
        front t d q (depths_of us) l (λ u below b. same_depths r good more (tail_is _ _ _ _ e) x u d below b) low a
      where
        front : (t d q : ℕ) (ds : List ℕ) {c : ℕ} → q ≤ most → ((u : ℕ) → u < c → At d u ds → d ≤ most) → t < suc c → At d t (q ∷ ds) → d ≤ most
        front t d q ds l more low (at_here h) = omega arith
        front (suc t) d q ds l more low (at_there b) = more t (omega arith) b
    same_depths (step_symbol {s = s} {i = i} {way = way} {ls = ls} {ss = ss} entry a r) good more e (open_symbol {i = j} {way = other} b x) t d low c =
        let w = same_way i j way other _ good entry a (ap (look p) e ∙ look_inside p (kinds_of ss) more ls t low ∙ ap (look p) (sym (run_kinds r))) b x in
        same_depths r (good_open i way a good) more e w.1 t d low c

    -- the machine goes the way of a derivation without tokens too deep
    pub run_complete : {n : ℕ} {es : List Expected} {ss : List GrammarStep} → Derives g n es ss → Good p es → IsShallow most ss → Runs g p most n (kinds_of ss) es ss (n + length (kinds_of ss)) [] []
    run_complete {n} finished good shallow = subst (λ z. Runs g p most n [] [] [] z [] []) (let h : n ≡ n + 0 = omega arith in h) stay
    run_complete {n} (take_kind {d = d} {k = k} {parts = es} {steps = ss} r) (good_kind good) shallow =
        step_kind (shallow 0 d (at_here refl))
        (subst (λ z. Runs g p most (suc n) (kinds_of ss) es ss z [] []) (let h : suc n + length (kinds_of ss) ≡ n + suc (length (kinds_of ss)) = omega arith in h)
        (run_complete r good (λ t e a. shallow (suc t) e (at_there a))))
    run_complete (open_symbol {i = i} {way = way} a r) good shallow = step_symbol (chosen i way good a r) a (run_complete r (good_open i way a good) shallow)

  -- each symbol with a rank derives some tokens
  word_way : (r : ℕ) (word : (n d b : ℕ) (es : List Expected) → 0 < rank p b → rank p b < r → ((m : ℕ) → Word g m es) → Word g n (expect d (symbol b) ∷ es))
      (n d : ℕ) (way : List Part) (es : List Expected) → is_low p r way ≡ true → ((m : ℕ) → Word g m es) → Word g n (map (expect d) way ++ es)
  word_way r word n d [] es e rest = rest n
  word_way r word n d (kind t ∷ way) es e rest =
      let w = word_way r word (suc n) d way es e rest in record { steps = taken t d n ∷ w.steps; derives = take_kind w.derives }
  word_way r word n d (symbol b ∷ way) es e rest =
      word n d b (map (expect d) way ++ es) (less_numbers _ _ (both_left _ _ e)) (less_numbers _ _ (both_left _ _ (both_right _ _ e)))
      (λ m. word_way r word m d way es (both_right _ _ (both_right _ _ e)) rest)

  pub word_symbol : (fuel n d s : ℕ) (es : List Expected) → 0 < rank p s → rank p s < fuel → ((m : ℕ) → Word g m es) → Word g n (expect d (symbol s) ∷ es)
  word_symbol zero n d s es low below rest = absurd (omega arith)
  word_symbol (suc fuel) n d s es low below rest =
      let l = low_of g p ok s low in
      let w = word_way (rank p s) (λ m e b fs small less more. word_symbol fuel m e b fs small (omega arith) more) n (depth_below g s d) l.way es l.low rest in
      record { steps = opened s l.number ∷ w.steps; derives = open_symbol l.place w.derives }

  pub alive : {es : List Expected} → Good p es → (n : ℕ) → Word g n es
  alive good_none n = record { steps = []; derives = finished }
  alive (good_kind {d = d} {t = t} good) n = let w = alive good (suc n) in record { steps = taken t d n ∷ w.steps; derives = take_kind w.derives }
  alive (good_symbol {d = d} {s = s} {es = es} low follows good) n = word_symbol (suc (rank p s)) n d s es low (omega arith) (λ m. alive good m)
