-- Where the machine accepts and where it stops, said of derivations alone.
use Rattle.std.proofs.Common.{◌≡◌, ℕ, zero, suc, ◌+◌, ◌<◌, true, List, [], ◌∷◌, ◌++◌, length, get_or, take, refl, sym, ap, subst, ◌∙◌, arith, append_assoc, append-nil, length-append}
use Rattle.std.proofs.Math.Seq.{take-append_seam, take-append-add}
use Rattle.bg_lists.specs.Lists.{At, at_here, at_there}
use Rattle.bg_grammar.specs.Grammar.{kind, Expected, GrammarStep, taken, Grammar, Derives, finished, take_kind, kinds_of, depths_of, IsDerivation, IsSentence, BeginsSentence}
use Rattle.bg_grammar.specs.Faults.{IsShallow, IsOnlyDerivation, IsShallowBefore, IsUnexpected, IsTooDeep}
use Rattle.bg_grammar.specs.Plan.{Plan, row, follow, rank, fits}
use Rattle.bg_grammar.specs.Machine.{look, Runs, IsStuck, stuck_done, stuck_end, stuck_kind, stuck_symbol, start_of, Accepts, StopsUnexpected, StopsDeep}
use Rattle.bg_grammar.proofs.Plans.{start_ranked, start_followed}
use Rattle.bg_grammar.proofs.Predictions.{word_symbol, run_complete, Good, good_none, good_kind, good_symbol, predict, run_kinds, run_count, run_good, run_sound, run_shallow, follow_run, same_depths, alive, kinds_joined, depths_joined, as_many_depths}

steps_of_none : (g : Grammar) (n : ℕ) (ss : List GrammarStep) → Derives g n [] ss → ss ≡ []
steps_of_none g n ss finished = refl

same_at : (n m : ℕ) → n ≡ m → (n ≡ 0 → ⊥) → m ≡ 0 → ⊥
same_at n m e f h = f (e ∙ h)

head_is : (k j : ℕ) (ks js : List ℕ) → k ∷ ks ≡ j ∷ js → k ≡ j
head_is k j ks js e = cc

-- what is taken, of kinds that are what was taken and what is left
taken_part : (ks xs ls : List ℕ) (t : ℕ) → ks ≡ xs ++ ls → t ≡ 0 + length xs → take t ks ≡ xs
taken_part ks xs ls t e f = ap (λ z. take z ks) (let h : t ≡ length xs = omega arith in h) ∙ ap (take (length xs)) e ∙ take-append_seam xs ls

taken_one_more : (ks xs ls : List ℕ) (k t : ℕ) → ks ≡ xs ++ (k ∷ ls) → t ≡ 0 + length xs → take (suc t) ks ≡ xs ++ (k ∷ [])
taken_one_more ks xs ls k t e f =
    ap (λ z. take z ks) (let h : suc t ≡ length xs + 1 = omega arith in h) ∙ ap (take (length xs + 1)) e ∙ take-append-add xs (k ∷ ls) 1

left_length : (ks xs ls : List ℕ) (t : ℕ) → ks ≡ xs ++ ls → t ≡ 0 + length xs → t + length ls ≡ length ks
left_length ks xs ls t e f = let h : length ks ≡ length xs + length ls = ap length e ∙ length-append xs ls in omega arith

-- with one more kind, and then more
one_then_more : (ks xs more : List ℕ) (k : ℕ) → ks ≡ xs ++ (k ∷ []) → ks ++ more ≡ xs ++ (k ∷ more)
one_then_more ks xs more k e = ap (λ z. z ++ more) e ∙ append_assoc xs (k ∷ []) more

depth_at : (xs ys : List ℕ) (t depth d : ℕ) → t ≡ length xs → At d t (xs ++ (depth ∷ ys)) → d ≡ depth
depth_at [] ys zero depth d e (at_here q) = sym q
depth_at [] ys (suc t) depth d e (at_there b) = absurd (omega arith)
depth_at (x ∷ xs) ys zero depth d e (at_here q) = absurd (omega arith)
depth_at (x ∷ xs) ys (suc t) depth d e (at_there b) = depth_at xs ys t depth d (omega arith) b

-- the depth of the token behind a run
depth_behind : (ss us : List GrammarStep) (t k depth n d : ℕ) → t ≡ 0 + length (kinds_of ss) → At d t (depths_of (ss ++ (taken k depth n ∷ us))) → d ≡ depth
depth_behind ss us t k depth n d e a =
    depth_at (depths_of ss) (depths_of us) t depth d (let h = as_many_depths ss in omega arith)
    (subst (λ z. At d t z) (depths_joined ss (taken k depth n ∷ us)) a)

module _ (g : Grammar) (p : Plan) (ok : fits g p ≡ true) where
  start_good : Good p (start_of p)
  start_good = good_symbol (start_ranked g p ok) (λ k st. ap (λ z. get_or (follow p p.start) z 0) st ∙ start_followed g p ok) good_none

  -- a stuck stack derives nothing that goes on as the kinds do
  stuck_on : {k : ℕ} {ks : List ℕ} {es : List Expected} → IsStuck p (k ∷ ks) es → {n : ℕ} {ss : List GrammarStep} → Good p es → Derives g n es ss → (more : List ℕ) → kinds_of ss ≡ k ∷ more → ⊥
  stuck_on stuck_done good finished more e = cc
  stuck_on (stuck_kind ne) good (take_kind d) more e = ne (sym (head_is _ _ _ _ e))
  stuck_on (stuck_symbol {s = s} z) {n} {ss} good d more e = same_at _ _ (ap (λ q. get_or (row p s) q 0) (ap (look p) e)) (predict g p ok d good) z

  stuck_at_end : {es : List Expected} → IsStuck p [] es → {n : ℕ} {ss : List GrammarStep} → Good p es → Derives g n es ss → kinds_of ss ≡ [] → ⊥
  stuck_at_end stuck_end good (take_kind d) e = cc
  stuck_at_end (stuck_symbol {s = s} z) good d e = same_at _ _ (ap (λ q. get_or (row p s) q 0) (ap (look p) e)) (predict g p ok d good) z

  module _ (most : ℕ) where
    -- the machine accepts sentences
    pub accepted : (kinds : List ℕ) (ss : List GrammarStep) (m : ℕ) → Runs g p most 0 kinds (start_of p) ss m [] [] → IsDerivation g p.start kinds ss
    accepted kinds ss m r = record {
      derives = subst (λ z. Derives g 0 (start_of p) z) (append-nil ss) (run_sound g p ok most r finished);
      spells = sym (run_kinds g p ok most r ∙ append-nil (kinds_of ss));
    }

    pub accepted_shallow : (kinds : List ℕ) (ss : List GrammarStep) (m : ℕ) → Runs g p most 0 kinds (start_of p) ss m [] [] → IsShallow most ss
    accepted_shallow kinds ss m r = λ t d a. run_shallow g p ok most r t d a

    -- which have no other derivation
    pub accepted_only : (kinds : List ℕ) (ss : List GrammarStep) (m : ℕ) → Runs g p most 0 kinds (start_of p) ss m [] [] → (ts : List GrammarStep) → IsDerivation g p.start kinds ts → ts ≡ ss
    accepted_only kinds ss m r ts d =
        let a = follow_run g p ok most r start_good [] refl (d.spells ∙ run_kinds g p ok most r) d.derives in
        a.is ∙ ap (λ z. ss ++ z) (steps_of_none g m a.steps a.derives) ∙ append-nil ss

    -- a run can be gone on with to a whole sentence
    run_begins : (kinds ls : List ℕ) (ss : List GrammarStep) (m : ℕ) (fs : List Expected) → Runs g p most 0 kinds (start_of p) ss m ls fs → BeginsSentence g p.start (kinds_of ss)
    run_begins kinds ls ss m fs r =
        let w = alive g p ok (run_good g p ok most r start_good) m in
        record {
          more = kinds_of w.steps;
          sentence = record { steps = ss ++ w.steps; derivation = record { derives = run_sound g p ok most r w.derives; spells = kinds_joined ss w.steps } };
        }

    shallow_before : (kinds ls : List ℕ) (ss : List GrammarStep) (t : ℕ) (fs : List Expected) → Runs g p most 0 kinds (start_of p) ss t ls fs
        → (more : List ℕ) (ts : List GrammarStep) → kinds_of ts ≡ kinds_of ss ++ more → Derives g 0 (start_of p) ts → IsShallowBefore most t ts
    shallow_before kinds ls ss t fs r more ts e d = λ k depth below a.
        same_depths g p ok most r start_good more e d k depth (let h = run_count g p ok most r in omega arith) a

    unexpected_on : (kinds : List ℕ) (ss : List GrammarStep) (t : ℕ) (ls : List ℕ) (fs : List Expected) → Runs g p most 0 kinds (start_of p) ss t ls fs → IsStuck p ls fs
        → t < length kinds → BeginsSentence g p.start (take (suc t) kinds) → ⊥
    unexpected_on kinds ss t [] fs r stuck below b =
        let h = left_length kinds (kinds_of ss) [] t (run_kinds g p ok most r) (run_count g p ok most r) in absurd (omega arith)
    unexpected_on kinds ss t (k ∷ ls) fs r stuck below b =
        let e = run_kinds g p ok most r in
        let c = run_count g p ok most r in
        let a = follow_run g p ok most r start_good (k ∷ b.more) refl (b.sentence.derivation.spells ∙ one_then_more _ (kinds_of ss) b.more k (taken_one_more kinds (kinds_of ss) ls k t e c)) b.sentence.derivation.derives in
        stuck_on stuck (run_good g p ok most r start_good) a.derives b.more a.spells

    unexpected_whole : (kinds : List ℕ) (ss : List GrammarStep) (t : ℕ) (ls : List ℕ) (fs : List Expected) → Runs g p most 0 kinds (start_of p) ss t ls fs → IsStuck p ls fs
        → t ≡ length kinds → IsSentence g p.start kinds → ⊥
    unexpected_whole kinds ss t (k ∷ ls) fs r stuck whole b =
        let h = left_length kinds (kinds_of ss) (k ∷ ls) t (run_kinds g p ok most r) (run_count g p ok most r) in absurd (omega arith)
    unexpected_whole kinds ss t [] fs r stuck whole b =
        let a = follow_run g p ok most r start_good [] refl (b.derivation.spells ∙ run_kinds g p ok most r) b.derivation.derives in
        stuck_at_end stuck (run_good g p ok most r start_good) a.derives a.spells

    -- where it is stuck stands the first unexpected token
    pub stopped_unexpected : (kinds : List ℕ) (t : ℕ) → StopsUnexpected g p most 0 kinds (start_of p) t → IsUnexpected g p.start most kinds t
    stopped_unexpected kinds t w =
        let e = run_kinds g p ok most w.runs in
        let c = run_count g p ok most w.runs in
        let front : take t kinds ≡ kinds_of w.steps = taken_part kinds (kinds_of w.steps) w.rest t e c in
        record {
          within = let h = left_length kinds (kinds_of w.steps) w.rest t e c in omega arith;
          begins = subst (λ z. BeginsSentence g p.start z) (sym front) (run_begins kinds w.rest w.steps t w.left w.runs);
          not_on = unexpected_on kinds w.steps t w.rest w.left w.runs w.stuck;
          not_whole = unexpected_whole kinds w.steps t w.rest w.left w.runs w.stuck;
          shallow = λ more ts d. shallow_before kinds w.rest w.steps t w.left w.runs more ts (d.spells ∙ ap (λ z. z ++ more) front) d.derives;
        }

    deep_begins : (kinds : List ℕ) (ss : List GrammarStep) (t k : ℕ) (ls : List ℕ) (depth : ℕ) (fs : List Expected) → Runs g p most 0 kinds (start_of p) ss t (k ∷ ls) (record { depth = depth; part = kind k } ∷ fs)
        → BeginsSentence g p.start (kinds_of ss ++ (k ∷ []))
    deep_begins kinds ss t k ls depth fs r = go (run_good g p ok most r start_good)
      where
        go : Good p (record { depth = depth; part = kind k } ∷ fs) → BeginsSentence g p.start (kinds_of ss ++ (k ∷ []))
        go (good_kind good) =
            let w = alive g p ok good (suc t) in
            record {
              more = kinds_of w.steps;
              sentence = record {
                steps = ss ++ (taken k depth t ∷ w.steps);
                derivation = record {
                  derives = run_sound g p ok most r (take_kind w.derives);
                  spells = kinds_joined ss (taken k depth t ∷ w.steps) ∙ sym (append_assoc (kinds_of ss) (k ∷ []) (kinds_of w.steps));
                };
              };
            }

    deep_there : (ss ts us : List GrammarStep) (t k depth d : ℕ) (fs : List Expected) → t ≡ 0 + length (kinds_of ss) → ts ≡ ss ++ us → Derives g t (record { depth = depth; part = kind k } ∷ fs) us
        → At d t (depths_of ts) → d ≡ depth
    deep_there ss ts us t k depth d fs c e (take_kind {steps = vs} x) a = depth_behind ss vs t k depth t d c (subst (λ z. At d t (depths_of z)) e a)

    -- where it meets a token that it expects not so deep stands the first that is too deep
    pub stopped_deep : (kinds : List ℕ) (t : ℕ) → StopsDeep g p most 0 kinds (start_of p) t → IsTooDeep g p.start most kinds t
    stopped_deep kinds t w =
        let e = run_kinds g p ok most w.runs in
        let c = run_count g p ok most w.runs in
        let front : take (suc t) kinds ≡ kinds_of w.steps ++ (w.token ∷ []) = taken_one_more kinds (kinds_of w.steps) w.rest w.token t e c in
        record {
          within = let h = left_length kinds (kinds_of w.steps) (w.token ∷ w.rest) t e c in omega arith;
          begins = subst (λ z. BeginsSentence g p.start z) (sym front) (deep_begins kinds w.steps t w.token w.rest w.depth w.left w.runs);
          shallow = λ more ts d. shallow_before kinds (w.token ∷ w.rest) w.steps t _ w.runs (w.token ∷ more) ts (d.spells ∙ one_then_more _ (kinds_of w.steps) more w.token front) d.derives;
          deep = λ more ts d depth a.
              let f = follow_run g p ok most w.runs start_good (w.token ∷ more) refl (d.spells ∙ one_then_more _ (kinds_of w.steps) more w.token front) d.derives in
              let same : depth ≡ w.depth = deep_there w.steps ts f.steps t w.token w.depth depth w.left c f.is f.derives a in
              let deep = w.deep in omega arith;
        }

    pub accepted_once : (kinds : List ℕ) (ss : List GrammarStep) → Accepts g p most kinds ss → IsOnlyDerivation g p.start most kinds ss
    accepted_once kinds ss a = record {
      derivation = accepted kinds ss a.token a.runs;
      shallow = accepted_shallow kinds ss a.token a.runs;
      once = accepted_only kinds ss a.token a.runs;
    }

    -- and it takes every sentence without tokens too deep
    pub sentences_accepted : (kinds : List ℕ) (ss : List GrammarStep) → IsDerivation g p.start kinds ss → IsShallow most ss → Accepts g p most kinds ss
    sentences_accepted kinds ss d shallow = record {
      token = 0 + length (kinds_of ss);
      runs = subst (λ z. Runs g p most 0 z (start_of p) ss (0 + length (kinds_of ss)) [] []) d.spells (run_complete g p ok most d.derives start_good shallow);
    }

  -- each symbol with a rank has a sentence
  pub some_sentence : (s : ℕ) → 0 < rank p s → (kinds : List ℕ) × IsSentence g s kinds
  some_sentence s low =
      let w = word_symbol g p ok (suc (rank p s)) 0 0 s [] low (omega arith) (λ m. record { steps = []; derives = finished }) in
      (kinds_of w.steps, record { steps = w.steps; derivation = record { derives = w.derives; spells = refl } })
