-- How the answers of reading functions are put together.
use Rattle.std.proofs.Common.{◌≡◌, ℕ, zero, suc, ◌+◌, ◌<◌, ◌≤◌, true, List, [], ◌∷◌, ◌++◌, map, length, get_or, drop, Option, Result, Ok, Err, IsErrAnd, refl, sym, ap, subst, ◌∙◌, arith, append_assoc, append-nil, ◌-◌}
use Rattle.bg_lists.proofs.Places.{At-get_or}
use Rattle.bg_text.specs.declared.token.Token.{Token}
use Rattle.bg_text.specs.declared.token.TokenKind.{TokenKind}
use Rattle.bg_grammar.specs.Grammar.{Part, kind, symbol, Expected, expect, GrammarStep, opened, taken, ways_of, under, finished, kinds_of}
use Rattle.bg_grammar.specs.Plan.{row}
use Rattle.bg_grammar.specs.Machine.{look, Runs, stay, step_kind, step_symbol, IsStuck, stuck_end, stuck_kind, stuck_symbol, StopsUnexpected, StopsDeep}
use Rattle.bg_grammar.proofs.Plans.{named_below}
use Rattle.bg_grammar.proofs.Predictions.{run_on, run_sound, run_count}
use Rattle.bg_grammar.proofs.Solid.{is_solid, takes_token, or_left}
use Rattle.bg_syntax.proofs.Fits.{model_solids, solids_fit}
use Rattle.bg_syntax.specs.declared.fault.SyntaxFault.{SyntaxFault}
use Rattle.bg_syntax.specs.declared.fault.SyntaxFault.TheVariants.{Unexpected, TooDeep}
use Rattle.bg_syntax.specs.declared.symbol.Symbol.{Symbol}
use Rattle.bg_syntax.specs.Numbers.{kind_number, symbol_number}
use Rattle.bg_syntax.specs.Grammar.{grammar}
use Rattle.bg_syntax.specs.Plan.{plan}
use Rattle.bg_syntax.specs.Steps.{Steps, in_turn}
use Rattle.bg_syntax.specs.Models.{kinds}
use Rattle.bg_syntax.specs.Reading.{wants, wants_token, Moves, Loops, Fails, fails_unexpected, fails_deep, fails_memory, Chooses, ReadsSymbol, ReadsItem}
use Rattle.bg_syntax.proofs.Fits.{plan_fits}
use Rattle.bg_base.specs.Limits.{most_levels}

-- ---- the tokens' kinds from a place on

-- the kind of the token, and those behind it
pub kinds_from : (ts : List Token) (n : ℕ) (t : Token) → n < length ts → drop n (kinds ts) ≡ kind_number (get_or ts n t).kind ∷ drop (suc n) (kinds ts)
kinds_from [] n t below = absurd (omega arith)
kinds_from (x ∷ ts) zero t below = refl
kinds_from (x ∷ ts) (suc n) t below = kinds_from ts n t (omega arith)

pub kinds_end : (ts : List Token) (n : ℕ) → length ts ≤ n → drop n (kinds ts) ≡ []
kinds_end [] zero l = refl
kinds_end [] (suc n) l = refl
kinds_end (x ∷ ts) zero l = absurd (omega arith)
kinds_end (x ∷ ts) (suc n) l = kinds_end ts n (omega arith)

pub kind_there : (ts : List Token) (n : ℕ) (t : Token) → n < length ts → look plan (drop n (kinds ts)) ≡ kind_number (get_or ts n t).kind
kind_there ts n t below = ap (look plan) (kinds_from ts n t below)

end_of_plan : plan.end ≡ 45
unfolding plan
end_of_plan = refl

pub kind_at_end : (ts : List Token) (n : ℕ) → length ts ≤ n → look plan (drop n (kinds ts)) ≡ 45
kind_at_end ts n l = ap (look plan) (kinds_end ts n l) ∙ end_of_plan

-- what stands in front is a kind below the end of input, and what is behind it
kinds_look : (ks : List ℕ) (k : ℕ) → look plan ks ≡ k → k < 45 → (rest : List ℕ) × (ks ≡ k ∷ rest)
kinds_look [] k e below = absurd (let h : 45 ≡ k = sym end_of_plan ∙ e in omega arith)
kinds_look (x ∷ ks) k e below = (ks, ap (λ z. z ∷ ks) e)

drop_more : (n : ℕ) (ks rest : List ℕ) (k : ℕ) → drop n ks ≡ k ∷ rest → (drop (suc n) ks ≡ rest) × (n < length ks)
drop_more zero [] rest k e = cc
drop_more zero (x ∷ ks) rest k e = (cc, omega arith)
drop_more (suc n) [] rest k e = cc
drop_more (suc n) (x ∷ ks) rest k e = let w = drop_more n ks rest k e in (w.0, omega (arith, w.1))

kinds_length : (ts : List Token) → length (kinds ts) ≡ length ts
kinds_length [] = refl
kinds_length (t ∷ ts) = ap suc (kinds_length ts)

-- ---- the machine goes on after it has run

stops_after : {n m t : ℕ} {ks ls : List ℕ} {es fs : List Expected} {ss : List GrammarStep} → Runs grammar plan most_levels n ks es ss m ls fs → StopsUnexpected grammar plan most_levels m ls fs t → StopsUnexpected grammar plan most_levels n ks es t
stops_after {ss} r w = record { steps = ss ++ w.steps; rest = w.rest; left = w.left; runs = run_on grammar plan plan_fits most_levels r w.runs; stuck = w.stuck }

deep_after : {n m t : ℕ} {ks ls : List ℕ} {es fs : List Expected} {ss : List GrammarStep} → Runs grammar plan most_levels n ks es ss m ls fs → StopsDeep grammar plan most_levels m ls fs t → StopsDeep grammar plan most_levels n ks es t
deep_after {ss} r w = record { steps = ss ++ w.steps; token = w.token; rest = w.rest; depth = w.depth; left = w.left; runs = run_on grammar plan plan_fits most_levels r w.runs; deep = w.deep }

-- ---- one token

stuck_here : (ks : List ℕ) (k t depth : ℕ) (es : List Expected) → k ≡ look plan ks → (k ≡ t → ⊥) → IsStuck plan ks (expect depth (kind t) ∷ es)
stuck_here [] k t depth es e ne = stuck_end
stuck_here (x ∷ ks) k t depth es e ne = stuck_kind (λ q. ne (e ∙ q))

pub fails_kind : (ts : List Token) (n k depth : ℕ) → n ≤ length ts → k ≡ look plan (drop n (kinds ts)) → (class : TokenKind) → (k ≡ kind_number class → ⊥) → Fails ts n (wants_token depth class) (Unexpected n)
fails_kind ts n k depth within e class ne = fails_unexpected (λ es. record { steps = []; rest = drop n (kinds ts); left = expect depth (kind (kind_number class)) ∷ es; runs = stay; stuck = stuck_here (drop n (kinds ts)) k (kind_number class) depth es e ne })

pub fails_too_deep : (ts : List Token) (n k depth : ℕ) (class : TokenKind) → k ≡ look plan (drop n (kinds ts)) → k < 45 → k ≡ kind_number class → most_levels < depth → Fails ts n (wants_token depth class) (TooDeep n)
fails_too_deep ts n k depth class e below same deep =
    let w = kinds_look (drop n (kinds ts)) (kind_number class) (sym e ∙ same) (let h = below in omega arith) in
    fails_deep (λ es. record {
      steps = [];
      token = kind_number class;
      rest = w.0;
      depth = depth;
      left = es;
      runs = subst (λ z. Runs grammar plan most_levels n z (expect depth (kind (kind_number class)) ∷ es) [] n (kind_number class ∷ w.0) (expect depth (kind (kind_number class)) ∷ es)) (sym w.1) stay;
      deep = deep;
    })

pub moves_kind : (ts : List Token) (n k depth : ℕ) (class : TokenKind) → k ≡ look plan (drop n (kinds ts)) → k < 45 → k ≡ kind_number class → depth ≤ most_levels
    → Moves ts n (wants_token depth class) (taken (kind_number class) depth n ∷ []) (n + 1)
moves_kind ts n k depth class e below same shallow =
    let w = kinds_look (drop n (kinds ts)) (kind_number class) (sym e ∙ same) (let h = below in omega arith) in
    let v = drop_more n (kinds ts) w.0 (kind_number class) w.1 in
    let next : suc n ≡ n + 1 = omega arith in
    record {
      runs = λ es. subst (λ z. Runs grammar plan most_levels n (drop n (kinds ts)) (expect depth (kind (kind_number class)) ∷ es) (taken (kind_number class) depth n ∷ []) z (drop z (kinds ts)) es) next
          (subst (λ z. Runs grammar plan most_levels n z (expect depth (kind (kind_number class)) ∷ es) (taken (kind_number class) depth n ∷ []) (suc n) (drop (suc n) (kinds ts)) es) (sym w.1)
          (subst (λ z. Runs grammar plan most_levels n (kind_number class ∷ w.0) (expect depth (kind (kind_number class)) ∷ es) (taken (kind_number class) depth n ∷ []) (suc n) z es) (sym v.0)
          (step_kind shallow stay)));
      ahead = omega arith;
      within = let h = v.1 in let l = kinds_length ts in omega arith;
    }

-- ---- a symbol's alternative

pub fails_symbol : (ts : List Token) (n k entry depth : ℕ) (head : Symbol) → k ≡ look plan (drop n (kinds ts)) → entry ≡ get_or (row plan (symbol_number head)) k 0 → entry ≡ 0 → Fails ts n (wants depth head) (Unexpected n)
fails_symbol ts n k entry depth head e f z = fails_unexpected (λ es. record {
  steps = [];
  rest = drop n (kinds ts);
  left = expect depth (symbol (symbol_number head)) ∷ es;
  runs = stay;
  stuck = stuck_symbol (ap (λ q. get_or (row plan (symbol_number head)) q 0) (sym e) ∙ sym f ∙ z);
})

-- ---- parts in order

pub moves_none : (ts : List Token) (n : ℕ) → n ≤ length ts → Moves ts n [] [] n
moves_none ts n within = record { runs = λ es. stay; ahead = omega arith; within = within }

pub moves_next : {ts : List Token} {n m o : ℕ} {q : Expected} {w : List Expected} {ss us : List GrammarStep} → Moves ts n (q ∷ []) ss m → Moves ts m w us o → Moves ts n (q ∷ w) (ss ++ us) o
moves_next {w} a b = record {
  runs = λ es. run_on grammar plan plan_fits most_levels (a.runs (w ++ es)) (b.runs es);
  ahead = let h = a.ahead in let l = b.ahead in omega arith;
  within = b.within;
}

abbrev pub way : ℕ → ℕ → List Part
way s i = get_or (ways_of grammar s) i []

same_number : (e j i : ℕ) → e ≡ suc j → j ≡ i → e ≡ suc i
same_number e j i p q = omega arith

pub moves_open : {ts : List Token} {n m j : ℕ} {head : Symbol} {ss : List GrammarStep} (depth i : ℕ) → Chooses ts n head j → j ≡ i → Moves ts n (under grammar depth (symbol_number head) (way (symbol_number head) i)) ss m
    → Moves ts n (wants depth head) (opened (symbol_number head) i ∷ ss) m
moves_open {j} {head} depth i c same a = record {
  runs = λ es. step_symbol (same_number _ j i c.entry same) (At-get_or (ways_of grammar (symbol_number head)) i [] (let h = c.known in omega arith)) (a.runs es);
  ahead = a.ahead;
  within = a.within;
}

pub fails_here : {ts : List Token} {n : ℕ} {q : Expected} (w : List Expected) {f : SyntaxFault} → Fails ts n (q ∷ []) f → Fails ts n (q ∷ w) f
fails_here w (fails_unexpected s) = fails_unexpected (λ es. s (w ++ es))
fails_here w (fails_deep s) = fails_deep (λ es. s (w ++ es))
fails_here w fails_memory = fails_memory

pub fails_next : {ts : List Token} {n m : ℕ} {q : Expected} {w : List Expected} {ss : List GrammarStep} {f : SyntaxFault} → Moves ts n (q ∷ []) ss m → Fails ts m w f → Fails ts n (q ∷ w) f
fails_next {w} a (fails_unexpected s) = fails_unexpected (λ es. stops_after (a.runs (w ++ es)) (s es))
fails_next {w} a (fails_deep s) = fails_deep (λ es. deep_after (a.runs (w ++ es)) (s es))
fails_next a fails_memory = fails_memory

stops_opened : {ts : List Token} {n j t : ℕ} {head : Symbol} (depth i : ℕ) → Chooses ts n head j → j ≡ i → (es : List Expected)
    → StopsUnexpected grammar plan most_levels n (drop n (kinds ts)) (under grammar depth (symbol_number head) (way (symbol_number head) i) ++ es) t
    → StopsUnexpected grammar plan most_levels n (drop n (kinds ts)) (wants depth head ++ es) t
stops_opened {j} {head} depth i c same es w = record {
  steps = opened (symbol_number head) i ∷ w.steps;
  rest = w.rest;
  left = w.left;
  runs = step_symbol (same_number _ j i c.entry same) (At-get_or (ways_of grammar (symbol_number head)) i [] (let h = c.known in omega arith)) w.runs;
  stuck = w.stuck;
}

deep_opened : {ts : List Token} {n j t : ℕ} {head : Symbol} (depth i : ℕ) → Chooses ts n head j → j ≡ i → (es : List Expected)
    → StopsDeep grammar plan most_levels n (drop n (kinds ts)) (under grammar depth (symbol_number head) (way (symbol_number head) i) ++ es) t
    → StopsDeep grammar plan most_levels n (drop n (kinds ts)) (wants depth head ++ es) t
deep_opened {j} {head} depth i c same es w = record {
  steps = opened (symbol_number head) i ∷ w.steps;
  token = w.token;
  rest = w.rest;
  depth = w.depth;
  left = w.left;
  runs = step_symbol (same_number _ j i c.entry same) (At-get_or (ways_of grammar (symbol_number head)) i [] (let h = c.known in omega arith)) w.runs;
  deep = w.deep;
}

pub fails_open : {ts : List Token} {n j : ℕ} {head : Symbol} {f : SyntaxFault} (depth i : ℕ) → Chooses ts n head j → j ≡ i → Fails ts n (under grammar depth (symbol_number head) (way (symbol_number head) i)) f
    → Fails ts n (wants depth head) f
fails_open depth i c same (fails_unexpected s) = fails_unexpected (λ es. stops_opened depth i c same es (s es))
fails_open depth i c same (fails_deep s) = fails_deep (λ es. deep_opened depth i c same es (s es))
fails_open depth i c same fails_memory = fails_memory

pub moves_same : {ts : List Token} {n m : ℕ} {w : List Expected} {ss us : List GrammarStep} → us ≡ ss → Moves ts n w ss m → Moves ts n w us m
moves_same {ts} {n} {m} {w} e a = subst (λ z. Moves ts n w z m) (sym e) a

-- what `?` leaves
pub err_exit : {X : Type 0} {ts : List Token} {n : ℕ} {w : List Expected} {e : SyntaxFault} (steps : X → List GrammarStep) (m : ℕ) (r : Result X SyntaxFault) → IsErrAnd r (λ f. f ≡ e) → Fails ts n w e → ReadsSymbol steps ts n w m r
err_exit steps m (Ok x) h f = absurd h
err_exit {ts} {n} {w} steps m (Err g) h f = subst (λ z. Fails ts n w z) (sym h) f

pub err_item : {X : Type 0} {ts : List Token} {e : SyntaxFault} (steps : X → List GrammarStep) (n depth : ℕ) (head : Symbol) (end : List GrammarStep) (m : ℕ) (r : Result (Option X) SyntaxFault) → IsErrAnd r (λ f. f ≡ e)
    → Fails ts n (wants depth head) e → ReadsItem steps ts n depth head end m r
err_item steps n depth head end m (Ok x) h f = absurd h
err_item {ts} steps n depth head end m (Err g) h f = subst (λ z. Fails ts n (wants depth head) z) (sym h) f

one_less : (e n : ℕ) → 0 < e → n ≡ e → n ≡ suc (e - 1)
one_less e n l p = omega arith

pub chooses : (ts : List Token) (n k entry : ℕ) (head : Symbol) (w : ℕ) → k ≡ look plan (drop n (kinds ts)) → entry ≡ get_or (row plan (symbol_number head)) k 0 → (0 < entry) × (w ≡ entry - 1) → n ≤ length ts → Chooses ts n head w
chooses ts n k entry head w e f l within =
    let found : get_or (row plan (symbol_number head)) (look plan (drop n (kinds ts))) 0 ≡ suc w =
    ap (λ q. get_or (row plan (symbol_number head)) q 0) (sym e) ∙ one_less entry _ l.0 (sym f) ∙ ap suc (sym l.1) in
    record { entry = found; within = within; known = named_below grammar plan plan_fits _ _ w found }

-- ---- lists

-- the items so far, without the step that ends the list
unfoldable pub items_before : List Steps → Steps
items_before [] d = []
items_before (f ∷ fs) d = f d ++ items_before fs d

pub items_pushed : (fs : List Steps) (f : Steps) (d : ℕ) → items_before (fs ++ (f ∷ [])) d ≡ items_before fs d ++ f d
unfolding items_before
items_pushed [] f d = append-nil (f d)
items_pushed (g ∷ fs) f d = ap (λ z. g d ++ z) (items_pushed fs f d) ∙ sym (append_assoc (g d) (items_before fs d) (f d))

pub map_pushed : {X Y : Type 0} (f : X → Y) (xs : List X) (x : X) → map f (xs ++ (x ∷ [])) ≡ map f xs ++ (f x ∷ [])
map_pushed f [] x = refl
map_pushed f (y ∷ xs) x = ap (λ z. f y ∷ z) (map_pushed f xs x)

pub items_end : (end : GrammarStep) (fs : List Steps) (d : ℕ) → in_turn end fs d ≡ items_before fs d ++ (end ∷ [])
unfolding in_turn items_before
items_end end [] d = refl
items_end end (f ∷ fs) d = ap (λ z. f d ++ z) (items_end end fs d) ∙ sym (append_assoc (f d) (items_before fs d) (end ∷ []))

-- what the items read so far are, in a loop
pub record Gathered {X : Type 0} (item_steps : X → Steps) (tokens : List Token) (n depth : ℕ) (head : Symbol) (items : List X) (m : ℕ) : Type 0 where
  pub loops : Loops tokens n depth head (items_before (map item_steps items) depth) m

pub gathered_none : {X : Type 0} (item_steps : X → Steps) (ts : List Token) (n depth : ℕ) (head : Symbol) (items : List X) → items ≡ [] → n ≤ length ts → Gathered item_steps ts n depth head items n
unfolding items_before
gathered_none item_steps ts n depth head items e within = subst (λ z. Gathered item_steps ts n depth head z n) (sym e) (record { loops = record { runs = λ es. stay; ahead = omega arith; within = within } })

pub loops_same : {ts : List Token} {n m depth : ℕ} {head : Symbol} {ss us : List GrammarStep} → us ≡ ss → Loops ts n depth head ss m → Loops ts n depth head us m
loops_same {ts} {n} {m} {depth} {head} e a = subst (λ z. Loops ts n depth head z m) (sym e) a

loops_join : {ts : List Token} {n m o depth : ℕ} {head : Symbol} {ss us : List GrammarStep} → Loops ts n depth head ss m → Loops ts m depth head us o → Loops ts n depth head (ss ++ us) o
loops_join a b = record { runs = λ es. run_on grammar plan plan_fits most_levels (a.runs es) (b.runs es); ahead = let h = a.ahead in let l = b.ahead in omega arith; within = b.within }

pub gathered_more : {X : Type 0} {item_steps : X → Steps} {ts : List Token} {n m o depth : ℕ} {head : Symbol} {items more : List X} (x : X) → Gathered item_steps ts n depth head items m → Loops ts m depth head (item_steps x depth) o
    → more ≡ items ++ (x ∷ []) → Gathered item_steps ts n depth head more o
gathered_more {item_steps = item_steps} {ts = ts} {n = n} {o = o} {depth = depth} {head = head} {items = items} x g l e =
    subst (λ z. Gathered item_steps ts n depth head z o) (sym e)
    (record { loops = loops_same (ap (λ z. items_before z depth) (map_pushed item_steps items x) ∙ items_pushed (map item_steps items) (item_steps x) depth) (loops_join g.loops l) })

pub gathered_end : {X : Type 0} {item_steps : X → Steps} {ts : List Token} {n m o depth : ℕ} {head : Symbol} {items : List X} (end : GrammarStep) → Gathered item_steps ts n depth head items m → Moves ts m (wants depth head) (end ∷ []) o
    → Moves ts n (wants depth head) (in_turn end (map item_steps items) depth) o
gathered_end {item_steps = item_steps} {depth = depth} {items = items} end g a =
    moves_same (items_end end (map item_steps items) depth) (record { runs = λ es. run_on grammar plan plan_fits most_levels (g.loops.runs es) (a.runs es); ahead = let h = g.loops.ahead in let l = a.ahead in omega arith; within = a.within })

pub gathered_fails : {X : Type 0} {item_steps : X → Steps} {ts : List Token} {n m depth : ℕ} {head : Symbol} {items : List X} {f : SyntaxFault} → Gathered item_steps ts n depth head items m → Fails ts m (wants depth head) f → Fails ts n (wants depth head) f
gathered_fails g (fails_unexpected s) = fails_unexpected (λ es. stops_after (g.loops.runs es) (s es))
gathered_fails g (fails_deep s) = fails_deep (λ es. deep_after (g.loops.runs es) (s es))
gathered_fails g fails_memory = fails_memory

-- an item: an alternative of the list, up to the list itself
pub loops_open : {ts : List Token} {n m j : ℕ} {head : Symbol} {ss : List GrammarStep} {parts : List Expected} (depth i : ℕ) → Chooses ts n head j → j ≡ i → Moves ts n parts ss m
    → under grammar depth (symbol_number head) (way (symbol_number head) i) ≡ parts ++ wants depth head → Loops ts n depth head (opened (symbol_number head) i ∷ ss) m
loops_open {ts} {n} {m} {j} {head} {ss} {parts} depth i c same a e = record {
  runs = λ es. step_symbol (same_number _ j i c.entry same) (At-get_or (ways_of grammar (symbol_number head)) i [] (let h = c.known in omega arith))
      (subst (λ z. Runs grammar plan most_levels n (drop n (kinds ts)) (z ++ es) ss m (drop m (kinds ts)) (wants depth head ++ es)) (sym e)
      (subst (λ z. Runs grammar plan most_levels n (drop n (kinds ts)) z ss m (drop m (kinds ts)) (wants depth head ++ es)) (sym (append_assoc parts (wants depth head) es)) (a.runs (wants depth head ++ es))));
  ahead = a.ahead;
  within = a.within;
}

-- a part that derives no empty list takes a token
pub solid_ahead : {ts : List Token} {n m : ℕ} {q : Expected} {ss : List GrammarStep} → Moves ts n (q ∷ []) ss m → is_solid model_solids q.part ≡ true → n < m
solid_ahead {n} {m} {q} {ss} a e =
    let taken = takes_token grammar model_solids solids_fit (run_sound grammar plan plan_fits most_levels (a.runs []) finished) (or_left _ _ e) in
    let count = run_count grammar plan plan_fits most_levels (a.runs []) in
    let same = ap (λ z. length (kinds_of z)) (append-nil ss) in omega arith
