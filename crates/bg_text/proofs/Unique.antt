-- A text is cut in one way, and where it is refused in none.
use Rattle.std.proofs.Common.{◌≡◌, ℕ, zero, suc, ◌+◌, ◌<◌, ◌≤◌, Bool, true, false, cond, eqb, eqb-true, List, [], ◌∷◌, Option, Some, None, get_or, take, drop, refl, sym, ap, subst, ◌∙◌, arith}
use Rattle.std.specs.List.{prefix_len}
use Rattle.std.specs.Char.{is_ascii_digit}
use Rattle.bg_text.specs.declared.token.TokenKind.{TokenKind}
use Rattle.bg_text.specs.declared.token.TokenKind.TheVariants.{Text}
use Rattle.bg_text.specs.declared.token.Token.{Token}
use Rattle.bg_text.specs.Spelling.{is_text_byte, is_space, ends_with_quote, only, number_kind, mark, kind_of}
use Rattle.bg_text.specs.Tokens.{IsGap, space, comment, is_inside, IsLongest, IsToken, number_fault, Refuses, bad_byte, bad_in_text, open_text, bad_number, Cuts, stop, gap, token, AreTokens, IsRefusal}
use Rattle.bg_text.proofs.RunLaws.{IsClosed, closed_is, text_run_inside}
use Rattle.bg_text.proofs.Longest.{text_at, digits_longest}
use Rattle.bg_text.proofs.PieceLaws.{nothing_spelled}

-- ---- a gap or a token, one of each

not_hash : (b : ℕ) → is_space b ≡ true → b ≡ 35 → ⊥
not_hash b e f = grind arith

one_gap : (bytes : List ℕ) (n m : ℕ) → IsGap bytes n → IsGap bytes m → n ≡ m
one_gap [] n m g h = elim g [ ]
one_gap (b ∷ bytes) n m (space e) (space f) = refl
one_gap (b ∷ bytes) n m (space e) (comment f) = absurd (not_hash b e f)
one_gap (b ∷ bytes) n m (comment e) (space f) = absurd (not_hash b f e)
one_gap (b ∷ bytes) n m (comment e) (comment f) = refl

clash : (bytes : List ℕ) (kind : TokenKind) → kind_of bytes ≡ None → kind_of bytes ≡ Some kind → ⊥
clash bytes kind e f = cc

between : (n m : ℕ) → (n < m → ⊥) → (m < n → ⊥) → n ≡ m
between n m h k = omega arith

pub one_size : (bytes : List ℕ) (k j : TokenKind) (n m : ℕ) → IsLongest bytes k n → IsLongest bytes j m → n ≡ m
one_size bytes k j n m a b = between n m (λ l. clash (take m bytes) j (a.longest m l b.inside) b.spelled) (λ l. clash (take n bytes) k (b.longest n l a.inside) a.spelled)

some_is : (k j : TokenKind) (r : Option TokenKind) → r ≡ Some k → r ≡ Some j → k ≡ j
some_is k j r e f = cc

one_kind : (bytes : List ℕ) (k j : TokenKind) (n m : ℕ) → IsLongest bytes k n → IsLongest bytes j m → k ≡ j
one_kind bytes k j n m a b = some_is k j (kind_of (take m bytes)) (ap (λ i. kind_of (take i bytes)) (sym (one_size bytes k j n m a b)) ∙ a.spelled) b.spelled

tab_spells : (w : List ℕ) → kind_of (9 ∷ w) ≡ None
unfolding kind_of mark
tab_spells [] = refl
tab_spells (a ∷ []) = refl
tab_spells (a ∷ b ∷ []) = refl
tab_spells (a ∷ b ∷ c ∷ w) = refl

feed_spells : (w : List ℕ) → kind_of (10 ∷ w) ≡ None
unfolding kind_of mark
feed_spells [] = refl
feed_spells (a ∷ []) = refl
feed_spells (a ∷ b ∷ []) = refl
feed_spells (a ∷ b ∷ c ∷ w) = refl

return_spells : (w : List ℕ) → kind_of (13 ∷ w) ≡ None
unfolding kind_of mark
return_spells [] = refl
return_spells (a ∷ []) = refl
return_spells (a ∷ b ∷ []) = refl
return_spells (a ∷ b ∷ c ∷ w) = refl

blank_spells : (w : List ℕ) → kind_of (32 ∷ w) ≡ None
unfolding kind_of mark
blank_spells [] = refl
blank_spells (a ∷ []) = refl
blank_spells (a ∷ b ∷ []) = refl
blank_spells (a ∷ b ∷ c ∷ w) = refl

hash_spells : (w : List ℕ) → kind_of (35 ∷ w) ≡ None
unfolding kind_of mark
hash_spells [] = refl
hash_spells (a ∷ []) = refl
hash_spells (a ∷ b ∷ []) = refl
hash_spells (a ∷ b ∷ c ∷ w) = refl

at_byte : (b n : ℕ) (w : List ℕ) → b ≡ n → kind_of (n ∷ w) ≡ None → kind_of (b ∷ w) ≡ None
at_byte b n w e h = ap (λ x. kind_of (x ∷ w)) e ∙ h

last_space : (b : ℕ) → is_space b ≡ true → eqb b 32 ≡ false → eqb b 9 ≡ false → eqb b 13 ≡ false → b ≡ 10
last_space b e f g h = grind arith

space_spells : (b : ℕ) (w : List ℕ) (u v x : Bool) → is_space b ≡ true → eqb b 32 ≡ u → eqb b 9 ≡ v → eqb b 13 ≡ x → kind_of (b ∷ w) ≡ None
space_spells b w true v x e f g h = at_byte b 32 w (eqb-true b 32 f) (blank_spells w)
space_spells b w false true x e f g h = at_byte b 9 w (eqb-true b 9 g) (tab_spells w)
space_spells b w false false true e f g h = at_byte b 13 w (eqb-true b 13 h) (return_spells w)
space_spells b w false false false e f g h = at_byte b 10 w (last_space b e f g h) (feed_spells w)

gap_spells : (bytes : List ℕ) (n size : ℕ) (kind : TokenKind) → IsGap bytes n → 0 < size → kind_of (take size bytes) ≡ Some kind → ⊥
gap_spells [] n size kind g l s = elim g [ ]
gap_spells (b ∷ bytes) n zero kind g l s = omega arith
gap_spells (b ∷ bytes) n (suc size) kind (space e) l s = clash (b ∷ take size bytes) kind (space_spells b (take size bytes) (eqb b 32) (eqb b 9) (eqb b 13) e refl refl refl) s
gap_spells (b ∷ bytes) n (suc size) kind (comment e) l s = clash (b ∷ take size bytes) kind (at_byte b 35 (take size bytes) e (hash_spells (take size bytes))) s

gap_no_token : (bytes : List ℕ) (n size : ℕ) (kind : TokenKind) → IsGap bytes n → IsToken bytes kind size → ⊥
gap_no_token bytes n size kind g t = gap_spells bytes n size kind g (nothing_spelled bytes size kind t.is_longest.spelled) t.is_longest.spelled

-- ---- where nothing stands in front

record StandsNothing (bytes : List ℕ) : Type 0 where
  no_gap : (n : ℕ) → IsGap bytes n → ⊥
  no_token : (kind : TokenKind) (size : ℕ) → IsToken bytes kind size → ⊥

none_of_nothing : (size : ℕ) → take {A = ℕ} size [] ≡ []
none_of_nothing zero = refl
none_of_nothing (suc size) = refl

nothing_kind : (kind : TokenKind) → kind_of [] ≡ Some kind → ⊥
unfolding kind_of
nothing_kind kind e = cc

at_end_no_gap : (n : ℕ) → IsGap [] n → ⊥
at_end_no_gap n g = elim g [ ]

at_end : StandsNothing []
at_end = record {
  no_gap = at_end_no_gap;
  no_token = λ kind size t. nothing_kind kind (ap kind_of (sym (none_of_nothing size)) ∙ t.is_longest.spelled);
}

inside_at_if : (b : ℕ) (bytes : List ℕ) (i : ℕ) (v : Bool) → is_inside b ≡ v → suc i < cond v (1 + prefix_len is_inside bytes) 0 → i < prefix_len is_inside bytes
inside_at_if b bytes i true e l = omega arith
inside_at_if b bytes i false e l = absurd (omega arith)

first_inside : (b : ℕ) (bytes : List ℕ) (v : Bool) → is_inside b ≡ v → 0 < cond v (1 + prefix_len is_inside bytes) 0 → is_inside b ≡ true
first_inside b bytes true e l = e
first_inside b bytes false e l = absurd (omega arith)

inside_at : (bytes : List ℕ) (i : ℕ) → i < prefix_len is_inside bytes → is_inside (get_or bytes i 0) ≡ true
inside_at [] i l = absurd (omega arith)
inside_at (b ∷ bytes) zero l = first_inside b bytes (is_inside b) refl l
inside_at (b ∷ bytes) (suc i) l = inside_at bytes i (inside_at_if b bytes i (is_inside b) refl l)

quote_outside : (b : ℕ) → is_inside b ≡ true → b ≡ 34 → ⊥
quote_outside b e f = grind arith

not_space : (b : ℕ) → b ≡ 34 → is_space b ≡ true → ⊥
not_space b e f = grind arith

not_both : (b : ℕ) → b ≡ 34 → b ≡ 35 → ⊥
not_both b e f = omega arith

quote_no_gap : (b : ℕ) (bytes : List ℕ) (n : ℕ) → b ≡ 34 → IsGap (b ∷ bytes) n → ⊥
quote_no_gap b bytes n e (space f) = not_space b e f
quote_no_gap b bytes n e (comment f) = not_both b e f

only_true : (v : Bool) (k kind : TokenKind) → only v k ≡ Some kind → v ≡ true
only_true true k kind e = refl
only_true false k kind e = absurd cc

-- a text in front has its quote behind the run of text bytes
quoted : (b : ℕ) (bytes : List ℕ) (kind : TokenKind) (size : ℕ) → b ≡ 34 → IsToken (b ∷ bytes) kind size → get_or bytes (prefix_len is_text_byte bytes) 0 ≡ 34
quoted b bytes kind zero e t = let l = nothing_spelled (b ∷ bytes) 0 kind t.is_longest.spelled in absurd (omega arith)
quoted b bytes kind (suc size) e t =
    let le = t.is_longest.inside in
    let closed : IsClosed bytes size = closed_is bytes size (omega arith) (only_true (ends_with_quote (take size bytes)) Text kind (sym (text_at b bytes e size) ∙ t.is_longest.spelled)) in
    closed.quote

meets : (bytes : List ℕ) (n : ℕ) → get_or bytes n 0 ≡ 34 → n ≤ prefix_len is_inside bytes → n ≡ prefix_len is_inside bytes
meets bytes n q le =
    between n (prefix_len is_inside bytes) (λ l. quote_outside (get_or bytes n 0) (inside_at bytes n l) q) (λ l. omega arith)

space_no_digit : (b : ℕ) → is_space b ≡ true → is_ascii_digit b ≡ false
space_no_digit b e = grind arith

hash_no_digit : (b : ℕ) → b ≡ 35 → is_ascii_digit b ≡ false
hash_no_digit b e = grind arith

gap_no_fault : (bytes : List ℕ) (n : ℕ) → IsGap bytes n → number_fault bytes ≡ 0
unfolding number_fault
gap_no_fault [] n g = elim g [ ]
gap_no_fault (b ∷ bytes) n (space e) = rw (space_no_digit b e) refl
gap_no_fault (b ∷ bytes) n (comment e) = rw (hash_no_digit b e) refl

bad_no_token : (b : ℕ) (bytes : List ℕ) (kind : TokenKind) (size : ℕ) → ((word : List ℕ) → kind_of (b ∷ word) ≡ None) → IsToken (b ∷ bytes) kind size → ⊥
bad_no_token b bytes kind zero h t = let l = nothing_spelled (b ∷ bytes) 0 kind t.is_longest.spelled in omega arith
bad_no_token b bytes kind (suc size) h t = clash (b ∷ take size bytes) kind (h (take size bytes)) t.is_longest.spelled

refused_nothing : (bytes : List ℕ) (code apart : ℕ) → Refuses bytes code apart → StandsNothing bytes
refused_nothing (b ∷ bytes) code apart (bad_byte g t) = record { no_gap = g; no_token = λ kind size. bad_no_token b bytes kind size t }
refused_nothing (b ∷ bytes) code apart (bad_in_text e q l) = record {
  no_gap = λ n. quote_no_gap b bytes n e;
  no_token = λ kind size t. quote_outside (get_or bytes (prefix_len is_text_byte bytes) 0) (inside_at bytes (prefix_len is_text_byte bytes) l) (quoted b bytes kind size e t);
}
refused_nothing (b ∷ bytes) code apart (open_text e q) = record {
  no_gap = λ n. quote_no_gap b bytes n e;
  no_token = λ kind size t.
      let here = quoted b bytes kind size e t in
      q (ap (λ n. get_or bytes n 0) (sym (meets bytes (prefix_len is_text_byte bytes) here (text_run_inside bytes))) ∙ here);
}
refused_nothing bytes code apart (bad_number l e) = record {
  no_gap = λ n g. let h = gap_no_fault bytes n g in omega arith;
  no_token = λ kind size t. let h = t.number in omega arith;
}

-- ---- two ways to cut

record AreSame (ts us : List Token) (m o : ℕ) (left rest : List ℕ) : Type 0 where
  tokens : ts ≡ us
  place : m ≡ o
  left_is : left ≡ rest

more_same : {m o : ℕ} {left rest : List ℕ} (ts us : List Token) (t u : Token) → t ≡ u → AreSame ts us m o left rest → AreSame (t ∷ ts) (u ∷ us) m o left rest
more_same ts us t u e h = record { tokens = ap (λ x. x ∷ ts) e ∙ ap (λ xs. u ∷ xs) h.tokens; place = h.place; left_is = h.left_is }

move : {o : ℕ} {rest : List ℕ} {us : List Token} (n : ℕ) (bytes : List ℕ) (k j : ℕ) → j ≡ k → Cuts (n + j) (drop j bytes) us o rest → Cuts (n + k) (drop k bytes) us o rest
move {o} {rest} {us} n bytes k j e h = subst (λ i. Cuts (n + i) (drop i bytes) us o rest) e h

same_cuts : {n m o : ℕ} {bytes left rest : List ℕ} {ts us : List Token} → Cuts n bytes ts m left → StandsNothing left → Cuts n bytes us o rest → StandsNothing rest → AreSame ts us m o left rest
same_cuts stop a stop b = record { tokens = refl; place = refl; left_is = refl }
same_cuts stop a (gap k g c) b = absurd (a.no_gap k g)
same_cuts stop a (token kind k t c) b = absurd (a.no_token kind k t)
same_cuts (gap k g c) a stop b = absurd (b.no_gap k g)
same_cuts {n} {bytes = bytes} (gap k g c) a (gap j h d) b = same_cuts c a (move n bytes k j (one_gap _ j k h g) d) b
same_cuts (gap k g c) a (token kind j t d) b = absurd (gap_no_token _ k j kind g t)
same_cuts (token kind k t c) a stop b = absurd (b.no_token kind k t)
same_cuts (token kind k t c) a (gap j h d) b = absurd (gap_no_token _ j k kind h t)
same_cuts {n} {bytes = bytes} (token kind k t c) a (token other j u d) b =
    let e : j ≡ k = one_size _ other kind j k u.is_longest t.is_longest in
    let f : kind ≡ other = one_kind _ kind other k j t.is_longest u.is_longest in
    let first : Token = record { kind = kind; start = n; end = n + k } in
    let second : Token = record { kind = other; start = n; end = n + j } in
    let same : first ≡ second = cc in
    more_same _ _ first second same (same_cuts c a (move n bytes k j e d) b)

-- a text has at most one list of tokens
pub tokens_once : (bytes : List ℕ) (ts us : List Token) → AreTokens bytes ts → AreTokens bytes us → ts ≡ us
tokens_once bytes ts us a b = (same_cuts a at_end b at_end).tokens

refuses_something : (code apart : ℕ) → Refuses [] code apart → ⊥
unfolding number_fault
refuses_something code apart (bad_number l e) = omega arith

-- a text that is refused has none
pub refused_has_none : (bytes : List ℕ) (code offset : ℕ) → IsRefusal bytes code offset → (ts : List Token) → AreTokens bytes ts → ⊥
refused_has_none bytes code offset r ts a =
    let same = same_cuts r.cut (refused_nothing r.left code r.apart r.refused) a at_end in
    refuses_something code r.apart (subst (λ y. Refuses y code r.apart) same.left_is r.refused)

-- ---- one refusal

quote_begins : (b : ℕ) → b ≡ 34 → ((word : List ℕ) → kind_of (b ∷ word) ≡ None) → ⊥
quote_begins b e h = clash (b ∷ 34 ∷ []) Text (h (34 ∷ [])) (text_at b (34 ∷ []) e 1)

spells_none : (b : ℕ) (bytes : List ℕ) (size : ℕ) (kind : TokenKind) → ((word : List ℕ) → kind_of (b ∷ word) ≡ None) → 0 < size → kind_of (take size (b ∷ bytes)) ≡ Some kind → ⊥
spells_none b bytes zero kind h l s = omega arith
spells_none b bytes (suc size) kind h l s = clash (b ∷ take size bytes) kind (h (take size bytes)) s

quote_digit : (b : ℕ) → b ≡ 34 → is_ascii_digit b ≡ true → ⊥
quote_digit b e f = grind arith

faulty : (b : ℕ) (bytes : List ℕ) (v : Bool) → is_ascii_digit b ≡ v → 0 < number_fault (b ∷ bytes) → is_ascii_digit b ≡ true
unfolding number_fault
faulty b bytes true e l = e
faulty b bytes false e l = let h : number_fault (b ∷ bytes) ≡ 0 = rw e refl in absurd (omega arith)

digit_begins : (b : ℕ) (bytes : List ℕ) (code : ℕ) → 0 < code → number_fault (b ∷ bytes) ≡ code → ((word : List ℕ) → kind_of (b ∷ word) ≡ None) → ⊥
digit_begins b bytes code l e h =
    let d : is_ascii_digit b ≡ true = faulty b bytes (is_ascii_digit b) refl (omega arith) in
    let longest = digits_longest (b ∷ []) d in
    let size = nothing_spelled (b ∷ []) (prefix_len is_ascii_digit (b ∷ [])) (number_kind (take (prefix_len is_ascii_digit (b ∷ [])) (b ∷ []))) longest.spelled in
    spells_none b [] (prefix_len is_ascii_digit (b ∷ [])) (number_kind (take (prefix_len is_ascii_digit (b ∷ [])) (b ∷ []))) h size longest.spelled

quote_no_fault : (b : ℕ) (bytes : List ℕ) (code : ℕ) → b ≡ 34 → 0 < code → number_fault (b ∷ bytes) ≡ code → ⊥
quote_no_fault b bytes code e l f =
    let d : is_ascii_digit b ≡ true = faulty b bytes (is_ascii_digit b) refl (omega arith) in quote_digit b e d

record IsSameFault (code other apart away : ℕ) : Type 0 where
  code_is : code ≡ other
  apart_is : apart ≡ away

one_refusal : (bytes : List ℕ) (code other apart away : ℕ) → Refuses bytes code apart → Refuses bytes other away → IsSameFault code other apart away
one_refusal [] code other apart away r s = absurd (refuses_something code apart r)
one_refusal (b ∷ bytes) code other apart away (bad_byte g t) (bad_byte h u) = record { code_is = refl; apart_is = refl }
one_refusal (b ∷ bytes) code other apart away (bad_byte g t) (bad_in_text e q l) = absurd (quote_begins b e t)
one_refusal (b ∷ bytes) code other apart away (bad_byte g t) (open_text e q) = absurd (quote_begins b e t)
one_refusal (b ∷ bytes) code other apart away (bad_byte g t) (bad_number l f) = absurd (digit_begins b bytes other l f t)
one_refusal (b ∷ bytes) code other apart away (bad_in_text e q l) (bad_byte h u) = absurd (quote_begins b e u)
one_refusal (b ∷ bytes) code other apart away (bad_in_text e q l) (bad_in_text f r m) = record { code_is = refl; apart_is = refl }
one_refusal (b ∷ bytes) code other apart away (bad_in_text e q l) (open_text f r) = absurd (r q)
one_refusal (b ∷ bytes) code other apart away (bad_in_text e q l) (bad_number m f) = absurd (quote_no_fault b bytes other e m f)
one_refusal (b ∷ bytes) code other apart away (open_text e q) (bad_byte h u) = absurd (quote_begins b e u)
one_refusal (b ∷ bytes) code other apart away (open_text e q) (bad_in_text f r m) = absurd (q r)
one_refusal (b ∷ bytes) code other apart away (open_text e q) (open_text f r) = record { code_is = refl; apart_is = refl }
one_refusal (b ∷ bytes) code other apart away (open_text e q) (bad_number m f) = absurd (quote_no_fault b bytes other e m f)
one_refusal (b ∷ bytes) code other apart away (bad_number l e) (bad_byte h u) = absurd (digit_begins b bytes code l e u)
one_refusal (b ∷ bytes) code other apart away (bad_number l e) (bad_in_text f r m) = absurd (quote_no_fault b bytes code f l e)
one_refusal (b ∷ bytes) code other apart away (bad_number l e) (open_text f r) = absurd (quote_no_fault b bytes code f l e)
one_refusal (b ∷ bytes) code other apart away (bad_number l e) (bad_number m f) = record { code_is = sym e ∙ f; apart_is = refl }

-- a text has at most one refusal
pub refused_once : (bytes : List ℕ) (code offset other away : ℕ) → IsRefusal bytes code offset → IsRefusal bytes other away → (other ≡ code) × (away ≡ offset)
refused_once bytes code offset other away r s =
    let same = same_cuts r.cut (refused_nothing r.left code r.apart r.refused) s.cut (refused_nothing s.left other s.apart s.refused) in
    let fault = one_refusal s.left code other r.apart s.apart (subst (λ y. Refuses y code r.apart) same.left_is r.refused) s.refused in
    let place = same.place in
    let apart = fault.apart_is in
    let here = r.offset_is in
    let there = s.offset_is in
    (sym fault.code_is, omega arith)
