-- How a text is cut further.
use Rattle.std.proofs.Common.{◌≡◌, ℕ, ◌+◌, ◌≤◌, ◌++◌, List, [], ◌∷◌, length, drop, sym, subst, append_assoc, arith}
use Rattle.std.proofs.lemmas.List.{append-nil}
use Rattle.std.proofs.lemmas.Grind.{common_steps}
use Rattle.bg_text.specs.declared.token.Token.{Token}
use Rattle.bg_text.specs.declared.token.TokenKind.{TokenKind}
use Rattle.bg_text.specs.Tokens.{IsGap, IsToken, Refuses, Cuts, stop, gap, token, AreTokens, IsRefusal}

-- however what is left at a place is cut, the text is cut into the tokens so far and those
abbrev pub GoesOn : List ℕ → List Token → ℕ → Type 0
GoesOn bytes before at = (tokens : List Token) (m : ℕ) (left : List ℕ) → Cuts at (drop at bytes) tokens m left → Cuts 0 bytes (before ++ tokens) m left

pub nothing_yet : (bytes : List ℕ) → GoesOn bytes [] 0
nothing_yet bytes tokens m left cuts = cuts

on : (at size : ℕ) (bytes : List ℕ) → drop (at + size) bytes ≡ drop size (drop at bytes)
on at size bytes = grind (arith, common_steps)

pub after_gap : (bytes : List ℕ) (before : List Token) (at size : ℕ) → GoesOn bytes before at → IsGap (drop at bytes) size → GoesOn bytes before (at + size)
after_gap bytes before at size goes h = λ tokens m left cuts. goes tokens m left (gap size h (subst (λ y. Cuts (at + size) y tokens m left) (on at size bytes) cuts))

pub after_token : (bytes : List ℕ) (before : List Token) (at size : ℕ) (kind : TokenKind) → GoesOn bytes before at → IsToken (drop at bytes) kind size
    → GoesOn bytes (before ++ (record { kind = kind; start = at; end = at + size } ∷ [])) (at + size)
after_token bytes before at size kind goes h = λ tokens m left cuts.
    let this : Token = record { kind = kind; start = at; end = at + size } in
    subst (λ us. Cuts 0 bytes us m left) (sym (append_assoc before (this ∷ []) tokens))
    (goes (this ∷ tokens) m left (token kind size h (subst (λ y. Cuts (at + size) y tokens m left) (on at size bytes) cuts)))

stops_at : (bytes : List ℕ) (before : List Token) (at : ℕ) → GoesOn bytes before at → Cuts 0 bytes before at (drop at bytes)
stops_at bytes before at goes = subst (λ us. Cuts 0 bytes us at (drop at bytes)) (append-nil before) (goes [] at (drop at bytes) stop)

nothing_left : (bytes : List ℕ) → drop (length bytes) bytes ≡ []
nothing_left bytes = grind (arith, common_steps)

pub whole_cut : (bytes : List ℕ) (before : List Token) (at : ℕ) → GoesOn bytes before at → at ≤ length bytes → length bytes ≤ at → AreTokens bytes before
whole_cut bytes before at goes le ge =
    let e : at ≡ length bytes = omega arith in
    subst (λ y. Cuts 0 bytes before (length bytes) y) (nothing_left bytes) (subst (λ n. Cuts 0 bytes before n (drop n bytes)) e (stops_at bytes before at goes))

pub refused_there : (bytes : List ℕ) (before : List Token) (at code apart offset : ℕ) → GoesOn bytes before at → Refuses (drop at bytes) code apart → offset ≡ at + apart → IsRefusal bytes code offset
refused_there bytes before at code apart offset goes h e = record { tokens = before; place = at; left = drop at bytes; apart = apart; cut = stops_at bytes before at goes; refused = h; offset_is = e }
