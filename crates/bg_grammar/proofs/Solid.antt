-- Symbols that derive no empty list of tokens.
use Rattle.std.proofs.Common.{◌≡◌, ℕ, zero, suc, ◌<◌, Bool, true, false, not, ◌&&◌, ◌||◌, List, [], ◌∷◌, ◌++◌, map, length, get_or, refl, subst, arith}
use Rattle.bg_lists.specs.Lists.{At, at_here, at_there}
use Rattle.bg_grammar.specs.Grammar.{Part, kind, symbol, Expected, expect, GrammarStep, Grammar, ways_of, depth_below, Derives, finished, take_kind, open_symbol, kinds_of}
use Rattle.bg_grammar.proofs.Plans.{both_left, both_right, one_of}

-- a row of the symbols that are held to be solid; the test says that each of their alternatives has a token or such a symbol
abbrev pub is_solid : List Bool → Part → Bool
is_solid solids (kind t) = true
is_solid solids (symbol s) = get_or solids s false

abbrev pub solid_way : List Bool → List Part → Bool
solid_way solids [] = false
solid_way solids (q ∷ way) = is_solid solids q || solid_way solids way

abbrev pub solid_ways : List Bool → List (List Part) → Bool
solid_ways solids [] = true
solid_ways solids (way ∷ ways) = solid_way solids way && solid_ways solids ways

abbrev pub solid_fits : List Bool → List Bool → List (List (List Part)) → Bool
solid_fits solids [] all = true
solid_fits solids (b ∷ bs) [] = not b && solid_fits solids bs []
solid_fits solids (b ∷ bs) (ways ∷ all) = (not b || solid_ways solids ways) && solid_fits solids bs all

abbrev pub solid_stack : List Bool → List Expected → Bool
solid_stack solids [] = false
solid_stack solids (e ∷ es) = is_solid solids e.part || solid_stack solids es

not_true : (b : Bool) → not b ≡ true → b ≡ true → ⊥
not_true true e f = cc
not_true false e f = cc

ways_at : (solids bs : List Bool) (all : List (List (List Part))) (s : ℕ) → solid_fits solids bs all ≡ true → get_or bs s false ≡ true → solid_ways solids (get_or all s []) ≡ true
ways_at solids [] all s e f = cc
ways_at solids (b ∷ bs) [] s e f = refl
ways_at solids (b ∷ bs) (ways ∷ all) zero e f = one_of _ _ (both_left _ _ e) (λ n. not_true b n f)
ways_at solids (b ∷ bs) (ways ∷ all) (suc s) e f = ways_at solids bs all s (both_right _ _ e) f

way_at : (solids : List Bool) (ways : List (List Part)) (i : ℕ) (way : List Part) → solid_ways solids ways ≡ true → At way i ways → solid_way solids way ≡ true
way_at solids [] i way e a = elim a [ ]
way_at solids (w ∷ ways) zero way e (at_here q) = subst (λ z. solid_way solids z ≡ true) q (both_left _ _ e)
way_at solids (w ∷ ways) (suc i) way e (at_there a) = way_at solids ways i way (both_right _ _ e) a

pub or_left : (a b : Bool) → a ≡ true → a || b ≡ true
or_left true b e = refl
or_left false b e = cc

or_right : (a b : Bool) → b ≡ true → a || b ≡ true
or_right true b e = refl
or_right false b e = e

or_more : (a b c : Bool) → a || b ≡ true → (b ≡ true → c ≡ true) → a || c ≡ true
or_more true b c e f = refl
or_more false b c e f = f e

stack_left : (solids : List Bool) (d : ℕ) (way : List Part) (es : List Expected) → solid_way solids way ≡ true → solid_stack solids (map (expect d) way ++ es) ≡ true
stack_left solids d [] es e = cc
stack_left solids d (q ∷ way) es e = or_more _ _ _ e (λ f. stack_left solids d way es f)

stack_right : (solids : List Bool) (d : ℕ) (way : List Part) (es : List Expected) → solid_stack solids es ≡ true → solid_stack solids (map (expect d) way ++ es) ≡ true
stack_right solids d [] es e = e
stack_right solids d (q ∷ way) es e = or_right (is_solid solids q) _ (stack_right solids d way es e)

below : (solids : List Bool) (d : ℕ) (way : List Part) (es : List Expected) (b : Bool) → (b ≡ true → solid_way solids way ≡ true) → b || solid_stack solids es ≡ true
    → solid_stack solids (map (expect d) way ++ es) ≡ true
below solids d way es true f e = stack_left solids d way es (f refl)
below solids d way es false f e = stack_right solids d way es e

pub takes_token : (g : Grammar) (solids : List Bool) → solid_fits solids solids g.ways ≡ true → {n : ℕ} {es : List Expected} {ss : List GrammarStep} → Derives g n es ss
    → solid_stack solids es ≡ true → 0 < length (kinds_of ss)
takes_token g solids ok finished e = cc
takes_token g solids ok (take_kind d) e = omega arith
takes_token g solids ok (open_symbol {d = d} {s = s} {i = i} {way = way} {parts = es} a r) e =
    takes_token g solids ok r (below solids (depth_below g s d) way es (get_or solids s false) (λ f. way_at solids (ways_of g s) i way (ways_at solids solids g.ways s ok f) a) e)
