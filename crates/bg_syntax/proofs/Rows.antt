-- Typed trees and derivation trees have the same steps: how the facts of parts are put together.
use Rattle.std.proofs.Common.{◌≡◌, ℕ, List, [], ◌∷◌, ◌++◌, map, refl, sym, ap, subst, ◌∙◌, append_assoc, append-nil}
use Rattle.bg_lists.specs.Lists.{At}
use Rattle.bg_text.specs.declared.token.TokenKind.{TokenKind}
use Rattle.bg_grammar.specs.Grammar.{Part, ways_of, depth_below}
use Rattle.bg_grammar.specs.Trees.{Trees, no_tree, AreTrees, no_part, a_kind, a_symbol, steps_of}
use Rattle.bg_syntax.specs.declared.symbol.Symbol.{Symbol}
use Rattle.bg_syntax.specs.Numbers.{symbol_number}
use Rattle.bg_syntax.specs.Grammar.{k, s, grammar}
use Rattle.bg_syntax.specs.Steps.{Steps, opens, takes, in_turn}
use Rattle.bg_syntax.specs.Trees.{Growth, ItemGrowth, token, node, nested}

-- in front of any trees these are the trees of the parts, and they have these steps
pub record Row (parts : List Part) (steps : Steps) (trees : Growth) : Type 0 where
  pub by_grammar : {more : List Part} {behind : Trees} → AreTrees grammar more behind → AreTrees grammar (parts ++ more) (trees behind)
  pub same_steps : (d : ℕ) (behind : Trees) → steps_of grammar d (trees behind) ≡ steps d ++ steps_of grammar d behind

-- the same of an item of a list, in front of the rest of the list
pub record ItemRow (head : Symbol) (steps : Steps) (item : ItemGrowth) : Type 0 where
  pub by_grammar : {rest : Trees} {more : List Part} {behind : Trees} → AreTrees grammar (s head ∷ []) rest → AreTrees grammar more behind → AreTrees grammar (s head ∷ more) (item rest behind)
  pub same_steps : (d : ℕ) (rest behind : Trees) → steps_of grammar d (item rest behind) ≡ steps d ++ (steps_of grammar d rest ++ steps_of grammar d behind)

pub none_row : Row [] (λ d. []) (λ behind. behind)
none_row = record { by_grammar = λ a. a; same_steps = λ d behind. refl }

pub token_row : (class : TokenKind) (number : ℕ) {parts : List Part} {steps : Steps} {trees : Growth} → Row parts steps trees
    → Row (k class ∷ parts) (λ d. takes class d number ∷ steps d) (λ behind. token class number (trees behind))
token_row class number row = record { by_grammar = λ a. a_kind (row.by_grammar a); same_steps = λ d behind. ap (λ z. takes class d number ∷ z) (row.same_steps d behind) }

pub symbol_row : {part : Part} {parts : List Part} {steps more : Steps} {tree trees : Growth} → Row (part ∷ []) steps tree → Row parts more trees
    → Row (part ∷ parts) (λ d. steps d ++ more d) (λ behind. tree (trees behind))
symbol_row {steps} {more} {trees} one row = record {
  by_grammar = λ a. one.by_grammar (row.by_grammar a);
  same_steps = λ d behind. one.same_steps d (trees behind) ∙ ap (λ z. steps d ++ z) (row.same_steps d behind) ∙ sym (append_assoc (steps d) (more d) (steps_of grammar d behind));
}

pub row_opened : (head : Symbol) (i : ℕ) {way : List Part} {steps : Steps} {trees : Growth} → At way i (ways_of grammar (symbol_number head)) → Row way steps trees
    → Row (s head ∷ []) (λ d. opens head i ∷ steps (depth_below grammar (symbol_number head) d)) (λ behind. node head i (trees no_tree) behind)
row_opened head i {way} {steps} {trees} place row = record {
  by_grammar = λ a. a_symbol place (subst (λ z. AreTrees grammar z (trees no_tree)) (append-nil way) (row.by_grammar no_part)) a;
  same_steps = λ d behind. let below = depth_below grammar (symbol_number head) d in
      ap (λ z. opens head i ∷ (z ++ steps_of grammar d behind)) (row.same_steps below no_tree ∙ append-nil (steps below));
}

-- a list's symbol makes nothing deeper
pub item_opened : (head : Symbol) (i : ℕ) {way : List Part} {steps : Steps} {trees : Growth} → At (way ++ (s head ∷ [])) i (ways_of grammar (symbol_number head))
    → ((d : ℕ) → depth_below grammar (symbol_number head) d ≡ d) → Row way steps trees → ItemRow head (λ d. opens head i ∷ steps d) (λ rest behind. node head i (trees rest) behind)
item_opened head i {way} {steps} {trees} place level row = record {
  by_grammar = λ a b. a_symbol place (row.by_grammar a) b;
  same_steps = λ d rest behind. ap (λ z. opens head i ∷ (steps_of grammar z (trees rest) ++ steps_of grammar d behind)) (level d)
      ∙ ap (λ z. opens head i ∷ (z ++ steps_of grammar d behind)) (row.same_steps d rest)
      ∙ ap (λ z. opens head i ∷ z) (append_assoc (steps d) (steps_of grammar d rest) (steps_of grammar d behind));
}

pub row_same : {parts : List Part} {steps others : Steps} {trees those : Growth} → steps ≡ others → trees ≡ those → Row parts others those → Row parts steps trees
row_same {parts} {steps} {those = those} e f row = subst (λ z. Row parts steps z) (sym f) (subst (λ z. Row parts z those) (sym e) row)

pub item_same : {head : Symbol} {steps others : Steps} {item that : ItemGrowth} → steps ≡ others → item ≡ that → ItemRow head others that → ItemRow head steps item
item_same {head} {steps} {that = that} e f row = subst (λ z. ItemRow head steps z) (sym f) (subst (λ z. ItemRow head z that) (sym e) row)

-- the list that ends
end_row : (head : Symbol) (end : ℕ) → At [] end (ways_of grammar (symbol_number head)) → Row (s head ∷ []) (in_turn (opens head end) []) (nested head end [])
unfolding in_turn nested
end_row head end place = record { by_grammar = λ a. a_symbol place no_part a; same_steps = λ d behind. refl }

-- an item in front of a list
more_row : (head : Symbol) (end : ℕ) {steps : Steps} {item : ItemGrowth} (others : List Steps) (items : List ItemGrowth) → ItemRow head steps item
    → Row (s head ∷ []) (in_turn (opens head end) others) (nested head end items) → Row (s head ∷ []) (in_turn (opens head end) (steps ∷ others)) (nested head end (item ∷ items))
unfolding in_turn nested
more_row head end {steps} {item} others items one row = record {
  by_grammar = λ a. one.by_grammar (row.by_grammar no_part) a;
  same_steps = λ d behind. one.same_steps d (nested head end items no_tree) behind
      ∙ ap (λ z. steps d ++ (z ++ steps_of grammar d behind)) (row.same_steps d no_tree ∙ append-nil (in_turn (opens head end) others d))
      ∙ sym (append_assoc (steps d) (in_turn (opens head end) others d) (steps_of grammar d behind));
}

module _ {A : Type 0} (head : Symbol) (end : ℕ) (place : At [] end (ways_of grammar (symbol_number head))) (steps : A → Steps) (tree : A → ItemGrowth) where
  pub nested_items : (items : List ((x : A) × ItemRow head (steps x) (tree x)))
      → Row (s head ∷ []) (in_turn (opens head end) (map steps (map (λ w. w.0) items))) (nested head end (map tree (map (λ w. w.0) items)))
  nested_items [] = end_row head end place
  nested_items (w ∷ items) = more_row head end (map steps (map (λ w. w.0) items)) (map tree (map (λ w. w.0) items)) w.1 (nested_items items)

  pub nested_row : ((x : A) → ItemRow head (steps x) (tree x)) → (items : List A) → Row (s head ∷ []) (in_turn (opens head end) (map steps items)) (nested head end (map tree items))
  nested_row all [] = end_row head end place
  nested_row all (x ∷ items) = more_row head end (map steps items) (map tree items) (all x) (nested_row all items)
