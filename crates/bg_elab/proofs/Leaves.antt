-- The tokens at the leaves of a model's derivation tree have the kinds that the leaves say.
use Rattle.std.proofs.Common.{◌≡◌, ℕ, zero, suc, List, [], ◌∷◌, ◌++◌, drop, slice_get, Some, refl, sym, ap, subst, ◌∙◌}
use Rattle.bg_text.specs.declared.token.Token.{Token}
use Rattle.bg_grammar.specs.Grammar.{GrammarStep, opened, taken, Grammar, depth_below, kinds_of}
use Rattle.bg_grammar.specs.Trees.{Trees, no_tree, leaf, branch, steps_of, AreInTurn}
use Rattle.bg_grammar.proofs.Trees.{derivation_in_turn}
use Rattle.bg_trees.specs.declared.models.SynModel.{SynModel}
use Rattle.bg_syntax.specs.Grammar.{grammar}
use Rattle.bg_syntax.specs.ModelsSteps.{model_steps}
use Rattle.bg_syntax.specs.Models.{kinds, IsTreeOf, tree_of}
use Rattle.bg_syntax.specs.Numbers.{kind_number}
use Rattle.bg_syntax.proofs.OneTree.{tree_steps}

-- the tokens that the steps take have these kinds
abbrev AreTaken : List ℕ → List GrammarStep → Type 0
AreTaken kinds [] = Unit {0}
AreTaken kinds (opened s i ∷ steps) = AreTaken kinds steps
AreTaken kinds (taken k d n ∷ steps) = (slice_get kinds n ≡ Some k) × AreTaken kinds steps

-- the tokens at the leaves have the kinds that the leaves say
abbrev pub Leaves : List ℕ → Trees → Type 0
Leaves kinds no_tree = Unit {0}
Leaves kinds (leaf k n behind) = (slice_get kinds n ≡ Some k) × Leaves kinds behind
Leaves kinds (branch s i below behind) = Leaves kinds below × Leaves kinds behind

parted : (kinds : List ℕ) (ss ts : List GrammarStep) → AreTaken kinds (ss ++ ts) → AreTaken kinds ss × AreTaken kinds ts
parted kinds [] ts a = (tt, a)
parted kinds (opened s i ∷ ss) ts a = parted kinds ss ts a
parted kinds (taken k d n ∷ ss) ts a = let more = parted kinds ss ts a.1 in ((a.0, more.0), more.1)

leaves_of : (kinds : List ℕ) (g : Grammar) (tree : Trees) (d : ℕ) → AreTaken kinds (steps_of g d tree) → Leaves kinds tree
leaves_of kinds g no_tree d a = tt
leaves_of kinds g (leaf k n behind) d a = (a.0, leaves_of kinds g behind d a.1)
leaves_of kinds g (branch s i below behind) d a =
    let both = parted kinds (steps_of g (depth_below g s d) below) (steps_of g d behind) a in
    (leaves_of kinds g below (depth_below g s d) both.0, leaves_of kinds g behind d both.1)

at_front : (all : List ℕ) (n k : ℕ) (ks : List ℕ) → k ∷ ks ≡ drop n all → (slice_get all n ≡ Some k) × (ks ≡ drop (suc n) all)
at_front [] zero k ks e = absurd cc
at_front [] (suc n) k ks e = absurd cc
at_front (x ∷ xs) zero k ks e = (cc, cc)
at_front (x ∷ xs) (suc n) k ks e = at_front xs n k ks e

in_row : (all : List ℕ) (steps : List GrammarStep) (n : ℕ) → AreInTurn n steps → kinds_of steps ≡ drop n all → AreTaken all steps
in_row all [] n t e = tt
in_row all (opened s i ∷ steps) n t e = in_row all steps n t e
in_row all (taken k d m ∷ steps) n t e =
    let front = at_front all n k (kinds_of steps) e in
    (ap (slice_get all) t.0 ∙ front.0, in_row all steps (suc n) t.1 front.1)

pub tree_leaves : (tokens : List Token) (tree : SynModel) → IsTreeOf tokens tree → Leaves (kinds tokens) (tree_of tree)
tree_leaves tokens tree is =
    leaves_of (kinds tokens) grammar (tree_of tree) 0
    (subst (AreTaken (kinds tokens)) (sym (tree_steps tree 0))
    (in_row (kinds tokens) (model_steps tree 0) 0 (derivation_in_turn is.derivation.derives) is.derivation.spells))

-- a token of that kind
pub record OfKind (tokens : List Token) (k n : ℕ) : Type 0 where
  pub token : Token
  pub at : slice_get tokens n ≡ Some token
  pub kind_is : kind_number token.kind ≡ k

pub token_of_kind : (tokens : List Token) (k n : ℕ) → slice_get (kinds tokens) n ≡ Some k → OfKind tokens k n
token_of_kind [] k n e = absurd cc
token_of_kind (token ∷ tokens) k zero e = record { token = token; at = refl; kind_is = cc }
token_of_kind (token ∷ tokens) k (suc n) e =
    let more = token_of_kind tokens k n e in record { token = more.token; at = more.at; kind_is = more.kind_is }
