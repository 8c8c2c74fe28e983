-- What derivation trees say, from what their parts say.
use Rattle.std.proofs.Common.{◌≡◌, ℕ, List, [], ◌∷◌, ◌++◌, map, get_or, refl, sym, ap, subst, ◌∙◌, append-nil}
use Rattle.bg_text.specs.declared.token.TokenKind.{TokenKind}
use Rattle.bg_grammar.specs.Trees.{Trees, no_tree, leaf, branch}
use Rattle.bg_syntax.specs.declared.symbol.Symbol.{Symbol}
use Rattle.bg_syntax.specs.Numbers.{symbol_number}
use Rattle.bg_syntax.specs.Trees.{Growth, ItemGrowth, token, node, nested}
use Rattle.bg_elab.proofs.Said.{Said, unread, at_token, Meaning, meanings}

-- what an alternative of a symbol says, whose parts say this
abbrev pub meaning : ℕ → Meaning
meaning symbol = get_or meanings symbol (λ i parts. unread)

-- what each of the trees says
abbrev pub said : Trees → List Said
said no_tree = []
said (leaf k n behind) = at_token n ∷ said behind
said (branch s i below behind) = meaning s i (said below) ∷ said behind

-- the tree says this, whatever stands behind it
pub record Says (what : Said) (tree : Growth) : Type 0 where
  pub says : (behind : Trees) → said (tree behind) ≡ what ∷ said behind

-- the trees of the parts say these
pub record SayInTurn (parts : List Said) (trees : Growth) : Type 0 where
  pub say : (behind : Trees) → said (trees behind) ≡ parts ++ said behind

pub says_none : SayInTurn [] (λ behind. behind)
says_none = record { say = λ behind. refl }

pub says_token : (class : TokenKind) (number : ℕ) {parts : List Said} {trees : Growth} → SayInTurn parts trees
    → SayInTurn (at_token number ∷ parts) (λ behind. token class number (trees behind))
says_token class number more = record { say = λ behind. ap (λ z. at_token number ∷ z) (more.say behind) }

pub says_part : {what : Said} {parts : List Said} {tree trees : Growth} → Says what tree → SayInTurn parts trees
    → SayInTurn (what ∷ parts) (λ behind. tree (trees behind))
says_part {what} {trees = trees} one more =
    record { say = λ behind. one.says (trees behind) ∙ ap (λ z. what ∷ z) (more.say behind) }

-- a symbol says what its alternative says of its parts
pub says_opened : (head : Symbol) (i : ℕ) {what : Said} {parts : List Said} {trees : Growth} → SayInTurn parts trees
    → meaning (symbol_number head) i parts ≡ what → Says what (λ behind. node head i (trees no_tree) behind)
says_opened head i {parts = parts} more same =
    record {
      says = λ behind. ap (λ z. z ∷ said behind) (ap (meaning (symbol_number head) i) (more.say no_tree ∙ append-nil parts) ∙ same);
    }

pub says_same : {what that : Said} {tree other : Growth} → what ≡ that → tree ≡ other → Says that other → Says what tree
says_same {what} {other = other} e f says = subst (λ z. Says what z) (sym f) (subst (λ z. Says z other) (sym e) says)

-- ---- lists

-- an item in front of the rest of its list, by what the whole list then says
pub record ItemSays {A : Type 0} (read what : List A → Said) (item : ItemGrowth) : Type 0 where
  pub in_front : (xs : List A) (rest behind : Trees) → said rest ≡ read xs ∷ [] → said (item rest behind) ≡ what xs ∷ said behind

pub says_item : {A : Type 0} (read : List A → Said) {what : List A → Said} (head : Symbol) (i : ℕ) {parts : List Said} {trees : Growth}
    → SayInTurn parts trees → ((xs : List A) → meaning (symbol_number head) i (parts ++ read xs ∷ []) ≡ what xs)
    → ItemSays read what (λ rest behind. node head i (trees rest) behind)
says_item read head i {parts} more same =
    record {
      in_front = λ xs rest behind e.
          ap (λ z. z ∷ said behind) (ap (meaning (symbol_number head) i) (more.say rest ∙ ap (λ z. parts ++ z) e) ∙ same xs);
    }

-- an item of a cycle of types, which is known by its layer
pub item_same : {A : Type 0} {read what that : List A → Said} {item other : ItemGrowth}
    → ((xs : List A) → what xs ≡ that xs) → item ≡ other → ItemSays read that other → ItemSays read what item
item_same same f item =
    record {
      in_front = λ xs rest behind e.
          ap (λ z. said (z rest behind)) f ∙ item.in_front xs rest behind e ∙ ap (λ z. z ∷ said behind) (sym (same xs));
    }

-- an item of that list
abbrev pub SaysItem : {A : Type 0} → (List A → Said) → (A → ItemGrowth) → A → Type 0
SaysItem read tree x = ItemSays read (λ xs. read (x ∷ xs)) (tree x)

module _ {A : Type 0} (read : List A → Said) (head : Symbol) (end : ℕ) (ends : meaning (symbol_number head) end [] ≡ read []) (tree : A → ItemGrowth) where
  -- a list whose items each come with what they say
  pub says_items : (items : List ((x : A) × SaysItem read tree x))
      → Says (read (map (λ w. w.0) items)) (nested head end (map tree (map (λ w. w.0) items)))
  unfolding nested
  says_items [] = record { says = λ behind. ap (λ z. z ∷ said behind) ends }
  says_items (w ∷ items) =
      record {
        says = λ behind.
            w.1.in_front (map (λ w. w.0) items) (nested head end (map tree (map (λ w. w.0) items)) no_tree) behind ((says_items items).says no_tree);
      }

  pub says_list : ((x : A) → SaysItem read tree x) → (items : List A) → Says (read items) (nested head end (map tree items))
  unfolding nested
  says_list all [] = record { says = λ behind. ap (λ z. z ∷ said behind) ends }
  says_list all (x ∷ items) =
      record { says = λ behind. (all x).in_front items (nested head end (map tree items) no_tree) behind ((says_list all items).says no_tree) }
