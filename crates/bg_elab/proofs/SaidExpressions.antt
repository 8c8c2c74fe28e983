-- What derivation trees of expressions say.
use Rattle.std.proofs.Common.{◌≡◌, ℕ, List, [], ◌∷◌, map, length, refl, ap, subst}
use Rattle.bg_text.specs.declared.token.TokenKind.TheVariants as kinds
use Rattle.bg_syntax.specs.declared.symbol.Symbol.TheVariants as symbols
use Rattle.bg_trees.specs.declared.expressions.SynArgs.{SynArgs}
use Rattle.bg_trees.specs.declared.expressions.SynArgs.TheVariants as args_ways
use Rattle.bg_trees.specs.declared.expressions.SynRef.{SynRef}
use Rattle.bg_trees.specs.declared.expressions.SynIdNames.{SynIdNames}
use Rattle.bg_trees.specs.declared.expressions.SynIdNames.TheVariants as id_names_ways
use Rattle.bg_trees.specs.declared.expressions.SynIdTail.{SynIdTail}
use Rattle.bg_trees.specs.declared.expressions.SynIdTail.TheVariants as id_tail_ways
use Rattle.bg_trees.specs.declared.expressions.SynA.{SynA}
use Rattle.bg_trees.specs.declared.expressions.SynA.TheOpen.{SynA-F, SynK-F, SynN1-F, SynC-F, SynC1Item-F, SynE-F, SynE1Item-F, SynM-F, SynM1Item-F, SynN-F, SynP-F, SynP1Item-F}
use Rattle.bg_trees.specs.declared.expressions.SynA.TheFolds.{map-SynA, fold-roll-SynA, ind-SynA, map-SynK, fold-roll-SynK, ind-SynK, map-SynN1, fold-roll-SynN1, ind-SynN1, map-SynC, fold-roll-SynC, ind-SynC, map-SynC1Item, fold-roll-SynC1Item, ind-SynC1Item, map-SynE, fold-roll-SynE, ind-SynE, map-SynE1Item, fold-roll-SynE1Item, ind-SynE1Item, map-SynM, fold-roll-SynM, ind-SynM, map-SynM1Item, fold-roll-SynM1Item, ind-SynM1Item, map-SynN, fold-roll-SynN, ind-SynN, map-SynP, fold-roll-SynP, ind-SynP, map-SynP1Item, fold-roll-SynP1Item, ind-SynP1Item}
use Rattle.bg_trees.specs.declared.expressions.SynA.TheViews.{roll-SynA, roll-SynK, roll-SynN1, roll-SynC, roll-SynC1Item, roll-SynE, roll-SynE1Item, roll-SynM, roll-SynM1Item, roll-SynN, roll-SynP, roll-SynP1Item}
use Rattle.bg_trees.specs.declared.expressions.SynK.{SynK}
use Rattle.bg_trees.specs.declared.expressions.SynN1.{SynN1}
use Rattle.bg_trees.specs.declared.expressions.SynC.{SynC}
use Rattle.bg_trees.specs.declared.expressions.SynC1Item.{SynC1Item}
use Rattle.bg_trees.specs.declared.expressions.SynE.{SynE}
use Rattle.bg_trees.specs.declared.expressions.SynE1Item.{SynE1Item}
use Rattle.bg_trees.specs.declared.expressions.SynM.{SynM}
use Rattle.bg_trees.specs.declared.expressions.SynM1Item.{SynM1Item}
use Rattle.bg_trees.specs.declared.expressions.SynN.{SynN}
use Rattle.bg_trees.specs.declared.expressions.SynP.{SynP}
use Rattle.bg_trees.specs.declared.expressions.SynP1Item.{SynP1Item}
use Rattle.bg_trees.specs.declared.expressions.SynA.TheOpen.SynA-F.{SynA::Way1 as a_1, SynA::Way2 as a_2, Way3 as a_3, Way4 as a_4, Way5 as a_5, Way6 as a_6, Way7 as a_7, Way8 as a_8}
use Rattle.bg_trees.specs.declared.expressions.SynA.TheOpen.SynK-F.{SynK::Way1 as k_1, SynK::Way2 as k_2}
use Rattle.bg_trees.specs.declared.expressions.SynA.TheOpen.SynN1-F.{SynN1::Way1 as n1_1, SynN1::Way2 as n1_2}
use Rattle.bg_syntax.specs.Trees.{Growth, ItemGrowth}
use Rattle.bg_syntax.specs.ExpressionsTrees.{args_tree, reference_tree, id_names_tree, id_tail_tree, a_tree, a_tree_layer, k_tree, k_tree_layer, n1_tree, n1_tree_layer, c_tree, c_tree_layer, c1_item_tree, c1_item_tree_layer, e_tree, e_tree_layer, e1_item_tree, e1_item_tree_layer, m_tree, m_tree_layer, m1_item_tree, m1_item_tree_layer, n_tree, n_tree_layer, p_tree, p_tree_layer, p1_item_tree, p1_item_tree_layer}
use Rattle.bg_elab.specs.References.{tokens_inside}
use Rattle.bg_terms.specs.Trees.{id_names, id_read}
use Rattle.bg_terms.specs.Trees.{arguments as arguments_of}
use Rattle.bg_terms.specs.Trees.{a_read, k_read, n1_read, c_read, c1_item_read, e_read, e1_item_read, m_read, m1_item_read, n_read, p_read, p1_item_read}
use Rattle.bg_terms.proofs.Made.{a_made, k_made, n1_made, c_made, c1_item_made, e_made, e1_item_made, m_made, m1_item_made, n_made, p_made, p1_item_made}
use Rattle.bg_values.specs.Operands.{operands_read}
use Rattle.bg_elab.proofs.Said.{Said, Referred, tokens, arguments, referred, identity, form, reading, behind, items}
use Rattle.bg_elab.proofs.SaidRows.{Says, SaysItem, says_none, says_token, says_part, says_opened, says_same, says_item, item_same, says_items}
use Rattle.bg_elab.proofs.SaidFormulas.{number_says, name_list_says, names_says, x_says, more_x_says}

pub args_says : (x : SynArgs) → Says (arguments ((length (arguments_of x), λ scope. operands_read scope (arguments_of x)), tokens_inside x)) (args_tree x)
unfolding args_tree
args_says (args_ways.Way1 part1 part2 part3 part4) =
    says_opened symbols.Args 0 (says_token kinds.OpenRound part1 (says_part (x_says part2) (says_part (more_x_says part3.items) (says_token kinds.CloseRound
    part4 says_none)))) refl
args_says (args_ways.Way2) = says_opened symbols.Args 1 says_none refl

-- a reference: its token, its arguments, and the tokens inside their brackets
abbrev pub referred_of : SynRef → Referred
referred_of x =
    (x.part1, ((length (arguments_of x.part2), λ scope. operands_read scope (arguments_of x.part2)), tokens_inside x.part2))

pub reference_says : (x : SynRef) → Says (referred (referred_of x)) (reference_tree x)
unfolding reference_tree
reference_says x = says_opened symbols.Ref 0 (says_token kinds.Lower x.part1 (says_part (args_says x.part2) says_none)) refl

pub id_names_says : (x : SynIdNames) → Says (tokens (id_names x)) (id_names_tree x)
unfolding id_names_tree
id_names_says (id_names_ways.Way1 part1 part2 part3 part4) =
    says_opened symbols.IdNames 0 (says_token kinds.Comma part1 (says_token kinds.OpenBrace part2 (says_part (name_list_says part3) (says_token
    kinds.CloseBrace part4 says_none)))) refl
id_names_says (id_names_ways.Way2) = says_opened symbols.IdNames 1 says_none refl

pub id_tail_says : (x : SynIdTail) → Says (identity (λ at visible. id_read at x visible)) (id_tail_tree x)
unfolding id_tail_tree
id_tail_says (id_tail_ways.Way1 part1 part2 part3 part4) =
    says_opened symbols.IdTail 0 (says_token kinds.OpenRound part1 (says_part (number_says part2) (says_part (id_names_says part3) (says_token
    kinds.CloseRound part4 says_none)))) refl
id_tail_says (id_tail_ways.Way2 part1 part2 part3) =
    says_opened symbols.IdTail 1 (says_token kinds.OpenBrace part1 (says_part (name_list_says part2) (says_token kinds.CloseBrace part3 says_none))) refl
id_tail_says (id_tail_ways.Way3) = says_opened symbols.IdTail 2 says_none refl

-- ---- expressions: the types of this cycle are read by folds

abbrev c1_read : List SynC1Item → Said
c1_read xs = items (map c1_item_read xs)

abbrev e1_read : List SynE1Item → Said
e1_read xs = items (map e1_item_read xs)

abbrev m1_read : List SynM1Item → Said
m1_read xs = items (map m1_item_read xs)

abbrev p1_read : List SynP1Item → Said
p1_read xs = items (map p1_item_read xs)

abbrev OfA : SynA → Type 0
OfA x = Says (form (a_read x)) (a_tree x)

abbrev WithA : Type 0
WithA = (x : SynA) × OfA x

abbrev OfK : SynK → Type 0
OfK x = Says (reading (k_read x)) (k_tree x)

abbrev WithK : Type 0
WithK = (x : SynK) × OfK x

abbrev OfN1 : SynN1 → Type 0
OfN1 x = Says (behind (n1_read x)) (n1_tree x)

abbrev WithN1 : Type 0
WithN1 = (x : SynN1) × OfN1 x

abbrev OfC : SynC → Type 0
OfC x = Says (reading (c_read x)) (c_tree x)

abbrev WithC : Type 0
WithC = (x : SynC) × OfC x

abbrev OfC1Item : SynC1Item → Type 0
OfC1Item x = SaysItem c1_read c1_item_tree x

abbrev WithC1Item : Type 0
WithC1Item = (x : SynC1Item) × OfC1Item x

abbrev OfE : SynE → Type 0
OfE x = Says (reading (e_read x)) (e_tree x)

abbrev WithE : Type 0
WithE = (x : SynE) × OfE x

abbrev OfE1Item : SynE1Item → Type 0
OfE1Item x = SaysItem e1_read e1_item_tree x

abbrev WithE1Item : Type 0
WithE1Item = (x : SynE1Item) × OfE1Item x

abbrev OfM : SynM → Type 0
OfM x = Says (reading (m_read x)) (m_tree x)

abbrev WithM : Type 0
WithM = (x : SynM) × OfM x

abbrev OfM1Item : SynM1Item → Type 0
OfM1Item x = SaysItem m1_read m1_item_tree x

abbrev WithM1Item : Type 0
WithM1Item = (x : SynM1Item) × OfM1Item x

abbrev OfN : SynN → Type 0
OfN x = Says (reading (n_read x)) (n_tree x)

abbrev WithN : Type 0
WithN = (x : SynN) × OfN x

abbrev OfP : SynP → Type 0
OfP x = Says (reading (p_read x)) (p_tree x)

abbrev WithP : Type 0
WithP = (x : SynP) × OfP x

abbrev OfP1Item : SynP1Item → Type 0
OfP1Item x = SaysItem p1_read p1_item_tree x

abbrev WithP1Item : Type 0
WithP1Item = (x : SynP1Item) × OfP1Item x

-- a type of trees by the types of their parts
abbrev Layer : Type 1
Layer =
    Type 0 → Type 0 → Type 0 → Type 0 → Type 0 → Type 0 → Type 0 → Type 0 → Type 0 → Type 0 → Type 0 → Type 0 → Type 0

-- the types of trees whose parts come with what they say, and of trees
abbrev With : Layer → Type 0
With F = F WithA WithK WithN1 WithC WithC1Item WithE WithE1Item WithM WithM1Item WithN WithP WithP1Item

abbrev Bare : Layer → Type 0
Bare F = F SynA SynK SynN1 SynC SynC1Item SynE SynE1Item SynM SynM1Item SynN SynP SynP1Item

abbrev a_bare : With SynA-F → Bare SynA-F
a_bare =
    map-SynA WithA WithK WithN1 WithC WithC1Item WithE WithE1Item WithM WithM1Item WithN WithP WithP1Item
    SynA SynK SynN1 SynC SynC1Item SynE SynE1Item SynM SynM1Item SynN SynP SynP1Item
    (λ w. w.0) (λ w. w.0) (λ w. w.0) (λ w. w.0) (λ w. w.0) (λ w. w.0) (λ w. w.0) (λ w. w.0) (λ w. w.0) (λ w. w.0) (λ w. w.0) (λ w. w.0)

a_grows : (y : Bare SynA-F) → a_tree (roll-SynA y)
    ≡ a_tree_layer (map-SynA SynA SynK SynN1 SynC SynC1Item SynE SynE1Item SynM SynM1Item SynN SynP SynP1Item
    Growth Growth Growth Growth ItemGrowth Growth ItemGrowth Growth ItemGrowth Growth Growth ItemGrowth
    a_tree k_tree n1_tree c_tree c1_item_tree e_tree e1_item_tree m_tree m1_item_tree n_tree p_tree p1_item_tree y)
unfolding a_tree k_tree n1_tree c_tree c1_item_tree e_tree e1_item_tree m_tree m1_item_tree n_tree p_tree p1_item_tree
a_grows =
    fold-roll-SynA Growth Growth Growth Growth ItemGrowth Growth ItemGrowth Growth ItemGrowth Growth Growth ItemGrowth
    a_tree_layer k_tree_layer n1_tree_layer c_tree_layer c1_item_tree_layer e_tree_layer e1_item_tree_layer m_tree_layer m1_item_tree_layer n_tree_layer p_tree_layer p1_item_tree_layer

abbrev k_bare : With SynK-F → Bare SynK-F
k_bare =
    map-SynK WithA WithK WithN1 WithC WithC1Item WithE WithE1Item WithM WithM1Item WithN WithP WithP1Item
    SynA SynK SynN1 SynC SynC1Item SynE SynE1Item SynM SynM1Item SynN SynP SynP1Item
    (λ w. w.0) (λ w. w.0) (λ w. w.0) (λ w. w.0) (λ w. w.0) (λ w. w.0) (λ w. w.0) (λ w. w.0) (λ w. w.0) (λ w. w.0) (λ w. w.0) (λ w. w.0)

k_grows : (y : Bare SynK-F) → k_tree (roll-SynK y)
    ≡ k_tree_layer (map-SynK SynA SynK SynN1 SynC SynC1Item SynE SynE1Item SynM SynM1Item SynN SynP SynP1Item
    Growth Growth Growth Growth ItemGrowth Growth ItemGrowth Growth ItemGrowth Growth Growth ItemGrowth
    a_tree k_tree n1_tree c_tree c1_item_tree e_tree e1_item_tree m_tree m1_item_tree n_tree p_tree p1_item_tree y)
unfolding a_tree k_tree n1_tree c_tree c1_item_tree e_tree e1_item_tree m_tree m1_item_tree n_tree p_tree p1_item_tree
k_grows =
    fold-roll-SynK Growth Growth Growth Growth ItemGrowth Growth ItemGrowth Growth ItemGrowth Growth Growth ItemGrowth
    a_tree_layer k_tree_layer n1_tree_layer c_tree_layer c1_item_tree_layer e_tree_layer e1_item_tree_layer m_tree_layer m1_item_tree_layer n_tree_layer p_tree_layer p1_item_tree_layer

abbrev n1_bare : With SynN1-F → Bare SynN1-F
n1_bare =
    map-SynN1 WithA WithK WithN1 WithC WithC1Item WithE WithE1Item WithM WithM1Item WithN WithP WithP1Item
    SynA SynK SynN1 SynC SynC1Item SynE SynE1Item SynM SynM1Item SynN SynP SynP1Item
    (λ w. w.0) (λ w. w.0) (λ w. w.0) (λ w. w.0) (λ w. w.0) (λ w. w.0) (λ w. w.0) (λ w. w.0) (λ w. w.0) (λ w. w.0) (λ w. w.0) (λ w. w.0)

n1_grows : (y : Bare SynN1-F) → n1_tree (roll-SynN1 y)
    ≡ n1_tree_layer (map-SynN1 SynA SynK SynN1 SynC SynC1Item SynE SynE1Item SynM SynM1Item SynN SynP SynP1Item
    Growth Growth Growth Growth ItemGrowth Growth ItemGrowth Growth ItemGrowth Growth Growth ItemGrowth
    a_tree k_tree n1_tree c_tree c1_item_tree e_tree e1_item_tree m_tree m1_item_tree n_tree p_tree p1_item_tree y)
unfolding a_tree k_tree n1_tree c_tree c1_item_tree e_tree e1_item_tree m_tree m1_item_tree n_tree p_tree p1_item_tree
n1_grows =
    fold-roll-SynN1 Growth Growth Growth Growth ItemGrowth Growth ItemGrowth Growth ItemGrowth Growth Growth ItemGrowth
    a_tree_layer k_tree_layer n1_tree_layer c_tree_layer c1_item_tree_layer e_tree_layer e1_item_tree_layer m_tree_layer m1_item_tree_layer n_tree_layer p_tree_layer p1_item_tree_layer

abbrev c_bare : With SynC-F → Bare SynC-F
c_bare =
    map-SynC WithA WithK WithN1 WithC WithC1Item WithE WithE1Item WithM WithM1Item WithN WithP WithP1Item
    SynA SynK SynN1 SynC SynC1Item SynE SynE1Item SynM SynM1Item SynN SynP SynP1Item
    (λ w. w.0) (λ w. w.0) (λ w. w.0) (λ w. w.0) (λ w. w.0) (λ w. w.0) (λ w. w.0) (λ w. w.0) (λ w. w.0) (λ w. w.0) (λ w. w.0) (λ w. w.0)

c_grows : (y : Bare SynC-F) → c_tree (roll-SynC y)
    ≡ c_tree_layer (map-SynC SynA SynK SynN1 SynC SynC1Item SynE SynE1Item SynM SynM1Item SynN SynP SynP1Item
    Growth Growth Growth Growth ItemGrowth Growth ItemGrowth Growth ItemGrowth Growth Growth ItemGrowth
    a_tree k_tree n1_tree c_tree c1_item_tree e_tree e1_item_tree m_tree m1_item_tree n_tree p_tree p1_item_tree y)
unfolding a_tree k_tree n1_tree c_tree c1_item_tree e_tree e1_item_tree m_tree m1_item_tree n_tree p_tree p1_item_tree
c_grows =
    fold-roll-SynC Growth Growth Growth Growth ItemGrowth Growth ItemGrowth Growth ItemGrowth Growth Growth ItemGrowth
    a_tree_layer k_tree_layer n1_tree_layer c_tree_layer c1_item_tree_layer e_tree_layer e1_item_tree_layer m_tree_layer m1_item_tree_layer n_tree_layer p_tree_layer p1_item_tree_layer

abbrev c1_item_bare : With SynC1Item-F → Bare SynC1Item-F
c1_item_bare =
    map-SynC1Item WithA WithK WithN1 WithC WithC1Item WithE WithE1Item WithM WithM1Item WithN WithP WithP1Item
    SynA SynK SynN1 SynC SynC1Item SynE SynE1Item SynM SynM1Item SynN SynP SynP1Item
    (λ w. w.0) (λ w. w.0) (λ w. w.0) (λ w. w.0) (λ w. w.0) (λ w. w.0) (λ w. w.0) (λ w. w.0) (λ w. w.0) (λ w. w.0) (λ w. w.0) (λ w. w.0)

c1_item_grows : (y : Bare SynC1Item-F) → c1_item_tree (roll-SynC1Item y)
    ≡ c1_item_tree_layer (map-SynC1Item SynA SynK SynN1 SynC SynC1Item SynE SynE1Item SynM SynM1Item SynN SynP SynP1Item
    Growth Growth Growth Growth ItemGrowth Growth ItemGrowth Growth ItemGrowth Growth Growth ItemGrowth
    a_tree k_tree n1_tree c_tree c1_item_tree e_tree e1_item_tree m_tree m1_item_tree n_tree p_tree p1_item_tree y)
unfolding a_tree k_tree n1_tree c_tree c1_item_tree e_tree e1_item_tree m_tree m1_item_tree n_tree p_tree p1_item_tree
c1_item_grows =
    fold-roll-SynC1Item Growth Growth Growth Growth ItemGrowth Growth ItemGrowth Growth ItemGrowth Growth Growth ItemGrowth
    a_tree_layer k_tree_layer n1_tree_layer c_tree_layer c1_item_tree_layer e_tree_layer e1_item_tree_layer m_tree_layer m1_item_tree_layer n_tree_layer p_tree_layer p1_item_tree_layer

abbrev e_bare : With SynE-F → Bare SynE-F
e_bare =
    map-SynE WithA WithK WithN1 WithC WithC1Item WithE WithE1Item WithM WithM1Item WithN WithP WithP1Item
    SynA SynK SynN1 SynC SynC1Item SynE SynE1Item SynM SynM1Item SynN SynP SynP1Item
    (λ w. w.0) (λ w. w.0) (λ w. w.0) (λ w. w.0) (λ w. w.0) (λ w. w.0) (λ w. w.0) (λ w. w.0) (λ w. w.0) (λ w. w.0) (λ w. w.0) (λ w. w.0)

e_grows : (y : Bare SynE-F) → e_tree (roll-SynE y)
    ≡ e_tree_layer (map-SynE SynA SynK SynN1 SynC SynC1Item SynE SynE1Item SynM SynM1Item SynN SynP SynP1Item
    Growth Growth Growth Growth ItemGrowth Growth ItemGrowth Growth ItemGrowth Growth Growth ItemGrowth
    a_tree k_tree n1_tree c_tree c1_item_tree e_tree e1_item_tree m_tree m1_item_tree n_tree p_tree p1_item_tree y)
unfolding a_tree k_tree n1_tree c_tree c1_item_tree e_tree e1_item_tree m_tree m1_item_tree n_tree p_tree p1_item_tree
e_grows =
    fold-roll-SynE Growth Growth Growth Growth ItemGrowth Growth ItemGrowth Growth ItemGrowth Growth Growth ItemGrowth
    a_tree_layer k_tree_layer n1_tree_layer c_tree_layer c1_item_tree_layer e_tree_layer e1_item_tree_layer m_tree_layer m1_item_tree_layer n_tree_layer p_tree_layer p1_item_tree_layer

abbrev e1_item_bare : With SynE1Item-F → Bare SynE1Item-F
e1_item_bare =
    map-SynE1Item WithA WithK WithN1 WithC WithC1Item WithE WithE1Item WithM WithM1Item WithN WithP WithP1Item
    SynA SynK SynN1 SynC SynC1Item SynE SynE1Item SynM SynM1Item SynN SynP SynP1Item
    (λ w. w.0) (λ w. w.0) (λ w. w.0) (λ w. w.0) (λ w. w.0) (λ w. w.0) (λ w. w.0) (λ w. w.0) (λ w. w.0) (λ w. w.0) (λ w. w.0) (λ w. w.0)

e1_item_grows : (y : Bare SynE1Item-F) → e1_item_tree (roll-SynE1Item y)
    ≡ e1_item_tree_layer (map-SynE1Item SynA SynK SynN1 SynC SynC1Item SynE SynE1Item SynM SynM1Item SynN SynP SynP1Item
    Growth Growth Growth Growth ItemGrowth Growth ItemGrowth Growth ItemGrowth Growth Growth ItemGrowth
    a_tree k_tree n1_tree c_tree c1_item_tree e_tree e1_item_tree m_tree m1_item_tree n_tree p_tree p1_item_tree y)
unfolding a_tree k_tree n1_tree c_tree c1_item_tree e_tree e1_item_tree m_tree m1_item_tree n_tree p_tree p1_item_tree
e1_item_grows =
    fold-roll-SynE1Item Growth Growth Growth Growth ItemGrowth Growth ItemGrowth Growth ItemGrowth Growth Growth ItemGrowth
    a_tree_layer k_tree_layer n1_tree_layer c_tree_layer c1_item_tree_layer e_tree_layer e1_item_tree_layer m_tree_layer m1_item_tree_layer n_tree_layer p_tree_layer p1_item_tree_layer

abbrev m_bare : With SynM-F → Bare SynM-F
m_bare =
    map-SynM WithA WithK WithN1 WithC WithC1Item WithE WithE1Item WithM WithM1Item WithN WithP WithP1Item
    SynA SynK SynN1 SynC SynC1Item SynE SynE1Item SynM SynM1Item SynN SynP SynP1Item
    (λ w. w.0) (λ w. w.0) (λ w. w.0) (λ w. w.0) (λ w. w.0) (λ w. w.0) (λ w. w.0) (λ w. w.0) (λ w. w.0) (λ w. w.0) (λ w. w.0) (λ w. w.0)

m_grows : (y : Bare SynM-F) → m_tree (roll-SynM y)
    ≡ m_tree_layer (map-SynM SynA SynK SynN1 SynC SynC1Item SynE SynE1Item SynM SynM1Item SynN SynP SynP1Item
    Growth Growth Growth Growth ItemGrowth Growth ItemGrowth Growth ItemGrowth Growth Growth ItemGrowth
    a_tree k_tree n1_tree c_tree c1_item_tree e_tree e1_item_tree m_tree m1_item_tree n_tree p_tree p1_item_tree y)
unfolding a_tree k_tree n1_tree c_tree c1_item_tree e_tree e1_item_tree m_tree m1_item_tree n_tree p_tree p1_item_tree
m_grows =
    fold-roll-SynM Growth Growth Growth Growth ItemGrowth Growth ItemGrowth Growth ItemGrowth Growth Growth ItemGrowth
    a_tree_layer k_tree_layer n1_tree_layer c_tree_layer c1_item_tree_layer e_tree_layer e1_item_tree_layer m_tree_layer m1_item_tree_layer n_tree_layer p_tree_layer p1_item_tree_layer

abbrev m1_item_bare : With SynM1Item-F → Bare SynM1Item-F
m1_item_bare =
    map-SynM1Item WithA WithK WithN1 WithC WithC1Item WithE WithE1Item WithM WithM1Item WithN WithP WithP1Item
    SynA SynK SynN1 SynC SynC1Item SynE SynE1Item SynM SynM1Item SynN SynP SynP1Item
    (λ w. w.0) (λ w. w.0) (λ w. w.0) (λ w. w.0) (λ w. w.0) (λ w. w.0) (λ w. w.0) (λ w. w.0) (λ w. w.0) (λ w. w.0) (λ w. w.0) (λ w. w.0)

m1_item_grows : (y : Bare SynM1Item-F) → m1_item_tree (roll-SynM1Item y)
    ≡ m1_item_tree_layer (map-SynM1Item SynA SynK SynN1 SynC SynC1Item SynE SynE1Item SynM SynM1Item SynN SynP SynP1Item
    Growth Growth Growth Growth ItemGrowth Growth ItemGrowth Growth ItemGrowth Growth Growth ItemGrowth
    a_tree k_tree n1_tree c_tree c1_item_tree e_tree e1_item_tree m_tree m1_item_tree n_tree p_tree p1_item_tree y)
unfolding a_tree k_tree n1_tree c_tree c1_item_tree e_tree e1_item_tree m_tree m1_item_tree n_tree p_tree p1_item_tree
m1_item_grows =
    fold-roll-SynM1Item Growth Growth Growth Growth ItemGrowth Growth ItemGrowth Growth ItemGrowth Growth Growth ItemGrowth
    a_tree_layer k_tree_layer n1_tree_layer c_tree_layer c1_item_tree_layer e_tree_layer e1_item_tree_layer m_tree_layer m1_item_tree_layer n_tree_layer p_tree_layer p1_item_tree_layer

abbrev n_bare : With SynN-F → Bare SynN-F
n_bare =
    map-SynN WithA WithK WithN1 WithC WithC1Item WithE WithE1Item WithM WithM1Item WithN WithP WithP1Item
    SynA SynK SynN1 SynC SynC1Item SynE SynE1Item SynM SynM1Item SynN SynP SynP1Item
    (λ w. w.0) (λ w. w.0) (λ w. w.0) (λ w. w.0) (λ w. w.0) (λ w. w.0) (λ w. w.0) (λ w. w.0) (λ w. w.0) (λ w. w.0) (λ w. w.0) (λ w. w.0)

n_grows : (y : Bare SynN-F) → n_tree (roll-SynN y)
    ≡ n_tree_layer (map-SynN SynA SynK SynN1 SynC SynC1Item SynE SynE1Item SynM SynM1Item SynN SynP SynP1Item
    Growth Growth Growth Growth ItemGrowth Growth ItemGrowth Growth ItemGrowth Growth Growth ItemGrowth
    a_tree k_tree n1_tree c_tree c1_item_tree e_tree e1_item_tree m_tree m1_item_tree n_tree p_tree p1_item_tree y)
unfolding a_tree k_tree n1_tree c_tree c1_item_tree e_tree e1_item_tree m_tree m1_item_tree n_tree p_tree p1_item_tree
n_grows =
    fold-roll-SynN Growth Growth Growth Growth ItemGrowth Growth ItemGrowth Growth ItemGrowth Growth Growth ItemGrowth
    a_tree_layer k_tree_layer n1_tree_layer c_tree_layer c1_item_tree_layer e_tree_layer e1_item_tree_layer m_tree_layer m1_item_tree_layer n_tree_layer p_tree_layer p1_item_tree_layer

abbrev p_bare : With SynP-F → Bare SynP-F
p_bare =
    map-SynP WithA WithK WithN1 WithC WithC1Item WithE WithE1Item WithM WithM1Item WithN WithP WithP1Item
    SynA SynK SynN1 SynC SynC1Item SynE SynE1Item SynM SynM1Item SynN SynP SynP1Item
    (λ w. w.0) (λ w. w.0) (λ w. w.0) (λ w. w.0) (λ w. w.0) (λ w. w.0) (λ w. w.0) (λ w. w.0) (λ w. w.0) (λ w. w.0) (λ w. w.0) (λ w. w.0)

p_grows : (y : Bare SynP-F) → p_tree (roll-SynP y)
    ≡ p_tree_layer (map-SynP SynA SynK SynN1 SynC SynC1Item SynE SynE1Item SynM SynM1Item SynN SynP SynP1Item
    Growth Growth Growth Growth ItemGrowth Growth ItemGrowth Growth ItemGrowth Growth Growth ItemGrowth
    a_tree k_tree n1_tree c_tree c1_item_tree e_tree e1_item_tree m_tree m1_item_tree n_tree p_tree p1_item_tree y)
unfolding a_tree k_tree n1_tree c_tree c1_item_tree e_tree e1_item_tree m_tree m1_item_tree n_tree p_tree p1_item_tree
p_grows =
    fold-roll-SynP Growth Growth Growth Growth ItemGrowth Growth ItemGrowth Growth ItemGrowth Growth Growth ItemGrowth
    a_tree_layer k_tree_layer n1_tree_layer c_tree_layer c1_item_tree_layer e_tree_layer e1_item_tree_layer m_tree_layer m1_item_tree_layer n_tree_layer p_tree_layer p1_item_tree_layer

abbrev p1_item_bare : With SynP1Item-F → Bare SynP1Item-F
p1_item_bare =
    map-SynP1Item WithA WithK WithN1 WithC WithC1Item WithE WithE1Item WithM WithM1Item WithN WithP WithP1Item
    SynA SynK SynN1 SynC SynC1Item SynE SynE1Item SynM SynM1Item SynN SynP SynP1Item
    (λ w. w.0) (λ w. w.0) (λ w. w.0) (λ w. w.0) (λ w. w.0) (λ w. w.0) (λ w. w.0) (λ w. w.0) (λ w. w.0) (λ w. w.0) (λ w. w.0) (λ w. w.0)

p1_item_grows : (y : Bare SynP1Item-F) → p1_item_tree (roll-SynP1Item y)
    ≡ p1_item_tree_layer (map-SynP1Item SynA SynK SynN1 SynC SynC1Item SynE SynE1Item SynM SynM1Item SynN SynP SynP1Item
    Growth Growth Growth Growth ItemGrowth Growth ItemGrowth Growth ItemGrowth Growth Growth ItemGrowth
    a_tree k_tree n1_tree c_tree c1_item_tree e_tree e1_item_tree m_tree m1_item_tree n_tree p_tree p1_item_tree y)
unfolding a_tree k_tree n1_tree c_tree c1_item_tree e_tree e1_item_tree m_tree m1_item_tree n_tree p_tree p1_item_tree
p1_item_grows =
    fold-roll-SynP1Item Growth Growth Growth Growth ItemGrowth Growth ItemGrowth Growth ItemGrowth Growth Growth ItemGrowth
    a_tree_layer k_tree_layer n1_tree_layer c_tree_layer c1_item_tree_layer e_tree_layer e1_item_tree_layer m_tree_layer m1_item_tree_layer n_tree_layer p_tree_layer p1_item_tree_layer

a_whole : (y : With SynA-F) → OfA (roll-SynA (a_bare y))
a_whole (a_1 upper args ports) =
    says_same (ap form (a_made (a_bare (a_1 upper args ports)))) (a_grows (a_bare (a_1 upper args ports)))
    (says_opened symbols.A 0 (says_token kinds.Upper upper (says_part (args_says args) (says_part (names_says ports) says_none))) refl)
a_whole (a_2 ref) =
    says_same (ap form (a_made (a_bare (a_2 ref)))) (a_grows (a_bare (a_2 ref)))
    (says_opened symbols.A 1 (says_part (reference_says ref) says_none) refl)
a_whole (a_3 bracket list end) =
    says_same (ap form (a_made (a_bare (a_3 bracket list end)))) (a_grows (a_bare (a_3 bracket list end)))
    (says_opened symbols.A 2 (says_token kinds.OpenBrace bracket (says_part (name_list_says list) (says_token kinds.CloseBrace end says_none))) refl)
a_whole (a_4 at id_tail) =
    says_same (ap form (a_made (a_bare (a_4 at id_tail)))) (a_grows (a_bare (a_4 at id_tail)))
    (says_opened symbols.A 3 (says_token kinds.KwId at (says_part (id_tail_says id_tail) says_none)) refl)
a_whole (a_5 at bracket number end) =
    says_same (ap form (a_made (a_bare (a_5 at bracket number end)))) (a_grows (a_bare (a_5 at bracket number end)))
    (says_opened symbols.A 4
    (says_token kinds.KwMerge at (says_token kinds.OpenRound bracket (says_part (number_says number) (says_token kinds.CloseRound end says_none)))) refl)
a_whole (a_6 at) =
    says_same (ap form (a_made (a_bare (a_6 at)))) (a_grows (a_bare (a_6 at)))
    (says_opened symbols.A 5 (says_token kinds.Zero at says_none) refl)
a_whole (a_7 at) =
    says_same (ap form (a_made (a_bare (a_7 at)))) (a_grows (a_bare (a_7 at)))
    (says_opened symbols.A 6 (says_token kinds.One at says_none) refl)
a_whole (a_8 bracket e end) =
    says_same (ap form (a_made (a_bare (a_8 bracket e end)))) (a_grows (a_bare (a_8 bracket e end)))
    (says_opened symbols.A 7 (says_token kinds.OpenRound bracket (says_part e.value.1 (says_token kinds.CloseRound end says_none))) refl)

k_whole : (y : With SynK-F) → OfK (roll-SynK (k_bare y))
k_whole (k_1 slash lower k) =
    says_same (ap reading (k_made (k_bare (k_1 slash lower k)))) (k_grows (k_bare (k_1 slash lower k)))
    (says_opened symbols.K 0 (says_token kinds.Slash slash (says_token kinds.Lower lower (says_part k.value.1 says_none))) refl)
k_whole (k_2 n) =
    says_same (ap reading (k_made (k_bare (k_2 n)))) (k_grows (k_bare (k_2 n)))
    (says_opened symbols.K 1 (says_part n.value.1 says_none) refl)

n1_whole : (y : With SynN1-F) → OfN1 (roll-SynN1 (n1_bare y))
n1_whole (n1_1 dot k) =
    says_same (ap behind (n1_made (n1_bare (n1_1 dot k)))) (n1_grows (n1_bare (n1_1 dot k)))
    (says_opened symbols.N1 0 (says_token kinds.Dot dot (says_part k.value.1 says_none)) refl)
n1_whole n1_2 =
    says_same (ap behind (n1_made (n1_bare n1_2))) (n1_grows (n1_bare n1_2))
    (says_opened symbols.N1 1 says_none refl)

n_whole : (y : With SynN-F) → OfN (roll-SynN (n_bare y))
n_whole y =
    says_same (ap reading (n_made (n_bare y))) (n_grows (n_bare y))
    (says_opened symbols.N 0 (says_part y.part1.value.1 (says_part y.part2.value.1 says_none)) refl)

c_whole : (y : With SynC-F) → OfC (roll-SynC (c_bare y))
c_whole y =
    says_same (ap reading (c_made (c_bare y))) (c_grows (c_bare y))
    (says_opened symbols.C 0 (says_part y.part1.value.1 (says_part (says_items c1_read symbols.C1 1 refl c1_item_tree y.part2.items) says_none)) refl)

c1_item_whole : (y : With SynC1Item-F) → OfC1Item (roll-SynC1Item (c1_item_bare y))
c1_item_whole y =
    item_same (λ xs. ap (λ z. items (z ∷ map c1_item_read xs)) (c1_item_made (c1_item_bare y))) (c1_item_grows (c1_item_bare y))
    (says_item c1_read symbols.C1 0
    (says_token kinds.Star y.part1 (says_part y.part2.value.1 says_none)) (λ xs. refl))

e_whole : (y : With SynE-F) → OfE (roll-SynE (e_bare y))
e_whole y =
    says_same (ap reading (e_made (e_bare y))) (e_grows (e_bare y))
    (says_opened symbols.E 0 (says_part y.part1.value.1 (says_part (says_items e1_read symbols.E1 1 refl e1_item_tree y.part2.items) says_none)) refl)

e1_item_whole : (y : With SynE1Item-F) → OfE1Item (roll-SynE1Item (e1_item_bare y))
e1_item_whole y =
    item_same (λ xs. ap (λ z. items (z ∷ map e1_item_read xs)) (e1_item_made (e1_item_bare y))) (e1_item_grows (e1_item_bare y))
    (says_item e1_read symbols.E1 0
    (says_token kinds.Plus y.part1 (says_part y.part2.value.1 says_none)) (λ xs. refl))

m_whole : (y : With SynM-F) → OfM (roll-SynM (m_bare y))
m_whole y =
    says_same (ap reading (m_made (m_bare y))) (m_grows (m_bare y))
    (says_opened symbols.M 0 (says_part y.part1.value.1 (says_part (says_items m1_read symbols.M1 1 refl m1_item_tree y.part2.items) says_none)) refl)

m1_item_whole : (y : With SynM1Item-F) → OfM1Item (roll-SynM1Item (m1_item_bare y))
m1_item_whole y =
    item_same (λ xs. ap (λ z. items (z ∷ map m1_item_read xs)) (m1_item_made (m1_item_bare y))) (m1_item_grows (m1_item_bare y))
    (says_item m1_read symbols.M1 0
    (says_token kinds.Bar y.part1 (says_part y.part2.value.1 says_none)) (λ xs. refl))

p_whole : (y : With SynP-F) → OfP (roll-SynP (p_bare y))
p_whole y =
    says_same (ap reading (p_made (p_bare y))) (p_grows (p_bare y))
    (says_opened symbols.P 0 (says_part y.part1.value.1 (says_part (says_items p1_read symbols.P1 1 refl p1_item_tree y.part2.items) says_none)) refl)

p1_item_whole : (y : With SynP1Item-F) → OfP1Item (roll-SynP1Item (p1_item_bare y))
p1_item_whole y =
    item_same (λ xs. ap (λ z. items (z ∷ map p1_item_read xs)) (p1_item_made (p1_item_bare y))) (p1_item_grows (p1_item_bare y))
    (says_item p1_read symbols.P1 0
    (says_token kinds.BarBar y.part1 (says_part y.part2.value.1 says_none)) (λ xs. refl))

pub e_says : (x : SynE) → Says (reading (e_read x)) (e_tree x)
e_says =
    ind-SynE OfA OfK OfN1 OfC OfC1Item OfE OfE1Item OfM OfM1Item OfN OfP OfP1Item
    (λ x y is. subst (λ z. OfA (roll-SynA z)) is (a_whole y))
    (λ x y is. subst (λ z. OfK (roll-SynK z)) is (k_whole y))
    (λ x y is. subst (λ z. OfN1 (roll-SynN1 z)) is (n1_whole y))
    (λ x y is. subst (λ z. OfC (roll-SynC z)) is (c_whole y))
    (λ x y is. subst (λ z. OfC1Item (roll-SynC1Item z)) is (c1_item_whole y))
    (λ x y is. subst (λ z. OfE (roll-SynE z)) is (e_whole y))
    (λ x y is. subst (λ z. OfE1Item (roll-SynE1Item z)) is (e1_item_whole y))
    (λ x y is. subst (λ z. OfM (roll-SynM z)) is (m_whole y))
    (λ x y is. subst (λ z. OfM1Item (roll-SynM1Item z)) is (m1_item_whole y))
    (λ x y is. subst (λ z. OfN (roll-SynN z)) is (n_whole y))
    (λ x y is. subst (λ z. OfP (roll-SynP z)) is (p_whole y))
    (λ x y is. subst (λ z. OfP1Item (roll-SynP1Item z)) is (p1_item_whole y))
