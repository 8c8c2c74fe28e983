-- A claim that each form of expression keeps holds of the expressions of all trees.
use Rattle.std.proofs.Common.{◌≡◌, ◌∙◌, ℕ, suc, Bool, true, false, not, ◌==◌, List, [], ◌∷◌, map, length, Option, Some, None, Result, Ok, Err, refl, sym, ap, subst, eqb-true}
use Rattle.std.specs.Prelude.{IfOk, if◌then◌else◌}
use Rattle.bg_trees.specs.declared.arithmetic.SynX.{SynX}
use Rattle.bg_trees.specs.declared.names.SynNumber.{SynNumber}
use Rattle.bg_trees.specs.declared.expressions.SynIdTail.{SynIdTail}
use Rattle.bg_trees.specs.declared.expressions.SynIdTail.TheVariants as id_tail_ways
use Rattle.bg_trees.specs.declared.expressions.SynA.TheOpen.{SynA-F, SynK-F, SynN1-F, SynC-F, SynC1Item-F, SynE-F, SynE1Item-F, SynM-F, SynM1Item-F, SynN-F, SynP-F, SynP1Item-F}
use Rattle.bg_trees.specs.declared.expressions.SynA.TheOpen.SynA-F.{SynA::Way1 as a_1, SynA::Way2 as a_2, Way3 as a_3, Way4 as a_4, Way5 as a_5, Way6 as a_6, Way7 as a_7, Way8 as a_8}
use Rattle.bg_trees.specs.declared.expressions.SynA.TheOpen.SynK-F.{SynK::Way1 as k_1, SynK::Way2 as k_2}
use Rattle.bg_trees.specs.declared.expressions.SynA.TheOpen.SynN1-F.{SynN1::Way1 as n1_1, SynN1::Way2 as n1_2}
use Rattle.bg_trees.specs.declared.expressions.SynA.TheFolds.{map-SynA, map-SynK, map-SynN1, map-SynC, map-SynC1Item, map-SynE, map-SynE1Item, map-SynM, map-SynM1Item, map-SynN, map-SynP, map-SynP1Item, ind-SynE}
use Rattle.bg_trees.specs.declared.expressions.SynA.TheViews.{roll-SynA, roll-SynK, roll-SynN1, roll-SynC, roll-SynC1Item, roll-SynE, roll-SynE1Item, roll-SynM, roll-SynM1Item, roll-SynN, roll-SynP, roll-SynP1Item}
use Rattle.bg_trees.specs.declared.expressions.SynA.{SynA}
use Rattle.bg_trees.specs.declared.expressions.SynK.{SynK}
use Rattle.bg_trees.specs.declared.expressions.SynN1.{SynN1}
use Rattle.bg_trees.specs.declared.expressions.SynC.{SynC}
use Rattle.bg_trees.specs.declared.expressions.SynC1Item.{SynC1Item}
use Rattle.bg_trees.specs.declared.expressions.SynE.{SynE}
use Rattle.bg_trees.specs.declared.expressions.SynE1Item.{SynE1Item}
use Rattle.bg_trees.specs.declared.expressions.SynM.{SynM}
use Rattle.bg_trees.specs.declared.expressions.SynM1Item.{SynM1Item}
use Rattle.bg_trees.specs.declared.expressions.SynN.{SynN}
use Rattle.bg_trees.specs.declared.expressions.SynP.{SynP}
use Rattle.bg_trees.specs.declared.expressions.SynP1Item.{SynP1Item}
use Rattle.bg_values.specs.declared.refusal.Cause.{Cause}
use Rattle.bg_values.specs.declared.refusal.Cause.TheVariants.{UnknownName}
use Rattle.bg_values.specs.declared.refusal.Refusal.{Refusal}
use Rattle.bg_values.specs.Names.{look_up}
use Rattle.bg_values.specs.Operands.{Operand, operands_read}
use Rattle.bg_values.specs.Outcome.{◌>>=◌, refused, there_or}
use Rattle.bg_values.specs.Scopes.{spelling}
use Rattle.bg_terms.specs.declared.shape.ControlEntry.{ControlEntry}
use Rattle.bg_terms.specs.declared.shape.BinaryOperation.{BinaryOperation}
use Rattle.bg_terms.specs.declared.shape.BinaryOperation.TheVariants.{Composition, Tensor, Parallel, Merge}
use Rattle.bg_terms.specs.Expressions.{Expression, node, reference, names, identity_of, merger_of, barren, empty, brackets, deeper, closure, nesting, binary}
use Rattle.bg_terms.specs.Trees.{Visible, Reading, Behind, Onward, arguments, listed_tokens, ports_of, id_names, word_at, words_at, width_at}
use Rattle.bg_terms.specs.Trees.{node_of, node_read, reference_of, reference_read, id_read, names_read, merger_read}
use Rattle.bg_terms.specs.Trees.{brackets_read, closure_read, deeper_read, nested_read, items_read, binary_read}
use Rattle.bg_terms.specs.Trees.{a_read, k_read, n1_read, c_read, c1_item_read, e_read, e1_item_read, m_read, m1_item_read, n_read, p_read, p1_item_read}
use Rattle.bg_terms.proofs.Made.{a_made, k_made, n1_made, c_made, c1_item_made, e_made, e1_item_made, m_made, m1_item_made, n_made, p_made, p1_item_made}

-- ---- results that are not refused

-- what goes on with a value that the first has
then_so : {A B : Type 0} (P : A → Type 0) (Q : B → Type 0) (r : Result A Refusal) (f : A → Result B Refusal)
    → IfOk r P → ((x : A) → P x → IfOk (f x) Q) → IfOk (r >>= f) Q
then_so P Q (Ok x) f so goes = goes x so
then_so P Q (Err refusal) f so goes = tt

then_any : {A B : Type 0} (Q : B → Type 0) (r : Result A Refusal) (f : A → Result B Refusal) → ((x : A) → IfOk (f x) Q) → IfOk (r >>= f) Q
then_any Q (Ok x) f goes = goes x
then_any Q (Err refusal) f goes = tt

-- what goes on with a number that is the wanted one
same_so : {A : Type 0} (Q : A → Type 0) (m n : ℕ) (cause : Cause) (at : ℕ) (r : Result A Refusal) → (m ≡ n → IfOk r Q)
    → IfOk (if not (m == n) then refused cause at else r) Q
same_so Q m n cause at r goes = by (m == n) (λ same. goes (eqb-true m n same))
  where
    by : (b : Bool) → (b ≡ true → IfOk r Q) → IfOk (if not b then refused cause at else r) Q
    by true so = so refl
    by false so = tt

-- as many words as tokens
words_read : (visible : Visible) (tokens : List ℕ) → IfOk (words_at visible tokens) (λ words. length words ≡ length tokens)
words_read visible [] = refl
words_read visible (token ∷ tokens) =
    then_any (λ words. length words ≡ length (token ∷ tokens)) (word_at visible token) _
    (λ word. then_so (λ words. length words ≡ length tokens) (λ words. length words ≡ length (token ∷ tokens)) (words_at visible tokens) _
    (words_read visible tokens) (λ words same. ap suc same))

-- ---- claims

-- the claim holds of each form whose names were looked up, where it holds of its parts
pub record IsKept (visible : Visible) (P : Expression → Type 0) : Type 0 where
  pub of_node : (at number : ℕ) (entry : ControlEntry) (args : List Operand) (words : List (List ℕ))
      → look_up (spelling visible.scope at) visible.controls ≡ Some (number, entry) → length words ≡ entry.shape.arity → P (node at number args words)
  pub of_reference : (at number formals : ℕ) (args : List Operand)
      → look_up (spelling visible.scope at) visible.bigraphs ≡ Some (number, formals) → P (reference at number args)
  pub of_names : (at : ℕ) (words : List (List ℕ)) → P (names at words)
  pub of_identity : (at width : ℕ) (words : List (List ℕ)) → P (identity_of at width words)
  pub of_merger : (at width : ℕ) → P (merger_of at width)
  pub of_barren : (at : ℕ) → P (barren at)
  pub of_empty : (at : ℕ) → P (empty at)
  pub in_brackets : (at : ℕ) (e : Expression) → P e → P (brackets at e)
  pub in_deeper : (at : ℕ) (e : Expression) → P e → P (deeper at e)
  pub in_closure : (at : ℕ) (word : List ℕ) (e : Expression) → P e → P (closure at word e)
  pub in_nesting : (at : ℕ) (is_atom : Bool) (e d : Expression) → P e → P d → P (nesting at is_atom e d)
  pub in_binary : (kind : BinaryOperation) (at : ℕ) (e d : Expression) → P e → P d → P (binary kind at e d)

-- a type of trees by the types of their parts
abbrev Layer : Type 1
Layer =
    Type 0 → Type 0 → Type 0 → Type 0 → Type 0 → Type 0 → Type 0 → Type 0 → Type 0 → Type 0 → Type 0 → Type 0 → Type 0

module _ (visible : Visible) (P : Expression → Type 0) (kept : IsKept visible P) where
  -- what a tree says, what stands behind a dot, and what an item of a list says behind such an expression
  abbrev Says : (Visible → Result Expression Refusal) → Type 0
  Says read = IfOk (read visible) P

  abbrev SaysBehind : Behind → Type 0
  SaysBehind (Some behind) = Says behind.1.1
  SaysBehind None = Unit {0}

  abbrev Keeps : Onward → Type 0
  Keeps item = (e : Expression) → P e → IfOk (item visible e) P

  -- ---- the forms

  node_found : (at : ℕ) (args : List SynX) (ports : List ℕ) (found : ℕ × ControlEntry)
      → look_up (spelling visible.scope at) visible.controls ≡ Some found → IfOk (node_of visible at args ports found) P
  node_found at args ports found is =
      same_so P (length args) found.1.formals _ at _
      (λ few. same_so P (length ports) found.1.shape.arity _ at _
      (λ same. then_any P (operands_read visible.scope args) _
      (λ fs. then_so (λ words. length words ≡ length ports) P (words_at visible ports) _ (words_read visible ports)
      (λ words as_many. kept.of_node at found.0 found.1 fs words is (as_many ∙ same)))))

  node_says : (at : ℕ) (args : List SynX) (ports : List ℕ) → Says (node_read at args ports)
  node_says at args ports = by (look_up (spelling visible.scope at) visible.controls) (λ found is. node_found at args ports found is)
    where
      by : (o : Option (ℕ × ControlEntry)) → ((found : ℕ × ControlEntry) → o ≡ Some found → IfOk (node_of visible at args ports found) P)
          → IfOk (there_or UnknownName at o >>= node_of visible at args ports) P
      by (Some found) so = so found refl
      by None so = tt

  reference_says : (at : ℕ) (args : List SynX) → Says (reference_read at args)
  reference_says at args =
      by (look_up (spelling visible.scope at) visible.bigraphs)
      (λ found is. same_so P (length args) found.1 _ at _ (λ few. then_any P (operands_read visible.scope args) _ (λ fs. kept.of_reference at found.0 found.1 fs is)))
    where
      by : (o : Option (ℕ × ℕ)) → ((found : ℕ × ℕ) → o ≡ Some found → IfOk (reference_of visible at args found) P)
          → IfOk (there_or UnknownName at o >>= reference_of visible at args) P
      by (Some found) so = so found refl
      by None so = tt

  names_say : (at : ℕ) (tokens : List ℕ) → Says (names_read at tokens)
  names_say at tokens = then_any P (words_at visible tokens) _ (λ words. kept.of_names at words)

  identity_says : (at : ℕ) (tail : SynIdTail) → Says (id_read at tail)
  identity_says at (id_tail_ways.Way1 bracket number list end) =
      then_any P (width_at visible number) _ (λ width. then_any P (words_at visible (id_names list)) _ (λ words. kept.of_identity at width words))
  identity_says at (id_tail_ways.Way2 bracket list end) = then_any P (words_at visible (listed_tokens list)) _ (λ words. kept.of_identity at 0 words)
  identity_says at id_tail_ways.Way3 = kept.of_identity at 1 []

  merger_says : (at : ℕ) (number : SynNumber) → Says (merger_read at number)
  merger_says at number = then_any P (width_at visible number) _ (λ width. kept.of_merger at width)

  brackets_say : (at : ℕ) (inside : Reading) → Says inside.1 → Says (brackets_read at inside)
  brackets_say at inside so = then_so P P (inside.1 visible) _ so (λ e p. kept.in_brackets at e p)

  closure_says : (slash name : ℕ) (inside : Reading) → Says inside.1 → Says (closure_read slash name inside)
  closure_says slash name inside so =
      then_any P (word_at visible name) _
      (λ word. then_so P P (inside.1 visible) _ so (λ e p. kept.in_deeper slash (closure slash word e) (kept.in_closure slash word e p)))

  deeper_says : (inside : Reading) → Says inside.1 → Says (deeper_read inside)
  deeper_says inside so = then_so P P (inside.1 visible) _ so (λ e p. kept.in_deeper inside.0 e p)

  nested_says : (is_atom : Bool) (behind : Behind) → SaysBehind behind → Keeps (nested_read is_atom behind)
  nested_says is_atom (Some behind) so e p = then_so P P (behind.1.1 visible) _ so (λ d q. kept.in_nesting behind.0 is_atom e d p q)
  nested_says is_atom None so e p = p

  joined_says : (kind : BinaryOperation) (at : ℕ) (right : Reading) → Says right.1 → Keeps (binary_read kind at right)
  joined_says kind at right so e p = then_so P P (right.1 visible) _ so (λ d q. kept.in_binary kind at e d p q)

  items_say : {X : Type 0} (read : X → Onward) (items : List ((x : X) × Keeps (read x))) → Keeps (items_read (map read (map (λ w. w.0) items)))
  items_say read [] e p = p
  items_say read (w ∷ items) e p = then_so P P (read w.0 visible e) _ (w.1 e p) (λ d q. items_say read items d q)

  -- a tree with the items of its list
  row_says : {X : Type 0} (first : Reading) (read : X → Onward) (items : List ((x : X) × Keeps (read x))) → Says first.1
      → IfOk (first.1 visible >>= items_read (map read (map (λ w. w.0) items)) visible) P
  row_says first read items so = then_so P P (first.1 visible) _ so (λ e p. items_say read items e p)

  -- ---- the trees, each with the claim for its parts

  abbrev OfA : SynA → Type 0
  OfA x = Says (a_read x).1

  abbrev WithA : Type 0
  WithA = (x : SynA) × OfA x

  abbrev OfK : SynK → Type 0
  OfK x = Says (k_read x).1

  abbrev WithK : Type 0
  WithK = (x : SynK) × OfK x

  abbrev OfN1 : SynN1 → Type 0
  OfN1 x = SaysBehind (n1_read x)

  abbrev WithN1 : Type 0
  WithN1 = (x : SynN1) × OfN1 x

  abbrev OfC : SynC → Type 0
  OfC x = Says (c_read x).1

  abbrev WithC : Type 0
  WithC = (x : SynC) × OfC x

  abbrev OfC1Item : SynC1Item → Type 0
  OfC1Item x = Keeps (c1_item_read x)

  abbrev WithC1Item : Type 0
  WithC1Item = (x : SynC1Item) × OfC1Item x

  abbrev OfE : SynE → Type 0
  OfE x = Says (e_read x).1

  abbrev WithE : Type 0
  WithE = (x : SynE) × OfE x

  abbrev OfE1Item : SynE1Item → Type 0
  OfE1Item x = Keeps (e1_item_read x)

  abbrev WithE1Item : Type 0
  WithE1Item = (x : SynE1Item) × OfE1Item x

  abbrev OfM : SynM → Type 0
  OfM x = Says (m_read x).1

  abbrev WithM : Type 0
  WithM = (x : SynM) × OfM x

  abbrev OfM1Item : SynM1Item → Type 0
  OfM1Item x = Keeps (m1_item_read x)

  abbrev WithM1Item : Type 0
  WithM1Item = (x : SynM1Item) × OfM1Item x

  abbrev OfN : SynN → Type 0
  OfN x = Says (n_read x).1

  abbrev WithN : Type 0
  WithN = (x : SynN) × OfN x

  abbrev OfP : SynP → Type 0
  OfP x = Says (p_read x).1

  abbrev WithP : Type 0
  WithP = (x : SynP) × OfP x

  abbrev OfP1Item : SynP1Item → Type 0
  OfP1Item x = Keeps (p1_item_read x)

  abbrev WithP1Item : Type 0
  WithP1Item = (x : SynP1Item) × OfP1Item x

  -- the types of trees whose parts have the claim, and of trees
  abbrev With : Layer → Type 0
  With F = F WithA WithK WithN1 WithC WithC1Item WithE WithE1Item WithM WithM1Item WithN WithP WithP1Item

  abbrev Bare : Layer → Type 0
  Bare F = F SynA SynK SynN1 SynC SynC1Item SynE SynE1Item SynM SynM1Item SynN SynP SynP1Item

  abbrev a_bare : With SynA-F → Bare SynA-F
  a_bare =
      map-SynA WithA WithK WithN1 WithC WithC1Item WithE WithE1Item WithM WithM1Item WithN WithP WithP1Item
      SynA SynK SynN1 SynC SynC1Item SynE SynE1Item SynM SynM1Item SynN SynP SynP1Item
      (λ w. w.0) (λ w. w.0) (λ w. w.0) (λ w. w.0) (λ w. w.0) (λ w. w.0) (λ w. w.0) (λ w. w.0) (λ w. w.0) (λ w. w.0) (λ w. w.0) (λ w. w.0)

  a_grows : (y : With SynA-F) → OfA (roll-SynA (a_bare y))
  a_grows (a_1 upper args ports) = subst (λ r. Says r.1) (sym (a_made (a_bare (a_1 upper args ports)))) (node_says upper (arguments args) (ports_of ports))
  a_grows (a_2 ref) = subst (λ r. Says r.1) (sym (a_made (a_bare (a_2 ref)))) (reference_says ref.part1 (arguments ref.part2))
  a_grows (a_3 bracket list end) = subst (λ r. Says r.1) (sym (a_made (a_bare (a_3 bracket list end)))) (names_say bracket (listed_tokens list))
  a_grows (a_4 at tail) = subst (λ r. Says r.1) (sym (a_made (a_bare (a_4 at tail)))) (identity_says at tail)
  a_grows (a_5 at bracket number end) = subst (λ r. Says r.1) (sym (a_made (a_bare (a_5 at bracket number end)))) (merger_says at number)
  a_grows (a_6 at) = subst (λ r. Says r.1) (sym (a_made (a_bare (a_6 at)))) (kept.of_empty at)
  a_grows (a_7 at) = subst (λ r. Says r.1) (sym (a_made (a_bare (a_7 at)))) (kept.of_barren at)
  a_grows (a_8 bracket e end) = subst (λ r. Says r.1) (sym (a_made (a_bare (a_8 bracket e end)))) (brackets_say bracket (e_read e.value.0) e.value.1)

  abbrev k_bare : With SynK-F → Bare SynK-F
  k_bare =
      map-SynK WithA WithK WithN1 WithC WithC1Item WithE WithE1Item WithM WithM1Item WithN WithP WithP1Item
      SynA SynK SynN1 SynC SynC1Item SynE SynE1Item SynM SynM1Item SynN SynP SynP1Item
      (λ w. w.0) (λ w. w.0) (λ w. w.0) (λ w. w.0) (λ w. w.0) (λ w. w.0) (λ w. w.0) (λ w. w.0) (λ w. w.0) (λ w. w.0) (λ w. w.0) (λ w. w.0)

  k_grows : (y : With SynK-F) → OfK (roll-SynK (k_bare y))
  k_grows (k_1 slash lower k) = subst (λ r. Says r.1) (sym (k_made (k_bare (k_1 slash lower k)))) (closure_says slash lower (k_read k.value.0) k.value.1)
  k_grows (k_2 n) = subst (λ r. Says r.1) (sym (k_made (k_bare (k_2 n)))) (deeper_says (n_read n.value.0) n.value.1)

  abbrev n1_bare : With SynN1-F → Bare SynN1-F
  n1_bare =
      map-SynN1 WithA WithK WithN1 WithC WithC1Item WithE WithE1Item WithM WithM1Item WithN WithP WithP1Item
      SynA SynK SynN1 SynC SynC1Item SynE SynE1Item SynM SynM1Item SynN SynP SynP1Item
      (λ w. w.0) (λ w. w.0) (λ w. w.0) (λ w. w.0) (λ w. w.0) (λ w. w.0) (λ w. w.0) (λ w. w.0) (λ w. w.0) (λ w. w.0) (λ w. w.0) (λ w. w.0)

  n1_grows : (y : With SynN1-F) → OfN1 (roll-SynN1 (n1_bare y))
  n1_grows (n1_1 dot k) = subst SaysBehind (sym (n1_made (n1_bare (n1_1 dot k)))) k.value.1
  n1_grows n1_2 = subst SaysBehind (sym (n1_made (n1_bare n1_2))) tt

  abbrev c_bare : With SynC-F → Bare SynC-F
  c_bare =
      map-SynC WithA WithK WithN1 WithC WithC1Item WithE WithE1Item WithM WithM1Item WithN WithP WithP1Item
      SynA SynK SynN1 SynC SynC1Item SynE SynE1Item SynM SynM1Item SynN SynP SynP1Item
      (λ w. w.0) (λ w. w.0) (λ w. w.0) (λ w. w.0) (λ w. w.0) (λ w. w.0) (λ w. w.0) (λ w. w.0) (λ w. w.0) (λ w. w.0) (λ w. w.0) (λ w. w.0)

  c_grows : (y : With SynC-F) → OfC (roll-SynC (c_bare y))
  c_grows y = subst (λ r. Says r.1) (sym (c_made (c_bare y))) (row_says (k_read y.part1.value.0) c1_item_read y.part2.items y.part1.value.1)

  abbrev c1_item_bare : With SynC1Item-F → Bare SynC1Item-F
  c1_item_bare =
      map-SynC1Item WithA WithK WithN1 WithC WithC1Item WithE WithE1Item WithM WithM1Item WithN WithP WithP1Item
      SynA SynK SynN1 SynC SynC1Item SynE SynE1Item SynM SynM1Item SynN SynP SynP1Item
      (λ w. w.0) (λ w. w.0) (λ w. w.0) (λ w. w.0) (λ w. w.0) (λ w. w.0) (λ w. w.0) (λ w. w.0) (λ w. w.0) (λ w. w.0) (λ w. w.0) (λ w. w.0)

  c1_item_grows : (y : With SynC1Item-F) → OfC1Item (roll-SynC1Item (c1_item_bare y))
  c1_item_grows y = subst Keeps (sym (c1_item_made (c1_item_bare y))) (joined_says Composition y.part1 (k_read y.part2.value.0) y.part2.value.1)

  abbrev e_bare : With SynE-F → Bare SynE-F
  e_bare =
      map-SynE WithA WithK WithN1 WithC WithC1Item WithE WithE1Item WithM WithM1Item WithN WithP WithP1Item
      SynA SynK SynN1 SynC SynC1Item SynE SynE1Item SynM SynM1Item SynN SynP SynP1Item
      (λ w. w.0) (λ w. w.0) (λ w. w.0) (λ w. w.0) (λ w. w.0) (λ w. w.0) (λ w. w.0) (λ w. w.0) (λ w. w.0) (λ w. w.0) (λ w. w.0) (λ w. w.0)

  e_grows : (y : With SynE-F) → OfE (roll-SynE (e_bare y))
  e_grows y = subst (λ r. Says r.1) (sym (e_made (e_bare y))) (row_says (p_read y.part1.value.0) e1_item_read y.part2.items y.part1.value.1)

  abbrev e1_item_bare : With SynE1Item-F → Bare SynE1Item-F
  e1_item_bare =
      map-SynE1Item WithA WithK WithN1 WithC WithC1Item WithE WithE1Item WithM WithM1Item WithN WithP WithP1Item
      SynA SynK SynN1 SynC SynC1Item SynE SynE1Item SynM SynM1Item SynN SynP SynP1Item
      (λ w. w.0) (λ w. w.0) (λ w. w.0) (λ w. w.0) (λ w. w.0) (λ w. w.0) (λ w. w.0) (λ w. w.0) (λ w. w.0) (λ w. w.0) (λ w. w.0) (λ w. w.0)

  e1_item_grows : (y : With SynE1Item-F) → OfE1Item (roll-SynE1Item (e1_item_bare y))
  e1_item_grows y = subst Keeps (sym (e1_item_made (e1_item_bare y))) (joined_says Tensor y.part1 (p_read y.part2.value.0) y.part2.value.1)

  abbrev m_bare : With SynM-F → Bare SynM-F
  m_bare =
      map-SynM WithA WithK WithN1 WithC WithC1Item WithE WithE1Item WithM WithM1Item WithN WithP WithP1Item
      SynA SynK SynN1 SynC SynC1Item SynE SynE1Item SynM SynM1Item SynN SynP SynP1Item
      (λ w. w.0) (λ w. w.0) (λ w. w.0) (λ w. w.0) (λ w. w.0) (λ w. w.0) (λ w. w.0) (λ w. w.0) (λ w. w.0) (λ w. w.0) (λ w. w.0) (λ w. w.0)

  m_grows : (y : With SynM-F) → OfM (roll-SynM (m_bare y))
  m_grows y = subst (λ r. Says r.1) (sym (m_made (m_bare y))) (row_says (c_read y.part1.value.0) m1_item_read y.part2.items y.part1.value.1)

  abbrev m1_item_bare : With SynM1Item-F → Bare SynM1Item-F
  m1_item_bare =
      map-SynM1Item WithA WithK WithN1 WithC WithC1Item WithE WithE1Item WithM WithM1Item WithN WithP WithP1Item
      SynA SynK SynN1 SynC SynC1Item SynE SynE1Item SynM SynM1Item SynN SynP SynP1Item
      (λ w. w.0) (λ w. w.0) (λ w. w.0) (λ w. w.0) (λ w. w.0) (λ w. w.0) (λ w. w.0) (λ w. w.0) (λ w. w.0) (λ w. w.0) (λ w. w.0) (λ w. w.0)

  m1_item_grows : (y : With SynM1Item-F) → OfM1Item (roll-SynM1Item (m1_item_bare y))
  m1_item_grows y = subst Keeps (sym (m1_item_made (m1_item_bare y))) (joined_says Merge y.part1 (c_read y.part2.value.0) y.part2.value.1)

  abbrev n_bare : With SynN-F → Bare SynN-F
  n_bare =
      map-SynN WithA WithK WithN1 WithC WithC1Item WithE WithE1Item WithM WithM1Item WithN WithP WithP1Item
      SynA SynK SynN1 SynC SynC1Item SynE SynE1Item SynM SynM1Item SynN SynP SynP1Item
      (λ w. w.0) (λ w. w.0) (λ w. w.0) (λ w. w.0) (λ w. w.0) (λ w. w.0) (λ w. w.0) (λ w. w.0) (λ w. w.0) (λ w. w.0) (λ w. w.0) (λ w. w.0)

  n_grows : (y : With SynN-F) → OfN (roll-SynN (n_bare y))
  n_grows y =
      subst (λ r. Says r.1) (sym (n_made (n_bare y)))
      (then_so P P ((a_read y.part1.value.0).1 visible) _ y.part1.value.1
      (nested_says ((a_read y.part1.value.0).2 visible) (n1_read y.part2.value.0) y.part2.value.1))

  abbrev p_bare : With SynP-F → Bare SynP-F
  p_bare =
      map-SynP WithA WithK WithN1 WithC WithC1Item WithE WithE1Item WithM WithM1Item WithN WithP WithP1Item
      SynA SynK SynN1 SynC SynC1Item SynE SynE1Item SynM SynM1Item SynN SynP SynP1Item
      (λ w. w.0) (λ w. w.0) (λ w. w.0) (λ w. w.0) (λ w. w.0) (λ w. w.0) (λ w. w.0) (λ w. w.0) (λ w. w.0) (λ w. w.0) (λ w. w.0) (λ w. w.0)

  p_grows : (y : With SynP-F) → OfP (roll-SynP (p_bare y))
  p_grows y = subst (λ r. Says r.1) (sym (p_made (p_bare y))) (row_says (m_read y.part1.value.0) p1_item_read y.part2.items y.part1.value.1)

  abbrev p1_item_bare : With SynP1Item-F → Bare SynP1Item-F
  p1_item_bare =
      map-SynP1Item WithA WithK WithN1 WithC WithC1Item WithE WithE1Item WithM WithM1Item WithN WithP WithP1Item
      SynA SynK SynN1 SynC SynC1Item SynE SynE1Item SynM SynM1Item SynN SynP SynP1Item
      (λ w. w.0) (λ w. w.0) (λ w. w.0) (λ w. w.0) (λ w. w.0) (λ w. w.0) (λ w. w.0) (λ w. w.0) (λ w. w.0) (λ w. w.0) (λ w. w.0) (λ w. w.0)

  p1_item_grows : (y : With SynP1Item-F) → OfP1Item (roll-SynP1Item (p1_item_bare y))
  p1_item_grows y = subst Keeps (sym (p1_item_made (p1_item_bare y))) (joined_says Parallel y.part1 (m_read y.part2.value.0) y.part2.value.1)

  pub tree_says : (x : SynE) → OfE x
  tree_says = ind-SynE OfA OfK OfN1 OfC OfC1Item OfE OfE1Item OfM OfM1Item OfN OfP OfP1Item
      (λ x y is. subst (λ z. OfA (roll-SynA z)) is (a_grows y))
      (λ x y is. subst (λ z. OfK (roll-SynK z)) is (k_grows y))
      (λ x y is. subst (λ z. OfN1 (roll-SynN1 z)) is (n1_grows y))
      (λ x y is. subst (λ z. OfC (roll-SynC z)) is (c_grows y))
      (λ x y is. subst (λ z. OfC1Item (roll-SynC1Item z)) is (c1_item_grows y))
      (λ x y is. subst (λ z. OfE (roll-SynE z)) is (e_grows y))
      (λ x y is. subst (λ z. OfE1Item (roll-SynE1Item z)) is (e1_item_grows y))
      (λ x y is. subst (λ z. OfM (roll-SynM z)) is (m_grows y))
      (λ x y is. subst (λ z. OfM1Item (roll-SynM1Item z)) is (m1_item_grows y))
      (λ x y is. subst (λ z. OfN (roll-SynN z)) is (n_grows y))
      (λ x y is. subst (λ z. OfP (roll-SynP z)) is (p_grows y))
      (λ x y is. subst (λ z. OfP1Item (roll-SynP1Item z)) is (p1_item_grows y))
