-- What the loops over the operands of a list have made so far.
use Rattle.std.proofs.Common.{◌≡◌, ◌+◌, ◌<◌, ◌++◌, ◌∷◌, [], ℕ, List, Result, Ok, Err, map, drop, length, get_or, refl, sym, ap, subst, ◌∙◌, arith}
use Rattle.std.proofs.lemmas.List.{map-append, append_assoc, append-nil}
use Rattle.bg_base.specs.declared.labels.Value.{Value}
use Rattle.bg_trees.specs.declared.arithmetic.SynX.{SynX}
use Rattle.bg_trees.specs.declared.arithmetic.SynMoreXItem.{SynMoreXItem}
use Rattle.bg_values.specs.declared.operands.Operand.{Operand as Code}
use Rattle.bg_values.specs.declared.refusal.Refusal.{Refusal}
use Rattle.bg_values.specs.declared.refusal.Stop.{Stop}
use Rattle.bg_values.specs.declared.refusal.Stop.TheVariants as stops
use Rattle.bg_values.specs.Outcome.{◌>>=◌, each, Stops}
use Rattle.bg_values.specs.Operands.{Operand, operand_read, operands_read, trees_of, shown, coded, AreCodesOf}
use Rattle.bg_values.specs.Scopes.{ScopeParts}
use Rattle.bg_values.proofs.Bindings.{ok_same}
use Rattle.bg_values.proofs.Items.{item_and_others}

-- one more formula
pub codes_more : (done : List Operand) (codes new : List Code) (f : Operand) (code : Code)
    → AreCodesOf done codes → shown code ≡ coded f → new ≡ codes ++ code ∷ [] → AreCodesOf (done ++ f ∷ []) new
codes_more done codes new f code same one made =
    ap (map shown) made ∙ map-append shown codes (code ∷ [])
    ∙ ap (λ xs. xs ++ shown code ∷ []) same ∙ ap (λ x. map coded done ++ x ∷ []) one
    ∙ sym (map-append coded done (f ∷ []))

-- behind the formulas that were there stand some more, which others follow to make what is wanted
pub record Gathered (done : List Operand) (codes : List Code) (wanted others : Result (List Operand) Refusal) : Type 0 where
  pub more : List Operand
  pub same : AreCodesOf (done ++ more) codes
  pub wants : wanted ≡ (others >>= λ fs. Ok (more ++ fs))

first_go : (r : Result Operand Refusal) (others : Result (List Operand) Refusal) (fs : List Operand)
    → (r >>= λ f. ◌>>=◌ {A = List Operand} (Ok []) (λ gs. Ok (f ∷ gs))) ≡ Ok fs
    → (r >>= λ f. others >>= λ gs. Ok (f ∷ gs)) ≡ (others >>= λ gs. Ok (fs ++ gs))
first_go (Ok f) others fs is = ap (λ l. others >>= λ gs. Ok (l ++ gs)) (ok_same is)
first_go (Err e) others fs is = absurd cc

stop_go : (r : Result Operand Refusal) (others : Result (List Operand) Refusal) (refusal : Refusal)
    → (r >>= λ f. ◌>>=◌ {A = List Operand} (Ok []) (λ gs. Ok (f ∷ gs))) ≡ Err refusal
    → (r >>= λ f. others >>= λ gs. Ok (f ∷ gs)) ≡ Err refusal
stop_go (Ok f) others refusal is = absurd cc
stop_go (Err e) others refusal is = cc

behind_go : (r : Result (List Operand) Refusal) (more fs : List Operand)
    → ((r >>= λ gs. Ok (fs ++ gs)) >>= λ gs. Ok (more ++ gs)) ≡ (r >>= λ gs. Ok ((more ++ fs) ++ gs))
behind_go (Ok gs) more fs = ap Ok (sym (append_assoc more fs gs))
behind_go (Err e) more fs = refl

-- the items from one on are that one and the others
item_from : (items : List SynMoreXItem) (index : ℕ) (item : SynMoreXItem) → index < length items → item ≡ get_or items index item
    → trees_of (drop index items) ≡ item.part2 ∷ trees_of (drop (index + 1) items)
item_from items index item within is =
    ap trees_of (item_and_others items index item within is)

pub gathered_more : (scope : ScopeParts) (done : List Operand) (codes next : List Code) (wanted : Result (List Operand) Refusal)
    (items : List SynMoreXItem) (index : ℕ) (item : SynMoreXItem) → index < length items → item ≡ get_or items index item
    → Gathered done codes wanted (operands_read scope (trees_of (drop index items)))
    → ((before : List Operand) → AreCodesOf before codes → (fs : List Operand) × (operands_read scope (item.part2 ∷ []) ≡ Ok fs) × AreCodesOf (before ++ fs) next)
    → Gathered done next wanted (operands_read scope (trees_of (drop (index + 1) items)))
gathered_more scope done codes next wanted items index item within is gathered step =
    let one = step (done ++ gathered.more) gathered.same in
    let xs = trees_of (drop (index + 1) items) in
    record {
      more = gathered.more ++ one.0;
      same = subst (λ l. AreCodesOf l next) (append_assoc done gathered.more one.0) one.2;
      wants = gathered.wants
          ∙ ap (λ ts. operands_read scope ts >>= λ fs. Ok (gathered.more ++ fs)) (item_from items index item within is)
          ∙ ap (λ r. r >>= λ fs. Ok (gathered.more ++ fs)) (first_go (operand_read scope item.part2) (operands_read scope xs) one.0 one.1)
          ∙ behind_go (operands_read scope xs) gathered.more one.0;
    }

pub gathered_stops : (scope : ScopeParts) (done : List Operand) (codes : List Code) (wanted : Result (List Operand) Refusal)
    (items : List SynMoreXItem) (index : ℕ) (item : SynMoreXItem) (stop : Stop) → index < length items → item ≡ get_or items index item
    → Gathered done codes wanted (operands_read scope (trees_of (drop index items)))
    → Stops stop (operands_read scope (item.part2 ∷ [])) → Stops stop wanted
gathered_stops scope done codes wanted items index item (stops.Refused refusal) within is gathered refuses =
    gathered.wants
    ∙ ap (λ ts. operands_read scope ts >>= λ fs. Ok (gathered.more ++ fs)) (item_from items index item within is)
    ∙ ap (λ r. r >>= λ fs. Ok (gathered.more ++ fs))
    (stop_go (operand_read scope item.part2) (operands_read scope (trees_of (drop (index + 1) items))) refusal refuses)
gathered_stops scope done codes wanted items index item stops.OutOfMemory within is gathered refuses = tt

-- ---- a whole list

pub all_read : (scope : ScopeParts) (x : SynX) (xs : List SynX) (fs gs : List Operand)
    → operands_read scope (x ∷ []) ≡ Ok fs → operands_read scope xs ≡ Ok gs → operands_read scope (x ∷ xs) ≡ Ok (fs ++ gs)
all_read scope x xs fs gs first others =
    first_go (operand_read scope x) (operands_read scope xs) fs first ∙ ap (λ r. r >>= λ hs. Ok (fs ++ hs)) others

pub first_stops : (scope : ScopeParts) (x : SynX) (xs : List SynX) (stop : Stop)
    → Stops stop (operands_read scope (x ∷ [])) → Stops stop (operands_read scope (x ∷ xs))
first_stops scope x xs (stops.Refused refusal) refuses = stop_go (operand_read scope x) (operands_read scope xs) refusal refuses
first_stops scope x xs stops.OutOfMemory refuses = tt

pub others_stop : (scope : ScopeParts) (x : SynX) (xs : List SynX) (fs : List Operand) (stop : Stop)
    → operands_read scope (x ∷ []) ≡ Ok fs → Stops stop (operands_read scope xs) → Stops stop (operands_read scope (x ∷ xs))
others_stop scope x xs fs (stops.Refused refusal) first refuses =
    first_go (operand_read scope x) (operands_read scope xs) fs first ∙ ap (λ r. r >>= λ hs. Ok (fs ++ hs)) refuses
others_stop scope x xs fs stops.OutOfMemory first refuses = tt

-- ---- what the formulas come to

-- these values were found; what the other formulas come to follows them
pub record Evaluated (comes : Operand → Result Value Refusal) (found : List Value) (wanted : Result (List Value) Refusal) (others : List Code) : Type 0 where
  pub left : List Operand
  pub same : AreCodesOf left others
  pub wants : wanted ≡ (each comes left >>= λ vs. Ok (found ++ vs))

-- the first of some formulas and the others
pub record Opens (left : List Operand) (code : Code) (rest : List Code) : Type 0 where
  pub first : Operand
  pub others : List Operand
  pub is : left ≡ first ∷ others
  pub code_is : shown code ≡ coded first
  pub rest_are : AreCodesOf others rest

pub opened : (left : List Operand) (code : Code) (rest : List Code) → AreCodesOf left (code ∷ rest) → Opens left code rest
opened [] code rest same = absurd cc
opened (f ∷ fs) code rest same = record { first = f; others = fs; is = refl; code_is = cc; rest_are = cc }

value_go : (found : List Value) (v : Value) (r : Result (List Value) Refusal)
    → ((r >>= λ vs. Ok (v ∷ vs)) >>= λ vs. Ok (found ++ vs)) ≡ (r >>= λ vs. Ok ((found ++ v ∷ []) ++ vs))
value_go found v (Ok vs) = ap Ok (sym (append_assoc found (v ∷ []) vs))
value_go found v (Err e) = refl

pub evaluated_more : (comes : Operand → Result Value Refusal) (found next : List Value) (wanted : Result (List Value) Refusal) (code : Code) (rest : List Code) (v : Value)
    → Evaluated comes found wanted (code ∷ rest) → ((f : Operand) → shown code ≡ coded f → comes f ≡ Ok v) → next ≡ found ++ v ∷ []
    → Evaluated comes next wanted rest
evaluated_more comes found next wanted code rest v so_far gives made =
    let first = opened so_far.left code rest so_far.same in
    record {
      left = first.others;
      same = first.rest_are;
      wants = so_far.wants ∙ ap (λ fs. each comes fs >>= λ vs. Ok (found ++ vs)) first.is
          ∙ ap (λ r. (r >>= λ w. each comes first.others >>= λ vs. Ok (w ∷ vs)) >>= λ vs. Ok (found ++ vs)) (gives first.first first.code_is)
          ∙ value_go found v (each comes first.others)
          ∙ ap (λ l. each comes first.others >>= λ vs. Ok (l ++ vs)) (sym made);
    }

pub evaluation_stops : (comes : Operand → Result Value Refusal) (found : List Value) (wanted : Result (List Value) Refusal) (code : Code) (rest : List Code) (stop : Stop)
    → Evaluated comes found wanted (code ∷ rest) → ((f : Operand) → shown code ≡ coded f → Stops stop (comes f)) → Stops stop wanted
evaluation_stops comes found wanted code rest (stops.Refused refusal) so_far refuses =
    let first = opened so_far.left code rest so_far.same in
    so_far.wants ∙ ap (λ fs. each comes fs >>= λ vs. Ok (found ++ vs)) first.is
    ∙ ap (λ r. (r >>= λ w. each comes first.others >>= λ vs. Ok (w ∷ vs)) >>= λ vs. Ok (found ++ vs)) (refuses first.first first.code_is)
evaluation_stops comes found wanted code rest stops.OutOfMemory so_far refuses = tt

pub evaluation_ends : (comes : Operand → Result Value Refusal) (found : List Value) (wanted : Result (List Value) Refusal) (others : List Code) → length others ≡ 0
    → Evaluated comes found wanted others → wanted ≡ Ok found
evaluation_ends comes found wanted [] none so_far = so_far.wants ∙ ended so_far.left so_far.same
  where
    ended : (left : List Operand) → AreCodesOf left [] → (each comes left >>= λ vs. Ok (found ++ vs)) ≡ Ok found
    ended [] same = ap Ok (append-nil found)
    ended (f ∷ fs) same = absurd cc
evaluation_ends comes found wanted (code ∷ codes) none so_far = absurd (omega (arith, none))
