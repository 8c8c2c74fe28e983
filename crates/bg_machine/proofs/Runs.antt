-- The code of an expression comes to the value of its term.
use Rattle.std.proofs.Common.{◌≡◌, ℕ, zero, suc, ◌+◌, ◌-◌, nat_lt, Bool, true, false, cond, arith, List, [], ◌∷◌, ◌++◌, map, Option, Some, None, Result, Ok, Err, refl, ap, ◌∙◌, slice_get}
use Rattle.bg_base.specs.Limits.{most_depth}
use Rattle.bg_base.specs.declared.big.Big.{Big}
use Rattle.bg_base.specs.declared.labels.Value.{Value}
use Rattle.bg_base.specs.declared.names.Name.TheVariants.{Plain}
use Rattle.bg_code.specs.declared.operation.Operation.{Operation}
use Rattle.bg_code.specs.declared.operation.Operation.TheVariants as operations
use Rattle.bg_code.specs.Code.{code_of}
use Rattle.bg_machine.specs.States.{State, pushed, gone_on}
use Rattle.bg_builder.specs.Numbers.{numbers_follow, lies_behind}
use Rattle.bg_machine.specs.Machine.{Running, counted_node, comes_to, called, joined, step, run, running_after, running_of}
use Rattle.bg_machine.proofs.Follow.{values_follow, lies_behind_its_closure}
use Rattle.bg_machine.proofs.Bindings.{run_append, run_none}
use Rattle.bg_terms.specs.declared.shape.Shape.{Shape}
use Rattle.bg_terms.specs.Expansion.{Meaning, with_values, node_term, meant, expand, meanings_after, meanings_of}
use Rattle.bg_terms.specs.Expressions.{Expression, node, reference, names, identity_of, merger_of, barren, empty, brackets, deeper, closure, nesting, binary}
use Rattle.bg_terms.specs.Terms as terms
use Rattle.bg_terms.specs.Terms.{Term}
use Rattle.bg_terms.specs.Values.{Reached, Come, value, tallied, within, name_closed, nested, combined}
use Rattle.bg_values.specs.declared.refusal.Refusal.{Refusal}
use Rattle.bg_values.specs.declared.refusal.LimitWord.TheVariants.{Depth}
use Rattle.bg_values.specs.declared.refusal.Cause.TheVariants.{TooLarge, Unexpected}
use Rattle.bg_values.specs.Outcome.{◌>>=◌, refused}
use Rattle.bg_values.proofs.Bindings.{bind_same}
use Rattle.bg_values.proofs.Outcomes.{outcomes_coded}

-- a call of the definition does what its meaning comes to
abbrev pub Agrees : Running → Meaning → Type 0
Agrees m t = (args : List Value) (s : State) → m args s ≡ comes_to s (t args)

-- the definitions agree one by one
pub data Agree : List Running → List Meaning → Type 0 where
  agree_none : Agree [] []
  agree_first : {m : Running} {t : Meaning} {ms : List Running} {ts : List Meaning} → Agrees m t → Agree ms ts → Agree (m ∷ ms) (t ∷ ts)

agree_at : {ms : List Running} {ts : List Meaning} → Agree ms ts → (at n : ℕ) (args : List Value) (s : State)
    → called at (slice_get ms n) args s ≡ comes_to s (meant at (slice_get ts n) args)
agree_at agree_none at zero args s = refl
agree_at agree_none at (suc n) args s = refl
agree_at (agree_first first others) at zero args s = first args s
agree_at (agree_first first others) at (suc n) args s = agree_at others at n args s

agree_more : {ms : List Running} {ts : List Meaning} (m : Running) (t : Meaning) → Agree ms ts → Agrees m t → Agree (ms ++ m ∷ []) (ts ++ t ∷ [])
agree_more m t agree_none last = agree_first last agree_none
agree_more m t (agree_first first others) last = agree_first first (agree_more m t others last)

-- one form after the other; `r` is what a part comes to

counted_go : (s : State) (t : Term) (r : Result Reached Refusal) (go : State → Result State Refusal)
    → ((c : Reached) → go (record s { reached = c }) ≡ pushed s (value s.depth t c))
    → gone_on s r >>= go ≡ pushed s (r >>= value s.depth t)
counted_go s t (Ok c) go goes = goes c
counted_go s t (Err e) go goes = refl

reference_go : (s : State) (at : ℕ) (r : Result Reached Refusal) (vs : Result (List Value) Refusal) (m : List Value → State → Result State Refusal) (t : List Value → Term)
    → r ≡ tallied at s.reached → ((args : List Value) (u : State) → m args u ≡ comes_to u (t args))
    → gone_on s r >>= (λ u. vs >>= λ args. m args u) ≡ comes_to s (with_values at vs (λ args. terms.counted at (t args)))
reference_go s at r (Ok args) m t is goes =
    counted_go s (t args) r (m args) (λ c. goes args (record s { reached = c })) ∙ ap (λ z. pushed s (z >>= value s.depth (t args))) is
reference_go s at (Ok c) (Err e) m t is goes = ap (λ z. pushed s (z >>= value s.depth (terms.refusal e))) is
reference_go s at (Err e) (Err other) m t is goes = ap (λ z. pushed s (z >>= value s.depth (terms.refusal other))) is

node_go : (s : State) (at : ℕ) (found : Option Shape) (words : List (List ℕ)) (vs : Result (List Value) Refusal)
    → pushed s (counted_node at vs found words s.reached) ≡ comes_to s (with_values at vs (node_term at found words))
node_go s at (Some shape) words (Ok args) = refl
node_go s at None words (Ok args) = refl
node_go s at found words (Err e) = refl

-- a `K` ends
left_go : (shapes : List Shape) (ms : List Running) (env : List Value) (s : State) (r : Come)
    → pushed (record s { depth = s.depth + 1 }) r >>= run shapes ms env (operations.Leave ∷ []) ≡ pushed s r
left_go shapes ms env s (Ok v) =
    ap (λ d. Ok (record s { stack = v.0 ∷ s.stack; reached = v.1; depth = d })) back
  where
    back : s.depth + 1 - 1 ≡ s.depth
    back = omega arith
left_go shapes ms env s (Err e) = refl

deeper_go : (at : ℕ) (s : State) (b : Bool) (go : State → Result State Refusal) (t : Term)
    → go (record s { depth = s.depth + 1 }) ≡ pushed s (value (s.depth + 1) t s.reached)
    → (cond b (Ok (record s { depth = s.depth + 1 })) (refused (TooLarge Depth) at)) >>= go
    ≡ pushed s (cond b (value (s.depth + 1) t s.reached) (refused (TooLarge Depth) at))
deeper_go at s true go t goes = goes
deeper_go at s false go t goes = refl

-- a closure ends
closed_go : (shapes : List Shape) (ms : List Running) (env : List Value) (at : ℕ) (word : List ℕ) (edge : ℕ) (s : State) (c : Reached) (r : Come)
    → ((v : Big × Reached) → r ≡ Ok v → lies_behind edge v.0 ≡ true)
    → pushed (record s { edges_open = edge ∷ s.edges_open; reached = c }) r >>= run shapes ms env (operations.Close at word ∷ [])
    ≡ pushed s (r >>= λ v. within at (name_closed edge (Plain word) v.0) v.1)
closed_go shapes ms env at word edge s c (Ok v) behind =
    run_none shapes ms env _
    ∙ ap (λ b. cond b (pushed s (within at (name_closed edge (Plain word) v.0) v.1)) (refused Unexpected at)) (behind v refl)
closed_go shapes ms env at word edge s c (Err e) behind = refl

-- both operands stand on the stack
joined_go : (at : ℕ) (s : State) (operation : Big → Big → Result Big Refusal) (f : Big × Reached) (r : Come)
    → ((g : Big × Reached) → r ≡ Ok g → numbers_follow f.0 g.0 ≡ true)
    → pushed (record s { stack = f.0 ∷ s.stack; reached = f.1 }) r >>= joined at operation
    ≡ pushed s (r >>= λ g. operation f.0 g.0 >>= λ big. within at big g.1)
joined_go at s operation f (Ok g) apart =
    ap (λ b. cond b (pushed s (operation f.0 g.0 >>= λ big. within at big g.1)) (refused Unexpected at)) (apart g refl)
joined_go at s operation f (Err e) apart = refl

module _ (shapes : List Shape) where
  -- two operands and their operator
  both_go : (ms : List Running) (env : List Value) (op : Operation) (at : ℕ) (operation : Big → Big → Result Big Refusal)
      → ((u : State) → step shapes ms env op u ≡ joined at operation u)
      → (code : List Operation) (s : State) (r : Come) (q : Reached → Come)
      → ((f : Big × Reached) → run shapes ms env code (record s { stack = f.0 ∷ s.stack; reached = f.1 })
      ≡ pushed (record s { stack = f.0 ∷ s.stack; reached = f.1 }) (q f.1))
      → ((f g : Big × Reached) → r ≡ Ok f → q f.1 ≡ Ok g → numbers_follow f.0 g.0 ≡ true)
      → pushed s r >>= run shapes ms env (code ++ op ∷ [])
      ≡ pushed s (r >>= λ f. q f.1 >>= λ g. operation f.0 g.0 >>= λ big. within at big g.1)
  both_go ms env op at operation steps code s (Ok f) q goes apart =
      run_append shapes ms env code (op ∷ []) (record s { stack = f.0 ∷ s.stack; reached = f.1 })
      ∙ ap (λ z. z >>= run shapes ms env (op ∷ [])) (goes f)
      ∙ bind_same (pushed (record s { stack = f.0 ∷ s.stack; reached = f.1 }) (q f.1)) (run shapes ms env (op ∷ [])) (joined at operation)
      (λ u. run_none shapes ms env (step shapes ms env op u) ∙ steps u)
      ∙ joined_go at s operation f (q f.1) (λ g is. apart f g refl is)
  both_go ms env op at operation steps code s (Err e) q goes apart = refl

  pub runs : {ms : List Running} {ts : List Meaning} → Agree ms ts → (env : List Value) (e : Expression) (s : State)
      → run shapes ms env (code_of e) s ≡ comes_to s (expand shapes ts env e)
  runs {ms} {ts} agree env (node at control args ports) s =
      run_none shapes ms env _
      ∙ node_go s at (slice_get shapes control) ports _
      ∙ ap (λ vs. comes_to s (with_values at vs (node_term at (slice_get shapes control) ports))) (outcomes_coded env args)
  runs {ms} {ts} agree env (reference at number args) s =
      run_none shapes ms env _
      ∙ ap (λ vs. gone_on s (tallied at s.reached) >>= λ u. vs >>= λ xs. called at (slice_get ms number) xs u) (outcomes_coded env args)
      ∙ reference_go s at (tallied at s.reached) _ (called at (slice_get ms number)) (meant at (slice_get ts number)) refl (agree_at agree at number)
  runs {ms} agree env (names at words) s = run_none shapes ms env _
  runs {ms} agree env (identity_of at width words) s = run_none shapes ms env _
  runs {ms} agree env (merger_of at width) s = run_none shapes ms env _
  runs {ms} agree env (barren at) s = run_none shapes ms env _
  runs {ms} agree env (empty at) s = run_none shapes ms env _
  runs {ms} {ts} agree env (brackets at e) s =
      counted_go s (expand shapes ts env e) (tallied at s.reached) (run shapes ms env (code_of e)) (λ c. runs agree env e (record s { reached = c }))
  runs {ms} {ts} agree env (deeper at e) s =
      deeper_go at s (nat_lt s.depth most_depth) (run shapes ms env (code_of e ++ operations.Leave ∷ [])) (expand shapes ts env e)
      (run_append shapes ms env (code_of e) (operations.Leave ∷ []) (record s { depth = s.depth + 1 })
      ∙ ap (λ z. z >>= run shapes ms env (operations.Leave ∷ [])) (runs agree env e (record s { depth = s.depth + 1 }))
      ∙ left_go shapes ms env s (value (s.depth + 1) (expand shapes ts env e) s.reached))
  runs {ms} {ts} agree env (closure at word e) s =
      let opened : Reached = record (s.reached) { edges = s.reached.edges + 1 } in
      let inside : State = record s { edges_open = s.reached.edges ∷ s.edges_open; reached = opened } in
      run_append shapes ms env (code_of e) (operations.Close at word ∷ []) inside
      ∙ ap (λ z. z >>= run shapes ms env (operations.Close at word ∷ [])) (runs agree env e inside)
      ∙ closed_go shapes ms env at word s.reached.edges s opened (value s.depth (expand shapes ts env e) opened)
      (λ v is. lies_behind_its_closure s.depth (expand shapes ts env e) s.reached v.1 v.0 is)
  runs {ms} {ts} agree env (nesting at is_atom e d) s =
      run_append shapes ms env (code_of e) (code_of d ++ operations.Nest at is_atom ∷ []) s
      ∙ ap (λ z. z >>= run shapes ms env (code_of d ++ operations.Nest at is_atom ∷ [])) (runs agree env e s)
      ∙ both_go ms env (operations.Nest at is_atom) at (nested at is_atom) (λ u. refl) (code_of d) s (value s.depth (expand shapes ts env e) s.reached)
      (value s.depth (expand shapes ts env d)) (λ f. runs agree env d (record s { stack = f.0 ∷ s.stack; reached = f.1 }))
      (λ f g left right. values_follow s.depth (expand shapes ts env e) (expand shapes ts env d) s.reached f.1 g.1 f.0 g.0 left right)
  runs {ms} {ts} agree env (binary kind at e d) s =
      run_append shapes ms env (code_of e) (code_of d ++ operations.Join kind at ∷ []) s
      ∙ ap (λ z. z >>= run shapes ms env (code_of d ++ operations.Join kind at ∷ [])) (runs agree env e s)
      ∙ both_go ms env (operations.Join kind at) at (combined kind at) (λ u. refl) (code_of d) s (value s.depth (expand shapes ts env e) s.reached)
      (value s.depth (expand shapes ts env d)) (λ f. runs agree env d (record s { stack = f.0 ∷ s.stack; reached = f.1 }))
      (λ f g left right. values_follow s.depth (expand shapes ts env e) (expand shapes ts env d) s.reached f.1 g.1 f.0 g.0 left right)

  agree_after : (es : List Expression) {ms : List Running} {ts : List Meaning} → Agree ms ts
      → Agree (running_after shapes ms (map code_of es)) (meanings_after shapes ts es)
  agree_after [] agree = agree
  agree_after (e ∷ es) {ms} {ts} agree =
      agree_after es (agree_more (λ args s. run shapes ms args (code_of e) s) (λ args. expand shapes ts args e) agree (λ args s. runs agree args e s))

  pub definitions_agree : (es : List Expression) → Agree (running_of shapes (map code_of es)) (meanings_of shapes es)
  definitions_agree es = agree_after es agree_none
