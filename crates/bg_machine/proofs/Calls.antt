-- What a call of a definition does.
use Rattle.std.proofs.Common.{◌≡◌, ◌+◌, ◌<◌, ◌++◌, ◌∷◌, [], ℕ, zero, suc, List, length, take, Some, None, refl, ap, ◌∙◌, arith, slice_get}
use Rattle.std.specs.Prelude.{option_map}
use Rattle.std.proofs.lemmas.List.{length-append}
use Rattle.std.proofs.lemmas.Option.{slice_get_past}
use Rattle.bg_base.specs.declared.labels.Value.{Value}
use Rattle.bg_code.specs.declared.operation.Operation.{Operation}
use Rattle.bg_machine.specs.States.{State}
use Rattle.bg_machine.specs.Machine.{Running, called, run, running_after, running_of}
use Rattle.bg_terms.specs.declared.shape.Shape.{Shape}
use Rattle.bg_values.proofs.Items.{last_item}
use Rattle.bg_lists.proofs.Places.{slice_get-append_left}

module _ (shapes : List Shape) where
  kept : (codes : List (List Operation)) (ms : List Running) (k : ℕ) → k < length ms → slice_get (running_after shapes ms codes) k ≡ slice_get ms k
  kept [] ms k less = refl
  kept (code ∷ codes) ms k less =
      kept codes (ms ++ (λ args s. run shapes ms args code s) ∷ []) k (omega (arith, less, length-append ms ((λ args s. run shapes ms args code s) ∷ [])))
      ∙ slice_get-append_left ms _ k less

  -- what the code of the definition does, where those before it may be called
  abbrev meaning_at : List Running → List (List Operation) → ℕ → List Operation → Running
  meaning_at ms codes k code = λ args s. run shapes (running_after shapes ms (take k codes)) args code s

  from_there : (codes : List (List Operation)) (ms : List Running) (k n : ℕ) → n ≡ length ms + k
      → slice_get (running_after shapes ms codes) n ≡ option_map (meaning_at ms codes k) (slice_get codes k)
  from_there [] ms k n is = slice_get_past ms n (omega (arith, is))
  from_there (code ∷ codes) ms zero n is =
      let m : Running = λ args s. run shapes ms args code s in
      let first_new : n ≡ length ms = omega (arith, is) in
      ap (slice_get (running_after shapes (ms ++ m ∷ []) codes)) first_new
      ∙ kept codes (ms ++ m ∷ []) (length ms) (omega (arith, length-append ms (m ∷ []))) ∙ last_item ms m
  from_there (code ∷ codes) ms (suc k) n is =
      let m : Running = λ args s. run shapes ms args code s in
      from_there codes (ms ++ m ∷ []) k n (omega (arith, is, length-append ms (m ∷ [])))

  pub called_at : (codes : List (List Operation)) (at number : ℕ) (args : List Value) (s : State) (code : List Operation) → slice_get codes number ≡ Some code
      → called at (slice_get (running_of shapes codes) number) args s ≡ run shapes (running_of shapes (take number codes)) args code s
  called_at codes at number args s code is =
      ap (λ o. called at o args s) (from_there codes [] number number (omega arith) ∙ ap (option_map (meaning_at [] codes number)) is)

  pub not_called : (codes : List (List Operation)) (number : ℕ) → slice_get codes number ≡ None
      → slice_get (running_of shapes codes) number ≡ None
  not_called codes number is = from_there codes [] number number (omega arith) ∙ ap (option_map (meaning_at [] codes number)) is
