-- What the machine does on all tokens, said of models.
use Rattle.std.proofs.Common.{◌≡◌, ℕ, ◌<◌, ◌≤◌, List, [], length, Result, Ok, Err, IsErrAnd, IfErr, sym, subst}
use Rattle.bg_text.specs.declared.token.Token.{Token}
use Rattle.bg_text.specs.declared.token.TokenKind.TheVariants as kinds_of_token
use Rattle.bg_grammar.specs.Grammar.{GrammarStep}
use Rattle.bg_grammar.specs.Faults.{unexpected, too_deep, is_unexpected, is_too_deep, IsOnlyDerivation}
use Rattle.bg_grammar.specs.Machine.{Runs, StopsUnexpected, StopsDeep, stuck_done}
use Rattle.bg_grammar.proofs.Stops.{stopped_unexpected, stopped_deep, accepted_once}
use Rattle.bg_grammar.proofs.Faults.{only_fault}
use Rattle.bg_syntax.specs.declared.fault.SyntaxFault.{SyntaxFault}
use Rattle.bg_syntax.specs.declared.fault.SyntaxFault.TheVariants.{Unexpected, TooDeep}
use Rattle.bg_syntax.specs.declared.symbol.Symbol.TheVariants as symbols
use Rattle.bg_trees.specs.declared.models.SynModel.{SynModel}
use Rattle.bg_syntax.specs.Grammar.{grammar}
use Rattle.bg_syntax.specs.Plan.{plan}
use Rattle.bg_syntax.specs.ModelsSteps.{model_steps}
use Rattle.bg_syntax.specs.Models.{kinds, DerivesModel, IsTreeOf, IsSyntaxFault}
use Rattle.bg_syntax.specs.Reading.{wants, Moves, Fails, fails_unexpected, fails_deep, fails_memory}
use Rattle.bg_syntax.proofs.Fits.{plan_fits}
use Rattle.bg_syntax.proofs.Readings.{kinds_from, kinds_end}
use Rattle.bg_base.specs.Limits.{most_levels}

unexpected_at : (ts : List Token) (t : ℕ) → StopsUnexpected grammar plan most_levels 0 (kinds ts) (wants 0 symbols.Model) t → IsSyntaxFault ts (Unexpected t)
unfolding plan
unexpected_at ts t w = only_fault grammar 0 most_levels (kinds ts) (unexpected t) (is_unexpected (stopped_unexpected grammar plan plan_fits most_levels (kinds ts) t w))

too_deep_at : (ts : List Token) (t : ℕ) → StopsDeep grammar plan most_levels 0 (kinds ts) (wants 0 symbols.Model) t → IsSyntaxFault ts (TooDeep t)
unfolding plan
too_deep_at ts t w = only_fault grammar 0 most_levels (kinds ts) (too_deep t) (is_too_deep (stopped_deep grammar plan plan_fits most_levels (kinds ts) t w))

pub first_fault : (ts : List Token) (f : SyntaxFault) → Fails ts 0 (wants 0 symbols.Model) f → IsSyntaxFault ts f
first_fault ts f (fails_unexpected {t = t} s) = unexpected_at ts t (s [])
first_fault ts f (fails_deep {t = t} s) = too_deep_at ts t (s [])
first_fault ts f fails_memory = tt

pub fault_more : (ts : List Token) (n : ℕ) (ss : List GrammarStep) → Moves ts 0 (wants 0 symbols.Model) ss n → n < length ts → IsSyntaxFault ts (Unexpected n)
fault_more ts n ss a below = unexpected_at ts n (record {
  steps = ss;
  rest = _;
  left = [];
  runs = subst (λ z. Runs grammar plan most_levels 0 (kinds ts) (wants 0 symbols.Model) ss n z []) (kinds_from ts n (record { kind = kinds_of_token.Lower; start = 0; end = 0 }) below) (a.runs []);
  stuck = stuck_done;
})

derived : (ts : List Token) (n : ℕ) (ss : List GrammarStep) → Moves ts 0 (wants 0 symbols.Model) ss n → length ts ≤ n → IsOnlyDerivation grammar 0 most_levels (kinds ts) ss
unfolding plan
derived ts n ss a beyond = accepted_once grammar plan plan_fits most_levels (kinds ts) ss
    (record { token = n; runs = subst (λ z. Runs grammar plan most_levels 0 (kinds ts) (wants 0 symbols.Model) ss n z []) (kinds_end ts n beyond) (a.runs []) })

pub tree_of : (ts : List Token) (n : ℕ) (tree : SynModel) → Moves ts 0 (wants 0 symbols.Model) (model_steps tree 0) n → length ts ≤ n → IsTreeOf ts tree
tree_of ts n tree a beyond = let d = derived ts n (model_steps tree 0) a beyond in record { derivation = d.derivation; shallow = d.shallow }

pub only_tree_of : (ts : List Token) (n : ℕ) (tree : SynModel) → Moves ts 0 (wants 0 symbols.Model) (model_steps tree 0) n → length ts ≤ n
    → (steps : List GrammarStep) → DerivesModel ts steps → steps ≡ model_steps tree 0
only_tree_of ts n tree a beyond = (derived ts n (model_steps tree 0) a beyond).once

-- what `?` leaves
pub model_fault : {ts : List Token} {e : SyntaxFault} (r : Result SynModel SyntaxFault) → IsErrAnd r (λ f. f ≡ e) → Fails ts 0 (wants 0 symbols.Model) e → IfErr r (λ f. IsSyntaxFault ts f)
model_fault (Ok tree) h f = absurd h
model_fault {ts} {e} (Err g) h f = subst (λ z. IsSyntaxFault ts z) (sym h) (first_fault ts e f)
