-- A text has one reading, and its refusal is inside it.
use Rattle.std.proofs.Common.{◌≡◌, ℕ, zero, suc, ◌+◌, ◌≤◌, List, length, slice_get, Result, Ok, Err, sym, ap, subst, ◌∙◌, arith, length-drop}
use Rattle.std.specs.Prelude.{IsErr, IsErrAnd}
use Rattle.bg_elab.specs.declared.fault.Detail.{Detail}
use Rattle.bg_elab.specs.declared.fault.ModelFault.{ModelFault}
use Rattle.bg_elab.specs.declared.fault.ModelFault.TheVariants as faults
use Rattle.bg_elab.specs.Elaboration.{start_or, offset_of, text_of, Elaborates}
use Rattle.bg_elab.specs.Reading.{of_lexical, of_syntax, at_its_byte, IsReading, no_tokens, unexpected, too_deep, comes_to, GivesReading}
use Rattle.bg_elab.specs.Systems.{elaborated}
use Rattle.bg_grammar.specs.Grammar.{GrammarStep}
use Rattle.bg_grammar.specs.Faults.{IsShallow, Fault, IsFault, IsOnlyFault}
use Rattle.bg_grammar.specs.Faults.{unexpected as at_token, too_deep as deep_token}
use Rattle.bg_rules.specs.Systems.{SystemParts}
use Rattle.bg_syntax.specs.declared.symbol.Symbol.TheVariants as symbols
use Rattle.bg_syntax.specs.Grammar.{grammar}
use Rattle.bg_syntax.specs.Numbers.{symbol_number}
use Rattle.bg_syntax.specs.declared.fault.SyntaxFault.{SyntaxFault}
use Rattle.bg_syntax.specs.declared.fault.SyntaxFault.TheVariants as syntax
use Rattle.bg_trees.specs.declared.models.SynModel.{SynModel}
use Rattle.bg_syntax.specs.ModelsSteps.{model_steps}
use Rattle.bg_syntax.specs.Models.{kinds, DerivesModel, IsTreeOf, IsSyntaxFault}
use Rattle.bg_text.specs.declared.fault.LexFault.{LexFault}
use Rattle.bg_text.specs.declared.fault.LexFault.TheVariants as lexical
use Rattle.bg_text.specs.declared.token.Token.{Token}
use Rattle.bg_text.specs.Answers.{IsLexFault}
use Rattle.bg_text.specs.Tokens.{Cuts, stop, gap, token, AreTokens}
use Rattle.bg_text.proofs.PieceLaws.{gap_within}
use Rattle.bg_text.proofs.TokenLaws.{refusal_inside}
use Rattle.bg_text.proofs.Unique.{tokens_once}
use Rattle.bg_values.specs.declared.refusal.Refusal.{Refusal}
use Rattle.bg_elab.proofs.SaidModels.{same_tokens}
use Rattle.bg_base.specs.Limits.{most_levels}

-- ---- places

-- each token begins inside the text
starts_inside : {n m : ℕ} {bytes left : List ℕ} {tokens : List Token} → Cuts n bytes tokens m left → (end number : ℕ) → n + length bytes ≤ end
    → start_or end (slice_get tokens number) ≤ end
starts_inside stop end number l = omega arith
starts_inside {bytes} (gap size g r) end number l =
    starts_inside r end number (let h = length-drop size bytes in let i = gap_within bytes size g in omega (arith, i.1))
starts_inside (token kind size t r) end zero l = omega arith
starts_inside {bytes} (token kind size t r) end (suc number) l =
    starts_inside r end number (let h = length-drop size bytes in let i = t.is_longest.inside in omega arith)

offset_inside : (bytes : List ℕ) (tokens : List Token) (number : ℕ) → AreTokens bytes tokens → offset_of (text_of bytes tokens) number ≤ length bytes
offset_inside bytes tokens number cut = starts_inside cut (length bytes) number (omega arith)

told_inside : (bytes : List ℕ) (tokens : List Token) (came : Result SystemParts Refusal) (code : ℕ) (detail : Detail) (offset : ℕ) → AreTokens bytes tokens
    → Err (faults.Bad code detail offset) ≡ at_its_byte (text_of bytes tokens) came → offset ≤ length bytes
told_inside bytes tokens (Ok system) code detail offset cut e = absurd cc
told_inside bytes tokens (Err refusal) code detail offset cut e =
    subst (λ z. z ≤ length bytes) (sym (same e)) (offset_inside bytes tokens refusal.token cut)
  where
    same : Err (faults.Bad code detail offset) ≡ at_its_byte (text_of bytes tokens) (Err refusal) → offset ≡ offset_of (text_of bytes tokens) refusal.token
    same e = cc

pub inside : (bytes : List ℕ) (code : ℕ) (detail : Detail) (offset : ℕ) → IsReading bytes (Err (faults.Bad code detail offset)) → offset ≤ length bytes
inside bytes code detail offset (no_tokens r) = refusal_inside bytes code offset r.refusal
inside bytes code detail offset (unexpected {token = t} tokens cut f) = offset_inside bytes tokens t cut
inside bytes code detail offset (too_deep {token = t} tokens cut f) = offset_inside bytes tokens t cut
inside bytes code detail offset (comes_to tokens tree cut is e) =
    told_inside bytes tokens (elaborated (text_of bytes tokens) tree) code detail offset cut e

-- ---- one reading

token_same : (t u : ℕ) → at_token u ≡ at_token t → t ≡ u
token_same t u e = cc

deep_same : (t u : ℕ) → deep_token u ≡ deep_token t → t ≡ u
deep_same t u e = cc

-- tokens that have a fault of the grammar have no tree
faulty_tree : (bytes : List ℕ) (ts us : List Token) (tree : SynModel) → AreTokens bytes ts → AreTokens bytes us
    → ((steps : List GrammarStep) → DerivesModel ts steps → IsShallow most_levels steps → ⊥) → IsTreeOf us tree → ⊥
faulty_tree bytes ts us tree cut other none is =
    none (model_steps tree 0) (subst (λ z. DerivesModel z (model_steps tree 0)) (tokens_once bytes us ts other cut) is.derivation) is.shallow

same_fault : (bytes : List ℕ) (ts us : List Token) (first second : Fault) → AreTokens bytes ts → AreTokens bytes us
    → IsOnlyFault grammar (symbol_number symbols.Model) most_levels (kinds ts) first → IsOnlyFault grammar (symbol_number symbols.Model) most_levels (kinds us) second
    → second ≡ first
same_fault bytes ts us first second cut other f g =
    f.once second
    (subst (λ z. IsFault grammar (symbol_number symbols.Model) most_levels (kinds z) second) (tokens_once bytes us ts other cut) g.first)

told_same : (bytes : List ℕ) (ts us : List Token) (one other : SynModel) → AreTokens bytes ts → AreTokens bytes us → IsTreeOf ts one → IsTreeOf us other
    → at_its_byte (text_of bytes ts) (elaborated (text_of bytes ts) one) ≡ at_its_byte (text_of bytes us) (elaborated (text_of bytes us) other)
told_same bytes ts us one other cut away is also =
    let e : us ≡ ts = tokens_once bytes us ts away cut in
    ap (at_its_byte (text_of bytes ts)) (same_tokens (text_of bytes ts) ts one other is (subst (λ z. IsTreeOf z other) e also))
    ∙ ap (λ z. at_its_byte (text_of bytes z) (elaborated (text_of bytes z) other)) (sym e)

pub one_reading : (bytes : List ℕ) (one other : Result SystemParts ModelFault) → IsReading bytes one → IsReading bytes other → one ≡ other
one_reading bytes one other (no_tokens {code = c} {offset = o} r) (no_tokens {code = d} {offset = p} q) =
    let same = r.once d p q.refusal in cc
one_reading bytes one other (no_tokens r) (unexpected us away g) = absurd (r.no_tokens us away)
one_reading bytes one other (no_tokens r) (too_deep us away g) = absurd (r.no_tokens us away)
one_reading bytes one other (no_tokens r) (comes_to us tree away is e) = absurd (r.no_tokens us away)
one_reading bytes one other (unexpected ts cut f) (no_tokens r) = absurd (r.no_tokens ts cut)
one_reading bytes one other (unexpected {token = t} ts cut f) (unexpected {token = u} us away g) =
    let same = same_fault bytes ts us (at_token t) (at_token u) cut away f g in
    let tokens = tokens_once bytes us ts away cut in
    ap (λ z. Err (of_syntax (text_of bytes z) (syntax.Unexpected t))) (sym tokens) ∙ ap (λ z. Err (of_syntax (text_of bytes us) (syntax.Unexpected z))) (token_same t u same)
one_reading bytes one other (unexpected {token = t} ts cut f) (too_deep {token = u} us away g) =
    let same = same_fault bytes ts us (at_token t) (deep_token u) cut away f g in absurd cc
one_reading bytes one other (unexpected ts cut f) (comes_to us tree away is e) = absurd (faulty_tree bytes ts us tree cut away f.no_derivation is)
one_reading bytes one other (too_deep ts cut f) (no_tokens r) = absurd (r.no_tokens ts cut)
one_reading bytes one other (too_deep {token = t} ts cut f) (unexpected {token = u} us away g) =
    let same = same_fault bytes ts us (deep_token t) (at_token u) cut away f g in absurd cc
one_reading bytes one other (too_deep {token = t} ts cut f) (too_deep {token = u} us away g) =
    let same = same_fault bytes ts us (deep_token t) (deep_token u) cut away f g in
    let tokens = tokens_once bytes us ts away cut in
    ap (λ z. Err (of_syntax (text_of bytes z) (syntax.TooDeep t))) (sym tokens) ∙ ap (λ z. Err (of_syntax (text_of bytes us) (syntax.TooDeep z))) (deep_same t u same)
one_reading bytes one other (too_deep ts cut f) (comes_to us tree away is e) = absurd (faulty_tree bytes ts us tree cut away f.no_derivation is)
one_reading bytes one other (comes_to ts tree cut is e) (no_tokens r) = absurd (r.no_tokens ts cut)
one_reading bytes one other (comes_to ts tree cut is e) (unexpected us away g) = absurd (faulty_tree bytes us ts tree away cut g.no_derivation is)
one_reading bytes one other (comes_to ts tree cut is e) (too_deep us away g) = absurd (faulty_tree bytes us ts tree away cut g.no_derivation is)
one_reading bytes one other (comes_to ts tree cut is e) (comes_to us wood away also f) = e ∙ told_same bytes ts us tree wood cut away is also ∙ sym f

-- ---- what the call reads

lexical_read : (bytes : List ℕ) (fault : LexFault) → IsLexFault bytes fault → GivesReading (Err (of_lexical fault)) bytes
lexical_read bytes (lexical.Bad code offset) r = no_tokens r
lexical_read bytes lexical.OutOfMemory r = tt

pub residual_read : (bytes : List ℕ) (fault : LexFault) (made : Result SystemParts ModelFault) → IsErr made → IsErrAnd made (λ other. other ≡ of_lexical fault)
    → IsLexFault bytes fault → GivesReading made bytes
residual_read bytes fault (Ok system) err is r = absurd cc
residual_read bytes fault (Err other) err is r = subst (λ z. GivesReading (Err z) bytes) (sym is) (lexical_read bytes fault r)

pub syntax_read : (bytes : List ℕ) (tokens : List Token) (fault : SyntaxFault) → AreTokens bytes tokens → IsSyntaxFault tokens fault
    → GivesReading (Err (of_syntax (text_of bytes tokens) fault)) bytes
syntax_read bytes tokens (syntax.Unexpected t) cut f = unexpected tokens cut f
syntax_read bytes tokens (syntax.TooDeep t) cut f = too_deep tokens cut f
syntax_read bytes tokens syntax.OutOfMemory cut f = tt

pub elaborated_read : (bytes : List ℕ) (tokens : List Token) (tree : SynModel) (made : Result SystemParts ModelFault) → AreTokens bytes tokens
    → IsTreeOf tokens tree → Elaborates made bytes tokens tree → GivesReading made bytes
elaborated_read bytes tokens tree (Ok system) cut is e = comes_to tokens tree cut is (ap (at_its_byte (text_of bytes tokens)) (sym e))
elaborated_read bytes tokens tree (Err (faults.Bad code detail offset)) cut is e =
    comes_to tokens tree cut is (ap Err e.2 ∙ ap (at_its_byte (text_of bytes tokens)) (sym e.1))
elaborated_read bytes tokens tree (Err faults.OutOfMemory) cut is e = tt
