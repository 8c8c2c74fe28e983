-- What is asked for, by what clap says of the words.
use Rattle.std.proofs.Common.{◌≡◌, ◌≢◌, ◌∙◌, ℕ, List, [], ◌∷◌, Option, None, Some, Result, Ok, Err, IfOk, IsErrOf, IsErrAnd, ap, sym, refl, subst, cond, map, arith, false, string_bytes}
use Rattle.std.specs.Option.{ok_or}
use Rattle.std.proofs.lemmas.Bool.Decides.{nat_tests}
use Rattle.clap.specs.Walk.{is_empty}
use Rattle.clap.specs.Words.{fault_of, matches_of}
use Rattle.clap.specs.Kinds.{Kinds}
use Rattle.bg_words.specs.declared.asking.Request.{Request}
use Rattle.bg_words.specs.declared.fault.WordsFault.{WordsFault}
use Rattle.bg_words.specs.declared.fault.WordsFault.TheVariants.{Refused}
use Rattle.bg_words.specs.Options.{the_app}
use Rattle.bg_words.specs.Words.{asked, request_in, IsInRange}
use Rattle.bg_words.proofs.Ranges.{request_in_range}
use Rattle.bg_words.proofs.words.request.Goals as goal

-- words that clap refuses ask for nothing
refused_words : (words : List (List ℕ)) → fault_of the_app words ≢ [] → asked words ≡ None
unfolding asked
refused_words words faulty = go (fault_of the_app words) faulty
  where
    go : (kinds : Kinds) → kinds ≢ [] → cond (is_empty kinds) (request_in (matches_of the_app words)) None ≡ None
    go [] faulty = absurd (faulty refl)
    go (k ∷ ks) faulty =
        let more : is_empty (k ∷ ks) ≡ false = grind (arith, nat_tests) in
        ap (λ none. cond none (request_in (matches_of the_app words)) None) more

-- words that clap takes ask for what it finds in them
taken_words : (words : List (List ℕ)) → fault_of the_app words ≡ [] → asked words ≡ request_in (matches_of the_app words)
unfolding asked
taken_words words taken = ap (λ kinds. cond (is_empty kinds) (request_in (matches_of the_app words)) None) taken

-- a request that is answered is the one that was wanted
given_there : (found wanted : Option Request) → wanted ≡ found → IfOk (ok_or found Refused) (λ request. wanted ≡ Some request)
given_there None wanted is = tt
given_there (Some request) wanted is = is

-- a refusal that is answered was wanted
refused_there : (found wanted : Option Request) → wanted ≡ found → IsErrOf (ok_or found Refused) Refused → wanted ≡ None
refused_there None wanted is refused = is
refused_there (Some request) wanted is refused = absurd cc

-- a refusal that is passed on is the one that came
fault_there : {T : Type 0} (r : Result T WordsFault) (fault : WordsFault) → IsErrAnd r (λ given. given ≡ fault) → IsErrOf r Refused → fault ≡ Refused
fault_there (Ok x) fault given is = elim given [ ]
fault_there (Err e) fault given is = sym given ∙ (cc)

pub returns-in_err-matches-clause-refused : goal.returns-in_err-matches-clause-refused
returns-in_err-matches-clause-refused c = λ refused.
    refused_words _ (c.in_err-matches.ensures.refused (ap Err (fault_there _ _ c.from_residual.ensures.1 refused)))

pub returns-clause-given : goal.returns-clause-given
returns-clause-given c =
    let is = taken_words _ c.in_ok-matches.ensures.taken ∙ ap request_in (sym c.in_ok-matches.ensures.matches) ∙ sym c.request_in.ensures in
    subst (λ r. IfOk r (λ request. asked (map string_bytes c.args.words.now) ≡ Some request)) (sym c.ok_or.ensures.value)
    (given_there _ _ is)

pub returns-clause-refused : goal.returns-clause-refused
returns-clause-refused c = λ refused.
    let is = taken_words _ c.in_ok-matches.ensures.taken ∙ ap request_in (sym c.in_ok-matches.ensures.matches) ∙ sym c.request_in.ensures in
    refused_there _ _ is (sym c.ok_or.ensures.value ∙ refused)

in_range : (words : List (List ℕ)) (result : Result Request WordsFault) → IfOk result (λ request. asked words ≡ Some request)
    → IfOk result (λ request. IsInRange request)
in_range words (Ok request) is = request_in_range words is
in_range words (Err fault) is = tt

pub returns-clause-in_range : goal.returns-clause-in_range
returns-clause-in_range c = in_range (map string_bytes c.args.words.now) c.ok_or.result (returns-clause-given c)
