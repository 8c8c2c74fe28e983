-- What clap says of a simple command.
use Rattle.std.proofs.Common.{◌≡◌, ◌≢◌, ◌∙◌, ap, sym, refl, inl, inr, true, map, string_bytes, [], ◌∷◌}
use Rattle.clap.specs.Words.{App, HasKind, Kinds, fault_of, is_simple, is_simple_and_free, kind_of, matches_of}
use Rattle.clap.specs.declared.error.Error.{Error}
use Rattle.clap.specs.declared.error.kind.ErrorKind.TheVariants.{OutOfMemory}
use Rattle.bg_words.specs.Options.{the_app}
use Rattle.bg_words.proofs.words.matches_in.Goals as goal

is_plain : is_simple the_app ≡ true
unfolding the_app
is_plain = refl

is_free : is_simple_and_free the_app ≡ true
unfolding the_app
is_free = refl

-- where no kind of error may come, there was no memory
unkind : (kinds : Kinds) (error : Error) → HasKind kinds error → kinds ≡ [] → kind_of error ≢ OutOfMemory → ⊥
unkind [] error (inl is) none other = other is
unkind [] error (inr among) none other = among
unkind (k ∷ ks) error has none other = absurd cc

pub returns-in-Ok-clause-taken : goal.returns-in-Ok-clause-taken
returns-in-Ok-clause-taken c =
    let is = c.in_ok-program.ensures in
    ap (λ (a : App). fault_of a (map string_bytes c.args.words.now)) (sym is) ∙ c.in-Ok.ensures.kinds (ap is_simple_and_free is ∙ is_free)

pub returns-in-Ok-clause-matches : goal.returns-in-Ok-clause-matches
returns-in-Ok-clause-matches c =
    let is = c.in_ok-program.ensures in
    (c.in-Ok.ensures.matches (ap is_simple is ∙ is_plain)).0 ∙ ap (λ (a : App). matches_of a (map string_bytes c.args.words.now)) is

pub returns-in-Err-clause-refused : goal.returns-in-Err-clause-refused
returns-in-Err-clause-refused c = λ refused none.
    let is = c.in_ok-program.ensures in
    unkind _ c.in-Err.error
    (c.in-Err.ensures.kinds (ap is_simple_and_free is ∙ is_free))
    (ap (λ (a : App). fault_of a (map string_bytes c.args.words.now)) is ∙ none)
    (c.words_fault.ensures.refused (cc refused))
