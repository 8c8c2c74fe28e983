-- What is asked for is in range: the number of steps, the number of workers, and the size.
use Rattle.std.proofs.Common.{◌≡◌, ◌≤◌, ℕ, Bool, true, false, ◌&&◌, List, Option, None, Some, if◌then◌else◌, codes, option_and_then, refl, subst, arith}
use Rattle.std.proofs.lemmas.Bool.Decides.{nat_tests}
use Rattle.std.proofs.lemmas.Bool.{and_parts}
use Rattle.std.specs.Prelude.{nat_le}
use Rattle.std.specs.Str.Parse.{digits_value}
use Rattle.clap.specs.Walk.{is_empty}
use Rattle.clap.specs.Words.{Row, fault_of, first_of, matches_of}
use Rattle.bg_words.specs.declared.asking.Request.{Request}
use Rattle.bg_words.specs.declared.numbers.Numbers.{Numbers}
use Rattle.bg_words.specs.Numbers.{is_number, is_one_of}
use Rattle.bg_words.specs.Options as option
use Rattle.bg_words.specs.Options.{the_app}
use Rattle.bg_words.specs.Words.{command_in, number_or_default, number_in, is_set, request_in, asked, IsInRange}

-- what went on with a value went on with one that is there
went_on : {A B : Type 0} {next : A → Option B} (found : Option A) {value : B} → option_and_then next found ≡ Some value
    → (a : A) × (found ≡ Some a) × (next a ≡ Some value)
went_on None e = absurd cc
went_on (Some a) e = (a, refl, e)

-- what was taken under a test passed it
passed : {A : Type 0} (test : Bool) (value : A) {other : A} → (if test then Some value else None) ≡ Some other → (test ≡ true) × (value ≡ other)
passed true value e = (refl, cc)
passed false value e = absurd cc

module _ (numbers : Numbers) (default : numbers.default ≤ numbers.greatest) (first : numbers.least ≤ numbers.default) where
  in_range : (text : Option (List ℕ)) {number : ℕ} → number_or_default numbers text ≡ Some number
      → (numbers.least ≤ number) × (number ≤ numbers.greatest)
  in_range None {number} e =
      let same : numbers.default ≡ number = cc in
      (subst (λ n. numbers.least ≤ n) same first, subst (λ n. n ≤ numbers.greatest) same default)
  in_range (Some text) {number} e =
      let value = digits_value 10 text in
      let w = passed (is_number text && is_one_of numbers value) value e in
      let one = (and_parts (is_number text) (is_one_of numbers value) w.0).1 in
      let parts = and_parts (nat_le numbers.least value) (nat_le value numbers.greatest) one in
      let above = parts.0 in
      let below = parts.1 in
      let some : numbers.least ≤ value = search (arith, nat_tests) in
      let few : value ≤ numbers.greatest = search (arith, nat_tests) in
      (subst (λ n. numbers.least ≤ n) w.1 some, subst (λ n. n ≤ numbers.greatest) w.1 few)

asked_in : (rows : List Row) {request : Request} → request_in rows ≡ Some request → IsInRange request
unfolding request_in
asked_in rows {request} e =
    let command = went_on (command_in rows) e in
    let most = went_on (number_in rows (codes "most") option.most) command.2 in
    let workers = went_on (number_in rows (codes "workers") option.workers) most.2 in
    let steps = went_on (number_in rows (codes "steps") option.steps) workers.2 in
    let seed = went_on (number_in rows (codes "seed") option.seed) steps.2 in
    let size = went_on (number_in rows (codes "size") option.size) seed.2 in
    let same : record { command = command.0; most = most.0; workers = workers.0; steps = steps.0; seed = seed.0; size = size.0; explain = is_set rows (codes "explain") } ≡ request = cc in
    let few = in_range option.steps (omega arith) (omega arith) (first_of (codes "steps") rows) steps.1 in
    let team = in_range option.workers (omega arith) (omega arith) (first_of (codes "workers") rows) workers.1 in
    let large = in_range option.size (omega arith) (omega arith) (first_of (codes "size") rows) size.1 in
    subst IsInRange same (record { few_steps = few.1; some_workers = team.0; few_workers = team.1; some_size = large.0; small_size = large.1 })

pub request_in_range : (words : List (List ℕ)) {request : Request} → asked words ≡ Some request → IsInRange request
unfolding asked
request_in_range words e = of (is_empty (fault_of the_app words)) e
  where
    of : (test : Bool) {request : Request} → (if test then request_in (matches_of the_app words) else None) ≡ Some request → IsInRange request
    of true e = asked_in (matches_of the_app words) e
    of false e = absurd cc
