-- Views that agree with the history: each shape of a view, and what still agrees when another seat makes a step.
use Rattle.std.proofs.Common.{◌≡◌, ℕ, ◌<◌, ◌≤◌, ◌≢◌, Option, None, Some, List, [], ◌∷◌, ◌++◌, sym, refl, ap, subst, ◌∙◌, append_assoc, arith}
use Rattle.bg_base.specs.declared.history.Entry.{Entry}
use Rattle.bg_seats.specs.declared.knowledge.Knowledge.{Knowledge}
use Rattle.bg_seats.specs.Histories.{entries_of}
use Rattle.bg_seats.specs.Seating.{turn_of, pass_of, both_of, spent, Agrees}
use Rattle.bg_seats.proofs.Histories.{entries-none_more}

not_some : {A : Type 0} (x : A) → ¬ (◌≡◌ {A = Option A} None (Some x))
not_some x same = cc

same_some : {A : Type 0} (x y : A) → ◌≡◌ {A = Option A} (Some x) (Some y) → x ≡ y
same_some x y same = cc

module _ (history : List Entry) (passes turn : ℕ) (seat_of : ℕ → ℕ) (seat : ℕ) where
  pub agrees_pass : (worker : ℕ) (seen rest : List Entry) → history ≡ seen ++ rest → worker < passes → seat ≡ seat_of worker → entries_of worker rest ≡ []
      → Agrees history passes turn seat_of seat (pass_of worker seen)
  agrees_pass worker seen rest whole below mine clear = record {
    one_turn = λ given has. absurd (not_some given has);
    rest = rest;
    begins = whole;
    own = λ number has. subst (λ n. (n < passes) × (seat ≡ seat_of n) × (entries_of n rest ≡ [])) (same_some worker number has) (below, mine, clear);
  }

  pub agrees_turn : seat ≡ turn → Agrees history passes turn seat_of seat (turn_of passes history)
  agrees_turn is_turn = record {
    one_turn = λ given has. (sym (same_some passes given has), is_turn, refl);
    rest = history;
    begins = refl;
    own = λ number has. absurd (not_some number has);
  }

  pub agrees_both : (worker : ℕ) (seen rest : List Entry) → seat ≡ turn → history ≡ seen ++ rest → worker < passes → seat ≡ seat_of worker → entries_of worker rest ≡ []
      → Agrees history passes turn seat_of seat (both_of worker seen passes history)
  agrees_both worker seen rest is_turn whole below mine clear = record {
    one_turn = λ given has. (sym (same_some passes given has), is_turn, refl);
    rest = rest;
    begins = whole;
    own = λ number has. subst (λ n. (n < passes) × (seat ≡ seat_of n) × (entries_of n rest ≡ [])) (same_some worker number has) (below, mine, clear);
  }

  pub agrees_spent : Agrees history passes turn seat_of seat spent
  agrees_spent = record {
    one_turn = λ given has. absurd (not_some given has);
    rest = history;
    begins = refl;
    own = λ number has. absurd (not_some number has);
  }

-- a view without the turn agrees still when the turn is at another seat, more passes were given, or other numbers have other seats
pub agrees_elsewhere : (history : List Entry) (passes more turn other : ℕ) (seat_of next_of : ℕ → ℕ) (seat : ℕ) (view : Knowledge)
    → Agrees history passes turn seat_of seat view → seat ≢ turn → passes ≤ more
    → ((worker : ℕ) → worker < passes → seat ≡ seat_of worker → seat ≡ next_of worker) → Agrees history more other next_of seat view
agrees_elsewhere history passes more turn other seat_of next_of seat view agrees apart le still = record {
  one_turn = λ given has. absurd (apart (agrees.one_turn given has).1);
  rest = agrees.rest;
  begins = agrees.begins;
  own = λ worker has. let mine = agrees.own worker has in (let below = mine.0 in omega arith, still worker mine.0 mine.1, mine.2);
}

-- and after an entry of another worker
pub agrees_longer : (history : List Entry) (passes turn : ℕ) (seat_of : ℕ → ℕ) (seat : ℕ) (view : Knowledge) (entry : Entry)
    → Agrees history passes turn seat_of seat view → seat ≢ turn → seat ≢ seat_of entry.worker → Agrees (history ++ entry ∷ []) passes turn seat_of seat view
agrees_longer history passes turn seat_of seat view entry agrees apart other = record {
  one_turn = λ given has. absurd (apart (agrees.one_turn given has).1);
  rest = agrees.rest ++ entry ∷ [];
  begins = ap (λ entries. entries ++ entry ∷ []) agrees.begins ∙ append_assoc view.seen agrees.rest (entry ∷ []);
  own = λ worker has. let mine = agrees.own worker has in
      (mine.0, mine.1, entries-none_more worker agrees.rest entry (λ (same : entry.worker ≡ worker). other (mine.1 ∙ ap seat_of (sym same))) mine.2);
}
