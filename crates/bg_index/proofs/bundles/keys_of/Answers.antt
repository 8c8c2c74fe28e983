use Rattle.std.proofs.Common.{List, map, filter, sym, subst, inl, inr}
use Rattle.bg_lists.specs.Lists.{Mem}
use Rattle.bg_lists.proofs.Members.{Mem-append_left, Mem-append_right, Mem-append_cases, Mem-filter, Mem-unfilter}
use Rattle.bg_index.specs.declared.plans.LinkKey.{LinkKey}
use Rattle.bg_index.specs.Arrivals.{arrival_key, is_old}
use Rattle.bg_index.proofs.bundles.keys_of.Goals as goal

pub returns-clause-lost : goal.returns-clause-lost
returns-clause-lost c = λ key m.
    c.key_set-keys.ensures.into key
    (subst (λ (xs : List LinkKey). Mem key xs) (sym c.in_ok-push_old.ensures)
    (Mem-append_left c.args.lost.items (filter (is_old c.args.next) (map arrival_key c.args.arrivals.now)) m))

pub returns-clause-got : goal.returns-clause-got
returns-clause-got c = λ key m old.
    c.key_set-keys.ensures.into key
    (subst (λ (xs : List LinkKey). Mem key xs) (sym c.in_ok-push_old.ensures)
    (Mem-append_right c.args.lost.items (filter (is_old c.args.next) (map arrival_key c.args.arrivals.now))
    (Mem-filter (is_old c.args.next) (map arrival_key c.args.arrivals.now) m old)))

pub returns-clause-only : goal.returns-clause-only
returns-clause-only c = λ key m.
    let k = subst (λ (xs : List LinkKey). Mem key xs) c.in_ok-push_old.ensures (c.key_set-keys.ensures.back key m) in
    elim (Mem-append_cases c.args.lost.items (filter (is_old c.args.next) (map arrival_key c.args.arrivals.now)) k) [
      | inl n ↦ inl n
      | inr n ↦ inr (Mem-unfilter (is_old c.args.next) (map arrival_key c.args.arrivals.now) n).0
    ]
