use Rattle.std.proofs.Common.{◌≡◌, ◌<◌, length, get_or, List, sym, ap, subst, ◌∙◌, arith}
use Rattle.std.specs.Prelude.{⊤, MatchOption}
use Rattle.bg_incr.specs.Finders.{AreKeptFor, FinderState}
use Rattle.bg_base.specs.declared.history.Entry.{Entry}
use Rattle.bg_journal.proofs.Replayed.{none_taken, goes_on, stops}
use Rattle.bg_journal.proofs.replaying.replay.Goals as goal

pub loop-number-init : goal.loop-number-init
loop-number-init c =
    let is = c.in_ok-finder.ensures in
    let first = ap (λ (f : FinderState). f.version) is in (
      none_taken c.args.system.now.rules c.args.system.now.init c.args.journal.now c.in_ok-finder.finder.host (ap (λ (f : FinderState). f.host) is ∙ c.init.ensures.same),
      record { lists = subst (λ (f : FinderState). MatchOption f.lists ⊤ (AreKeptFor f.host.big c.args.system.now.rules)) (sym is) tt },
      omega (arith, first),
    )

pub returns-in-Some : goal.returns-in-Some
returns-in-Some c =
    let same = c.as_slice-entry-items.ensures.same in
    let less = subst (λ (list : List Entry). c.loop-number.number < length list) same c.loop-number-test.true in
    let at = subst (λ (list : List Entry). c.entry-item.result ≡ get_or list c.loop-number.number c.entry-item.result) same c.entry-item.is in
    stops c.args.system.now.rules c.args.system.now.init c.args.journal.now c.loop-number.number c.entry-item.result c.loop-number.finder.host less at
    c.loop-number.invariant.0 c.in-Some.why (rw c.in-Some.is at c.in_ok-why.ensures.tried)

pub loop-number-preserved : goal.loop-number-preserved
loop-number-preserved c =
    let same = c.as_slice-entry-items.ensures.same in
    let less = subst (λ (list : List Entry). c.loop-number.number < length list) same c.loop-number-test.true in
    let at = subst (λ (list : List Entry). c.entry-item.result ≡ get_or list c.loop-number.number c.entry-item.result) same c.entry-item.is in
    let taken = rw c.in_default.is at c.in_ok-why.ensures.tried in
    let before = c.loop-number.invariant.2 in
    let after = c.in_ok-why.ensures.version in (
      goes_on c.args.system.now.rules c.args.system.now.init c.args.journal.now c.loop-number.number c.entry-item.result c.loop-number.finder.host less at
          c.loop-number.invariant.0 c.try_entry.new.finder.host taken.0 taken.1,
      c.try_entry.ensures.stands,
      omega (arith, before, after),
    )
