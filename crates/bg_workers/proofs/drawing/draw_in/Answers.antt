use Rattle.std.proofs.Common.{◌≡◌, ◌-◌, suc, List, length, arith, refl, sym, ap, subst}
use Rattle.bg_base.specs.declared.history.Entry.{Entry}
use Rattle.bg_workers.specs.Turns.{Continues, after_words}
use Rattle.bg_workers.proofs.Turning.{starts, goes_on, stops, spent, few_drawn, words_on, words_end, no_word, later_still}
use Rattle.bg_workers.proofs.drawing.draw_in.Goals as goal

pub loop-room-init : goal.loop-room-init
loop-room-init c =
    let none = c.new-entries.ensures.items in
    let first = c.requires.first in (
      subst (λ (xs : List Entry). Continues c.args.system.now.rules 0 c.args.most c.args.finder.now.host c.args.picker.now c.args.most c.args.finder.now.host c.args.picker.now xs) (sym none)
          (starts c.args.system.now.rules 0 c.args.most c.args.finder.now.host c.args.picker.now c.args.finder.now.host c.args.picker.now refl refl),
      ap (λ (xs : List Entry). after_words (length xs) c.args.picker.now) (sym none),
      c.requires.stands,
      omega (arith, first),
      no_word refl,
    )

pub returns-in-Some-clause-drawn : goal.returns-in-Some-clause-drawn
returns-in-Some-clause-drawn c =
    stops c.args.system.now.rules 0 c.args.most c.args.finder.now.host c.args.picker.now c.loop-room.room c.loop-room.finder.host c.draw_one.new.finder.host
    c.loop-room.picker c.draw_one.new.picker c.loop-room.entries.items c.draw_one.new.entries.items c.draw_one.new.entries.items c.in-Some.end
    c.loop-room-test.true c.loop-room.invariant.0 (rw c.in-Some.is at c.in_ok-end.ensures.turns) refl

pub returns-in-Some-clause-words : goal.returns-in-Some-clause-words
returns-in-Some-clause-words c =
    words_end c.args.system.now.rules 0 c.args.picker.now c.loop-room.finder.host c.draw_one.new.finder.host c.loop-room.picker c.draw_one.new.picker
    c.loop-room.entries.items c.draw_one.new.entries.items c.loop-room.invariant.1 c.draw_one.new.entries.items c.in-Some.end c.in-Some.end
    (rw c.in-Some.is at c.in_ok-end.ensures.turns) refl refl

pub returns-in-Some-clause-few : goal.returns-in-Some-clause-few
returns-in-Some-clause-few c = few_drawn (returns-in-Some-clause-drawn c) c.requires.most

pub loop-room-preserved : goal.loop-room-preserved
loop-room-preserved c =
    let more = c.loop-room-test.true in
    let next : c.loop-room.room ≡ suc (c.loop-room.room - 1) = omega (arith, more) in
    let before = c.loop-room.invariant.3 in
    let after = c.in_ok-end.ensures.version in (
      goes_on c.args.system.now.rules 0 c.args.most c.args.finder.now.host c.args.picker.now c.loop-room.room (c.loop-room.room - 1) c.loop-room.finder.host
          c.draw_one.new.finder.host c.loop-room.picker c.draw_one.new.picker c.loop-room.entries.items c.draw_one.new.entries.items next
          c.loop-room.invariant.0 (rw c.in_default.is at c.in_ok-end.ensures.turns),
      words_on c.args.system.now.rules 0 c.args.picker.now c.loop-room.finder.host c.draw_one.new.finder.host c.loop-room.picker c.draw_one.new.picker
          c.loop-room.entries.items c.draw_one.new.entries.items c.loop-room.invariant.1 (rw c.in_default.is at c.in_ok-end.ensures.turns),
      c.draw_one.ensures.stands,
      omega (arith, more, before, after),
      later_still c.loop-room.invariant.4 c.draw_one.ensures.later,
    )

pub returns-clause-drawn : goal.returns-clause-drawn
returns-clause-drawn c =
    let no_more = c.loop-room-test.false in
    let none : c.loop-room.room ≡ 0 = omega (arith, no_more) in
    spent c.args.system.now.rules 0 c.args.most c.args.finder.now.host c.args.picker.now c.loop-room.room c.loop-room.finder.host c.loop-room.picker
    c.loop-room.entries.items c.loop-room.entries.items none c.loop-room.invariant.0 refl

pub returns-clause-words : goal.returns-clause-words
returns-clause-words c = c.loop-room.invariant.1

pub returns-clause-few : goal.returns-clause-few
returns-clause-few c = few_drawn (returns-clause-drawn c) c.requires.most

pub returns-in_err-end-clause-later : goal.returns-in_err-end-clause-later
returns-in_err-end-clause-later c = later_still c.loop-room.invariant.4 c.draw_one.ensures.later

pub returns-in-Some-clause-later : goal.returns-in-Some-clause-later
returns-in-Some-clause-later c = later_still c.loop-room.invariant.4 c.draw_one.ensures.later

pub returns-clause-later : goal.returns-clause-later
returns-clause-later c = c.loop-room.invariant.4
