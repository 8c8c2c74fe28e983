use Rattle.std.proofs.Common.{arith}
use Rattle.bg_cond.proofs.Committing.{found_at_view}
use Rattle.bg_cond.proofs.DrawnRuns.{pick_legal}
use Rattle.bg_workers.proofs.FollowLaws.{grown, longer_still}
use Rattle.bg_workers.proofs.TurnLaws.{stops_limit, stops_quiet, goes_on_done, goes_on_again, stops_full}
use Rattle.bg_workers.proofs.Turning.{no_word, one_word}
use Rattle.bg_workers.proofs.following.follow_turn.Goals as goal

pub returns-then-version-limit-clause-turned : goal.returns-then-version-limit-clause-turned
returns-then-version-limit-clause-turned g c =
    let b = c.requires.board in
    let system = rw b.0 at c.requires.system in
    let version = c.version-version.ensures in
    rw (b.0, b.1, b.2) (stops_limit (g.B.Board.system c.args.board.now) system (g.B.Board.limit c.args.board.now) (g.B.Board.worker c.args.pass.now)
    (g.B.Board.seen c.args.pass.now) c.args.picker.now (g.B.Board.seen c.catch_up.new.pass) _ c.catch_up.ensures.grows
    c.in_ok-catch_up.ensures.shows (omega (arith, version)))

pub commit_found-requires-clause-found : goal.commit_found-requires-clause-found
commit_found-requires-clause-found g c =
    let chosen = rw (c.in-Some.is, c.requires.board.0) at c.in_ok-found.ensures.found in
    found_at_view (g.B.Board.system c.args.board.now) (g.B.Board.limit c.args.board.now) (g.B.Board.seen c.catch_up.new.pass) _ c.in-Some.found
    c.in_ok-catch_up.ensures.shows chosen.0 (pick_legal chosen.1)

pub returns-in_default-clause-turned : goal.returns-in_default-clause-turned
returns-in_default-clause-turned g c =
    let b = c.requires.board in
    let system = rw b.0 at c.requires.system in
    let version = c.version-version.ensures in
    let none = (rw b.0 at (rw c.in_default.is at c.in_ok-found.ensures.found)).0 in
    rw (version, b.0, b.1, b.2) (stops_quiet (g.B.Board.system c.args.board.now) system (g.B.Board.limit c.args.board.now) (g.B.Board.worker c.args.pass.now)
    (g.B.Board.seen c.args.pass.now) c.args.picker.now (g.B.Board.seen c.catch_up.new.pass) _ c.catch_up.ensures.grows
    c.in_ok-catch_up.ensures.shows (omega (arith, version)) none)

pub returns-in-Done-clause-turned : goal.returns-in-Done-clause-turned
returns-in-Done-clause-turned g c =
    let b = c.requires.board in
    let system = rw b.0 at c.requires.system in
    let version = c.version-version.ensures in
    let done = rw (c.in-Done.is, c.catch_up.ensures.of.1) at c.in_ok-commit_found.ensures.committed in
    let chosen = rw (c.in-Some.is, b.0) at c.in_ok-found.ensures.found in
    rw (b.0, b.1, b.2) (goes_on_done (g.B.Board.system c.args.board.now) system (g.B.Board.limit c.args.board.now) (g.B.Board.worker c.args.pass.now)
    (g.B.Board.seen c.args.pass.now) c.args.picker.now (g.B.Board.seen c.catch_up.new.pass) _ c.catch_up.ensures.grows
    c.in_ok-catch_up.ensures.shows (g.B.Board.seen c.commit_found.new.pass) c.in-Some.found chosen.0 c.find_ahead.new.picker c.in-Done.version chosen.1 chosen.2 done)

pub returns-in-Again-clause-turned : goal.returns-in-Again-clause-turned
returns-in-Again-clause-turned g c =
    let b = c.requires.board in
    let system = rw b.0 at c.requires.system in
    let version = c.version-version.ensures in
    let again = rw (c.in-Again.is, c.catch_up.ensures.of.1) at c.in_ok-commit_found.ensures.committed in
    let chosen = rw (c.in-Some.is, b.0) at c.in_ok-found.ensures.found in
    rw (b.0, b.1, b.2) (goes_on_again (g.B.Board.system c.args.board.now) system (g.B.Board.limit c.args.board.now) (g.B.Board.worker c.args.pass.now)
    (g.B.Board.seen c.args.pass.now) c.args.picker.now (g.B.Board.seen c.catch_up.new.pass) _ c.catch_up.ensures.grows
    c.in_ok-catch_up.ensures.shows (g.B.Board.seen c.commit_found.new.pass) c.in-Some.found chosen.0 c.find_ahead.new.picker c.in-Again.version chosen.2 (omega (arith, version)) again)

pub returns-in-Full-clause-turned : goal.returns-in-Full-clause-turned
returns-in-Full-clause-turned g c =
    let b = c.requires.board in
    let system = rw b.0 at c.requires.system in
    let version = c.version-version.ensures in
    let full = rw (c.in-Full.is, c.catch_up.ensures.of.1) at c.in_ok-commit_found.ensures.committed in
    let chosen = rw (c.in-Some.is, b.0) at c.in_ok-found.ensures.found in
    rw (b.0, b.1, b.2) (stops_full (g.B.Board.system c.args.board.now) system (g.B.Board.limit c.args.board.now) (g.B.Board.worker c.args.pass.now)
    (g.B.Board.seen c.args.pass.now) c.args.picker.now (g.B.Board.seen c.catch_up.new.pass) _ c.catch_up.ensures.grows
    c.in_ok-catch_up.ensures.shows (g.B.Board.seen c.commit_found.new.pass) c.in-Some.found chosen.0 chosen.1 full)

pub returns-in_default-clause-later : goal.returns-in_default-clause-later
returns-in_default-clause-later g c =
    let none = rw c.in_default.is at c.in_ok-found.ensures.found in no_word none.1

pub returns-in_err-commit_found-clause-later : goal.returns-in_err-commit_found-clause-later
returns-in_err-commit_found-clause-later g c =
    let chosen = rw c.in-Some.is at c.in_ok-found.ensures.found in one_word chosen.2

pub returns-in-Done-clause-later : goal.returns-in-Done-clause-later
returns-in-Done-clause-later g c =
    let chosen = rw c.in-Some.is at c.in_ok-found.ensures.found in one_word chosen.2

pub returns-in-Again-clause-later : goal.returns-in-Again-clause-later
returns-in-Again-clause-later g c =
    let chosen = rw c.in-Some.is at c.in_ok-found.ensures.found in one_word chosen.2

pub returns-in-Full-clause-later : goal.returns-in-Full-clause-later
returns-in-Full-clause-later g c =
    let chosen = rw c.in-Some.is at c.in_ok-found.ensures.found in one_word chosen.2

pub returns-in_err-commit_found-clause-longer : goal.returns-in_err-commit_found-clause-longer
returns-in_err-commit_found-clause-longer g c = longer_still (g.B.Board.seen c.args.pass.now) (grown c.catch_up.ensures.grows) c.commit_found.ensures.longer

pub returns-in-Done-clause-longer : goal.returns-in-Done-clause-longer
returns-in-Done-clause-longer g c = longer_still (g.B.Board.seen c.args.pass.now) (grown c.catch_up.ensures.grows) c.commit_found.ensures.longer

pub returns-in-Again-clause-longer : goal.returns-in-Again-clause-longer
returns-in-Again-clause-longer g c = longer_still (g.B.Board.seen c.args.pass.now) (grown c.catch_up.ensures.grows) c.commit_found.ensures.longer

pub returns-in-Full-clause-longer : goal.returns-in-Full-clause-longer
returns-in-Full-clause-longer g c = longer_still (g.B.Board.seen c.args.pass.now) (grown c.catch_up.ensures.grows) c.commit_found.ensures.longer

pub returns-in-Spent-clause-longer : goal.returns-in-Spent-clause-longer
returns-in-Spent-clause-longer g c = longer_still (g.B.Board.seen c.args.pass.now) (grown c.catch_up.ensures.grows) c.commit_found.ensures.longer

pub returns-then-version-limit-clause-longer : goal.returns-then-version-limit-clause-longer
returns-then-version-limit-clause-longer g c = grown c.catch_up.ensures.grows

pub returns-in_default-clause-longer : goal.returns-in_default-clause-longer
returns-in_default-clause-longer g c = grown c.catch_up.ensures.grows

pub returns-in_err-found-clause-longer : goal.returns-in_err-found-clause-longer
returns-in_err-found-clause-longer g c = grown c.catch_up.ensures.grows

pub returns-in_err-catch_up-clause-longer : goal.returns-in_err-catch_up-clause-longer
returns-in_err-catch_up-clause-longer g c = grown c.catch_up.ensures.grows
