use Rattle.bg_workers.proofs.FollowLaws.{grown, behind_longer, behind_some, behind_followed, news_go_on, shows_followed}
use Rattle.bg_workers.proofs.following.catch_up.Goals as goal

pub follow-requires-clause-entries : goal.follow-requires-clause-entries
follow-requires-clause-entries g c =
    let b = c.requires.board in
    let behind = rw b.0 at c.requires.behind in
    let news = rw c.version.ensures at c.in_ok-entries.ensures.news in
    rw (b.0, c.deref.ensures.value) (news_go_on (g.B.Board.system c.args.board.now)
    (behind_longer (g.B.Board.system c.args.board.now) behind (grown c.news.ensures.grows)) news (rw b.0 at c.requires.system))

pub returns-in_err-follow-clause-behind : goal.returns-in_err-follow-clause-behind
returns-in_err-follow-clause-behind g c =
    let b = c.requires.board in
    let behind = rw b.0 at c.requires.behind in
    let news = rw c.version.ensures at c.in_ok-entries.ensures.news in
    let some = rw (b.0, c.deref.ensures.value) at c.in_err-follow.ensures.no_memory in
    rw b.0 (behind_some (g.B.Board.system c.args.board.now)
    (behind_longer (g.B.Board.system c.args.board.now) behind (grown c.news.ensures.grows)) news.rest some)

pub returns-clause-behind : goal.returns-clause-behind
returns-clause-behind g c =
    let b = c.requires.board in
    let behind = rw b.0 at c.requires.behind in
    let news = rw c.version.ensures at c.in_ok-entries.ensures.news in
    let followed = rw (b.0, c.deref.ensures.value) at c.in_ok-follow.ensures.followed in
    rw b.0 (behind_followed (g.B.Board.system c.args.board.now)
    (behind_longer (g.B.Board.system c.args.board.now) behind (grown c.news.ensures.grows)) news followed)

pub returns-clause-shows : goal.returns-clause-shows
returns-clause-shows g c =
    let b = c.requires.board in
    let behind = rw b.0 at c.requires.behind in
    let news = rw c.version.ensures at c.in_ok-entries.ensures.news in
    let followed = rw (b.0, c.deref.ensures.value) at c.in_ok-follow.ensures.followed in
    shows_followed (g.B.Board.system c.args.board.now)
    (behind_longer (g.B.Board.system c.args.board.now) behind (grown c.news.ensures.grows)) news followed
