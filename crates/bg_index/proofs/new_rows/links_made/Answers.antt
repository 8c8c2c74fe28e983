use Rattle.std.proofs.Common.{sym, ◌∙◌}
use Rattle.bg_lists.proofs.Members.{Mem-same}
use Rattle.bg_lists.proofs.Places.{At-get_or, Mem-from_At}
use Rattle.bg_index.proofs.new_rows.links_made.Goals as goal

pub link_made-requires-clause-room : goal.link_made-requires-clause-room
link_made-requires-clause-room c = λ edge e.
    c.requires.room edge
    (Mem-same (sym c.link-item.is ∙ e) (Mem-from_At (At-get_or c.args.links.now c.loop-link.link-index c.link-item.result c.loop-link-test.true)))
