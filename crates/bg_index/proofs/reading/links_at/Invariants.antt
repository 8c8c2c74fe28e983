use Rattle.std.proofs.Common.{◌≡◌, ℕ, Some, length}
use Rattle.bg_lists.specs.Lists.{At}
use Rattle.bg_base.specs.declared.names.Link.{Link}
use Rattle.bg_link.specs.Links.{links_of, link_of}
use Rattle.bg_index.specs.declared.reading.Tie.{Tie}
use Rattle.bg_index.proofs.reading.links_at.Given as goal

abbrev pub invariant-loop-tie : goal.invariant-loop-tie
invariant-loop-tie l =
    (length l.made.items ≡ l.tie-index)
    × ((i : ℕ) (tie : Tie) (link : Link) → At tie i l.ties → At link i l.made.items → link_of (links_of l.host.big) tie.node tie.port ≡ Some link)
