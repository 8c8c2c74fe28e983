use Rattle.std.proofs.Common.{◌≡◌, take, map}
use Rattle.bg_rewriting.specs.Rewriting.{link_made}
use Rattle.bg_index.proofs.new_rows.links_made.Given as goal

abbrev pub invariant-loop-link : goal.invariant-loop-link
invariant-loop-link l = l.made.items ≡ map (link_made l.next l.names l.found) (take l.link-index l.links)
