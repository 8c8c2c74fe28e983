use Rattle.std.proofs.Common.{◌≡◌, ◌++◌, take}
use Rattle.std.specs.List.{flat_map}
use Rattle.bg_listing.specs.Spelling.{node_line}
use Rattle.bg_listing.proofs.write.put_nodes.Given as goal

-- the rows so far are written
abbrev pub invariant-loop-row : goal.invariant-loop-row
invariant-loop-row l = l.out.items ≡ l.fn.out.items ++ flat_map (node_line l.signature) (take l.row-index l.rows)
