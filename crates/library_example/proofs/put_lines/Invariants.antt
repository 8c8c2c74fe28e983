use Rattle.std.proofs.Common.{◌≡◌, ◌++◌, take}
use Rattle.std.specs.List.{flat_map}
use Rattle.bg_listing.specs.Spelling.{numbers_line}
use Rattle.library_example.proofs.put_lines.Given as goal

-- a line of each occurrence so far is written
abbrev pub invariant-loop-map : goal.invariant-loop-map
invariant-loop-map l = l.text.items ≡ l.fn.text.items ++ flat_map numbers_line (take l.map-index l.maps)
