use Rattle.std.proofs.Common.{◌≡◌, ◌++◌, drop}
use Rattle.bg_index.specs.Telling.{edges_bundled}
use Rattle.bg_index.proofs.causes.note_edges.Given as goal

abbrev pub invariant-loop-bundle : goal.invariant-loop-bundle
invariant-loop-bundle l = l.edges.items ++ edges_bundled (drop l.bundle-index l.bundles) ≡ l.initial.edges.items ++ edges_bundled l.bundles
