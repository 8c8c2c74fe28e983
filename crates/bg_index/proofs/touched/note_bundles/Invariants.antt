use Rattle.std.proofs.Common.{◌≡◌, ◌++◌, drop}
use Rattle.bg_index.specs.Noting.{bundles_noted}
use Rattle.bg_index.proofs.touched.note_bundles.Given as goal

abbrev pub invariant-loop-bundle : goal.invariant-loop-bundle
invariant-loop-bundle l =
    l.nodes.items ++ bundles_noted l.host.big l.gone (drop l.bundle-index l.bundles) ≡ l.initial.nodes.items ++ bundles_noted l.host.big l.gone l.bundles
