use Rattle.std.proofs.Common.{◌≡◌, ◌++◌, drop}
use Rattle.bg_index.specs.Telling.{names_bundled}
use Rattle.bg_index.proofs.causes.note_names.Given as goal

abbrev pub invariant-loop-bundle : goal.invariant-loop-bundle
invariant-loop-bundle l = l.names.items ++ names_bundled (drop l.bundle-index l.bundles) ≡ l.initial.names.items ++ names_bundled l.bundles
