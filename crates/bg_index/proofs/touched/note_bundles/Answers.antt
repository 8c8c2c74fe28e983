use Rattle.std.proofs.Common.{sym}
use Rattle.bg_lists.proofs.Members.{Mem-same}
use Rattle.bg_lists.proofs.Places.{At-get_or, Mem-from_At}
use Rattle.bg_index.proofs.PointLaws.{name_in_bundles}
use Rattle.bg_index.proofs.touched.note_bundles.Goals as goal

pub note_bundle-requires-clause-named : goal.note_bundle-requires-clause-named
note_bundle-requires-clause-named c = λ at e.
    c.requires.named at
    (name_in_bundles c.args.bundles.now
    (Mem-same (sym c.bundle-item.is) (Mem-from_At (At-get_or c.args.bundles.now c.loop-bundle.bundle-index c.bundle-item.result c.loop-bundle-test.true))) e)
