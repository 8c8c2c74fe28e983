use Rattle.std.proofs.Common.{◌≡◌, ◌∙◌, refl}
use Rattle.std.specs.Map.{keys_of}
use Rattle.std.proofs.lemmas.Iterator.Consumers.{YieldsList-from_rest}
use Rattle.std.proofs.lemmas.Iterator.Search.{cmp_from_yields_List}
use Rattle.bg_base.specs.Order.{name_cmp}
use Rattle.bg_builder.proofs.tables.order_of.Goals as goal

pub returns : goal.returns
returns c =
    cmp_from_yields_List (λ x y. y ≡ x) c.keys.result name_cmp c.cmp.result c.cmp.ensures.ran (YieldsList-from_rest c.args.names.now.keys c.iter.ensures.rest)
    (λ it b. YieldsList-from_rest (keys_of c.args.inner.now.entries) (b ∙ c.keys.ensures.rest)) (λ x y. refl)
