use Rattle.std.proofs.Common.{◌↔◌, List, ℕ, sym, subst, ◌∙◌}
use Rattle.bg_lists.specs.Lists.{Mem}
use Rattle.bg_base.specs.declared.names.Place.{Place}
use Rattle.bg_index.specs.Arriving.{AreNestedIn}
use Rattle.bg_index.proofs.children.nests_of.Goals as goal

pub returns-clause-places : goal.returns-clause-places
returns-clause-places c = λ place.
    subst (λ (xs : List Place). Mem place xs ↔ Mem place c.args.reading.now.places.items) (sym (c.in_ok-nests.ensures.places ∙ c.deref-3.ensures.value))
    (subst (λ (xs : List Place). Mem place c.in_ok-places.places.items ↔ Mem place xs) c.deref.ensures.value (c.in_ok-places.ensures place))

pub returns-clause-nested : goal.returns-clause-nested
returns-clause-nested c = λ nest m.
    subst (λ (images : List ℕ). AreNestedIn c.args.host.now.big images c.args.incoming.now nest.place nest.children.items) c.deref-2.ensures.value
    (c.in_ok-nests.ensures.nested nest m)
