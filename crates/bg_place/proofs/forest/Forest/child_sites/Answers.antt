use Rattle.std.proofs.Common.{nat_cmp, ap, sym, subst, ◌∙◌}
use Rattle.std.specs.List.Sorted.{IsStrictlySortedBy}
use Rattle.bg_place.specs.declared.graph.ParentRow.{ParentRow}
use Rattle.bg_place.specs.Places.{same_place, child_sites_of}
use Rattle.bg_place.proofs.GroupLaws.{same_numbers, numbers_ascend, numbered_ascends}
use Rattle.bg_place.proofs.forest.Forest.child_sites.Goals as goal

pub returns-clause-exact : goal.returns-clause-exact
returns-clause-exact c =
    c.members_of.ensures ∙ same_numbers c.args.place _ _ c.self.invariant.sites_are ∙ ap (λ places. child_sites_of places c.args.place) c.self.view_is

pub returns-clause-ascending : goal.returns-clause-ascending
returns-clause-ascending c =
    subst (IsStrictlySortedBy nat_cmp) (sym (c.members_of.ensures ∙ same_numbers c.args.place _ _ c.self.invariant.sites_are))
    (numbers_ascend (λ (row : ParentRow). same_place row.parent c.args.place) _ (numbered_ascends 0 c.self.inside.places.sites))
