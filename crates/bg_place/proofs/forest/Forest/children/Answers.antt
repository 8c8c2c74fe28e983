use Rattle.std.proofs.Common.{nat_cmp, ap, sym, subst, ◌∙◌}
use Rattle.std.specs.List.Sorted.{IsStrictlySortedBy}
use Rattle.bg_place.specs.declared.graph.ParentRow.{ParentRow}
use Rattle.bg_place.specs.Places.{same_place, children_of}
use Rattle.bg_place.proofs.GroupLaws.{same_numbers, numbers_ascend}
use Rattle.bg_place.proofs.forest.Forest.children.Goals as goal

pub returns-clause-exact : goal.returns-clause-exact
returns-clause-exact c =
    c.members_of.ensures ∙ same_numbers c.args.place _ _ c.self.invariant.children_are ∙ ap (λ places. children_of places c.args.place) c.self.view_is

pub returns-clause-ascending : goal.returns-clause-ascending
returns-clause-ascending c =
    subst (IsStrictlySortedBy nat_cmp) (sym (c.members_of.ensures ∙ same_numbers c.args.place _ _ c.self.invariant.children_are))
    (numbers_ascend (λ (row : ParentRow). same_place row.parent c.args.place) _ c.self.invariant.ascending)
