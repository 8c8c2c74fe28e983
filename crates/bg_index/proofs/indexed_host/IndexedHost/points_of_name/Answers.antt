use Rattle.std.proofs.Common.{◌≡◌, List, true, false, nat_lt, length, get_or, subst, ◌∙◌}
use Rattle.bg_index.specs.declared.entries.NameEntry.{NameEntry}
use Rattle.bg_index.proofs.LinkKeyLaws.{named_points, no_named}
use Rattle.bg_index.proofs.indexed_host.IndexedHost.points_of_name.Goals as goal

pub returns-in-Some : goal.returns-in-Some
returns-in-Some c = λ link is.
    c.as_slice.ensures.value
    ∙ named_points c.self.inside.index c.self.invariant c.args.self.now c.self.view_is c.args.at c.in-Some.entry.now
    (subst (λ (xs : List NameEntry). true ≡ nat_lt c.args.at (length xs)) c.deref.ensures.value c.in-Some.ensures.lookup.0)
    (subst (λ (xs : List NameEntry). c.in-Some.entry.now ≡ get_or xs c.args.at c.in-Some.entry.now) c.deref.ensures.value c.in-Some.ensures.lookup.1) link is

pub returns-in-None : goal.returns-in-None
returns-in-None c = λ link is.
    no_named c.self.inside.index c.self.invariant c.args.self.now c.self.view_is c.args.at
    (subst (λ (xs : List NameEntry). false ≡ nat_lt c.args.at (length xs)) c.deref.ensures.value c.in-None.ensures.lookup.0) link is
