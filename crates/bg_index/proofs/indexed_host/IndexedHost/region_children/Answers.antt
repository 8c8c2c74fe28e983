use Rattle.std.proofs.Common.{◌≡◌, List, true, false, nat_lt, length, get_or, subst, ◌∙◌}
use Rattle.bg_index.specs.declared.entries.RegionEntry.{RegionEntry}
use Rattle.bg_index.proofs.IndexLaws.{region_found, no_region}
use Rattle.bg_index.proofs.indexed_host.IndexedHost.region_children.Goals as goal

pub returns-in-Some : goal.returns-in-Some
returns-in-Some c =
    c.as_slice.ensures.value
    ∙ region_found c.self.inside.index c.self.invariant c.args.self.now c.self.view_is c.args.region c.in-Some.entry.now
    (subst (λ (xs : List RegionEntry). true ≡ nat_lt c.args.region (length xs)) c.deref.ensures.value c.in-Some.ensures.lookup.0)
    (subst (λ (xs : List RegionEntry). c.in-Some.entry.now ≡ get_or xs c.args.region c.in-Some.entry.now) c.deref.ensures.value c.in-Some.ensures.lookup.1)

pub returns-in-None : goal.returns-in-None
returns-in-None c =
    no_region c.self.inside.index c.self.invariant c.args.self.now c.self.view_is c.args.region
    (subst (λ (xs : List RegionEntry). false ≡ nat_lt c.args.region (length xs)) c.deref.ensures.value c.in-None.ensures.lookup.0)
