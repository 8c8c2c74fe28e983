use Rattle.std.proofs.Common.{◌≡◌, ◌==◌, Some, None, find, sym, subst, ◌∙◌}
use Rattle.bg_rules.specs.Hosts.{IsHost}
use Rattle.bg_index.specs.declared.entries.Slot.{Slot}
use Rattle.bg_index.proofs.IndexLaws.{slot_found, none_found}
use Rattle.bg_index.proofs.indexed_host.IndexedHost.entry.Goals as goal

pub returns-in-Some : goal.returns-in-Some
returns-in-Some c = record {
  kept = subst IsHost c.self.view_is c.self.invariant.is_host;
  found = slot_found c.self.inside.index c.self.invariant c.args.self.now c.self.view_is c.args.node c.in-Some.slot
      (subst (λ slots. find (λ (slot : Slot). slot.node == c.args.node) slots ≡ Some c.in-Some.slot) c.deref.ensures.value (sym c.find_slot.ensures ∙ c.in-Some.is))
      c.get.result c.get.ensures;
}

pub returns-in-None : goal.returns-in-None
returns-in-None c = record {
  kept = subst IsHost c.self.view_is c.self.invariant.is_host;
  found = none_found c.self.inside.index c.self.invariant c.args.self.now c.self.view_is c.args.node
      (subst (λ slots. find (λ (slot : Slot). slot.node == c.args.node) slots ≡ None) c.deref.ensures.value (sym c.find_slot.ensures ∙ c.in-None.is));
}
