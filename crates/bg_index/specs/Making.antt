-- How an entry is put behind the others.
use Rattle.std.specs.Prelude.{◌≡◌, ℕ, Some, None, List, [], ◌∷◌, ◌++◌}
use Rattle.slab.specs.Slab.{Slab, get, Updates}
use Rattle.bg_index.specs.declared.entries.NodeEntry.{NodeEntry}
use Rattle.bg_index.specs.declared.entries.Slot.{Slot}

-- the entry is put where nothing was kept, and its slot stands last
pub record IsPushed (nodes : Slab NodeEntry) (slots : List Slot) (entry : NodeEntry) (new_nodes : Slab NodeEntry) (new_slots : List Slot) : Type 0 where
  pub at : ℕ
  pub was_vacant : get nodes at ≡ None
  pub updates : Updates nodes new_nodes at (Some entry)
  pub slots_are : new_slots ≡ slots ++ record { node = entry.row.id; at = at } ∷ []
