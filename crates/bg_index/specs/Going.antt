-- Nodes that are dropped, as they are put behind one another.
use Rattle.std.specs.Prelude.{◌⊎◌, ℕ, ◌<◌, List}
use Rattle.bg_lists.specs.Lists.{Mem, At}
use Rattle.bg_index.specs.declared.reading.Part.{Part}

-- the nodes, and of the first `at` parts those for which nothing asks
pub record AreGathered (nodes asked : List ℕ) (parts : List Part) (at : ℕ) (gone : List ℕ) : Type 0 where
  pub images : (node : ℕ) → Mem node nodes → Mem node gone
  pub unasked : (site node : ℕ) (part : Part) → site < at → At part site parts → At 0 site asked → Mem node part.nodes.items → Mem node gone
  pub only : (node : ℕ) → Mem node gone
      → Mem node nodes ⊎ ((site : ℕ) × (part : Part) × At part site parts × At 0 site asked × Mem node part.nodes.items)
