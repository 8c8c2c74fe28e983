-- The orders of names, values and labels.
use Rattle.std.specs.Prelude.{ℕ, List}
use Rattle.std.specs.Ordering.{nat_cmp, int_cmp, ordering_then}
use Rattle.std.specs.Cmp.Lexicographic.{slice_cmp}
use Rattle.std.specs.declared.cmp.Ordering.{Ordering}
use Rattle.std.specs.declared.cmp.Ordering.TheVariants.{Less, Greater}
use Rattle.bg_base.specs.declared.names.Name.{Name}
use Rattle.bg_base.specs.declared.names.Name.TheVariants.{Plain, Port, Opened}
use Rattle.bg_base.specs.declared.labels.Value.{Value}
use Rattle.bg_base.specs.declared.labels.Value.TheVariants.{Int, Words}
use Rattle.bg_base.specs.declared.labels.Label.{Label}

-- bytes in dictionary order
abbrev pub bytes_cmp : List ℕ → List ℕ → Ordering
bytes_cmp = slice_cmp nat_cmp

-- plain names by their bytes, then ports by node and index, then opened edges by number
abbrev pub name_cmp : Name → Name → Ordering
name_cmp (Plain x) (Plain y) = bytes_cmp x y
name_cmp (Plain x) (Port v i) = Less
name_cmp (Plain x) (Opened e) = Less
name_cmp (Port v i) (Plain y) = Greater
name_cmp (Port v i) (Port w j) = ordering_then (nat_cmp v w) (nat_cmp i j)
name_cmp (Port v i) (Opened e) = Less
name_cmp (Opened d) (Plain y) = Greater
name_cmp (Opened d) (Port w j) = Greater
name_cmp (Opened d) (Opened e) = nat_cmp d e

-- whole numbers by size, then texts by their bytes
abbrev pub value_cmp : Value → Value → Ordering
value_cmp (Int x) (Int y) = int_cmp x y
value_cmp (Int x) (Words t) = Less
value_cmp (Words s) (Int y) = Greater
value_cmp (Words s) (Words t) = bytes_cmp s t

-- labels by their identifiers, then by their arguments in dictionary order
abbrev pub label_cmp : Label → Label → Ordering
label_cmp x y = ordering_then (bytes_cmp x.name y.name) (slice_cmp value_cmp x.args y.args)
