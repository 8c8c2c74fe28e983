-- What watchers do: what one becomes that is told of an entry, when it has enough, and the line that it writes; and how a list
-- of watchers is told of entries.
use Rattle.std.specs.Prelude.{ℕ, ◌+◌, ◌-◌, ◌^◌, min, max, Bool, true, false, nat_le, if◌then◌else◌, Option, None, Some, List, [], ◌∷◌, ◌++◌, codes}
use Rattle.std.specs.Fmt.{decimal}
use Rattle.std.specs.List.{flat_map}
use Rattle.bg_base.specs.declared.history.Entry.{Entry}
use Rattle.bg_watch.specs.declared.watcher.Answer.{Answer}
use Rattle.bg_watch.specs.declared.watcher.Answer.TheVariants.{More, Enough}

-- ---- one watcher

-- a watcher, as it is seen: its kind and its numbers
pub data Watched : Type 0 where
  -- of how many entries it was told
  tally : ℕ → Watched
  -- the rule of the last entry, none before
  last_rule : Option ℕ → Watched
  -- the most nodes
  peak : ℕ → Watched
  -- how many entries are enough, and of how many it was told
  budget : ℕ → ℕ → Watched

-- a count and one more; it stays at the greatest number of 64 bits
abbrev pub one_more : ℕ → ℕ
one_more count = min (count + 1) (2 ^ 64 - 1)

-- what it becomes where it is told of an entry, after which the host has so many nodes
abbrev pub after_entry : Watched → Entry → ℕ → Watched
after_entry (tally count) entry nodes = tally (one_more count)
after_entry (last_rule rule) entry nodes = last_rule (Some entry.rule)
after_entry (peak most) entry nodes = peak (max most nodes)
after_entry (budget most count) entry nodes = budget most (one_more count)

-- whether it has enough
abbrev pub has_enough : Watched → Bool
has_enough (tally count) = false
has_enough (last_rule rule) = false
has_enough (peak most) = false
has_enough (budget most count) = nat_le most count

-- what its answer says
abbrev pub is_enough : Answer → Bool
is_enough More = false
is_enough Enough = true

-- its line
abbrev pub line_of : Watched → List ℕ
line_of (tally count) = codes "watch tally " ++ (decimal count ++ codes "\n")
line_of (last_rule None) = codes "watch last none\n"
line_of (last_rule (Some rule)) = codes "watch last " ++ (decimal rule ++ codes "\n")
line_of (peak most) = codes "watch peak " ++ (decimal most ++ codes "\n")
line_of (budget most count) = codes "watch budget " ++ (decimal count ++ codes "\n")

-- ---- a list of watchers

-- the watchers that stay where each is told of the entry: those that do not have enough then
abbrev pub staying : List Watched → Entry → ℕ → List Watched
staying [] entry nodes = []
staying (watcher ∷ watchers) entry nodes =
    if has_enough (after_entry watcher entry nodes) then staying watchers entry nodes else after_entry watcher entry nodes ∷ staying watchers entry nodes

-- the lines of the others, in order
abbrev pub leaving : List Watched → Entry → ℕ → List ℕ
leaving [] entry nodes = []
leaving (watcher ∷ watchers) entry nodes =
    if has_enough (after_entry watcher entry nodes) then line_of (after_entry watcher entry nodes) ++ leaving watchers entry nodes else leaving watchers entry nodes

-- the watchers that stay where they are told of all entries, in order, each with the nodes of the host after it
abbrev pub staying_all : List Watched → List Entry → List ℕ → List Watched
staying_all watchers [] counts = watchers
staying_all watchers (entry ∷ entries) [] = watchers
staying_all watchers (entry ∷ entries) (nodes ∷ counts) = staying_all (staying watchers entry nodes) entries counts

-- the lines of those that leave meanwhile
abbrev pub leaving_all : List Watched → List Entry → List ℕ → List ℕ
leaving_all watchers [] counts = []
leaving_all watchers (entry ∷ entries) [] = []
leaving_all watchers (entry ∷ entries) (nodes ∷ counts) = leaving watchers entry nodes ++ leaving_all (staying watchers entry nodes) entries counts

-- the lines of all that are told of the entries: of each that leaves when it has enough, and of the others at the end
abbrev pub watch_lines : List Watched → List Entry → List ℕ → List ℕ
watch_lines watchers entries counts = leaving_all watchers entries counts ++ flat_map line_of (staying_all watchers entries counts)
