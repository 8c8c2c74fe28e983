-- Bigraphs one on another: the rows of all stand in common lists, those of each behind those of the one below it, and a
-- frame of each tells where its rows begin.
use Rattle.std.specs.Prelude.{ℕ, ◌≤◌, ◌≡◌, true, List, [], ◌∷◌, ◌++◌, length, map, take, drop, reverse}
use Rattle.bg_base.specs.declared.names.Name.{Name}
use Rattle.bg_base.specs.declared.names.Place.{Place}
use Rattle.bg_base.specs.declared.names.Link.{Link}
use Rattle.bg_base.specs.declared.big.NodeRow.{NodeRow}
use Rattle.bg_base.specs.declared.big.InnerRow.{InnerRow}
use Rattle.bg_base.specs.declared.big.Big.{Big}
use Rattle.bg_base.specs.Bigraph.{IsValid}
use Rattle.bg_builder.specs.declared.frames.Frame.{Frame}
use Rattle.bg_builder.specs.declared.lists.Lists.{Lists}
use Rattle.bg_base.specs.Products.{row_in_one, place_in_one}
use Rattle.bg_builder.specs.Numbers.{numbers_follow}

-- an inner name and its link, as a row
abbrev pub inner_row : Name × Link → InnerRow
inner_row entry = record { name = entry.0; link = entry.1 }

abbrev pub inner_rows : List (Name × Link) → List InnerRow
inner_rows entries = map inner_row entries

-- the rows of bigraphs one on another
pub record LaidRows : Type 0 where
  pub nodes : List NodeRow
  pub edges : List ℕ
  pub sites : List Place

abbrev pub laid_rows : Lists → LaidRows
laid_rows lists = record { nodes = lists.nodes.items; edges = lists.edges.items; sites = lists.sites.items }

-- the rows of the bigraphs below that of the frame, which is the topmost one
abbrev pub rows_below : LaidRows → Frame → LaidRows
rows_below rows frame =
    record { nodes = take frame.nodes rows.nodes; edges = take frame.edges rows.edges; sites = take frame.sites rows.sites }

-- the bigraph of the topmost frame
abbrev pub top_of : LaidRows → Frame → Big
top_of rows frame =
    record {
      nodes = drop frame.nodes rows.nodes;
      edges = drop frame.edges rows.edges;
      sites = drop frame.sites rows.sites;
      inner = inner_rows frame.inner.entries;
      regions = frame.regions;
      outer = frame.outer.keys;
    }

-- the bigraphs of the frames, the topmost first
abbrev pub bigs_of : LaidRows → List Frame → List Big
bigs_of rows [] = []
bigs_of rows (frame ∷ frames) = top_of rows frame ∷ bigs_of (rows_below rows frame) frames

-- the rows of the frame begin where the lists end, or before
pub record BeginsWithin (rows : LaidRows) (frame : Frame) : Type 0 where
  pub nodes : frame.nodes ≤ length rows.nodes
  pub edges : frame.edges ≤ length rows.edges
  pub sites : frame.sites ≤ length rows.sites

-- what is true of frames, the topmost first, and their rows
abbrev pub AreKept : LaidRows → List Frame → Type 0
AreKept rows [] = Unit {0}
AreKept rows (frame ∷ frames) = BeginsWithin rows frame × IsValid (top_of rows frame) × AreKept (rows_below rows frame) frames

-- the topmost frame has that bigraph, over those rows
pub record IsLaid (rows : LaidRows) (frame : Frame) (under : LaidRows) (big : Big) : Type 0 where
  pub within : BeginsWithin rows frame
  pub under_is : rows_below rows frame ≡ under
  pub big_is : top_of rows frame ≡ big

-- the two topmost bigraphs, that of the first frame on top; the numbers of the one on top lie behind those of the other
pub record AreTwo (rows : LaidRows) (g f : Frame) : Type 0 where
  pub g_within : BeginsWithin rows g
  pub f_within : BeginsWithin (rows_below rows g) f
  pub g_valid : IsValid (top_of rows g)
  pub f_valid : IsValid (top_of (rows_below rows g) f)
  pub follow : numbers_follow (top_of (rows_below rows g) f) (top_of rows g) ≡ true

-- the bigraphs of frames, of which the topmost is the last
abbrev pub stack_of : Lists → List Frame → List Big
stack_of lists frames = bigs_of (laid_rows lists) (reverse frames)

-- these frames are kept right, and have those bigraphs
pub record IsStack (lists : Lists) (frames : List Frame) (bigs : List Big) : Type 0 where
  pub kept : AreKept (laid_rows lists) (reverse frames)
  pub bigs_are : stack_of lists frames ≡ bigs

-- the two topmost bigraphs have their roots and sites in region 0, and the rows below stay
pub record AreInOne (rows : LaidRows) (g f : Frame) (new : LaidRows) : Type 0 where
  pub nodes : new.nodes ≡ take f.nodes rows.nodes ++ map row_in_one (drop f.nodes rows.nodes)
  pub edges : new.edges ≡ rows.edges
  pub sites : new.sites ≡ take f.sites rows.sites ++ map place_in_one (drop f.sites rows.sites)
