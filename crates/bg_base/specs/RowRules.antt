-- The rules of a bigraph's rows by their codes, and what it is for a row to be the first that breaks one.
use Rattle.std.specs.Prelude.{◌≡◌, ℕ, zero, suc, ◌<◌, false, Option, None, Some, option_map, List, length, slice_get, IsTrue}
use Rattle.std.specs.List.{list_all}
use Rattle.std.specs.Ordering.{nat_cmp}
use Rattle.std.specs.declared.cmp.Ordering.{Ordering}
use Rattle.std.specs.declared.cmp.Ordering.TheVariants.{Less}
use Rattle.bg_base.specs.declared.names.Name.{Name}
use Rattle.bg_base.specs.declared.names.Place.{Place}
use Rattle.bg_base.specs.declared.big.NodeRow.{NodeRow}
use Rattle.bg_base.specs.declared.big.InnerRow.{InnerRow}
use Rattle.bg_base.specs.declared.big.Big.{Big}
use Rattle.bg_base.specs.declared.signature.Control.{Control}
use Rattle.bg_base.specs.declared.check.Part.{Part}
use Rattle.bg_base.specs.declared.check.Part.TheVariants.{Sites, Inner, Outer, Edges, Nodes}
use Rattle.bg_base.specs.Order.{name_cmp}
use Rattle.bg_base.specs.Bigraph.{has_place, has_link, is_rooted, is_atomic, arity_of}

-- the key comes after the one before, where there is one
abbrev pub Follows : {K : Type 0} → (K → K → Ordering) → Option K → K → Type 0
Follows cmp None key = Unit {0}
Follows cmp (Some last) key = cmp last key ≡ Less

-- the site keeps the rule of that code
pub record SiteKeeps (signature : List Control) (big : Big) (place : Place) (code : ℕ) : Type 0 where
  pub there : code ≡ 4 → IsTrue (has_place big place)
  pub not_in_atomic : code ≡ 6 → is_atomic signature big place ≡ false

-- the inner name keeps it, beside the name before
pub record InnerKeeps (big : Big) (last : Option Name) (row : InnerRow) (code : ℕ) : Type 0 where
  pub follows : code ≡ 3 → Follows name_cmp last row.name
  pub link_there : code ≡ 4 → IsTrue (has_link big row.link)

-- the outer name keeps it
pub record OuterKeeps (last : Option Name) (name : Name) (code : ℕ) : Type 0 where
  pub follows : code ≡ 3 → Follows name_cmp last name

-- the edge keeps it
pub record EdgeKeeps (last : Option ℕ) (edge : ℕ) (code : ℕ) : Type 0 where
  pub follows : code ≡ 3 → Follows nat_cmp last edge

-- the control, the parent and the links of the node are there
pub record IsKnown (signature : List Control) (big : Big) (row : NodeRow) : Type 0 where
  pub control_there : row.control < length signature
  pub parent_there : IsTrue (has_place big row.parent)
  pub links_there : IsTrue (list_all (has_link big) row.links)

-- the node keeps it
pub record NodeKeeps (signature : List Control) (big : Big) (last : Option ℕ) (row : NodeRow) (code : ℕ) : Type 0 where
  pub follows : code ≡ 3 → Follows nat_cmp last row.id
  pub known : code ≡ 4 → IsKnown signature big row
  pub ports_fit : code ≡ 5 → length row.links ≡ arity_of signature row.control
  pub not_in_atomic : code ≡ 6 → is_atomic signature big row.parent ≡ false
  pub rooted : code ≡ 7 → IsTrue (is_rooted big row.id)

-- the key of the row before the position
abbrev pub key_before : {K X : Type 0} → (X → K) → List X → ℕ → Option K
key_before key rows zero = None
key_before key rows (suc at) = option_map key (slice_get rows at)

-- each row before the position keeps every rule, beside the key before it
abbrev pub AreKeptBefore : {K X : Type 0} → (X → K) → (Option K → X → ℕ → Type 0) → List X → ℕ → Type 0
AreKeptBefore {K} {X} key Keeps rows end =
    (at : ℕ) (row : X) → at < end → slice_get rows at ≡ Some row → (code : ℕ) → Keeps (key_before key rows at) row code

-- the row at the position breaks the rule of that code and none of a lesser one, and no row before it breaks any
pub record IsFirstToBreak {K X : Type 0} (key : X → K) (Keeps : Option K → X → ℕ → Type 0) (rows : List X) (at code : ℕ) : Type 0 where
  pub row : X
  pub there : slice_get rows at ≡ Some row
  pub breaks : Keeps (key_before key rows at) row code → ⊥
  pub keeps_lesser : (lesser : ℕ) → lesser < code → Keeps (key_before key rows at) row lesser
  pub earlier_keep : AreKeptBefore key Keeps rows at

module _ (signature : List Control) (big : Big) where
  -- the row at the position of that part is the first one of the part that breaks a rule
  abbrev pub IsFirstOf : Part → ℕ → ℕ → Type 0
  IsFirstOf Sites at code = IsFirstToBreak (λ place. place) (λ last. SiteKeeps signature big) big.sites at code
  IsFirstOf Inner at code = IsFirstToBreak (λ (row : InnerRow). row.name) (InnerKeeps big) big.inner at code
  IsFirstOf Outer at code = IsFirstToBreak (λ name. name) OuterKeeps big.outer at code
  IsFirstOf Edges at code = IsFirstToBreak (λ edge. edge) EdgeKeeps big.edges at code
  IsFirstOf Nodes at code = IsFirstToBreak (λ (row : NodeRow). row.id) (NodeKeeps signature big) big.nodes at code

  -- each row of the part keeps every rule
  abbrev pub AreKept : Part → Type 0
  AreKept Sites = AreKeptBefore (λ place. place) (λ last. SiteKeeps signature big) big.sites (length big.sites)
  AreKept Inner = AreKeptBefore (λ (row : InnerRow). row.name) (InnerKeeps big) big.inner (length big.inner)
  AreKept Outer = AreKeptBefore (λ name. name) OuterKeeps big.outer (length big.outer)
  AreKept Edges = AreKeptBefore (λ edge. edge) EdgeKeeps big.edges (length big.edges)
  AreKept Nodes = AreKeptBefore (λ (row : NodeRow). row.id) (NodeKeeps signature big) big.nodes (length big.nodes)

  -- and so does each row of the parts that are looked at before the part
  abbrev pub AreKeptUpTo : Part → Type 0
  AreKeptUpTo Sites = Unit {0}
  AreKeptUpTo Inner = AreKept Sites
  AreKeptUpTo Outer = AreKept Sites × AreKept Inner
  AreKeptUpTo Edges = AreKept Sites × AreKept Inner × AreKept Outer
  AreKeptUpTo Nodes = AreKept Sites × AreKept Inner × AreKept Outer × AreKept Edges

  -- of all rows, those of sites first, then of inner names, outer names, edges and nodes, the one at the position of that
  -- part is the first that breaks a rule, and the code is the least of those that it breaks
  pub record IsFirstFault (part : Part) (at code : ℕ) : Type 0 where
    pub first : IsFirstOf part at code
    pub parts_before : AreKeptUpTo part
