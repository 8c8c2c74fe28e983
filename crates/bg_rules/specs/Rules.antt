-- Rules: what a reaction may do (Milner, chapter 8).
use Rattle.std.specs.Prelude.{◌≡◌, ℕ, ◌<◌, nat_lt, Bool, ◌&&◌, ◌==◌, List, [], length, All}
use Rattle.std.specs.List.{list_all}
use Rattle.std.specs.Cmp.Lexicographic.{pointwise}
use Rattle.std.specs.Ordering.{is_eq}
use Rattle.bg_base.specs.declared.labels.Label.{Label}
use Rattle.bg_base.specs.declared.names.Name.{Name}
use Rattle.bg_base.specs.declared.big.Big.{Big}
use Rattle.bg_base.specs.Order.{name_cmp}
use Rattle.bg_base.specs.Bigraph.{IsValid}
use Rattle.bg_base.specs.Elementary.{counted}
use Rattle.bg_base.specs.Translation.{node_numbers}
use Rattle.bg_rules.specs.declared.condition.Condition.{Condition}
use Rattle.bg_rules.specs.Solid.{IsPattern}

-- a rule, as contracts see it: entry i of the map is the site of the redex that site i of the reactum asks for
pub record RuleParts : Type 0 where
  pub label : Label
  pub redex : Big
  pub reactum : Big
  pub map : List ℕ
  pub conditions : List Condition
  pub class : ℕ

-- the reactum has the regions and the outer names of the redex, and no inner name
pub record SidesAgree (redex reactum : Big) : Type 0 where
  pub regions_agree : redex.regions ≡ reactum.regions
  pub outer_agree : redex.outer ≡ reactum.outer
  pub reactum_inner : reactum.inner ≡ []

-- the map has an entry for each site of the reactum, and each entry is a site of the redex
pub record MapFits (redex reactum : Big) (entries : List ℕ) : Type 0 where
  pub as_many : length entries ≡ length reactum.sites
  pub entries_there : All (λ entry. entry < length redex.sites) entries

-- the redex is a pattern, the reactum valid; they agree, and the map fits
pub record AreSides (redex reactum : Big) (entries : List ℕ) : Type 0 where
  pub is_pattern : IsPattern redex
  pub reactum_valid : IsValid reactum
  pub agree : SidesAgree redex reactum
  pub fits : MapFits redex reactum entries

-- the nodes, and the edges, are numbered 0, 1, 2 and so on
pub record IsNumberedFromZero (big : Big) : Type 0 where
  pub nodes_counted : node_numbers big.nodes ≡ counted 0 (length big.nodes)
  pub edges_counted : big.edges ≡ counted 0 (length big.edges)

-- what each rule keeps
pub record IsRule (rule : RuleParts) : Type 0 where
  pub sides : AreSides rule.redex rule.reactum rule.map
  pub reactum_numbered : IsNumberedFromZero rule.reactum

-- ---- the tests of the sides and of the map

-- the test that the sides have as many regions and one list of outer names, and the reactum no inner names
abbrev pub sides_agree : Big → Big → Bool
sides_agree redex reactum =
    (redex.regions == reactum.regions)
    && (pointwise (λ (x y : Name). is_eq (name_cmp x y)) redex.outer reactum.outer && (length reactum.inner == 0))

-- the test that the map has an entry for each site of the reactum, and each entry is a site of the redex
abbrev pub map_fits : Big → Big → List ℕ → Bool
map_fits redex reactum entries =
    (length entries == length reactum.sites) && list_all (λ entry. nat_lt entry (length redex.sites)) entries
