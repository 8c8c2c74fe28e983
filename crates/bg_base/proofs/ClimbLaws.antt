-- Climbing from a node to its root, in a bigraph that need not be valid.
use Rattle.std.proofs.Common.{◌≡◌, ℕ, zero, suc, ◌-◌, true, Some, List, unwrap_or, option_map, length, refl, sym, ap, ◌∙◌, arith}
use Rattle.std.proofs.lemmas.Bool.{false≢true}
use Rattle.bg_lists.proofs.Tests.{same_test}
use Rattle.bg_base.specs.declared.names.Place.TheVariants.{Node}
use Rattle.bg_base.specs.declared.big.NodeRow.{NodeRow}
use Rattle.bg_base.specs.declared.big.Big.{Big}
use Rattle.bg_base.specs.Bigraph.{row_of, reaches, is_rooted}
use Rattle.bg_base.specs.Climbing.{node_at}
use Rattle.bg_base.specs.Lookup.{IsFirstRow, TellsRoot, has_root}
use Rattle.bg_base.proofs.Climbs.{reaches_within, reaches-row, reaches_upto}
use Rattle.bg_base.proofs.LookUps.{row_from_row_of}

-- the row of a node stands where its first row does
pub node_at-first : (rows : List NodeRow) (node at : ℕ) (row : NodeRow) → IsFirstRow rows node at row → node_at rows at ≡ node
node_at-first rows node at row is =
    ap (λ o. unwrap_or (option_map (λ (r : NodeRow). r.id) o) 0) is.there ∙ (row_from_row_of rows node is.first).1

-- what a node reaches its parent reaches
inherits : (rows : List NodeRow) (regions n node : ℕ) (row : NodeRow) → row_of rows node ≡ Some row
    → reaches rows regions n (Node node) ≡ true → reaches rows regions n row.parent ≡ true
inherits rows regions zero node row e rooted = absurd (false≢true rooted)
inherits rows regions (suc m) node row e rooted =
    reaches_upto rows regions m row.parent (sym (reaches-row rows regions m node e) ∙ rooted) (suc m) (omega arith)

-- a root above a node is a root of its parent's climb
pub rooted_parent : (big : Big) (lower at : ℕ) (row : NodeRow) → is_rooted big lower ≡ true → IsFirstRow big.nodes lower at row
    → reaches big.nodes big.regions (length big.nodes) row.parent ≡ true
rooted_parent big lower at row rooted is =
    inherits big.nodes big.regions (length big.nodes) lower row is.first rooted

module _ (big : Big) where
  -- a node has a root where its parent has one
  pub root-parent : (node at : ℕ) (row : NodeRow) → IsFirstRow big.nodes node at row → has_root big (Node node) ≡ has_root big row.parent
  root-parent node at row is =
      same_test (has_root big (Node node)) (has_root big row.parent)
      (λ rooted. rooted_parent big node at row rooted is)
      (λ rooted. reaches_within big.nodes big.regions (suc (length big.nodes)) (Node node)
      (reaches-row big.nodes big.regions (length big.nodes) node is.first ∙ rooted))

  -- one move less tells it of the parent
  pub tells_parent : (moves node at : ℕ) (row : NodeRow) → TellsRoot big moves (Node node) → IsFirstRow big.nodes node at row → (moves ≡ 0 → ⊥)
      → TellsRoot big (moves - 1) row.parent
  tells_parent zero node at row tells is some = absurd (some refl)
  tells_parent (suc m) node at row tells is some =
      let less : suc m - 1 ≡ m = omega arith in
      rw less (record { same = sym (reaches-row big.nodes big.regions m node is.first) ∙ tells.same ∙ root-parent node at row is })
