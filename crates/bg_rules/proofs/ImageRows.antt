-- Images of a pattern's nodes in a host that meets the local conditions.
use Rattle.std.proofs.Common.{◌≡◌, ℕ, List, length, nat_cmp, sym, ap, ◌∙◌, arith}
use Rattle.std.specs.Ordering.{eq_by_cmp}
use Rattle.std.specs.List.{IsDistinct}
use Rattle.bg_lists.specs.Lists.{Mem, At}
use Rattle.bg_lists.proofs.Ascents.{Ascending-from_sorted}
use Rattle.bg_lists.proofs.Sorting.{IsDistinct-from_Ascending}
use Rattle.bg_lists.proofs.Places.{At-below, At-total}
use Rattle.bg_base.specs.declared.names.Link.{Link}
use Rattle.bg_base.specs.declared.big.NodeRow.{NodeRow}
use Rattle.bg_base.specs.declared.big.Big.{Big}
use Rattle.bg_base.specs.Bigraph.{IsValid}
use Rattle.bg_rules.specs.LocalConditions.{IsImage, MeetsLocally}
use Rattle.bg_rules.proofs.Patterns.{number_mem, same_node_row, image_injective, image_row}

pub pattern_edges_differ : (pattern : Big) → IsValid pattern → IsDistinct (eq_by_cmp nat_cmp) pattern.edges
pattern_edges_differ pattern valid = IsDistinct-from_Ascending pattern.edges (Ascending-from_sorted pattern.edges valid.edges_ascend)

module _ (host pattern : Big) (nodes : List ℕ) (host_valid : IsValid host) (valid : IsValid pattern) (local : MeetsLocally host pattern nodes) where
  -- a row of the host is the image of one row, and a row of the pattern has one image
  pub same_below : {row other image twin : NodeRow} → IsImage host pattern nodes row image → IsImage host pattern nodes other twin → image ≡ twin → row ≡ other
  same_below {row} {other} one two e =
      same_node_row pattern valid one.of_pattern two.of_pattern
      (image_injective pattern valid nodes local.nodes_new (number_mem one.of_pattern) (number_mem two.of_pattern)
      (sym one.same ∙ ap (λ (r : NodeRow). r.id) e ∙ two.same))

  pub same_image : {row image twin : NodeRow} → IsImage host pattern nodes row image → IsImage host pattern nodes row twin → image ≡ twin
  same_image one two = same_node_row host host_valid one.of_host two.of_host (one.same ∙ sym two.same)

  pub image_control : {row image : NodeRow} → IsImage host pattern nodes row image → image.control ≡ row.control
  image_control {row} is =
      let w = local.images row is.of_pattern in ap (λ (r : NodeRow). r.control) (same_image is w.1) ∙ w.2

  pub image_links : {row image : NodeRow} → IsImage host pattern nodes row image → length image.links ≡ length row.links
  image_links {row} is =
      let w = local.images row is.of_pattern in ap (λ (r : NodeRow). length r.links) (same_image is w.1) ∙ w.3

  -- each port of a row has a port of its image
  pub image_port : {row image : NodeRow} {link : Link} {port : ℕ} → IsImage host pattern nodes row image → At link port row.links → (other : Link) × At other port image.links
  image_port {row} {image} {port = port} is a =
      let below = At-below a in
      let long = image_links is in
      At-total image.links port (omega (arith, below, long))

  -- a row of the host with one of the numbers is an image
  pub below_image : {image : NodeRow} → Mem image host.nodes → Mem image.id nodes → (row : NodeRow) × IsImage host pattern nodes row image
  below_image m k =
      let w = image_row pattern valid nodes local.nodes_new k in
      (w.0, record { of_pattern = w.1; of_host = m; same = sym w.2 })
