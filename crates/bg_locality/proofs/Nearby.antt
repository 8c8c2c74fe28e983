-- Where two hosts look the same to a pattern at the numbers of a map, the map meets all local conditions but one in the other
-- host where it does in the one.
use Rattle.std.proofs.Common.{◌≡◌, ℕ, ◌⊎◌, Bool, List, filter, inl, inr, length, sym, ap, subst, ◌∙◌, arith}
use Rattle.bg_lists.specs.Lists.{Mem, At}
use Rattle.bg_lists.proofs.Members.{Mem-same, Mem-map, Mem-unmap, Mem-filter, Mem-unfilter}
use Rattle.bg_lists.proofs.Places.{At-below, At-total, At-from_Mem, Mem-from_At}
use Rattle.bg_base.specs.declared.names.Place.TheVariants.{Node, Region}
use Rattle.bg_base.specs.declared.names.Link.{Link}
use Rattle.bg_base.specs.declared.names.Link.TheVariants.{Edge}
use Rattle.bg_base.specs.declared.big.NodeRow.{NodeRow}
use Rattle.bg_base.specs.declared.big.Big.{Big}
use Rattle.bg_base.specs.Bigraph.{IsValid}
use Rattle.bg_base.specs.Translation.{node_numbers}
use Rattle.bg_place.specs.Places.{places_of, children_of}
use Rattle.bg_link.specs.Links.{links_of, points_of}
use Rattle.bg_rules.specs.Images.{is_tied}
use Rattle.bg_rules.specs.Lookups.{nodes_tied}
use Rattle.bg_rules.specs.Solid.{IsPattern}
use Rattle.bg_rules.specs.LocalConditions.{image_of, IsImage, IsEdgeImage}
use Rattle.bg_rules.proofs.LinkImages.{tied_from, tied_says}
use Rattle.bg_rules.proofs.Patterns.{same_node_row, number_row, used_edge}
use Rattle.bg_rewriting.proofs.Members.{Mem-children, child_row}
use Rattle.bg_match.specs.PortNodes.{nodes_on}
use Rattle.bg_match.proofs.TiedLaws.{nodes_on-tied}
use Rattle.bg_locality.specs.Locality.{MeetsNearby, IsSeenAlike, AreSeenAlike}

-- ---- what is the same there is the same back

alike_back : {before after pattern : Big} {row old new : NodeRow} → IsSeenAlike before after pattern row old new
    → IsSeenAlike after before pattern row new old
alike_back {before} {after} {pattern} {row} {old} {new} alike =
    record {
      same_number = sym alike.same_number;
      same_control = sym alike.same_control;
      same_links = sym alike.same_links;
      same_place = elim alike.same_place [ inl loose ↦ inl loose | inr same ↦ inr (sym same) ];
      same_children = elim alike.same_children [
        | inl site ↦ inl site
        | inr same ↦ inr (subst (λ n. children_of (places_of after) (Node n) ≡ children_of (places_of before) (Node n)) (sym alike.same_number) (sym same))
      ];
      same_points = λ edge port link a b. sym (alike.same_points edge port link a (subst (λ links. At link port links) alike.same_links b));
    }

pub seen_back : {before after pattern : Big} {nodes : List ℕ} → AreSeenAlike before after pattern nodes → AreSeenAlike after before pattern nodes
seen_back seen =
    record {
      each = λ row m. let at = seen.each row m in
          record {
            old = at.new;
            new = at.old;
            was_there = at.is_there;
            is_there = at.was_there;
            number = at.alike.same_number ∙ at.number;
            alike = alike_back at.alike;
          };
    }

-- ---- a link of which the points are the same has the same nodes

module _ (before after : Big) (before_valid : IsValid before) (after_valid : IsValid after) where
  tied_row : {link : Link} {new : NodeRow} → points_of (links_of before) link ≡ points_of (links_of after) link → Mem new after.nodes → Mem link new.links
      → (old : NodeRow) × Mem old before.nodes × (old.id ≡ new.id) × Mem link old.links
  tied_row {link} {new} same m k =
      let tied : NodeRow → Bool = λ row. is_tied row.links link in
      let nodes : nodes_tied link before.nodes ≡ nodes_tied link after.nodes
      = sym (nodes_on-tied before before_valid link) ∙ ap nodes_on same ∙ nodes_on-tied after after_valid link in
      let among : Mem new.id (nodes_tied link after.nodes) = Mem-map (λ (row : NodeRow). row.id) (Mem-filter tied after.nodes m (tied_from k)) in
      let w = Mem-unmap (λ (row : NodeRow). row.id) (filter tied before.nodes) (subst (λ numbers. Mem new.id numbers) (sym nodes) among) in
      let v = Mem-unfilter tied before.nodes w.1 in
      (w.0, v.0, w.2, tied_says w.0.links link v.1)

-- ---- from the one host to the other

module _ (before after pattern : Big) (nodes : List ℕ) (before_valid : IsValid before) (after_valid : IsValid after) (is : IsPattern pattern)
    (seen : AreSeenAlike before after pattern nodes) where
  -- an image after was one before, and looks as it did; and the other way round
  pub old_image : {row image : NodeRow} → IsImage after pattern nodes row image
      → (old : NodeRow) × IsImage before pattern nodes row old × IsSeenAlike before after pattern row old image
  old_image {row} {image} i =
      let at = seen.each row i.of_pattern in
      let number : at.new.id ≡ image.id = at.alike.same_number ∙ at.number ∙ sym i.same in
      let same : at.new ≡ image = same_node_row after after_valid at.is_there i.of_host number in (
        at.old,
        record { of_pattern = i.of_pattern; of_host = at.was_there; same = at.number },
        subst (λ (new : NodeRow). IsSeenAlike before after pattern row at.old new) same at.alike,
      )

  new_image : {row image : NodeRow} → IsImage before pattern nodes row image
      → (new : NodeRow) × IsImage after pattern nodes row new × IsSeenAlike before after pattern row image new
  new_image {row} {image} i =
      let at = seen.each row i.of_pattern in
      let same : at.old ≡ image = same_node_row before before_valid at.was_there i.of_host (at.number ∙ sym i.same) in (
        at.new,
        record { of_pattern = i.of_pattern; of_host = at.is_there; same = at.alike.same_number ∙ at.number },
        subst (λ (old : NodeRow). IsSeenAlike before after pattern row old at.new) same at.alike,
      )

  module _ (near : MeetsNearby before pattern nodes) where
    images_after : (row : NodeRow) → Mem row pattern.nodes
        → (image : NodeRow) × IsImage after pattern nodes row image × (image.control ≡ row.control) × (length image.links ≡ length row.links)
    images_after row m =
        let v = near.images row m in
        let w = new_image v.1 in
        (w.0, w.1, w.2.same_control ∙ v.2, ap length w.2.same_links ∙ v.3)

    nested_after : (row image : NodeRow) (node : ℕ) → IsImage after pattern nodes row image → row.parent ≡ Node node
        → image.parent ≡ Node (image_of pattern nodes node)
    nested_after row image node i lies =
        let w = old_image i in
        elim w.2.same_place [
          | inl loose ↦ (let bad : Region loose.at_top.0 ≡ Node node = sym loose.at_top.1 ∙ lies in cc)
          | inr same ↦ same ∙ near.nested row w.0 node w.1 lies
        ]

    children_after : (child : NodeRow) (node : ℕ) → Mem child after.nodes → Mem node (node_numbers pattern.nodes)
        → child.parent ≡ Node (image_of pattern nodes node) → Mem child.id nodes ⊎ Mem (Node node) pattern.sites
    children_after child node m n lies =
        let row = number_row pattern.nodes n in
        let at = seen.each row.0 row.1 in
        let number : at.old.id ≡ image_of pattern nodes node = at.number ∙ ap (image_of pattern nodes) row.2 in
        elim at.alike.same_children [
          | inl site ↦ inr (Mem-same (ap Node row.2) site)
          | inr same ↦ (let is_there : Mem child.id (children_of (places_of after) (Node at.old.id)) = Mem-children after (Node at.old.id) m (lies ∙ ap Node (sym number)) in
              let old = child_row before (Node at.old.id) (subst (λ numbers. Mem child.id numbers) (sym same) is_there) in
              elim (near.children old.0 node old.1 n (old.3 ∙ ap Node number)) [
                | inl among ↦ inl (Mem-same old.2 among)
                | inr site ↦ inr site
              ])
        ]

    one_parent_after : (row image other twin : NodeRow) (region : ℕ) → IsImage after pattern nodes row image → IsImage after pattern nodes other twin
        → row.parent ≡ Region region → other.parent ≡ Region region → image.parent ≡ twin.parent
    one_parent_after row image other twin region i j lies beside =
        let w = old_image i in
        let v = old_image j in
        let one_image : row ≡ other → image.parent ≡ twin.parent
        = λ one. ap (λ (r : NodeRow). r.parent)
        (same_node_row after after_valid i.of_host j.of_host (i.same ∙ ap (λ (r : NodeRow). image_of pattern nodes r.id) one ∙ sym j.same)) in
        elim w.2.same_place [
          | inl loose ↦ one_image (sym (loose.alone other region j.of_pattern beside))
          | inr same ↦ elim v.2.same_place [
            | inl loose ↦ one_image (loose.alone row region i.of_pattern lies)
            | inr alike ↦ same ∙ near.one_parent row w.0 other v.0 region w.1 v.1 lies beside ∙ sym alike
          ]
        ]

    shared_after : (row image other twin : NodeRow) (port index : ℕ) (link first second : Link)
        → IsImage after pattern nodes row image → IsImage after pattern nodes other twin → At link port row.links → At link index other.links
        → At first port image.links → At second index twin.links → first ≡ second
    shared_after row image other twin port index link first second i j a b c d =
        let w = old_image i in
        let v = old_image j in
        near.shared row w.0 other v.0 port index link first second w.1 v.1 a b
        (subst (λ links. At first port links) w.2.same_links c) (subst (λ links. At second index links) v.2.same_links d)

    -- the points of the image of an edge are the same, since the edge has a port
    same_edge_points : (edge image : ℕ) → Mem edge pattern.edges → IsEdgeImage before pattern nodes edge image
        → points_of (links_of before) (Edge image) ≡ points_of (links_of after) (Edge image)
    same_edge_points edge image m k =
        let u = used_edge pattern is m in
        let v = near.images u.0 u.2 in
        let w = new_image v.1 in
        let below = At-below u.3 in
        let long = v.3 in
        let t = At-total v.0.links u.1 (omega (arith, below, long)) in
        let on : t.0 ≡ Edge image = k.onto u.0 v.0 u.1 t.0 v.1 u.3 t.1 in
        subst (λ l. points_of (links_of before) l ≡ points_of (links_of after) l) on (w.2.same_points edge u.1 t.0 u.3 t.1)

    -- a node with such a port had one before: so it is an image, and has the links that it had
    only_after : (edge image : ℕ) → Mem edge pattern.edges → IsEdgeImage before pattern nodes edge image → (other : NodeRow) (port : ℕ)
        → Mem other after.nodes → At (Edge image) port other.links → (row : NodeRow) × IsImage after pattern nodes row other × At (Edge edge) port row.links
    only_after edge image m k other port n a =
        let old = tied_row before after before_valid after_valid (same_edge_points edge image m k) n (Mem-from_At a) in
        let is_other : (row : NodeRow) → IsImage before pattern nodes row old.0 → IsImage after pattern nodes row other × (other.links ≡ old.0.links)
        = λ row i. let w = new_image i in
        let same : w.0 ≡ other = same_node_row after after_valid w.1.of_host n (w.2.same_number ∙ old.2) in
        subst (λ (new : NodeRow). IsImage after pattern nodes row new × (new.links ≡ old.0.links)) same (w.1, w.2.same_links) in
        let t = At-from_Mem old.3 in
        let first = k.only old.0 t.0 old.1 t.1 in
        let v = k.only old.0 port old.1 (subst (λ links. At (Edge image) port links) (is_other first.0 first.1).1 a) in
        (v.0, (is_other v.0 v.1).0, v.2)

    closed_after : (edge : ℕ) → Mem edge pattern.edges → (image : ℕ) × IsEdgeImage after pattern nodes edge image
    closed_after edge m =
        let k = near.closed edge m in (
          k.0,
          record {
            onto = λ row other port link i a b. let w = old_image i in
                k.1.onto row w.0 port link w.1 a (subst (λ links. At link port links) w.2.same_links b);
            only = λ other port n a. only_after edge k.0 m k.1 other port n a;
          },
        )

    pub nearby_there : MeetsNearby after pattern nodes
    nearby_there =
        record {
          nodes_new = near.nodes_new;
          images = images_after;
          nested = nested_after;
          children = children_after;
          one_parent = one_parent_after;
          shared = shared_after;
          closed = closed_after;
        }
