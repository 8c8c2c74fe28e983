-- Tests of the local conditions, for small cases: a test that passes tells its condition.
use Rattle.std.proofs.Common.{◌≡◌, ℕ, zero, suc, ◌<◌, Bool, true, false, not, ◌&&◌, ◌||◌, eqb, List, [], ◌∷◌, length, refl, sym, ap, subst, ◌∙◌, ◌⊎◌, inl, inr, eqb-true, eq-eqb}
use Rattle.std.specs.List.{list_all, list_any}
use Rattle.std.proofs.lemmas.Bool.{and_parts, or_cases, false≢true}
use Rattle.bg_lists.specs.Lists.{Mem, At, at_here, at_there}
use Rattle.bg_lists.proofs.Members.{Mem-same}
use Rattle.bg_lists.proofs.Places.{At-below, At-total, At-same, Mem-from_At}
use Rattle.bg_lists.proofs.Words.{list_all-member, list_any-from_member, member_from_list_any}
use Rattle.bg_base.specs.declared.names.Place.{Place}
use Rattle.bg_base.specs.declared.names.Place.TheVariants.{Node, Region}
use Rattle.bg_base.specs.declared.names.Link.{Link}
use Rattle.bg_base.specs.declared.names.Link.TheVariants.{Edge, Outer}
use Rattle.bg_base.specs.declared.big.NodeRow.{NodeRow}
use Rattle.bg_base.specs.declared.big.Big.{Big}
use Rattle.bg_base.specs.Translation.{node_numbers}
use Rattle.bg_base.specs.Products.{same_link}
use Rattle.bg_base.proofs.NameLaws.{test_same_name, same_link_from_test}
use Rattle.bg_place.specs.Places.{same_place}
use Rattle.bg_place.proofs.RowLaws.{same_place_from_test}
use Rattle.bg_rules.specs.Solid.{is_node}
use Rattle.bg_rules.specs.Decomposition.{AreNew}
use Rattle.bg_rules.specs.LocalConditions.{Meets, at_place, above, image_of, IsImage, IsEdgeImage, MeetsLocally}
use Rattle.bg_cases.proofs.CaseTests.{are_new, new-from_test}

same_place-by : (p q : Place) → p ≡ q → same_place p q ≡ true
same_place-by (Node m) (Node n) e = let same : m ≡ n = cc in eq-eqb m n same
same_place-by (Node m) (Region n) e = cc
same_place-by (Region m) (Node n) e = cc
same_place-by (Region m) (Region n) e = let same : m ≡ n = cc in eq-eqb m n same

same_link-by : (l m : Link) → l ≡ m → same_link l m ≡ true
same_link-by (Edge d) (Edge e) is = let same : d ≡ e = cc in eq-eqb d e same
same_link-by (Edge d) (Outer y) is = cc
same_link-by (Outer x) (Edge e) is = cc
same_link-by (Outer x) (Outer y) is = let same : x ≡ y = cc in test_same_name x y same

-- where the first holds, the second does
abbrev implies : Bool → Bool → Bool
implies a b = not a || b

implied : (a b : Bool) → implies a b ≡ true → a ≡ true → b ≡ true
implied true b e pass = e
implied false b e pass = absurd (false≢true pass)

-- links at one place of two lists pass the test
abbrev each_pair : (Link → Link → Bool) → List Link → List Link → Bool
each_pair test [] links = true
each_pair test (l ∷ ls) [] = true
each_pair test (l ∷ ls) (m ∷ ms) = test l m && each_pair test ls ms

pair_passes : (test : Link → Link → Bool) (ls ms : List Link) {link own : Link} {port : ℕ} → each_pair test ls ms ≡ true
    → At link port ls → At own port ms → test link own ≡ true
pair_passes test [] ms all a b = elim a [ ]
pair_passes test (l ∷ ls) [] all a b = elim b [ ]
pair_passes test (l ∷ ls) (m ∷ ms) {own = own} all (at_here e) (at_here f) =
    subst (λ k. test k own ≡ true) e (subst (λ k. test l k ≡ true) f (and_parts (test l m) (each_pair test ls ms) all).0)
pair_passes test (l ∷ ls) (m ∷ ms) all (at_there a) (at_there b) =
    pair_passes test ls ms (and_parts (test l m) (each_pair test ls ms) all).1 a b

-- going up from the place in fewer than so many moves, the node is not met
abbrev misses : List NodeRow → ℕ → ℕ → Place → Bool
misses rows node zero place = false
misses rows node (suc moves) (Region region) = true
misses rows node (suc moves) (Node other) =
    not (eqb other node) && list_all (λ (row : NodeRow). implies (eqb row.id other) (misses rows node moves row.parent)) rows

not_met : (rows : List NodeRow) (node moves : ℕ) (place : Place) → misses rows node moves place ≡ true → Meets rows node place → ⊥
not_met rows node zero place miss meets = false≢true miss
not_met rows node (suc moves) (Region region) miss (at_place e) = cc
not_met rows node (suc moves) (Region region) miss (above m e up) = cc
not_met rows node (suc moves) (Node other) miss (at_place e) =
    let parts = and_parts (not (eqb other node)) (list_all (λ (row : NodeRow). implies (eqb row.id other) (misses rows node moves row.parent)) rows) miss in
    let same : other ≡ node = cc in false≢true (sym (ap not (eq-eqb other node same)) ∙ parts.0)
not_met rows node (suc moves) (Node other) miss (above {row = row} m e up) =
    let parts = and_parts (not (eqb other node)) (list_all (λ (row : NodeRow). implies (eqb row.id other) (misses rows node moves row.parent)) rows) miss in
    let same : row.id ≡ other = cc in
    let passes = list_all-member (λ (row : NodeRow). implies (eqb row.id other) (misses rows node moves row.parent)) rows parts.1 m in
    not_met rows node moves row.parent (implied (eqb row.id other) (misses rows node moves row.parent) passes (eq-eqb row.id other same)) up

-- which of the local conditions hold, by their names
pub record Conditions : Type 0 where
  pub nodes_new : Bool
  pub images : Bool
  pub nested : Bool
  pub children : Bool
  pub one_parent : Bool
  pub clear : Bool
  pub shared : Bool
  pub closed : Bool

abbrev pub all_hold : Conditions
all_hold = record { nodes_new = true; images = true; nested = true; children = true; one_parent = true; clear = true; shared = true; closed = true }

module _ (host pattern : Big) (nodes : List ℕ) where
  abbrev pub is_image : NodeRow → NodeRow → Bool
  is_image row image = eqb image.id (image_of pattern nodes row.id)

  abbrev pub each_image : (NodeRow → NodeRow → Bool) → Bool
  each_image test =
      list_all (λ row. list_all (λ image. implies (is_image row image) (test row image)) host.nodes) pattern.nodes

  image_passes : (test : NodeRow → NodeRow → Bool) → each_image test ≡ true → {row image : NodeRow} → IsImage host pattern nodes row image → test row image ≡ true
  image_passes test all {row} {image} is =
      implied (is_image row image) (test row image)
      (list_all-member (λ other. implies (is_image row other) (test row other)) host.nodes
      (list_all-member (λ below. list_all (λ other. implies (is_image below other) (test below other)) host.nodes) pattern.nodes all is.of_pattern) is.of_host)
      (eq-eqb image.id (image_of pattern nodes row.id) is.same)

  abbrev pub has_image : NodeRow → NodeRow → Bool
  has_image row image =
      is_image row image && (eqb image.control row.control && eqb (length image.links) (length row.links))

  abbrev pub is_nested : Place → Place → Bool
  is_nested (Node node) place = same_place place (Node (image_of pattern nodes node))
  is_nested (Region region) place = true

  abbrev pub is_let_in : NodeRow → ℕ → Bool
  is_let_in child node =
      implies (same_place child.parent (Node (image_of pattern nodes node)))
      (list_any (λ other. eqb other child.id) nodes || list_any (λ place. same_place place (Node node)) pattern.sites)

  abbrev pub is_together : NodeRow → NodeRow → NodeRow → NodeRow → Bool
  is_together row image other twin =
      implies (same_place row.parent other.parent) (same_place image.parent twin.parent)

  abbrev pub is_clear : NodeRow → NodeRow → Bool
  is_clear row image =
      is_node row.parent || list_all (λ node. misses host.nodes node (suc (length host.nodes)) image.parent) nodes

  abbrev pub is_shared : NodeRow → NodeRow → NodeRow → NodeRow → Bool
  is_shared row image other twin =
      each_pair (λ link first. each_pair (λ own second. implies (same_link link own) (same_link first second)) other.links twin.links) row.links image.links

  abbrev pub is_onto : ℕ → ℕ → NodeRow → NodeRow → Bool
  is_onto edge image row other =
      each_pair (λ link own. implies (same_link link (Edge edge)) (same_link own (Edge image))) row.links other.links

  -- the row is that of the image, and where the image has the edge the row has it
  abbrev pub is_from : ℕ → ℕ → NodeRow → NodeRow → Bool
  is_from edge image other row =
      is_image row other && (eqb (length row.links) (length other.links)
      && each_pair (λ own link. implies (same_link own (Edge image)) (same_link link (Edge edge))) other.links row.links)

  abbrev pub is_only : ℕ → ℕ → NodeRow → Bool
  is_only edge image other =
      implies (list_any (λ link. same_link link (Edge image)) other.links) (list_any (is_from edge image other) pattern.nodes)

  abbrev pub is_edge_image : ℕ → ℕ → Bool
  is_edge_image edge image = each_image (is_onto edge image) && list_all (is_only edge image) host.nodes

  abbrev pub conditions : Conditions
  conditions =
      record {
        nodes_new = are_new nodes (length pattern.nodes);
        images = list_all (λ row. list_any (has_image row) host.nodes) pattern.nodes;
        nested = each_image (λ row image. is_nested row.parent image.parent);
        children = list_all (λ child. list_all (is_let_in child) (node_numbers pattern.nodes)) host.nodes;
        one_parent = each_image (λ row image. each_image (is_together row image));
        clear = each_image is_clear;
        shared = each_image (λ row image. each_image (is_shared row image));
        closed = list_all (λ edge. list_any (is_edge_image edge) host.edges) pattern.edges;
      }

  pub new_tells : conditions.nodes_new ≡ true → AreNew nodes (length pattern.nodes)
  new_tells e = new-from_test nodes (length pattern.nodes) e

  pub images_tell : conditions.images ≡ true → (row : NodeRow) → Mem row pattern.nodes
      → (image : NodeRow) × IsImage host pattern nodes row image × (image.control ≡ row.control) × (length image.links ≡ length row.links)
  images_tell e row m =
      let w = member_from_list_any (has_image row) host.nodes (list_all-member (λ row. list_any (has_image row) host.nodes) pattern.nodes e m) in
      let one = and_parts (is_image row w.0) (eqb w.0.control row.control && eqb (length w.0.links) (length row.links)) w.2 in
      let two = and_parts (eqb w.0.control row.control) (eqb (length w.0.links) (length row.links)) one.1 in (
        w.0,
        record { of_pattern = m; of_host = w.1; same = eqb-true w.0.id (image_of pattern nodes row.id) one.0 },
        eqb-true w.0.control row.control two.0,
        eqb-true (length w.0.links) (length row.links) two.1,
      )

  pub nested_tells : conditions.nested ≡ true → (row image : NodeRow) (node : ℕ) → IsImage host pattern nodes row image → row.parent ≡ Node node
      → image.parent ≡ Node (image_of pattern nodes node)
  nested_tells e row image node is lies =
      same_place_from_test image.parent (Node (image_of pattern nodes node))
      (subst (λ place. is_nested place image.parent ≡ true) lies (image_passes (λ row image. is_nested row.parent image.parent) e is))

  pub children_tell : conditions.children ≡ true → (child : NodeRow) (node : ℕ) → Mem child host.nodes → Mem node (node_numbers pattern.nodes)
      → child.parent ≡ Node (image_of pattern nodes node) → Mem child.id nodes ⊎ Mem (Node node) pattern.sites
  children_tell e child node m n lies =
      let among = list_any (λ other. eqb other child.id) nodes in
      let site = list_any (λ place. same_place place (Node node)) pattern.sites in
      let all = list_all-member (is_let_in child) (node_numbers pattern.nodes)
      (list_all-member (λ child. list_all (is_let_in child) (node_numbers pattern.nodes)) host.nodes e m) n in
      elim (or_cases among site (implied (same_place child.parent (Node (image_of pattern nodes node))) (among || site) all
      (same_place-by child.parent (Node (image_of pattern nodes node)) lies))) [
        | inl any ↦ (let w = member_from_list_any (λ other. eqb other child.id) nodes any in inl (Mem-same (eqb-true w.0 child.id w.2) w.1))
        | inr any ↦ (let w = member_from_list_any (λ place. same_place place (Node node)) pattern.sites any in
            inr (Mem-same (same_place_from_test w.0 (Node node) w.2) w.1))
      ]

  pub one_parent_tells : conditions.one_parent ≡ true → (row image other twin : NodeRow) (region : ℕ) → IsImage host pattern nodes row image
      → IsImage host pattern nodes other twin → row.parent ≡ Region region → other.parent ≡ Region region → image.parent ≡ twin.parent
  one_parent_tells e row image other twin region is too lies beside =
      same_place_from_test image.parent twin.parent
      (implied (same_place row.parent other.parent) (same_place image.parent twin.parent)
      (image_passes (is_together row image) (image_passes (λ row image. each_image (is_together row image)) e is) too)
      (same_place-by row.parent other.parent (lies ∙ sym beside)))

  pub clear_tells : conditions.clear ≡ true → (row image : NodeRow) (region node : ℕ) → IsImage host pattern nodes row image → row.parent ≡ Region region
      → Mem node nodes → Meets host.nodes node image.parent → ⊥
  clear_tells e row image region node is lies m meets =
      let none = list_all (λ node. misses host.nodes node (suc (length host.nodes)) image.parent) nodes in
      let all = subst (λ place. (is_node place || none) ≡ true) lies (image_passes is_clear e is) in
      not_met host.nodes node (suc (length host.nodes)) image.parent
      (list_all-member (λ node. misses host.nodes node (suc (length host.nodes)) image.parent) nodes all m) meets

  pub shared_tells : conditions.shared ≡ true → (row image other twin : NodeRow) (port index : ℕ) (link first second : Link)
      → IsImage host pattern nodes row image → IsImage host pattern nodes other twin → At link port row.links → At link index other.links
      → At first port image.links → At second index twin.links → first ≡ second
  shared_tells e row image other twin port index link first second is too a b c d =
      same_link_from_test first second
      (implied (same_link link link) (same_link first second)
      (pair_passes (λ own second. implies (same_link link own) (same_link first second)) other.links twin.links
      (pair_passes (λ link first. each_pair (λ own second. implies (same_link link own) (same_link first second)) other.links twin.links) row.links image.links
      (image_passes (is_shared row image) (image_passes (λ row image. each_image (is_shared row image)) e is) too) a c) b d)
      (same_link-by link link refl))

  only_from : (edge image : ℕ) → list_all (is_only edge image) host.nodes ≡ true → (other : NodeRow) (port : ℕ) → Mem other host.nodes
      → At (Edge image) port other.links → (row : NodeRow) × IsImage host pattern nodes row other × At (Edge edge) port row.links
  only_from edge image all other port m a =
      let w = member_from_list_any (is_from edge image other) pattern.nodes
      (implied (list_any (λ link. same_link link (Edge image)) other.links) (list_any (is_from edge image other) pattern.nodes)
      (list_all-member (is_only edge image) host.nodes all m)
      (list_any-from_member (λ link. same_link link (Edge image)) other.links (Mem-from_At a) (same_link-by (Edge image) (Edge image) refl))) in
      let pairs = each_pair (λ own link. implies (same_link own (Edge image)) (same_link link (Edge edge))) other.links w.0.links in
      let one = and_parts (is_image w.0 other) (eqb (length w.0.links) (length other.links) && pairs) w.2 in
      let two = and_parts (eqb (length w.0.links) (length other.links)) pairs one.1 in
      let v = At-total w.0.links port (subst (λ n. port < n) (sym (eqb-true (length w.0.links) (length other.links) two.0)) (At-below a)) in
      let test = pair_passes (λ own link. implies (same_link own (Edge image)) (same_link link (Edge edge))) other.links w.0.links two.1 a v.1 in (
        w.0,
        record { of_pattern = w.1; of_host = m; same = eqb-true other.id (image_of pattern nodes w.0.id) one.0 },
        At-same (same_link_from_test v.0 (Edge edge) (implied (same_link (Edge image) (Edge image)) (same_link v.0 (Edge edge)) test (same_link-by (Edge image) (Edge image) refl))) v.1,
      )

  pub closed_tells : conditions.closed ≡ true → (edge : ℕ) → Mem edge pattern.edges → (image : ℕ) × IsEdgeImage host pattern nodes edge image
  closed_tells e edge m =
      let w = member_from_list_any (is_edge_image edge) host.edges (list_all-member (λ edge. list_any (is_edge_image edge) host.edges) pattern.edges e m) in
      let parts = and_parts (each_image (is_onto edge w.0)) (list_all (is_only edge w.0) host.nodes) w.2 in (
        w.0,
        record {
          onto = λ row other port link is a b. same_link_from_test link (Edge w.0)
              (implied (same_link (Edge edge) (Edge edge)) (same_link link (Edge w.0))
              (pair_passes (λ link own. implies (same_link link (Edge edge)) (same_link own (Edge w.0))) row.links other.links (image_passes (is_onto edge w.0) parts.0 is) a b)
              (same_link-by (Edge edge) (Edge edge) refl));
          only = only_from edge w.0 parts.1;
        },
      )

  -- where all hold, the nodes meet the local conditions
  pub all_tell : conditions ≡ all_hold → MeetsLocally host pattern nodes
  all_tell e =
      record {
        nodes_new = new_tells (ap (λ (c : Conditions). c.nodes_new) e);
        images = images_tell (ap (λ (c : Conditions). c.images) e);
        nested = nested_tells (ap (λ (c : Conditions). c.nested) e);
        children = children_tell (ap (λ (c : Conditions). c.children) e);
        one_parent = one_parent_tells (ap (λ (c : Conditions). c.one_parent) e);
        clear = clear_tells (ap (λ (c : Conditions). c.clear) e);
        shared = shared_tells (ap (λ (c : Conditions). c.shared) e);
        closed = closed_tells (ap (λ (c : Conditions). c.closed) e);
      }
