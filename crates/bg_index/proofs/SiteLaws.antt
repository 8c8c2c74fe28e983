-- What lies at the sites of an occurrence, with the images in order; and how many entries ask for each site.
use Rattle.std.proofs.Common.{◌≡◌, ◌↔◌, ◌⊎◌, ℕ, suc, ◌<◌, List, [], ◌∷◌, ◌++◌, length, map, refl, sym, ap, subst, ◌∙◌, inl, inr}
use Rattle.std.specs.List.{AllClonesOf}
use Rattle.std.specs.List.Sorted.{IsStrictlySortedBy}
use Rattle.std.specs.Ordering.{nat_cmp}
use Rattle.std.proofs.lemmas.List.{length-map}
use Rattle.bg_lists.specs.Lists.{Mem, At, at_here, at_there}
use Rattle.bg_lists.proofs.Places.{not_At-nil, At-one, At-total, At-below, At-unmap}
use Rattle.bg_base.specs.declared.names.Place.{Place}
use Rattle.bg_base.specs.declared.names.Place.TheVariants.{Node}
use Rattle.bg_base.specs.declared.big.NodeRow.{NodeRow}
use Rattle.bg_base.specs.declared.big.Big.{Big}
use Rattle.bg_rewriting.specs.Boundaries.{MeetsFirst, first_here, first_above, IsBelow, IsPartOf, IsPlaceOf, IsLinkOf, times_asked}
use Rattle.bg_rewriting.proofs.Walks.{child_below}
use Rattle.bg_base.specs.declared.names.Name.{Name}
use Rattle.bg_base.specs.declared.names.Link.{Link}
use Rattle.bg_rules.specs.LocalConditions.{image_of}
use Rattle.bg_rules.specs.Reaction.{HostState}
use Rattle.bg_rules.specs.Rules.{RuleParts}
use Rattle.bg_rules.proofs.Patterns.{image_mem, place_node, site_there}
use Rattle.bg_index.specs.declared.reading.Part.{Part}
use Rattle.bg_index.specs.declared.reading.Reading.{Reading}
use Rattle.bg_index.specs.Readings.{AreLate, IsReadingAt}
use Rattle.bg_index.specs.Sites.{AreImages}
use Rattle.bg_index.specs.Walks.{IsWalkable}

-- ---- the same nodes in another order

module _ {rows : List NodeRow} {xs ys : List ℕ} (into : (n : ℕ) → Mem n xs → Mem n ys) (back : (n : ℕ) → Mem n ys → Mem n xs) where
  first_among : {node : ℕ} {place : Place} → MeetsFirst rows xs node place → MeetsFirst rows ys node place
  first_among {node} (first_here e m) = first_here e (into node m)
  first_among (first_above {row = row} m e none up) = first_above m e (λ k. none (back row.id k)) (first_among up)

  pub below_among : {node : ℕ} {row : NodeRow} → IsBelow rows xs node row → IsBelow rows ys node row
  below_among {row = row} low =
      record { of_rows = low.of_rows; no_image = λ k. low.no_image (back row.id k); under = first_among low.under }

pub part_among : {host : Big} {xs ys : List ℕ} → ((n : ℕ) → Mem n xs → Mem n ys) → ((n : ℕ) → Mem n ys → Mem n xs) → {node : ℕ} {part : List ℕ}
    → IsPartOf host xs node part → IsPartOf host ys node part
part_among into back p =
    record {
      ascends = p.ascends;
      below = λ n m. let w = p.below n m in (w.0, below_among into back w.1, w.2);
      all = λ row low. p.all row (below_among back into low);
    }

module _ (host : HostState) (pattern : Big) (nodes images : List ℕ) (are : AreImages host pattern nodes images) where
  -- what lies at a site is found by a walk
  pub walkable : (node : ℕ) → Mem (Node node) pattern.sites → IsWalkable host.big images (image_of pattern nodes node)
  walkable node m =
      let there = place_node pattern are.is_pattern.valid (site_there pattern are.is_pattern.valid m) refl in
      record {
        among = (are.same (image_of pattern nodes node)).1 (image_mem pattern are.is_pattern.valid nodes are.local.nodes_new there);
        children = λ upper child low n e.
            below_among (λ k. (are.same k).1) (λ k. (are.same k).0)
            (child_below are.is_pattern are.is_host.numbered.ground are.local (below_among (λ k. (are.same k).0) (λ k. (are.same k).1) low) n e);
      }

  pub same_part : (node : ℕ) (part : List ℕ) → IsPartOf host.big images node part → IsPartOf host.big nodes node part
  same_part node part p = part_among (λ k. (are.same k).0) (λ k. (are.same k).1) p

-- ---- one site more

last_one : {X : Type 0} {x y : X} {i : ℕ} (xs : List X) → At x i (xs ++ y ∷ []) → At x i xs ⊎ ((i ≡ length xs) × (y ≡ x))
last_one [] (at_here e) = inr (refl, e)
last_one [] (at_there a) = absurd (not_At-nil a)
last_one (z ∷ zs) (at_here e) = inl (at_here e)
last_one (z ∷ zs) (at_there a) = elim (last_one zs a) [ inl b ↦ inl (at_there b) | inr w ↦ inr (ap suc w.0, w.1) ]

-- the parts beside the sites, as far as there are
abbrev pub AreParts : Big → Big → List ℕ → List ℕ → List Part → Type 0
AreParts host pattern nodes asked parts =
    (site node count : ℕ) (part : Part) → At (Node node) site pattern.sites → At count site asked → At part site parts → (count ≡ 1 → ⊥)
    → IsPartOf host nodes (image_of pattern nodes node) part.nodes.items

pub parts_more : (host pattern : Big) (nodes asked : List ℕ) (parts : List Part) (place : Place) (times : ℕ) (last : Part)
    → AreParts host pattern nodes asked parts → At place (length parts) pattern.sites → At times (length parts) asked
    → ((node : ℕ) → place ≡ Node node → (times ≡ 1 → ⊥) → IsPartOf host nodes (image_of pattern nodes node) last.nodes.items)
    → AreParts host pattern nodes asked (parts ++ last ∷ [])
parts_more host pattern nodes asked parts place times last are stands counted is site node count part a b c more =
    elim (last_one parts c) [
      | inl d ↦ are site node count part a b d more
      | inr w ↦ (let same : place ≡ Node node = At-one stands (subst (λ n. At (Node node) n pattern.sites) w.0 a) in
          let one : times ≡ count = At-one counted (subst (λ n. At count n asked) w.0 b) in
          subst (λ (p : Part). IsPartOf host nodes (image_of pattern nodes node) p.nodes.items) w.1 (is node same (λ e. more (sym one ∙ e))))
    ]

-- ---- how many entries ask

-- where nothing was counted, each count is 0
pub none_counted : (clones : ℕ → ℕ → Type 0) → ((x y : ℕ) → clones x y → y ≡ x) → (x : ℕ) (counts : List ℕ) → AllClonesOf clones x counts
    → (site count : ℕ) → At count site counts → count ≡ x
none_counted clones told x [] all site count a = absurd (not_At-nil a)
none_counted clones told x (y ∷ ys) all site count (at_here e) = sym e ∙ elim all.0 [ inl same ↦ same | inr made ↦ told x y made ]
none_counted clones told x (y ∷ ys) all site count (at_there a) = none_counted clones told x ys all.1 _ count a

-- ---- the whole

module _ (host pattern : Big) (entries nodes : List ℕ) (reading : Reading)
    (ascend : IsStrictlySortedBy nat_cmp reading.images.items) (same : (node : ℕ) → Mem node reading.images.items ↔ Mem node nodes)
    (places_many : length reading.places.items ≡ pattern.regions)
    (places_are : (region : ℕ) (place : Place) → At place region reading.places.items → IsPlaceOf host pattern nodes region place)
    (links_many : length reading.links.items ≡ length pattern.outer)
    (links_are : (i : ℕ) (name : Name) (link : Link) → At name i pattern.outer → At link i reading.links.items → IsLinkOf host pattern nodes name link)
    (asked_many : length reading.asked.items ≡ length pattern.sites)
    (asked_are : (site count : ℕ) → At count site reading.asked.items → count ≡ times_asked entries site)
    (late_are : AreLate entries reading.late.items)
    (parts_many : length reading.parts.items ≡ length pattern.sites)
    (parts_are : AreParts host pattern nodes reading.asked.items reading.parts.items) where
  read_by : (rule : RuleParts) → IsReadingAt host (record rule { redex = pattern; map = entries }) nodes reading
  read_by rule =
      record {
        images_ascend = ascend;
        images_are = same;
        is_boundary = record {
          places_many = places_many;
          places_are = places_are;
          links_many = links_many;
          links_are = links_are;
          parts_many = length-map reading.parts.items (λ (part : Part). part.nodes.items) ∙ parts_many;
          parts_are = λ site node part a b more.
              let w = At-unmap (λ (part : Part). part.nodes.items) reading.parts.items b in
              let c = At-total reading.asked.items site (subst (λ n. site < n) (sym asked_many) (At-below a)) in
              subst (IsPartOf host nodes (image_of pattern nodes node)) w.2
              (parts_are site node c.0 w.0 a c.1 w.1 (λ once. more (sym (asked_are site c.0 c.1) ∙ once)));
        };
        asked_many = asked_many;
        asked_are = asked_are;
        late_are = late_are;
      }

  pub reading_is : (rule : RuleParts) → rule.redex ≡ pattern → rule.map ≡ entries → IsReadingAt host rule nodes reading
  reading_is rule redex map =
      let whole : record rule { redex = pattern; map = entries } ≡ rule =
      λ t. record {
        label = rule.label;
        redex = sym redex t;
        reactum = rule.reactum;
        map = sym map t;
        conditions = rule.conditions;
        class = rule.class;
      } in
      subst (λ r. IsReadingAt host r nodes reading) whole (read_by rule)
