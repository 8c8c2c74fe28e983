-- The last local condition: it follows from the others where the pattern has one region, and stays where nothing above has
-- moved. So occurrences stay that are seen alike.
use Rattle.std.proofs.Common.{◌≡◌, ℕ, true, List, inl, inr, refl, sym, ap, subst, ◌∙◌}
use Rattle.bg_lists.specs.Lists.{Mem}
use Rattle.bg_base.specs.declared.names.Place.{Place}
use Rattle.bg_base.specs.declared.names.Place.TheVariants.{Node, Region}
use Rattle.bg_base.specs.declared.big.NodeRow.{NodeRow}
use Rattle.bg_base.specs.declared.big.Big.{Big}
use Rattle.bg_base.specs.Bigraph.{IsValid, IsGround, has_place}
use Rattle.bg_base.proofs.LookUps.{row_from_has}
use Rattle.bg_rules.specs.Solid.{IsPattern}
use Rattle.bg_rules.specs.Decomposition.{Occurs}
use Rattle.bg_rules.specs.LocalConditions.{IsImage, Meets, at_place, above, MeetsLocally}
use Rattle.bg_rules.proofs.Patterns.{parent_there}
use Rattle.bg_rules.proofs.Occurrences.{occurs_locally, locally_occurs}
use Rattle.bg_match.proofs.ImageLaws.{images_from_alike}
use Rattle.bg_match.proofs.IndexedLaws.{clear_of_one}
use Rattle.bg_match.proofs.PlaceLaws.{nested_from, together_from, clear_says}
use Rattle.bg_locality.specs.Locality.{MeetsNearby, IsClear, AreSeenAlike, IsSteady, AreSteady}
use Rattle.bg_locality.proofs.Nearby.{seen_back, old_image, nearby_there}

-- ---- the conditions taken apart, and put together

near_from : {host pattern : Big} {nodes : List ℕ} → MeetsLocally host pattern nodes → MeetsNearby host pattern nodes
near_from local =
    record {
      nodes_new = local.nodes_new;
      images = local.images;
      nested = local.nested;
      children = local.children;
      one_parent = local.one_parent;
      shared = local.shared;
      closed = local.closed;
    }

local_from : {host pattern : Big} {nodes : List ℕ} → MeetsNearby host pattern nodes → IsClear host pattern nodes → MeetsLocally host pattern nodes
local_from near clear =
    record {
      nodes_new = near.nodes_new;
      images = near.images;
      nested = near.nested;
      children = near.children;
      one_parent = near.one_parent;
      clear = clear.clear;
      shared = near.shared;
      closed = near.closed;
    }

-- ---- one region: the tests of the others say the last one

module _ (host pattern : Big) (nodes : List ℕ) (valid : IsValid host) (is : IsPattern pattern) (one : pattern.regions ≡ 1)
    (near : MeetsNearby host pattern nodes) where
  pub clear_in_one : IsClear host pattern nodes
  clear_in_one =
      let long = near.nodes_new.as_many in
      let images : (row : NodeRow) → Mem row pattern.nodes → (image : NodeRow) × IsImage host pattern nodes row image
      = λ row m. let w = near.images row m in (w.0, w.1) in
      record {
        clear = clear_says host pattern nodes valid is.valid long (clear_of_one host pattern nodes valid is one
            (images_from_alike host pattern nodes valid is.valid near.nodes_new near.images)
            (nested_from host pattern nodes valid is.valid long images near.nested)
            (together_from host pattern nodes valid is.valid long images near.nested near.one_parent));
      }

-- ---- where nothing above has moved

module _ (before after : Big) (valid : IsValid before) where
  steady_up : {place : Place} {row : NodeRow} → IsSteady before after place → Mem row before.nodes → place ≡ Node row.id
      → IsSteady before after row.parent
  steady_up steady m is = record { steady = λ old new n meets k e. steady.steady old new n (above m is meets) k e }

  -- what is met after was met before
  pub meets_back : {node : ℕ} {place : Place} (start : Place) → place ≡ start → IsSteady before after start → has_place before start ≡ true
      → Meets after.nodes node place → Meets before.nodes node start
  meets_back start e steady has (at_place is) = at_place (sym e ∙ is)
  meets_back start e steady has (above {row = new} m is up) =
      let at : start ≡ Node new.id = sym e ∙ is in
      let old = row_from_has before.nodes new.id (subst (λ p. has_place before p ≡ true) at has) in
      let old_at : start ≡ Node old.0.id = at ∙ ap Node (sym old.3) in
      let same : new.parent ≡ old.0.parent = steady.steady old.0 new old.2 (at_place old_at) m (sym old.3) in
      above old.2 old_at (meets_back old.0.parent same (steady_up steady old.2 old_at) (parent_there before valid old.2) up)

-- so what is steady going up in the one host is so in the other
pub steady_back : (before after : Big) → IsValid after → {place : Place} → has_place after place ≡ true → IsSteady after before place
    → IsSteady before after place
steady_back before after valid {place} has steady =
    record {
      steady = λ old new m meets n e.
          let met : Meets after.nodes old.id place = meets_back after before valid place refl steady has meets in
          sym (steady.steady new old n (subst (λ node. Meets after.nodes node place) (sym e) met) m (sym e));
    }

module _ (before after pattern : Big) (nodes : List ℕ) (before_valid : IsValid before) (after_valid : IsValid after) (is : IsPattern pattern)
    (seen : AreSeenAlike before after pattern nodes) (steady : AreSteady before after pattern nodes) where
  -- all above is steady seen from the other host too
  pub all_steady_back : AreSteady after before pattern nodes
  all_steady_back =
      record {
        each = λ row image region i lies.
            let w = old_image before after pattern nodes before_valid after_valid is seen i in
            elim w.2.same_place [
              | inl loose ↦ inl loose.one_region
              | inr same ↦ elim (steady.each row w.0 region w.1 lies) [
                | inl one ↦ inl one
                | inr still ↦ inr (subst (λ p. IsSteady after before p) (sym same)
                    (steady_back after before before_valid (parent_there before before_valid w.1.of_host) still))
              ]
            ];
      }

  clear_after : MeetsLocally before pattern nodes → (row image : NodeRow) (region node : ℕ) → IsImage after pattern nodes row image
      → row.parent ≡ Region region → Mem node nodes → Meets after.nodes node image.parent → ⊥
  clear_after local row image region node i lies m meets =
      let w = old_image before after pattern nodes before_valid after_valid is seen i in
      let near = nearby_there before after pattern nodes before_valid after_valid is seen (near_from local) in
      elim (steady.each row w.0 region w.1 lies) [
        | inl one ↦ (clear_in_one after pattern nodes after_valid is one near).clear row image region node i lies m meets
        | inr still ↦ elim w.2.same_place [
          | inl loose ↦ (clear_in_one after pattern nodes after_valid is loose.one_region near).clear row image region node i lies m meets
          | inr same ↦ local.clear row w.0 region node w.1 lies m
              (meets_back before after before_valid w.0.parent same still (parent_there before before_valid w.1.of_host) meets)
        ]
      ]

  pub local_there : MeetsLocally before pattern nodes → MeetsLocally after pattern nodes
  local_there local =
      local_from (nearby_there before after pattern nodes before_valid after_valid is seen (near_from local)) (record { clear = clear_after local })

-- the way back is the same way
pub local_back : (before after pattern : Big) (nodes : List ℕ) → IsValid before → IsValid after → IsPattern pattern
    → AreSeenAlike before after pattern nodes → AreSteady before after pattern nodes → MeetsLocally after pattern nodes → MeetsLocally before pattern nodes
local_back before after pattern nodes before_valid after_valid is seen steady =
    local_there after before pattern nodes after_valid before_valid is (seen_back seen)
    (all_steady_back before after pattern nodes before_valid after_valid is seen steady)

-- ---- occurrences

module _ (before after pattern : Big) (nodes : List ℕ) (before_ground : IsGround before) (after_ground : IsGround after) (is : IsPattern pattern)
    (seen : AreSeenAlike before after pattern nodes) (steady : AreSteady before after pattern nodes) where
  pub occurs_there : Occurs before pattern nodes → Occurs after pattern nodes
  occurs_there occurs =
      locally_occurs after pattern is after_ground nodes
      (local_there before after pattern nodes before_ground.valid after_ground.valid is seen steady (occurs_locally before pattern is before_ground nodes occurs))

  pub occurs_back : Occurs after pattern nodes → Occurs before pattern nodes
  occurs_back occurs =
      locally_occurs before pattern is before_ground nodes
      (local_back before after pattern nodes before_ground.valid after_ground.valid is seen steady (occurs_locally after pattern is after_ground nodes occurs))
