-- How places, links and rows go through a composition, an identity and a tensor product.
use Rattle.std.proofs.Common.{◌≡◌, ℕ, zero, suc, cond, ◌+◌, ◌<◌, Bool, true, List, [], ◌∷◌, map, length, find, get_or, Option, Some, None, is_some, is_eq, unwrap_or, option_map, IsTrue, refl, sym, ap, subst, ◌∙◌, arith}
use Rattle.std.specs.List.{list_all}
use Rattle.std.proofs.lemmas.Bool.{cond_both, cond-true, cond-false}
use Rattle.std.proofs.lemmas.List.{get_or-map, map-id}
use Rattle.bg_lists.specs.Lists.{Mem}
use Rattle.bg_lists.proofs.Members.{Mem-unmap, map_agree, map-map}
use Rattle.bg_lists.proofs.Words.{All-member, list_all-member}
use Rattle.bg_base.specs.declared.names.Name.{Name}
use Rattle.bg_base.specs.declared.names.Place.{Place}
use Rattle.bg_base.specs.declared.names.Place.TheVariants.{Node, Region}
use Rattle.bg_base.specs.declared.names.Link.{Link}
use Rattle.bg_base.specs.declared.names.Link.TheVariants.{Edge, Outer}
use Rattle.bg_base.specs.declared.big.NodeRow.{NodeRow}
use Rattle.bg_base.specs.declared.big.InnerRow.{InnerRow}
use Rattle.bg_base.specs.declared.big.Big.{Big}
use Rattle.bg_base.specs.Order.{name_cmp}
use Rattle.bg_base.specs.Bigraph.{IsValid, has_place, has_link, inner_of}
use Rattle.bg_base.specs.Composition.{compose, place_through, link_through, row_through, inner_through, FacesAgree}
use Rattle.bg_base.specs.Elementary.{counted, row_to_itself, identity}
use Rattle.bg_base.proofs.NameLaws.{same_name_from_test}
use Rattle.bg_base.proofs.LookUps.{has_inner, region_from_has, member_from_has_outer}

-- ---- where F's outer face is G's inner face, its regions have sites and its outer names inner names

pub has_site : (g f : Big) → FacesAgree g f → (region : ℕ) → has_place f (Region region) ≡ true → region < length g.sites
has_site g f faces region has = let below = region_from_has f region has in let widths = faces.widths in omega (arith, below, widths)

pub has_inner_row : (g f : Big) → FacesAgree g f → (name : Name) → has_link f (Outer name) ≡ true → is_some (inner_of g.inner name) ≡ true
has_inner_row g f faces name has =
    let w = Mem-unmap (λ (row : InnerRow). row.name) g.inner (subst (λ names. Mem name names) faces.names (member_from_has_outer f.outer name has)) in
    has_inner g.inner w.1 w.2

-- ---- through a composition

find-map : {X : Type 0} (test : X → Bool) (f : X → X) → ((x : X) → test (f x) ≡ test x) → (xs : List X) → find test (map f xs) ≡ option_map f (find test xs)
find-map test f keeps [] = refl
find-map test f keeps (x ∷ xs) =
    rw (keeps x)
    (cond_both (test x) (Some x) (find test xs) (λ o. cond (test x) (Some (f x)) (find test (map f xs)) ≡ option_map f o)
    (λ e. cond-true (test x) (Some (f x)) (find test (map f xs)) e)
    (λ e. cond-false (test x) (Some (f x)) (find test (map f xs)) e ∙ find-map test f keeps xs))

pub place_twice : (h g : Big) (place : Place) → ((region : ℕ) → place ≡ Region region → region < length g.sites)
    → place_through (compose h g) place ≡ place_through h (place_through g place)
unfolding compose
place_twice h g (Node node) below = refl
place_twice h g (Region region) below = get_or-map (place_through h) g.sites region (Region region) (Region region) (below region refl)

found_twice : (h : Big) (name : Name) (o : Option InnerRow) → is_some o ≡ true
    → unwrap_or (option_map (λ (row : InnerRow). row.link) (option_map (inner_through h) o)) (Outer name)
    ≡ link_through h (unwrap_or (option_map (λ (row : InnerRow). row.link) o) (Outer name))
found_twice h name None e = cc
found_twice h name (Some row) e = refl

pub link_twice : (h g : Big) (link : Link) → ((name : Name) → link ≡ Outer name → is_some (inner_of g.inner name) ≡ true)
    → link_through (compose h g) link ≡ link_through h (link_through g link)
unfolding compose
link_twice h g (Edge edge) found = refl
link_twice h g (Outer name) found =
    ap (λ o. unwrap_or (option_map (λ (row : InnerRow). row.link) o) (Outer name))
    (find-map (λ (row : InnerRow). is_eq (name_cmp row.name name)) (inner_through h) (λ row. refl) g.inner)
    ∙ found_twice h name (inner_of g.inner name) (found name refl)

-- a part of F goes through G and H as through their composition
module _ (h g f : Big) (faces : FacesAgree g f) (f_valid : IsValid f) where
  pub there_twice : (place : Place) → has_place f place ≡ true → place_through (compose h g) place ≡ place_through h (place_through g place)
  there_twice place has = place_twice h g place (λ region e. has_site g f faces region (subst (λ p. has_place f p ≡ true) e has))

  pub linked_twice : (link : Link) → has_link f link ≡ true → link_through (compose h g) link ≡ link_through h (link_through g link)
  linked_twice link has = link_twice h g link (λ name e. has_inner_row g f faces name (subst (λ l. has_link f l ≡ true) e has))

  pub row_twice : (row : NodeRow) → Mem row f.nodes → row_through (compose h g) row ≡ row_through h (row_through g row)
  row_twice row m =
      let has = All-member (λ (r : NodeRow). IsTrue (has_place f r.parent)) f.nodes f_valid.parents_there m in
      let all = All-member (λ (r : NodeRow). IsTrue (list_all (has_link f) r.links)) f.nodes f_valid.links_there m in
      let parent = there_twice row.parent has in
      let links = map_agree (link_through (compose h g)) (λ link. link_through h (link_through g link)) row.links
      (λ link k. linked_twice link (list_all-member (has_link f) row.links all k))
      ∙ sym (map-map (link_through g) (link_through h) row.links) in
      λ t. record { id = row.id; control = row.control; parent = parent t; links = links t }

  pub site_twice : (place : Place) → Mem place f.sites → place_through (compose h g) place ≡ place_through h (place_through g place)
  site_twice place m = there_twice place (All-member (λ (p : Place). IsTrue (has_place f p)) f.sites f_valid.sites_there m)

  pub inner_twice : (row : InnerRow) → Mem row f.inner → inner_through (compose h g) row ≡ inner_through h (inner_through g row)
  inner_twice row m =
      let link = linked_twice row.link (All-member (λ (r : InnerRow). IsTrue (has_link f r.link)) f.inner f_valid.inner_links_there m) in
      λ t. record { name = row.name; link = link t }

-- ---- through an identity

get_or-counted : (first count at : ℕ) → get_or (map Region (counted first count)) at (Region (first + at)) ≡ Region (first + at)
unfolding counted
get_or-counted first zero at = refl
get_or-counted first (suc count) zero = ap Region (let e : first ≡ first + 0 = omega arith in e)
get_or-counted first (suc count) (suc at) =
    let e : suc first + at ≡ first + suc at = omega arith in
    subst (λ n. get_or (map Region (counted (suc first) count)) at (Region n) ≡ Region n) e (get_or-counted (suc first) count at)

module _ (width : ℕ) (names : List Name) where
  pub place_same : (place : Place) → place_through (identity width names) place ≡ place
  unfolding identity
  place_same (Node node) = refl
  place_same (Region region) =
      let e : 0 + region ≡ region = omega arith in
      subst (λ n. get_or (map Region (counted 0 width)) region (Region n) ≡ Region n) e (get_or-counted 0 width region)

  itself : (name : Name) (ys : List Name) → unwrap_or (option_map (λ (row : InnerRow). row.link) (inner_of (map row_to_itself ys) name)) (Outer name) ≡ Outer name
  itself name [] = refl
  itself name (y ∷ ys) =
      cond_both (is_eq (name_cmp y name)) (Some (row_to_itself y)) (inner_of (map row_to_itself ys) name)
      (λ o. unwrap_or (option_map (λ (row : InnerRow). row.link) o) (Outer name) ≡ Outer name)
      (λ e. ap Outer (same_name_from_test y name e)) (λ _. itself name ys)

  pub link_same : (link : Link) → link_through (identity width names) link ≡ link
  unfolding identity
  link_same (Edge edge) = refl
  link_same (Outer name) = itself name names

  pub row_same : (row : NodeRow) → row_through (identity width names) row ≡ row
  row_same row =
      let parent = place_same row.parent in
      let links = map_agree (link_through (identity width names)) (λ link. link) row.links (λ link m. link_same link) ∙ map-id row.links in
      λ t. record { id = row.id; control = row.control; parent = parent t; links = links t }

  pub inner_same : (row : InnerRow) → inner_through (identity width names) row ≡ row
  inner_same row = let link = link_same row.link in λ t. record { name = row.name; link = link t }
