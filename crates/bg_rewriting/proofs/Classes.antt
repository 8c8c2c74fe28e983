-- Which rows of a host a reaction drops, keeps and moves, and which rows of the host after are new.
use Rattle.std.proofs.Common.{◌≡◌, ℕ, suc, ◌+◌, ◌≤◌, ◌==◌, true, false, List, [], ◌∷◌, length, take, get_or, refl, sym, ap, subst, ◌∙◌, ◌⊎◌, inl, inr, arith}
use Rattle.std.specs.List.{position_or_len}
use Rattle.std.proofs.lemmas.Bool.{cases_Bool, cases_eq, cond-true, cond-false, cond_both}
use Rattle.bg_lists.specs.Lists.{Mem, At, at_here, at_there}
use Rattle.bg_lists.proofs.Members.{Mem-same, Mem-cons_cases}
use Rattle.bg_lists.proofs.Places.{At-same, At-total, At-below, At-get_or, Mem-from_At}
use Rattle.bg_base.specs.declared.names.Place.{Place}
use Rattle.bg_base.specs.declared.names.Place.TheVariants.{Node, Region}
use Rattle.bg_base.specs.declared.big.NodeRow.{NodeRow}
use Rattle.bg_base.specs.declared.big.Big.{Big}
use Rattle.bg_base.specs.Bigraph.{IsGround, has_place}
use Rattle.bg_rules.specs.Solid.{IsPattern}
use Rattle.bg_rules.specs.Instantiation.{is_among}
use Rattle.bg_rules.specs.LocalConditions.{at_place, above, image_of}
use Rattle.bg_rules.specs.Reaction.{HostState}
use Rattle.bg_rules.proofs.Glued.{Glued}
use Rattle.bg_rules.proofs.Patterns.{number_mem, same_node_row, parent_there, place_region, place_node, site_there, one_site, site_node, image_mem, image_injective}
use Rattle.bg_rules.proofs.ParameterParts.{in_some_part}
use Rattle.bg_rules.proofs.Upwards.{among_cases, is_among-none, is_among-member}
use Rattle.bg_rules.specs.Rules.{RuleParts, IsRule}
use Rattle.bg_rewriting.specs.Boundaries.{MeetsFirst, first_here, first_above, IsBelow, IsOutside, Boundary}
use Rattle.bg_rewriting.specs.Rewriting.{place_made, number_copied, place_copied, row_copied, late_count, IsRowAfter, stays, is_made, is_copied}
use Rattle.bg_rewriting.specs.Touching.{IsDropped, is_image, is_unasked}
use Rattle.bg_rewriting.proofs.Below.{first_meets, first_member, first_once, context_outside, part_below}

-- ---- lists

-- a member stands somewhere for the first time
pub first_at : {x : ℕ} (xs : List ℕ) → Mem x xs → (at : ℕ) × At x at xs × (Mem x (take at xs) → ⊥)
first_at [] m = elim m [ ]
first_at {x} (y ∷ ys) m =
    elim (cases_eq y x) [
      | inl e ↦ (0, at_here e, λ k. elim k [ ])
      | inr differ ↦ elim (Mem-cons_cases m) [
        | inl e ↦ absurd (differ e)
        | inr n ↦ (let w = first_at ys n in
            (suc w.0, at_there w.1, λ k. elim (Mem-cons_cases k) [ inl e ↦ absurd (differ e) | inr l ↦ w.2 l ]))
      ]
    ]

-- ---- each row is an image, outside, or below a site

pub data Lies (host pattern : Big) (nodes : List ℕ) (row : NodeRow) : Type 0 where
  in_image : Mem row.id nodes → Lies host pattern nodes row
  in_context : IsOutside host.nodes nodes row → Lies host pattern nodes row
  in_part : {site node : ℕ} → At (Node node) site pattern.sites → IsBelow host.nodes nodes (image_of pattern nodes node) row → Lies host pattern nodes row

-- not dropped: outside, or below a site for which an entry asks
pub data IsLeft (host : Big) (rule : RuleParts) (nodes : List ℕ) (row : NodeRow) : Type 0 where
  left_outside : IsOutside host.nodes nodes row → IsLeft host rule nodes row
  left_asked : {site at : ℕ} → At (Node at) site rule.redex.sites → Mem site rule.map → IsBelow host.nodes nodes (image_of rule.redex nodes at) row
      → IsLeft host rule nodes row

module _ {host pattern : Big} {nodes : List ℕ} {context : Big} {edges : List ℕ} {parameter : Big} (is : IsPattern pattern)
    (ground : IsGround host) (glued : Glued host pattern nodes context edges parameter) where
  pub lies : {row : NodeRow} → Mem row host.nodes → Lies host pattern nodes row
  lies {row} m =
      elim (glued.of_host row m) [
        | inl c ↦ in_context (context_outside is ground glued c)
        | inr (inl w) ↦ in_image (Mem-same (ap (λ (r : NodeRow). r.id) w.2) (image_mem pattern is.valid nodes glued.nodes_new (number_mem w.1)))
        | inr (inr w) ↦ (let v = in_some_part parameter glued.is_parameter.ground.valid w.1 in
            let less = v.1 in
            let width = glued.parameter_width in
            let s = At-total pattern.sites v.0 (omega (arith, less, width)) in
            let t = site_node pattern is (Mem-from_At s.1) in
            let site = At-same t.1 s.1 in
            in_part site (subst (λ (r : NodeRow). IsBelow host.nodes nodes (image_of pattern nodes t.0) r) w.2 (part_below is ground glued site v.2)))
      ]

  -- below one site only
  pub one_below : {site other node twin : ℕ} {row : NodeRow} → At (Node node) site pattern.sites → At (Node twin) other pattern.sites
      → IsBelow host.nodes nodes (image_of pattern nodes node) row → IsBelow host.nodes nodes (image_of pattern nodes twin) row → site ≡ other
  one_below {site} {other} {node} {twin} {row} a b low high =
      let same = first_once ground.valid.nodes_ascend low.under refl high.under in
      let one : node ≡ twin = image_injective pattern is.valid nodes glued.nodes_new
      (place_node pattern is.valid (site_there pattern is.valid (Mem-from_At a)) refl)
      (place_node pattern is.valid (site_there pattern is.valid (Mem-from_At b)) refl) same in
      one_site pattern is (At-same (ap Node one) a) b

  -- what is below a site is not outside
  pub below_inside : {node : ℕ} {row : NodeRow} → IsBelow host.nodes nodes node row → IsOutside host.nodes nodes row → ⊥
  below_inside {node} {row} low out = out.clear node (first_member low.under) (above low.of_rows refl (first_meets low.under))

-- ---- each row is dropped or left, and none is both

module _ {host : Big} {rule : RuleParts} {nodes : List ℕ} {context : Big} {edges : List ℕ} {parameter : Big} (is : IsPattern rule.redex)
    (ground : IsGround host) (glued : Glued host rule.redex nodes context edges parameter) where
  pub dropped_or_left : {row : NodeRow} → Mem row host.nodes → IsDropped host rule nodes row.id ⊎ IsLeft host rule nodes row
  dropped_or_left {row} m =
      elim (lies is ground glued m) [
        | in_image k ↦ inl (is_image k)
        | in_context out ↦ inr (left_outside out)
        | in_part {site} {node} s low ↦ elim (among_cases rule.map site) [
          | inl k ↦ inr (left_asked s k low)
          | inr none ↦ inl (is_unasked s none low refl)
        ]
      ]

  pub not_both : {row : NodeRow} → Mem row host.nodes → IsDropped host rule nodes row.id → IsLeft host rule nodes row → ⊥
  not_both {row} m (is_image k) (left_outside out) = out.clear row.id k (at_place refl)
  not_both {row} m (is_image k) (left_asked s n low) = low.no_image k
  not_both {row} m (is_unasked {at = at} {row = other} s none low e) (left_outside out) =
      let same = same_node_row host ground.valid low.of_rows m e in
      below_inside is ground glued (subst (λ (r : NodeRow). IsBelow host.nodes nodes (image_of rule.redex nodes at) r) same low) out
  not_both {row} m (is_unasked {at = at} {row = other} s none low e) (left_asked t n high) =
      let same = same_node_row host ground.valid low.of_rows m e in
      none (Mem-same (sym (one_below is ground glued s t
      (subst (λ (r : NodeRow). IsBelow host.nodes nodes (image_of rule.redex nodes at) r) same low) high)) n)

-- ---- places round the redex

-- a place is that of a new node, or one in which an image lies
abbrev pub IsNear : ℕ → Boundary → Place → Type 0
IsNear next boundary place = ((node : ℕ) × (next ≤ node) × (place ≡ Node node)) ⊎ Mem place boundary.places

made_near : (rule : RuleParts) (boundary : Boundary) → IsRule rule → length boundary.places ≡ rule.redex.regions → (next : ℕ) (place : Place)
    → has_place rule.reactum place ≡ true → IsNear next boundary (place_made next boundary.places place)
made_near rule boundary is_rule many next (Node made) has = inl (next + made, (omega arith), refl)
made_near rule boundary is_rule many next (Region region) has =
    let below = place_region rule.reactum is_rule.sides.reactum_valid {place = Region region} has refl in
    let regions = is_rule.sides.agree.regions_agree in
    inr (Mem-from_At (At-get_or boundary.places region (Region region) (omega (arith, below, regions, many))))

module _ (parts : List (List ℕ)) (entries : List ℕ) (next : ℕ) where
  pub number_first : (at site node : ℕ) → is_among site (take at entries) ≡ false → number_copied parts entries next at site node ≡ node
  unfolding number_copied
  number_first at site node e =
      cond-false (is_among site (take at entries))
      (next + late_count parts [] (take at entries) + position_or_len (λ other. other == node) (get_or parts site [])) node e

  pub number_late : (at site node : ℕ) → is_among site (take at entries) ≡ true
      → number_copied parts entries next at site node
      ≡ next + late_count parts [] (take at entries) + position_or_len (λ other. other == node) (get_or parts site [])
  unfolding number_copied
  number_late at site node e =
      cond-true (is_among site (take at entries))
      (next + late_count parts [] (take at entries) + position_or_len (λ other. other == node) (get_or parts site [])) node e

  number_later : (at site node : ℕ) → is_among site (take at entries) ≡ true → next ≤ number_copied parts entries next at site node
  number_later at site node e = let late = number_late at site node e in omega (arith, late)

-- ---- the rows after

-- a row after that was there before: the same, or it lay in an image and lies round the redex or in a new node
pub record WasThere (host : HostState) (rule : RuleParts) (nodes : List ℕ) (boundary : Boundary) (row : NodeRow) : Type 0 where
  pub below : NodeRow
  pub of_host : Mem below host.big.nodes
  pub number : below.id ≡ row.id
  pub links : below.links ≡ row.links
  pub left : IsLeft host.big rule nodes below
  pub same : (row ≡ below) ⊎ ((image : ℕ) × Mem image nodes × (below.parent ≡ Node image) × IsNear host.next_node boundary row.parent)

module _ (host : HostState) (rule : RuleParts) (nodes : List ℕ) (boundary : Boundary) (is_rule : IsRule rule)
    (many : length boundary.places ≡ rule.redex.regions) where
  abbrev next : ℕ
  next = host.next_node + length rule.reactum.nodes

  -- where the site of an entry lies
  site_near : {at site : ℕ} → At site at rule.map → IsNear host.next_node boundary (place_made host.next_node boundary.places (get_or rule.reactum.sites at (Region at)))
  site_near {at} a =
      let less = At-below a in
      let as_many = is_rule.sides.fits.as_many in
      made_near rule boundary is_rule many host.next_node (get_or rule.reactum.sites at (Region at))
      (site_there rule.reactum is_rule.sides.reactum_valid (Mem-from_At (At-get_or rule.reactum.sites at (Region at) (omega (arith, less, as_many)))))

  place_later : {at site : ℕ} → At site at rule.map → is_among site (take at rule.map) ≡ true → (place : Place) → ((region : ℕ) → place ≡ Region region → ⊥)
      → IsNear host.next_node boundary (place_copied host rule nodes boundary at site place)
  place_later {at} {site} a late (Node node) no_region =
      cond_both (is_among node nodes) (place_made host.next_node boundary.places (get_or rule.reactum.sites at (Region at)))
      (Node (number_copied boundary.parts rule.map next at site node)) (IsNear host.next_node boundary)
      (λ _. site_near a)
      (λ _. let more = number_later boundary.parts rule.map next at site node late in
      inl (number_copied boundary.parts rule.map next at site node, (omega (arith, more)), refl))
  place_later a late (Region region) no_region = absurd (no_region region refl)

  pub place_first : {at site : ℕ} → At site at rule.map → is_among site (take at rule.map) ≡ false → (place : Place)
      → (place_copied host rule nodes boundary at site place ≡ place)
      ⊎ ((image : ℕ) × Mem image nodes × (place ≡ Node image) × IsNear host.next_node boundary (place_copied host rule nodes boundary at site place))
  place_first {at} {site} a first (Node node) =
      elim (among_cases nodes node) [
        | inl m ↦ inr (
          node,
          m,
          refl,
          subst (IsNear host.next_node boundary)
              (sym (cond-true (is_among node nodes) (place_made host.next_node boundary.places (get_or rule.reactum.sites at (Region at)))
              (Node (number_copied boundary.parts rule.map next at site node)) (is_among-member nodes m)))
              (site_near a),
        )
        | inr none ↦ inl (cond-false (is_among node nodes) (place_made host.next_node boundary.places (get_or rule.reactum.sites at (Region at)))
            (Node (number_copied boundary.parts rule.map next at site node)) (is_among-none nodes node none)
            ∙ ap Node (number_first boundary.parts rule.map next at site node first))
      ]
  place_first a first (Region region) = inl refl

  -- what is met first from a place is not met from a region
  pub below_node : {node : ℕ} {row : NodeRow} → IsBelow host.big.nodes nodes node row → (region : ℕ) → row.parent ≡ Region region → ⊥
  below_node low region e = climbed low.under e
    where
      climbed : {node : ℕ} {place : Place} → MeetsFirst host.big.nodes nodes node place → place ≡ Region region → ⊥
      climbed (first_here f m) g = cc
      climbed (first_above m f none up) g = cc

  -- the first copy of a row: it keeps its number, its control and its links
  pub first_same : (at site : ℕ) → is_among site (take at rule.map) ≡ false → (row : NodeRow)
      → place_copied host rule nodes boundary at site row.parent ≡ row.parent → row_copied host rule nodes boundary at site row ≡ row
  first_same at site first row e =
      let id = number_first boundary.parts rule.map next at site row.id first in
      λ t. record { id = id t; control = row.control; parent = e t; links = row.links }

  -- a row after is new, or was there
  pub new_or_old : {row : NodeRow} → IsRowAfter host rule nodes boundary row
      → ((host.next_node ≤ row.id) × IsNear host.next_node boundary row.parent) ⊎ WasThere host rule nodes boundary row
  new_or_old {row} (stays out) =
      inr (record { below = row; of_host = out.of_rows; number = refl; links = refl; left = left_outside out; same = inl refl })
  new_or_old {row} (is_made {below} m e) =
      let id : host.next_node + below.id ≡ row.id = ap (λ (r : NodeRow). r.id) e in
      inl (
        omega (arith, id),
        subst (λ (r : NodeRow). IsNear host.next_node boundary r.parent) e
            (made_near rule boundary is_rule many host.next_node below.parent (parent_there rule.reactum is_rule.sides.reactum_valid m)),
      )
  new_or_old {row} (is_copied {at} {site} {node} {below} a s low e) =
      let id : number_copied boundary.parts rule.map next at site below.id ≡ row.id = ap (λ (r : NodeRow). r.id) e in
      elim (cases_Bool (is_among site (take at rule.map))) [
        | inl late ↦ (let more = number_later boundary.parts rule.map next at site below.id late in
            inl (omega (arith, id, more), subst (λ (r : NodeRow). IsNear host.next_node boundary r.parent) e (place_later a late below.parent (below_node low))))
        | inr first ↦ inr (record {
          below = below;
          of_host = low.of_rows;
          number = sym (number_first boundary.parts rule.map next at site below.id first) ∙ id;
          links = ap (λ (r : NodeRow). r.links) e;
          left = left_asked s (Mem-from_At a) low;
          same = elim (place_first a first below.parent) [
            | inl p ↦ inl (sym e ∙ first_same at site first below p)
            | inr w ↦ inr (w.0, w.1, w.2, subst (λ (r : NodeRow). IsNear host.next_node boundary r.parent) e w.3)
          ];
        })
      ]

  -- a row that is left is there after, the same, or in another place if it lay in an image
  pub left_after : {row : NodeRow} → IsLeft host.big rule nodes row
      → (other : NodeRow) × IsRowAfter host rule nodes boundary other × (other.id ≡ row.id) × (other.links ≡ row.links)
      × ((other ≡ row) ⊎ ((image : ℕ) × Mem image nodes × (row.parent ≡ Node image)))
  left_after {row} (left_outside out) = (row, stays out, refl, refl, inl refl)
  left_after {row} (left_asked {site} s k low) =
      let w = first_at rule.map k in
      let first = is_among-none (take w.0 rule.map) site w.2 in (
        row_copied host rule nodes boundary w.0 site row,
        is_copied w.1 s low refl,
        number_first boundary.parts rule.map next w.0 site row.id first,
        refl,
        elim (place_first w.1 first row.parent) [
          | inl p ↦ inl (first_same w.0 site first row p)
          | inr v ↦ inr (v.0, v.1, v.2)
        ],
      )
