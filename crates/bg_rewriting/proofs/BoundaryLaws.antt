-- At each occurrence there is something to read off.
use Rattle.std.proofs.Common.{◌≡◌, ℕ, ◌+◌, List, refl, sym, ap, subst, ◌∙◌, arith}
use Rattle.bg_lists.specs.Lists.{Mem}
use Rattle.bg_lists.proofs.Members.{Mem-same}
use Rattle.bg_lists.proofs.Places.{At-map, At-same, At-total, At-below, At-from_Mem}
use Rattle.bg_base.specs.declared.names.Name.{Name}
use Rattle.bg_base.specs.declared.names.Place.{Place}
use Rattle.bg_base.specs.declared.names.Place.TheVariants.{Node}
use Rattle.bg_base.specs.declared.names.Link.{Link}
use Rattle.bg_base.specs.declared.names.Link.TheVariants.{Outer}
use Rattle.bg_base.specs.declared.big.NodeRow.{NodeRow}
use Rattle.bg_base.specs.declared.big.Big.{Big}
use Rattle.bg_base.specs.Bigraph.{IsGround}
use Rattle.bg_base.specs.Composition.{link_through}
use Rattle.bg_base.specs.Elementary.{counted}
use Rattle.bg_base.specs.Translation.{node_numbers, link_renamed}
use Rattle.bg_base.proofs.Counted.{Mem-counted, length-counted}
use Rattle.bg_algebra.proofs.CompositionLaws.{At-counted}
use Rattle.bg_rules.specs.Solid.{IsPattern}
use Rattle.bg_rules.specs.Decomposition.{Occurs}
use Rattle.bg_rules.specs.Instantiation.{part}
use Rattle.bg_rules.specs.Rules.{RuleParts, IsRule}
use Rattle.bg_rules.specs.LocalConditions.{image_of}
use Rattle.bg_rules.proofs.Choices.{choose}
use Rattle.bg_rules.proofs.Forward.{pattern_image}
use Rattle.bg_rules.specs.Parting.{pattern_row, parameter_row}
use Rattle.bg_rules.proofs.Glued.{Glued}
use Rattle.bg_rules.proofs.Occurrences.{glued_of}
use Rattle.bg_rules.proofs.Patterns.{full_region, used_name, number_mem, number_row}
use Rattle.bg_rewriting.specs.Boundaries.{Boundary, IsBoundary, IsPlaceOf, IsLinkOf, IsPartOf}
use Rattle.bg_rewriting.proofs.Below.{part_up, part_below, below_part}

-- these are the numbers of the part of the site in that place
abbrev IsPartAt : Big → Big → List ℕ → Place → List ℕ → Type 0
IsPartAt host pattern nodes place numbers = (node : ℕ) → place ≡ Node node → IsPartOf host nodes (image_of pattern nodes node) numbers

module _ {host pattern : Big} {nodes : List ℕ} {context : Big} {edges : List ℕ} {parameter : Big} (is : IsPattern pattern)
    (ground : IsGround host) (glued : Glued host pattern nodes context edges parameter) where
  place_of : (region : ℕ) → Mem region (counted 0 pattern.regions) → (place : Place) × IsPlaceOf host pattern nodes region place
  place_of region m =
      let below = (Mem-counted 0 pattern.regions region m).1 in
      let w = full_region pattern is region (omega (arith, below)) in
      let image = pattern_row pattern nodes context edges w.0 in
      (image.parent, record { row = w.0; image = image; is_image = pattern_image is ground glued w.1; in_region = w.2; in_place = refl })

  link_of : (name : Name) → Mem name pattern.outer → (link : Link) × IsLinkOf host pattern nodes name link
  link_of name m =
      let w = used_name pattern is m in (
        link_through context (link_renamed pattern edges (Outer name)),
        record {
          row = w.0;
          image = pattern_row pattern nodes context edges w.0;
          port = w.1;
          is_image = pattern_image is ground glued w.2;
          has_name = w.3;
          has_link = At-map (λ (link : Link). link_through context (link_renamed pattern edges link)) w.3;
        },
      )

  part_of : (place : Place) → Mem place pattern.sites → (numbers : List ℕ) × IsPartAt host pattern nodes place numbers
  part_of place m =
      let a = At-from_Mem m in (
        node_numbers (part parameter a.0),
        λ node e. let site = At-same e a.1 in record {
          ascends = part_up parameter a.0 glued.is_parameter.ground.valid;
          below = λ number k. let w = number_row (part parameter a.0) k in
              (parameter_row pattern nodes context w.0, part_below is ground glued site w.1, w.2);
          all = λ row low. let w = below_part is ground glued site low in
              Mem-same (ap (λ (r : NodeRow). r.id) w.2) (number_mem w.1);
        },
      )

-- ---- what the rule finds round its images

module _ {host : Big} {rule : RuleParts} {nodes : List ℕ} {context : Big} {edges : List ℕ} {parameter : Big} (is : IsPattern rule.redex)
    (ground : IsGround host) (glued : Glued host rule.redex nodes context edges parameter) where
  pub boundary_of : (boundary : Boundary) × IsBoundary host rule nodes boundary
  boundary_of =
      let places = choose (IsPlaceOf host rule.redex nodes) (counted 0 rule.redex.regions) (place_of is ground glued) in
      let links = choose (IsLinkOf host rule.redex nodes) rule.redex.outer (link_of is ground glued) in
      let parts = choose (IsPartAt host rule.redex nodes) rule.redex.sites (part_of is ground glued) in (
        record { places = places.ys; links = links.ys; parts = parts.ys },
        record {
          places_many = sym places.long ∙ length-counted 0 rule.redex.regions;
          places_are = λ region place a.
              let below = At-below a in
              let long = places.long in
              let w = At-total (counted 0 rule.redex.regions) region (omega (arith, below, long)) in
              let same : w.0 ≡ 0 + region = At-counted 0 rule.redex.regions region w.0 w.1 in
              let one : w.0 ≡ region = omega (arith, same) in
              subst (λ r. IsPlaceOf host rule.redex nodes r place) one (places.each region w.0 place w.1 a);
          links_many = sym links.long;
          links_are = λ i name link a b. links.each i name link a b;
          parts_many = sym parts.long;
          parts_are = λ site node part a b needed. parts.each site (Node node) part a b node refl;
        },
      )

pub some_boundary : (host : Big) (rule : RuleParts) (nodes : List ℕ) → IsRule rule → IsGround host → Occurs host rule.redex nodes
    → (boundary : Boundary) × IsBoundary host rule nodes boundary
some_boundary host rule nodes is_rule ground o =
    boundary_of is_rule.sides.is_pattern ground
    (glued_of host rule.redex nodes o.context o.edges o.parameter is_rule.sides.is_pattern o.decomposes)
