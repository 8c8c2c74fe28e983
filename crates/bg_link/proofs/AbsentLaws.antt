-- A link that is not there has no points.
use Rattle.std.proofs.Common.{◌≡◌, true, false, List, [], ◌∷◌, map, filter, IsTrue, refl, sym, ap, ◌∙◌}
use Rattle.std.proofs.lemmas.Bool.{false≢true, false_from_ne_true, cond-false}
use Rattle.bg_lists.specs.Lists.{Mem, here, there}
use Rattle.bg_lists.proofs.Words.{All-member}
use Rattle.bg_base.specs.declared.names.Link.{Link}
use Rattle.bg_base.specs.declared.names.Link.TheVariants.{Edge, Outer}
use Rattle.bg_base.specs.declared.big.Big.{Big}
use Rattle.bg_base.specs.Bigraph.{IsValid, has_link}
use Rattle.bg_base.specs.Products.{same_link}
use Rattle.bg_base.proofs.NameLaws.{same_link_from_test}
use Rattle.bg_link.specs.declared.graph.Point.{Point}
use Rattle.bg_link.specs.Links.{links_of, all_points, point_of, points_of}
use Rattle.bg_link.specs.Rows.{is_there}
use Rattle.bg_link.proofs.PointLaws.{linked}

has_as_there : (big : Big) (link : Link) → has_link big link ≡ is_there big.edges big.outer link
has_as_there big (Edge edge) = refl
has_as_there big (Outer name) = refl

module _ (big : Big) (link : Link) (absent : has_link big link ≡ false) where
  -- points that are tied to links that are there are not tied to it
  none_on : (points : List (Point × Link)) → ((tied : Point × Link) → Mem tied points → has_link big tied.1 ≡ true)
      → map point_of (filter (λ (tied : Point × Link). same_link tied.1 link) points) ≡ []
  none_on [] each = refl
  none_on (tied ∷ points) each =
      ap (map point_of) (cond-false (same_link tied.1 link) _ _
      (false_from_ne_true (same_link tied.1 link)
      (λ same. false≢true (sym absent ∙ ap (has_link big) (sym (same_link_from_test tied.1 link same)) ∙ each tied (here refl)))))
      ∙ none_on points (λ other m. each other (there m))

pub no_points : (big : Big) (link : Link) → IsValid big → has_link big link ≡ false → points_of (links_of big) link ≡ []
no_points big link valid absent =
    none_on big link absent (all_points (links_of big))
    (λ tied m. has_as_there big tied.1
    ∙ All-member (λ (t : Point × Link). IsTrue (is_there big.edges big.outer t.1)) (all_points (links_of big)) (linked big valid).tied_there m)
