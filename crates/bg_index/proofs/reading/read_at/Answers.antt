use Rattle.std.proofs.Common.{List, ℕ, subst, ◌∙◌}
use Rattle.bg_index.proofs.SiteLaws.{AreParts, reading_is}
use Rattle.bg_index.proofs.reading.read_at.Goals as goal

pub returns : goal.returns
returns c =
    reading_is c.args.host.now.big c.args.redex.now c.args.entries.now c.args.map.now
    (record {
      images = c.in_ok-images.images;
      places = c.in_ok-places.places;
      links = c.in_ok-links.links;
      asked = c.in_ok-asked.asked;
      late = c.in_ok-late.late;
      parts = c.in_ok-parts.parts;
    })
    c.in_ok-images.ensures.ascending c.in_ok-images.ensures.same c.in_ok-places.ensures.many c.in_ok-places.ensures.are
    c.in_ok-links.ensures.many c.in_ok-links.ensures.are (c.in_ok-asked.ensures.many ∙ c.len.ensures.count) c.in_ok-asked.ensures.are
    c.in_ok-late.ensures
    c.in_ok-parts.ensures.many
    (subst (λ (asked : List ℕ). AreParts c.args.host.now.big c.args.redex.now c.args.map.now asked c.in_ok-parts.parts.items)
    c.deref-2.ensures.value c.in_ok-parts.ensures.are)
