use Rattle.std.proofs.Common.{◌≤◌, ◌+◌, List, get_or, sym, ap, ◌∙◌, subst}
use Rattle.bg_base.specs.declared.big.Big.{Big}
use Rattle.bg_base.specs.declared.names.Place.{Place}
use Rattle.bg_base.specs.declared.names.Place.TheVariants.{Node}
use Rattle.bg_base.specs.Limits.{largest_counter}
use Rattle.bg_index.proofs.NewRowLaws.{room_for_site}
use Rattle.bg_index.proofs.new_rows.top_made.Goals as goal

pub place_made-requires : goal.place_made-requires
place_made-requires c =
    let sites = c.deref-2.ensures ∙ ap (λ (big : Big). big.sites) c.reactum.ensures.same in
    record {
      room = λ node e.
          subst (λ n. n + node ≤ largest_counter) (sym c.next_node.ensures)
          (room_for_site c.args.host.now c.args.rule.now c.reactum.ensures.kept c.requires.room c.args.at (Node 0) (get_or c.deref-2.result.now c.args.at (Node 0))
          c.requires.there (ap (λ (places : List Place). get_or places c.args.at (Node 0)) (sym sites)) node e);
    }
