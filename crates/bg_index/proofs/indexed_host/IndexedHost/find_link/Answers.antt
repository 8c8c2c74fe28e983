use Rattle.std.proofs.Common.{slice_get, sym, ap, ◌∙◌}
use Rattle.bg_index.proofs.IndexLaws.{link_found, no_link_found}
use Rattle.bg_index.proofs.indexed_host.IndexedHost.find_link.Goals as goal

pub returns-in-Some : goal.returns-in-Some
returns-in-Some c =
    c.port_at.ensures ∙ ap (λ links. slice_get links c.args.port) c.as_slice.ensures.same
    ∙ sym (link_found c.args.self.now.big c.args.node c.args.port c.in-Some.entry.now.row c.in-Some.ensures.found.0)

pub returns-in-None : goal.returns-in-None
returns-in-None c = sym (no_link_found c.args.self.now.big c.args.node c.args.port c.in-None.ensures.found)
