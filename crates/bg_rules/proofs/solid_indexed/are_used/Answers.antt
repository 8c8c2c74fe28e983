use Rattle.std.proofs.Common.{◌∙◌, ◌==◌, List, not, ap}
use Rattle.std.specs.List.{list_all}
use Rattle.bg_base.specs.declared.names.Name.{Name}
use Rattle.bg_base.specs.declared.names.Link.TheVariants.{Outer}
use Rattle.bg_link.specs.declared.graph.Links.{Links}
use Rattle.bg_link.specs.Links.{degree_of}
use Rattle.bg_rules.proofs.SolidCounts.{used_names}
use Rattle.bg_rules.proofs.solid_indexed.are_used.Goals as goal

pub returns : goal.returns
returns c =
    let big = c.args.big.now in
    c.in_ok-used.ensures
    ∙ ap (λ (names : List Name). list_all (λ (name : Name). not (degree_of c.in_ok-wiring.wiring (Outer name) == 0)) names) c.deref.ensures
    ∙ ap (λ (links : Links). list_all (λ (name : Name). not (degree_of links (Outer name) == 0)) big.outer) c.in_ok-wiring.ensures
    ∙ used_names big big.outer
