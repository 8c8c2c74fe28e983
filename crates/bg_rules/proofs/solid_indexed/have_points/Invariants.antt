use Rattle.std.proofs.Common.{◌≡◌, ◌==◌, not, drop}
use Rattle.std.specs.List.{list_all}
use Rattle.bg_base.specs.declared.names.Name.{Name}
use Rattle.bg_base.specs.declared.names.Link.TheVariants.{Outer}
use Rattle.bg_link.specs.Links.{degree_of}
use Rattle.bg_rules.proofs.solid_indexed.have_points.Given as goal

abbrev pub invariant-loop-name : goal.invariant-loop-name
invariant-loop-name l =
    list_all (λ (name : Name). not (degree_of l.wiring (Outer name) == 0)) l.names
    ≡ list_all (λ (name : Name). not (degree_of l.wiring (Outer name) == 0)) (drop l.name-index l.names)
