use Rattle.std.proofs.Common.{List, length, ap, subst, ◌∙◌}
use Rattle.bg_lists.specs.Lists.{Mem}
use Rattle.bg_base.specs.declared.names.Name.{Name}
use Rattle.bg_link.specs.declared.graph.Links.{Links}
use Rattle.bg_link.specs.Links.{links_of}
use Rattle.bg_index.specs.declared.entries.EdgeEntry.{EdgeEntry}
use Rattle.bg_index.specs.Indexed.{IsEdgeTied}
use Rattle.bg_index.proofs.MakingLaws.{AreNames}
use Rattle.bg_index.proofs.making.ties_of.Goals as goal

pub returns-clause-tied : goal.returns-clause-tied
returns-clause-tied c =
    record {
      edges_are = subst (λ (links : Links). (entry : EdgeEntry) → Mem entry c.in_ok-edges.edges.items → IsEdgeTied links entry) c.in_ok-wiring.ensures
          c.in_ok-edges.ensures.tied;
      names_many = c.in_ok-names.ensures.many ∙ ap length c.deref-2.ensures;
      names_are = subst (λ (outer : List Name). AreNames (links_of c.args.big.now) outer c.in_ok-names.names.items) c.deref-2.ensures
          (subst (λ (links : Links). AreNames links c.deref-2.result.now c.in_ok-names.names.items) c.in_ok-wiring.ensures c.in_ok-names.ensures.tied);
    }
