-- The context, the pattern and the parameter are the parts of a host that decomposes.
use Rattle.std.proofs.Common.{ℕ, List, ap, ◌∙◌, ◌⊎◌, inl, inr}
use Rattle.bg_lists.specs.Lists.{Mem}
use Rattle.bg_lists.proofs.Members.{Mem-same}
use Rattle.bg_base.specs.declared.big.NodeRow.{NodeRow}
use Rattle.bg_base.specs.declared.big.Big.{Big}
use Rattle.bg_base.specs.Translation.{node_numbers}
use Rattle.bg_rules.specs.Decomposition.{Decomposes}
use Rattle.bg_rules.specs.Parting.{ArePartsOf}
use Rattle.bg_rules.specs.Solid.{IsPattern}
use Rattle.bg_rules.proofs.Glued.{Glued}
use Rattle.bg_rules.proofs.Occurrences.{glued_of}
use Rattle.bg_rules.proofs.Patterns.{number_mem, number_row, image_mem, image_row}

module _ (host pattern : Big) (nodes : List ℕ) (context : Big) (edges : List ℕ) (parameter : Big) (is : IsPattern pattern)
    (glued : Glued host pattern nodes context edges parameter) where
  abbrev IsInPart : ℕ → Type 0
  IsInPart node = Mem node (node_numbers context.nodes) ⊎ (Mem node nodes ⊎ Mem node (node_numbers parameter.nodes))

  part_of : {node : ℕ} → Mem node (node_numbers host.nodes) → IsInPart node
  part_of m =
      let w = number_row host.nodes m in
      elim (glued.of_host w.0 w.1) [
        | inl c ↦ inl (Mem-same w.2 (number_mem c))
        | inr (inl v) ↦ inr (inl (Mem-same (ap (λ (row : NodeRow). row.id) v.2 ∙ w.2) (image_mem pattern is.valid nodes glued.nodes_new (number_mem v.1))))
        | inr (inr v) ↦ inr (inr (Mem-same (ap (λ (row : NodeRow). row.id) v.2 ∙ w.2) (number_mem v.1)))
      ]

  of_part : {node : ℕ} → IsInPart node → Mem node (node_numbers host.nodes)
  of_part part =
      elim part [
        | inl c ↦ (let w = number_row context.nodes c in Mem-same w.2 (number_mem (glued.of_context w.0 w.1)))
        | inr (inl v) ↦ (let w = image_row pattern is.valid nodes glued.nodes_new v in Mem-same w.2 (number_mem (glued.of_pattern w.0 w.1)))
        | inr (inr v) ↦ (let w = number_row parameter.nodes v in Mem-same w.2 (number_mem (glued.of_parameter w.0 w.1)))
      ]

  parts_of_glued : ArePartsOf host pattern nodes context edges parameter
  parts_of_glued =
      record {
        some_part = λ node. (part_of {node = node}, of_part {node = node});
        images_context = glued.pattern_context;
        images_parameter = glued.pattern_parameter;
        parameter_context = glued.parameter_context;
        of_context = glued.of_context;
        of_pattern = glued.of_pattern;
        of_parameter = glued.of_parameter;
        some_edge = λ edge. (
          λ m. elim (glued.edges_of edge m) [ inl image ↦ inr image | inr other ↦ inl other ],
          λ part. elim part [ inl other ↦ glued.edges_in edge (inr other) | inr image ↦ glued.edges_in edge (inl image) ],
        );
        edges_apart = glued.edges_apart;
      }

pub parts_of_host : (host pattern : Big) (nodes : List ℕ) (context : Big) (edges : List ℕ) (parameter : Big) → IsPattern pattern
    → Decomposes host pattern nodes context edges parameter → ArePartsOf host pattern nodes context edges parameter
parts_of_host host pattern nodes context edges parameter is d =
    parts_of_glued host pattern nodes context edges parameter is (glued_of host pattern nodes context edges parameter is d)
