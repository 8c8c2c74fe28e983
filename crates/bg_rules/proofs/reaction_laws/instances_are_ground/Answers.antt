use Rattle.std.proofs.Common.{◌<◌, ◌≤◌, ◌⊎◌}
use Rattle.bg_lists.specs.Lists.{Mem}
use Rattle.bg_lists.proofs.Words.{All-from_members}
use Rattle.bg_base.specs.declared.big.NodeRow.{NodeRow}
use Rattle.bg_base.specs.Translation.{node_numbers}
use Rattle.bg_rules.specs.Instantiation.{instantiate, next_after}
use Rattle.bg_rules.proofs.Instances.{number_below_from_all, instance_edges, instance_outer, instance_regions, instance_ground, instance_numbers, instance_below, instance_valid_under}
use Rattle.bg_rules.proofs.reaction_laws.instances_are_ground.Goals as goal

pub returns-clause-ground : goal.returns-clause-ground
returns-clause-ground c = λ parameter entries next is below. instance_ground parameter entries next is (number_below_from_all parameter next below)

pub returns-clause-no_edges : goal.returns-clause-no_edges
returns-clause-no_edges c = instance_edges

pub returns-clause-outer : goal.returns-clause-outer
returns-clause-outer c = instance_outer

pub returns-clause-regions : goal.returns-clause-regions
returns-clause-regions c = instance_regions

pub returns-clause-numbers : goal.returns-clause-numbers
returns-clause-numbers c =
    λ parameter entries next is below.
    All-from_members (λ (row : NodeRow). Mem row.id (node_numbers parameter.nodes) ⊎ (next ≤ row.id)) (instantiate parameter entries next).nodes
    (λ row m. instance_numbers parameter entries next is (number_below_from_all parameter next below) m)

pub returns-clause-below : goal.returns-clause-below
returns-clause-below c =
    λ parameter entries next is below.
    All-from_members (λ (row : NodeRow). row.id < next_after parameter entries next) (instantiate parameter entries next).nodes
    (λ row m. instance_below parameter entries next is (number_below_from_all parameter next below) m)

pub returns-clause-fits : goal.returns-clause-fits
returns-clause-fits c =
    λ signature parameter entries next is below fits.
    instance_valid_under parameter entries next is (number_below_from_all parameter next below) signature fits
