-- Why the parts of a decomposition are valid: without that the whole is made of parts that are none, or of many.
use Rattle.std.proofs.Common.{◌≡◌, true, [], ◌∷◌, refl}
use Rattle.std.proofs.lemmas.Bool.{false≢true}
use Rattle.bg_lists.specs.Lists.{put, sort, here}
use Rattle.bg_lists.proofs.Words.{All-member}
use Rattle.bg_base.specs.declared.names.Place.TheVariants.{Node, Region}
use Rattle.bg_base.specs.declared.big.NodeRow.{NodeRow}
use Rattle.bg_base.specs.declared.big.Big.{Big}
use Rattle.bg_base.specs.Bigraph.{IsValid, has_place}
use Rattle.bg_base.specs.Composition.{compose}
use Rattle.bg_base.specs.Elementary.{counted, identity}
use Rattle.bg_base.specs.Faults.{fault_of, sites_fault, inner_fault, outer_fault, edges_fault, nodes_fault}
use Rattle.bg_base.specs.Translation.{number_renamed, rename}
use Rattle.bg_base.specs.Products.{tensor}
use Rattle.bg_rules.specs.Decomposition.{frame, IsParameter}
use Rattle.bg_cases.specs.Parts.{OnlyRows}
use Rattle.bg_cases.proofs.CaseTests.{parts_fit, fits_by, valid_by, pattern_by, ground_by, parameter_by}
use Rattle.bg_cases.proofs.CaseRows.{four_controls, node_a, node_b, in_places, nothing, a_alone}
use Rattle.bg_cases.proofs.CasesThatDoNot.{child_without_a_site}

-- A.B.1, in which A.1 does not occur at node 0 (`child_without_a_site`)
abbrev pub host : Big
host = in_places (node_a 0 (Region 0) ∷ node_b 1 (Node 0) ∷ []) [] 1

-- the B in node 0, which is not there
abbrev lost_child : NodeRow
lost_child = node_b 1 (Node 0)

abbrev pub lost_parameter : Big
lost_parameter = in_places (lost_child ∷ []) [] 0

abbrev pub lost_context : Big
lost_context = in_places (lost_child ∷ []) (Region 0 ∷ []) 1

abbrev pub plain_context : Big
plain_context = in_places [] (Region 0 ∷ []) 1

-- with such a parameter all fits, and the whole is the host
parameter_fits : parts_fit a_alone (0 ∷ []) plain_context [] lost_parameter ≡ true
unfolding compose tensor identity rename number_renamed counted sort put
parameter_fits = refl

parameter_makes_the_host : compose plain_context (compose (frame a_alone (0 ∷ []) [] []) lost_parameter) ≡ host
unfolding compose tensor identity rename number_renamed counted sort put
parameter_makes_the_host = refl

-- so too with such a context
context_fits : parts_fit a_alone (0 ∷ []) lost_context [] nothing ≡ true
unfolding compose tensor identity rename number_renamed counted sort put
context_fits = refl

context_makes_the_host : compose lost_context (compose (frame a_alone (0 ∷ []) [] []) nothing) ≡ host
unfolding compose tensor identity rename number_renamed counted sort put
context_makes_the_host = refl

-- but neither is valid
pub not_a_parameter : IsValid lost_parameter → ⊥
not_a_parameter valid =
    false≢true (All-member (λ (row : NodeRow). has_place lost_parameter row.parent ≡ true) lost_parameter.nodes valid.parents_there (here refl))

pub not_a_context : IsValid lost_context → ⊥
not_a_context valid =
    false≢true (All-member (λ (row : NodeRow). has_place lost_context row.parent ≡ true) lost_context.nodes valid.parents_there (here refl))

-- so the host is made row for row, and A.1 does not occur in it
pub plain_valid : IsValid plain_context
unfolding counted fault_of sites_fault inner_fault outer_fault edges_fault nodes_fault
plain_valid = valid_by four_controls plain_context refl

pub with_lost_parameter : OnlyRows host a_alone (0 ∷ []) plain_context [] lost_parameter
unfolding counted fault_of sites_fault inner_fault outer_fault edges_fault nodes_fault
with_lost_parameter =
    let fits = fits_by a_alone (0 ∷ []) plain_context [] lost_parameter parameter_fits in
    record {
      is_pattern = pattern_by four_controls a_alone refl refl;
      ground = ground_by four_controls host refl refl;
      nodes_new = fits.0;
      edges_new = fits.1;
      fit = fits.2;
      whole = parameter_makes_the_host;
      never = child_without_a_site.never;
    }

pub nothing_is_a_parameter : IsParameter nothing
unfolding counted fault_of sites_fault inner_fault outer_fault edges_fault nodes_fault
nothing_is_a_parameter = parameter_by four_controls nothing refl refl tt refl

pub with_lost_context : OnlyRows host a_alone (0 ∷ []) lost_context [] nothing
unfolding counted fault_of sites_fault inner_fault outer_fault edges_fault nodes_fault
with_lost_context =
    let fits = fits_by a_alone (0 ∷ []) lost_context [] nothing context_fits in
    record {
      is_pattern = pattern_by four_controls a_alone refl refl;
      ground = ground_by four_controls host refl refl;
      nodes_new = fits.0;
      edges_new = fits.1;
      fit = fits.2;
      whole = context_makes_the_host;
      never = child_without_a_site.never;
    }

-- A.1 | B.1 | B.1, where A.1 occurs at node 0: the rows of a context that is not valid may stand in another order,
-- and the whole is the same, so that there would be two decompositions
abbrev wide_host : Big
wide_host = in_places (node_a 0 (Region 0) ∷ node_b 1 (Region 0) ∷ node_b 2 (Region 0) ∷ []) [] 1

rows_in_order : compose (in_places (node_b 1 (Region 0) ∷ node_b 2 (Region 0) ∷ []) (Region 0 ∷ []) 1) (compose (frame a_alone (0 ∷ []) [] []) nothing) ≡ wide_host
unfolding compose tensor identity rename number_renamed counted sort put
rows_in_order = refl

rows_out_of_order : compose (in_places (node_b 2 (Region 0) ∷ node_b 1 (Region 0) ∷ []) (Region 0 ∷ []) 1) (compose (frame a_alone (0 ∷ []) [] []) nothing) ≡ wide_host
unfolding compose tensor identity rename number_renamed counted sort put
rows_out_of_order = refl
