-- The empty bigraph, which is solid but for its node: it decomposes each ground host in exactly one way. So that a pattern has
-- a node is a choice, and no need.
use Rattle.std.proofs.Common.{◌≡◌, ℕ, zero, suc, true, false, List, [], ◌∷◌, length, refl, sym, ap, ap₂, subst, ◌∙◌, ltb-true, arith}
use Rattle.std.proofs.lemmas.Bool.{false≢true}
use Rattle.bg_lists.specs.Lists.{Mem, here, sort}
use Rattle.bg_lists.proofs.Words.{All-member}
use Rattle.bg_base.specs.declared.names.Name.{Name}
use Rattle.bg_base.specs.declared.names.Place.{Place}
use Rattle.bg_base.specs.declared.names.Place.TheVariants.{Node, Region}
use Rattle.bg_base.specs.declared.big.NodeRow.{NodeRow}
use Rattle.bg_base.specs.declared.big.Big.{Big}
use Rattle.bg_base.specs.Bigraph.{IsValid, IsGround, reaches, is_rooted}
use Rattle.bg_base.specs.Composition.{compose, inner_names}
use Rattle.bg_base.specs.Elementary.{counted, identity}
use Rattle.bg_base.specs.Faults.{fault_of, sites_fault, inner_fault, outer_fault, edges_fault, nodes_fault}
use Rattle.bg_base.specs.Translation.{rename}
use Rattle.bg_base.specs.Products.{tensor}
use Rattle.bg_base.proofs.CompositionTests.{FacesAgree-from_test, SupportsApart-from_test}
use Rattle.bg_base.proofs.Climbs.{row_from_reaches}
use Rattle.bg_algebra.proofs.CompositionLaws.{same_parts, neutral_below}
use Rattle.bg_rules.specs.Decomposition.{frame, names_of, Decomposes}
use Rattle.bg_cases.proofs.CaseTests.{valid_by, parameter_by, new-from_test, apart-from_test}
use Rattle.bg_cases.proofs.CasesOfPatterns.{clauses}
use Rattle.bg_cases.proofs.CaseRows.{four_controls, nothing}

pub all_but_a_node : clauses nothing ≡ true ∷ true ∷ true ∷ true ∷ false ∷ true ∷ true ∷ true ∷ []
unfolding counted
all_but_a_node = refl

-- ---- without a region there is no node

never_reaches : (rows : List NodeRow) (moves : ℕ) (place : Place) → reaches rows 0 moves place ≡ true → ⊥
never_reaches rows zero (Node node) e = false≢true e
never_reaches rows zero (Region region) e = let below = ltb-true region 0 e in omega (arith, below)
never_reaches rows (suc moves) (Region region) e = let below = ltb-true region 0 e in omega (arith, below)
never_reaches rows (suc moves) (Node node) e =
    let w = row_from_reaches rows 0 moves node e in never_reaches rows moves w.0.parent w.2

nil_without_member : {X : Type 0} (xs : List X) → ((x : X) → Mem x xs → ⊥) → xs ≡ []
nil_without_member [] none = refl
nil_without_member (x ∷ xs) none = absurd (none x (here refl))

no_nodes : (big : Big) → IsValid big → big.regions ≡ 0 → big.nodes ≡ []
no_nodes big valid none =
    nil_without_member big.nodes (λ row m.
    never_reaches big.nodes (length big.nodes) (Node row.id)
    (subst (λ regions. reaches big.nodes regions (length big.nodes) (Node row.id) ≡ true) none
    (All-member (λ (row : NodeRow). is_rooted big row.id ≡ true) big.nodes valid.rooted m)))

nil_of_length : {X : Type 0} (xs : List X) → 0 ≡ length xs → xs ≡ []
nil_of_length [] e = refl
nil_of_length (x ∷ xs) e = absurd (omega (arith, e))

-- ---- what stands in the context is the identity on nothing

within : compose (frame nothing [] [] []) nothing ≡ identity 0 []
unfolding compose tensor rename identity counted sort
within = refl

around : (context : Big) → IsValid context → 0 ≡ length context.sites → [] ≡ inner_names context.inner
    → compose context (compose (frame nothing [] [] []) nothing) ≡ context
around context valid sites names =
    ap (compose context) (within ∙ ap₂ identity sites names) ∙ neutral_below context valid

frame_sites : (edges : List ℕ) (names : List Name) → length (frame nothing [] edges names).sites ≡ 0
unfolding tensor rename identity counted
frame_sites edges names = refl

-- a decomposition has the host for its context, and nothing for its parameter
pub one_way : (host context : Big) (edges : List ℕ) (parameter : Big) → Decomposes host nothing [] context edges parameter
    → (context ≡ host) × (edges ≡ []) × (parameter ≡ nothing)
unfolding identity
one_way host context edges parameter d =
    let is = d.is_parameter in
    let regions = d.fit.filled.widths ∙ frame_sites edges parameter.outer in
    let nodes = no_nodes parameter is.ground.valid regions in
    let none : parameter ≡ nothing = same_parts parameter nothing nodes is.no_edges is.ground.no_sites is.ground.no_inner regions (is.names ∙ ap names_of nodes) in
    let no_edges = nil_of_length edges d.edges_new.as_many in
    let inside : compose (frame nothing [] edges parameter.outer) parameter ≡ compose (frame nothing [] [] []) nothing
    = ap₂ (λ (es : List ℕ) (big : Big). compose (frame nothing [] es big.outer) big) no_edges none in
    let sites = sym (ap (λ (big : Big). big.regions) (inside ∙ within)) ∙ d.fit.placed.widths in
    let names = sym (ap (λ (big : Big). big.outer) (inside ∙ within)) ∙ d.fit.placed.names in
    (sym (around context d.context_valid sites names) ∙ ap (compose context) (sym inside) ∙ d.whole, no_edges, none)

-- and that is one
pub each_host : (host : Big) → IsGround host → Decomposes host nothing [] host [] nothing
unfolding compose tensor identity rename counted sort fault_of sites_fault inner_fault outer_fault edges_fault nodes_fault
each_host host ground =
    let sites = sym (ap length ground.no_sites) in
    let names = sym (ap inner_names ground.no_inner) in
    record {
      pattern_valid = valid_by four_controls nothing refl;
      context_valid = ground.valid;
      is_parameter = parameter_by four_controls nothing refl refl tt refl;
      nodes_new = new-from_test [] 0 refl;
      edges_new = new-from_test [] 0 refl;
      fit = record {
        apart = apart-from_test (rename nothing [] []) (identity 0 []) refl;
        filled = FacesAgree-from_test (frame nothing [] [] []) nothing refl;
        filled_apart = SupportsApart-from_test (frame nothing [] [] []) nothing refl;
        placed = record { widths = sites; names = names };
        placed_apart = SupportsApart-from_test host (compose (frame nothing [] [] []) nothing) refl;
      };
      whole = around host ground.valid sites names;
    }
