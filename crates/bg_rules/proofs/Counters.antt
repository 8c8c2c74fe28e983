-- The counters of a host: one past the largest numbers.
use Rattle.std.proofs.Common.{◌≡◌, ℕ, suc, ◌+◌, ◌-◌, ◌<◌, ◌≤◌, List, [], ◌∷◌, length, slice_get, Some, All, nat_cmp, Less, refl, sym, subst, inl, inr, arith}
use Rattle.std.specs.List.Sorted.{IsStrictlySortedBy}
use Rattle.std.proofs.lemmas.List.{length-map}
use Rattle.std.proofs.lemmas.Bool.{cases_order}
use Rattle.bg_lists.specs.Lists.{Mem, here, there, At}
use Rattle.bg_lists.specs.Orders.{Ascending}
use Rattle.bg_lists.proofs.Members.{Mem-map, Mem-unmap}
use Rattle.bg_lists.proofs.Places.{Mem-from_At, At-from_Mem, At-one, At-below, At-map, At-slice_get}
use Rattle.bg_lists.proofs.Comparisons.{lt-from_nat_cmp}
use Rattle.bg_lists.proofs.Ascents.{Ascending-from_sorted, Ascending-map, Below-by_places}
use Rattle.bg_lists.proofs.Words.{All-member, All-from_members}
use Rattle.bg_base.specs.Limits.{most_host_nodes, most_host_edges, largest_counter}
use Rattle.bg_base.specs.declared.big.NodeRow.{NodeRow}
use Rattle.bg_base.specs.declared.big.Big.{Big}
use Rattle.bg_base.specs.Bigraph.{node_cmp}
use Rattle.bg_base.specs.Translation.{node_numbers}
use Rattle.bg_rules.specs.Hosts.{IsHost, IsHostBig, past_largest, fresh_host}
use Rattle.bg_rules.specs.Limits.{IsWithinLimits}

pub below_past : (numbers : List ℕ) {number : ℕ} → Mem number numbers → number < past_largest numbers
below_past [] m = elim m [ ]
below_past (first ∷ rest) (here e) = omega arith
below_past (first ∷ rest) (there m) = let below = below_past rest m in omega arith

pub past_below : (bound : ℕ) (numbers : List ℕ) → ((number : ℕ) → Mem number numbers → number < bound) → past_largest numbers ≤ bound
past_below bound [] each = omega arith
past_below bound (first ∷ rest) each =
    let here_below = each first (here refl) in
    let rest_below = past_below bound rest (λ number m. each number (there m)) in omega arith

-- of numbers that ascend the last is the largest
past_last_place : (numbers : List ℕ) (last place : ℕ) → Ascending (λ (x y : ℕ). nat_cmp x y ≡ Less) numbers → At last place numbers → suc place ≡ length numbers
    → last + 1 ≡ past_largest numbers
past_last_place numbers last place up at long =
    let below = below_past numbers (Mem-from_At at) in
    let above = past_below (last + 1) numbers (λ number m.
    let w = At-from_Mem m in
    let short = At-below w.1 in
    elim (cases_order w.0 place) [
      | inl same ↦ (let is : number ≡ last = At-one w.1 (subst (λ p. At last p numbers) (sym same) at) in omega arith)
      | inr (inl before) ↦ (let less = lt-from_nat_cmp number last (Below-by_places numbers up w.1 at before) in omega arith)
      | inr (inr after) ↦ absurd (omega arith)
    ]) in
    omega arith

pub past_last : (numbers : List ℕ) (last : ℕ) → IsStrictlySortedBy nat_cmp numbers → slice_get numbers (length numbers - 1) ≡ Some last
    → last + 1 ≡ past_largest numbers
past_last numbers last sorted is =
    let at = At-slice_get (length numbers - 1) numbers is in
    let short = At-below at in
    past_last_place numbers last (length numbers - 1) (Ascending-from_sorted numbers sorted) at (omega arith)

pub past_last_row : (rows : List NodeRow) (last : NodeRow) → IsStrictlySortedBy node_cmp rows → slice_get rows (length rows - 1) ≡ Some last
    → last.id + 1 ≡ past_largest (node_numbers rows)
past_last_row rows last sorted is =
    let at = At-slice_get (length rows - 1) rows is in
    let short = At-below at in
    let long = length-map rows (λ (row : NodeRow). row.id) in
    past_last_place (node_numbers rows) last.id (length rows - 1)
    (Ascending-map (λ (row : NodeRow). row.id) rows (λ x y less. less) (Ascending-from_sorted rows sorted))
    (At-map (λ (row : NodeRow). row.id) at) (omega arith)

-- ---- a new host

module _ (big : Big) where
  -- few rows, with small numbers
  pub fresh_within : length big.nodes ≤ most_host_nodes → length big.edges ≤ most_host_edges → All (λ (row : NodeRow). row.id < largest_counter) big.nodes
      → All (λ edge. edge < largest_counter) big.edges → IsWithinLimits (fresh_host big)
  fresh_within few_nodes few_edges small_nodes small_edges =
      record {
        few_nodes = few_nodes;
        few_edges = few_edges;
        counters_small = record {
          next_node_small = past_below largest_counter (node_numbers big.nodes)
              (λ number m. let w = Mem-unmap (λ (row : NodeRow). row.id) big.nodes m in
              subst (λ n. n < largest_counter) w.2 (All-member (λ (row : NodeRow). row.id < largest_counter) big.nodes small_nodes w.1));
          next_edge_small = past_below largest_counter big.edges (λ edge m. All-member (λ edge. edge < largest_counter) big.edges small_edges m);
        };
      }

  pub IsHost-fresh : IsHostBig big → IsWithinLimits (fresh_host big) → IsHost (fresh_host big)
  IsHost-fresh fits within =
      record {
        fits = fits;
        numbered = record {
          ground = fits.ground;
          nodes_below = All-from_members (λ (row : NodeRow). row.id < past_largest (node_numbers big.nodes)) big.nodes
              (λ row m. below_past (node_numbers big.nodes) (Mem-map (λ (row : NodeRow). row.id) m));
          edges_below = All-from_members (λ edge. edge < past_largest big.edges) big.edges (λ edge m. below_past big.edges m);
        };
        within = within;
      }
