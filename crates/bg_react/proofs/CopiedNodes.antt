-- How many nodes an instance has: those of the parts that the entries ask for, each as often as it is asked for.
use Rattle.std.proofs.Common.{◌≡◌, ℕ, suc, ◌+◌, ◌≤◌, Bool, true, false, if◌then◌else◌, List, [], ◌∷◌, ◌++◌, length, map, refl, sym, ap, ◌∙◌, arith}
use Rattle.std.proofs.lemmas.List.{length-append, length-map}
use Rattle.bg_lists.specs.Orders.{before}
use Rattle.bg_lists.proofs.Sorting.{length-sort}
use Rattle.bg_base.specs.declared.big.Big.{Big}
use Rattle.bg_base.specs.Bigraph.{node_cmp}
use Rattle.bg_rules.specs.Instantiation.{part, is_among, late_nodes, row_in_copy, copies_from, instantiate}
use Rattle.bg_react.specs.Counting.{copied_nodes}

-- ---- the words, an entry at a time

pub copied_none : (parameter : Big) → copied_nodes parameter [] ≡ 0
unfolding copied_nodes
copied_none parameter = refl

pub copied_cons : (parameter : Big) (region : ℕ) (entries : List ℕ)
    → copied_nodes parameter (region ∷ entries) ≡ length (part parameter region) + copied_nodes parameter entries
unfolding copied_nodes
copied_cons parameter region entries = refl

pub late_none : (parameter : Big) (earlier : List ℕ) → late_nodes parameter earlier [] ≡ 0
unfolding late_nodes
late_none parameter earlier = refl

pub late_cons : (parameter : Big) (earlier : List ℕ) (region : ℕ) (entries : List ℕ)
    → late_nodes parameter earlier (region ∷ entries)
    ≡ (if is_among region earlier then length (part parameter region) else 0) + late_nodes parameter (region ∷ earlier) entries
unfolding late_nodes
late_cons parameter earlier region entries = refl

pub copies_none : (parameter : Big) (entries : List ℕ) (next at : ℕ) → copies_from parameter entries next at [] ≡ []
unfolding copies_from
copies_none parameter entries next at = refl

pub copies_cons : (parameter : Big) (entries : List ℕ) (next at region : ℕ) (rest : List ℕ)
    → copies_from parameter entries next at (region ∷ rest)
    ≡ map (row_in_copy parameter entries next at region) (part parameter region) ++ copies_from parameter entries next (suc at) rest
unfolding copies_from
copies_cons parameter entries next at region rest = refl

-- ---- the sums

pub length-copies : (parameter : Big) (entries : List ℕ) (next at : ℕ) (rest : List ℕ)
    → length (copies_from parameter entries next at rest) ≡ copied_nodes parameter rest
length-copies parameter entries next at [] = ap length (copies_none parameter entries next at) ∙ sym (copied_none parameter)
length-copies parameter entries next at (region ∷ rest) =
    let made = map (row_in_copy parameter entries next at region) (part parameter region) in
    let whole = ap length (copies_cons parameter entries next at region rest) in
    let sum = length-append made (copies_from parameter entries next (suc at) rest) in
    let here = length-map (part parameter region) (row_in_copy parameter entries next at region) in
    let tail = length-copies parameter entries next (suc at) rest in
    let count = copied_cons parameter region rest in
    whole ∙ sum ∙ omega (arith, here, tail, count)

pub length-instance : (parameter : Big) (entries : List ℕ) (next : ℕ)
    → length (instantiate parameter entries next).nodes ≡ copied_nodes parameter entries
unfolding instantiate
length-instance parameter entries next =
    length-sort (before node_cmp) (copies_from parameter entries next 0 entries) ∙ length-copies parameter entries next 0 entries

few_or_none : (late : Bool) (count : ℕ) → (if late then count else 0) ≤ count
few_or_none true count = omega arith
few_or_none false count = omega arith

-- the late copies are some of the copies
pub late-copied : (parameter : Big) (earlier entries : List ℕ) → late_nodes parameter earlier entries ≤ copied_nodes parameter entries
late-copied parameter earlier [] = let none = late_none parameter earlier in omega (arith, none)
late-copied parameter earlier (region ∷ entries) =
    let late = late_cons parameter earlier region entries in
    let count = copied_cons parameter region entries in
    let here = few_or_none (is_among region earlier) (length (part parameter region)) in
    let tail = late-copied parameter (region ∷ earlier) entries in
    omega (arith, late, count, here, tail)
