-- Whether the local conditions hold is decidable, for a pattern and a ground host.
use Rattle.std.proofs.Common.{◌≡◌, ℕ, zero, suc, ◌==◌, true, false, Bool, List, [], ◌∷◌, length, is_eq, refl, sym, ap, subst, ◌∙◌, ◌⊎◌, inl, inr, eqb-true, eq-eqb, arith}
use Rattle.std.specs.Ordering.{eq_by_cmp, nat_cmp}
use Rattle.std.specs.List.{IsDistinct}
use Rattle.std.proofs.lemmas.Bool.{false≢true}
use Rattle.bg_lists.specs.Lists.{Mem, here, there, At, at_here, at_there}
use Rattle.bg_lists.proofs.Members.{Mem-cons_cases}
use Rattle.bg_lists.proofs.Places.{Mem-from_At, At-from_Mem, At-one, At-below, At-total, not_At-nil}
use Rattle.bg_lists.proofs.Ascents.{all_of_members, member_of_all}
use Rattle.bg_base.specs.declared.names.Name.{Name}
use Rattle.bg_base.specs.declared.names.Place.{Place}
use Rattle.bg_base.specs.declared.names.Place.TheVariants.{Node, Region}
use Rattle.bg_base.specs.declared.names.Link.{Link}
use Rattle.bg_base.specs.declared.names.Link.TheVariants.{Edge, Outer}
use Rattle.bg_base.specs.declared.big.NodeRow.{NodeRow}
use Rattle.bg_base.specs.declared.big.Big.{Big}
use Rattle.bg_base.specs.Order.{name_cmp}
use Rattle.bg_base.specs.Bigraph.{IsGround}
use Rattle.bg_base.specs.Translation.{node_numbers}
use Rattle.bg_base.proofs.NameLaws.{same_name_from_test, test_same_name}
use Rattle.bg_base.proofs.LookUps.{row_from_row_of}
use Rattle.bg_base.proofs.Climbs.{Climb, at_region, at_node, Climb-from_place}
use Rattle.bg_rules.specs.Solid.{IsPattern}
use Rattle.bg_rules.specs.Decomposition.{AreNew}
use Rattle.bg_rules.specs.LocalConditions.{Meets, at_place, above, image_of, IsImage, IsEdgeImage, MeetsLocally}
use Rattle.bg_rules.proofs.Patterns.{same_node_row, parent_there, link_there, edge_there, used_edge}

-- ---- decisions put together

pub dec_map : {A B : Type 0} → (A → B) → (B → A) → Dec A → Dec B
dec_map to from (yes a) = yes (to a)
dec_map to from (no none) = no (λ b. none (from b))

pub dec_both : {A B : Type 0} → Dec A → Dec B → Dec (A × B)
dec_both (yes a) (yes b) = yes (a, b)
dec_both (yes a) (no none) = no (λ w. none w.1)
dec_both (no none) d = no (λ w. none w.0)

pub dec_either : {A B : Type 0} → Dec A → Dec B → Dec (A ⊎ B)
dec_either (yes a) d = yes (inl a)
dec_either (no none) (yes b) = yes (inr b)
dec_either (no none) (no nor) = no (λ w. elim w [ inl a ↦ none a | inr b ↦ nor b ])

pub dec_if : {A B : Type 0} → Dec A → (A → Dec B) → Dec (A → B)
dec_if (no none) d = yes (λ a. absurd (none a))
dec_if {A} {B} (yes a) d = dec_map (λ b _. b) (λ f. f a) (d a)

pub dec_not : {A : Type 0} → Dec A → Dec (A → ⊥)
dec_not (yes a) = no (λ f. f a)
dec_not (no none) = yes none

module _ {X : Type 0} (P : X → Type 0) where
  pub dec_all : (xs : List X) → ((x : X) → Mem x xs → Dec (P x)) → Dec ((x : X) → Mem x xs → P x)
  dec_all [] d = yes (λ x m. elim m [ ])
  dec_all (x ∷ xs) d =
      dec_map (λ w y m. elim (Mem-cons_cases m) [ inl e ↦ subst P e w.0 | inr n ↦ w.1 y n ]) (λ f. (f x (here refl), λ y m. f y (there m)))
      (dec_both (d x (here refl)) (dec_all xs (λ y m. d y (there m))))

  pub dec_any : (xs : List X) → ((x : X) → Mem x xs → Dec (P x)) → Dec ((x : X) × Mem x xs × P x)
  dec_any [] d = no (λ w. let m = w.1 in elim m [ ])
  dec_any (x ∷ xs) d =
      dec_map (λ w. elim w [ inl p ↦ (x, here refl, p) | inr v ↦ (v.0, there v.1, v.2) ])
      (λ w. elim (Mem-cons_cases w.1) [ inl e ↦ inl (subst P (sym e) w.2) | inr n ↦ inr (w.0, n, w.2) ])
      (dec_either (d x (here refl)) (dec_any xs (λ y m. d y (there m))))

  -- of what stands at the places
  pub dec_all_at : (xs : List X) → ((x : X) → Mem x xs → Dec (P x)) → Dec ((i : ℕ) (x : X) → At x i xs → P x)
  dec_all_at xs d = dec_map (λ f i x a. f x (Mem-from_At a)) (λ f x m. let w = At-from_Mem m in f w.0 x w.1) (dec_all xs d)

pub dec_mem : {X : Type 0} → ((x y : X) → Dec (x ≡ y)) → (x : X) (xs : List X) → Dec (Mem x xs)
dec_mem same x [] = no (λ m. elim m [ ])
dec_mem same x (y ∷ ys) =
    dec_map (λ w. elim w [ inl e ↦ here e | inr m ↦ there m ]) (λ m. Mem-cons_cases m) (dec_either (same y x) (dec_mem same x ys))

pub dec_with : {A B : Type 0} → Dec A → (A → Dec B) → Dec (A × B)
dec_with (yes a) d = dec_map (λ b. (a, b)) (λ w. w.1) (d a)
dec_with (no none) d = no (λ w. none w.0)

at_first : {X : Type 0} (Q : ℕ → X → Type 0) (x : X) (xs : List X) → Q 0 x → ((i : ℕ) (y : X) → At y i xs → Q (suc i) y) → (i : ℕ) (y : X) → At y i (x ∷ xs) → Q i y
at_first Q x xs q f zero y (at_here e) = subst (Q 0) e q
at_first Q x xs q f (suc i) y (at_there a) = f i y a

at_tail : {X : Type 0} {x y : X} {i : ℕ} {xs : List X} → At x (suc i) (y ∷ xs) → At x i xs
at_tail (at_there a) = a

module _ {X : Type 0} where
  -- of each place of a list and what stands there
  pub dec_places : (Q : ℕ → X → Type 0) (xs : List X) → ((i : ℕ) (x : X) → At x i xs → Dec (Q i x)) → Dec ((i : ℕ) (x : X) → At x i xs → Q i x)
  dec_places Q [] d = yes (λ i x a. absurd (not_At-nil a))
  dec_places Q (x ∷ xs) d =
      dec_map (λ w i y a. at_first Q x xs w.0 w.1 i y a) (λ f. (f 0 x (at_here refl), λ i y a. f (suc i) y (at_there a)))
      (dec_both (d 0 x (at_here refl)) (dec_places (λ i y. Q (suc i) y) xs (λ i y a. d (suc i) y (at_there a))))

  -- of what stands at a place
  pub dec_entry : (Q : X → Type 0) (xs : List X) (i : ℕ) → ((x : X) → At x i xs → Dec (Q x)) → Dec ((x : X) → At x i xs → Q x)
  dec_entry Q [] i d = yes (λ x a. absurd (not_At-nil a))
  dec_entry Q (x ∷ xs) zero d = dec_map (λ q y a. subst Q (At-one (at_here refl) a) q) (λ f. f x (at_here refl)) (d x (at_here refl))
  dec_entry Q (x ∷ xs) (suc i) d = dec_map (λ f y a. f y (at_tail a)) (λ f y a. f y (at_there a)) (dec_entry Q xs i (λ y a. d y (at_there a)))

  pub dec_at : ((x y : X) → Dec (x ≡ y)) → (x : X) (i : ℕ) (xs : List X) → Dec (At x i xs)
  dec_at same x i [] = no (λ a. not_At-nil a)
  dec_at same x zero (y ∷ ys) = dec_map (λ e. at_here e) (λ a. At-one (at_here refl) a) (same y x)
  dec_at same x (suc i) (y ∷ ys) = dec_map (λ a. at_there a) (λ a. at_tail a) (dec_at same x i ys)

-- ---- equality

from_test : {X : Type 0} (x y : X) (test : Bool) → (test ≡ true → x ≡ y) → (x ≡ y → test ≡ true) → Dec (x ≡ y)
from_test x y true to from = yes (to refl)
from_test x y false to from = no (λ e. false≢true (from e))

pub dec_number : (x y : ℕ) → Dec (x ≡ y)
dec_number x y = from_test x y (x == y) (eqb-true x y) (eq-eqb x y)

pub dec_name : (x y : Name) → Dec (x ≡ y)
dec_name x y = from_test x y (is_eq (name_cmp x y)) (same_name_from_test x y) (test_same_name x y)

pub dec_place : (p q : Place) → Dec (p ≡ q)
dec_place (Node m) (Node n) = dec_map (λ e. ap Node e) (λ e. cc) (dec_number m n)
dec_place (Node m) (Region n) = no (λ e. cc)
dec_place (Region m) (Node n) = no (λ e. cc)
dec_place (Region m) (Region n) = dec_map (λ e. ap Region e) (λ e. cc) (dec_number m n)

pub dec_link : (l m : Link) → Dec (l ≡ m)
dec_link (Edge d) (Edge e) = dec_map (λ is. ap Edge is) (λ is. cc) (dec_number d e)
dec_link (Edge d) (Outer y) = no (λ is. cc)
dec_link (Outer x) (Edge e) = no (λ is. cc)
dec_link (Outer x) (Outer y) = dec_map (λ is. ap Outer is) (λ is. cc) (dec_name x y)

dec_false : (test : Bool) → Dec (test ≡ false)
dec_false true = no (λ e. false≢true (sym e))
dec_false false = yes refl

dec_distinct : (xs : List ℕ) → Dec (IsDistinct (eq_by_cmp nat_cmp) xs)
unfolding IsDistinct
dec_distinct [] = yes tt
dec_distinct (x ∷ xs) =
    dec_both
    (dec_map (λ f. all_of_members (λ y. eq_by_cmp nat_cmp x y ≡ false) xs f) (λ all y m. member_of_all (λ z. eq_by_cmp nat_cmp x z ≡ false) xs all y m)
    (dec_all (λ y. eq_by_cmp nat_cmp x y ≡ false) xs (λ y m. dec_false (eq_by_cmp nat_cmp x y))))
    (dec_distinct xs)

-- ---- going up

module _ (rows : List NodeRow) (one : (row other : NodeRow) → Mem row rows → Mem other rows → row.id ≡ other.id → row ≡ other) (regions node : ℕ) where
  no_region : {place : Place} {region : ℕ} → place ≡ Region region → Meets rows node place → ⊥
  no_region e (at_place is) = let bad = sym e ∙ is in cc
  no_region e (above m is up) = let bad = sym e ∙ is in cc

  same_number : {place : Place} {m n : ℕ} → place ≡ Node m → place ≡ Node n → m ≡ n
  same_number e d = let both = sym e ∙ d in cc

  met : {number : ℕ} {row : NodeRow} {place : Place} → place ≡ Node number → Mem row rows → row.id ≡ number → Meets rows node place
      → (number ≡ node) ⊎ Meets rows node row.parent
  met is m e (at_place at) = inl (same_number is at)
  met {row = row} is m e (above {row = other} n at up) =
      let same = one other row n m (same_number at is ∙ sym e) in inr (subst (λ (r : NodeRow). Meets rows node r.parent) same up)

  pub dec_meets : {place : Place} → Climb rows regions place → Dec (Meets rows node place)
  dec_meets (at_region is below) = no (λ up. no_region is up)
  dec_meets {place} (at_node {node = number} {row = row} is row_is climb) =
      let w = row_from_row_of rows number row_is in
      dec_map
      (λ v. elim v [ inl e ↦ at_place (is ∙ ap Node e) | inr up ↦ above w.0 (is ∙ ap Node (sym w.1)) up ])
      (λ up. met is w.0 w.1 up)
      (dec_either (dec_number number node) (dec_meets climb))

-- ---- the local conditions

module _ (host pattern : Big) (nodes : List ℕ) (ground : IsGround host) (is : IsPattern pattern) where
  Same : NodeRow → NodeRow → Type 0
  Same row image = image.id ≡ image_of pattern nodes row.id

  dec_same : (row image : NodeRow) → Dec (Same row image)
  unfolding Same
  dec_same row image = dec_number image.id (image_of pattern nodes row.id)

  -- for all pairs of a row of the pattern and its image
  dec_pairs : (Q : NodeRow → NodeRow → Type 0) → ((row image : NodeRow) → Mem row pattern.nodes → Mem image host.nodes → Dec (Q row image))
      → Dec ((row image : NodeRow) → IsImage host pattern nodes row image → Q row image)
  unfolding Same
  dec_pairs Q d =
      dec_map (λ f row image k. f row k.of_pattern image k.of_host k.same)
      (λ f row m image n e. f row image (record { of_pattern = m; of_host = n; same = e }))
      (dec_all (λ row. (image : NodeRow) → Mem image host.nodes → Same row image → Q row image) pattern.nodes
      (λ row m. dec_all (λ image. Same row image → Q row image) host.nodes (λ image n. dec_if (dec_same row image) (λ e. d row image m n))))

  dec_new : Dec (AreNew nodes (length pattern.nodes))
  dec_new =
      dec_map (λ w. record { as_many = w.0; differ = w.1 }) (λ new. (new.as_many, new.differ))
      (dec_both (dec_number (length pattern.nodes) (length nodes)) (dec_distinct nodes))

  dec_images : Dec ((row : NodeRow) → Mem row pattern.nodes
      → (image : NodeRow) × IsImage host pattern nodes row image × (image.control ≡ row.control) × (length image.links ≡ length row.links))
  unfolding Same
  dec_images =
      dec_all (λ row. (image : NodeRow) × IsImage host pattern nodes row image × (image.control ≡ row.control) × (length image.links ≡ length row.links)) pattern.nodes
      (λ row m. dec_map
      (λ w. (w.0, record { of_pattern = m; of_host = w.1; same = w.2.0 }, w.2.1.0, w.2.1.1))
      (λ w. (w.0, w.1.of_host, (w.1.same, (w.2, w.3))))
      (dec_any (λ image. Same row image × ((image.control ≡ row.control) × (length image.links ≡ length row.links))) host.nodes
      (λ image n. dec_both (dec_same row image) (dec_both (dec_number image.control row.control) (dec_number (length image.links) (length row.links))))))

  dec_nested_at : (place other : Place) → Dec ((node : ℕ) → place ≡ Node node → other ≡ Node (image_of pattern nodes node))
  dec_nested_at (Node m) other =
      dec_map (λ e node is. e ∙ ap Node (ap (image_of pattern nodes) (let same : m ≡ node = cc in same))) (λ f. f m refl) (dec_place other (Node (image_of pattern nodes m)))
  dec_nested_at (Region m) other = yes (λ node is. cc)

  dec_nested : Dec ((row image : NodeRow) (node : ℕ) → IsImage host pattern nodes row image → row.parent ≡ Node node → image.parent ≡ Node (image_of pattern nodes node))
  dec_nested =
      dec_map (λ f row image node k e. f row image k node e) (λ f row image k node e. f row image node k e)
      (dec_pairs (λ row image. (node : ℕ) → row.parent ≡ Node node → image.parent ≡ Node (image_of pattern nodes node))
      (λ row image m n. dec_nested_at row.parent image.parent))

  dec_children : Dec ((child : NodeRow) (node : ℕ) → Mem child host.nodes → Mem node (node_numbers pattern.nodes)
      → child.parent ≡ Node (image_of pattern nodes node) → Mem child.id nodes ⊎ Mem (Node node) pattern.sites)
  dec_children =
      dec_map (λ f child node m n e. f child m node n e) (λ f child m node n e. f child node m n e)
      (dec_all (λ child. (node : ℕ) → Mem node (node_numbers pattern.nodes) → child.parent ≡ Node (image_of pattern nodes node) → Mem child.id nodes ⊎ Mem (Node node) pattern.sites) host.nodes
      (λ child m. dec_all (λ node. child.parent ≡ Node (image_of pattern nodes node) → Mem child.id nodes ⊎ Mem (Node node) pattern.sites) (node_numbers pattern.nodes)
      (λ node n. dec_if (dec_place child.parent (Node (image_of pattern nodes node)))
      (λ e. dec_either (dec_mem dec_number child.id nodes) (dec_mem dec_place (Node node) pattern.sites)))))

  dec_region_at : {A : Type 0} (place : Place) → Dec A → Dec ((region : ℕ) → place ≡ Region region → A)
  dec_region_at (Node m) d = yes (λ region e. let bad = e in cc)
  dec_region_at (Region m) d = dec_map (λ a region e. a) (λ f. f m refl) d

  dec_one_at : {A : Type 0} (place other : Place) → Dec A → Dec ((region : ℕ) → place ≡ Region region → other ≡ Region region → A)
  dec_one_at (Node m) other d = yes (λ region e k. cc)
  dec_one_at (Region m) other d =
      dec_map (λ f region e k. f (k ∙ sym e)) (λ f e. f m refl e) (dec_if (dec_place other (Region m)) (λ e. d))

  dec_one_parent : Dec ((row image other twin : NodeRow) (region : ℕ) → IsImage host pattern nodes row image → IsImage host pattern nodes other twin
      → row.parent ≡ Region region → other.parent ≡ Region region → image.parent ≡ twin.parent)
  dec_one_parent =
      dec_map (λ f row image other twin region k l e d. f row image k other twin l region e d)
      (λ f row image k other twin l region e d. f row image other twin region k l e d)
      (dec_pairs (λ row image. (other twin : NodeRow) → IsImage host pattern nodes other twin → (region : ℕ) → row.parent ≡ Region region → other.parent ≡ Region region → image.parent ≡ twin.parent)
      (λ row image m n. dec_pairs (λ other twin. (region : ℕ) → row.parent ≡ Region region → other.parent ≡ Region region → image.parent ≡ twin.parent)
      (λ other twin k l. dec_one_at row.parent other.parent (dec_place image.parent twin.parent))))

  climb_at : (image : NodeRow) → Mem image host.nodes → Climb host.nodes host.regions image.parent
  climb_at image m = Climb-from_place host ground.valid image.parent (parent_there host ground.valid m)

  dec_clear : Dec ((row image : NodeRow) (region node : ℕ) → IsImage host pattern nodes row image → row.parent ≡ Region region
      → Mem node nodes → Meets host.nodes node image.parent → ⊥)
  dec_clear =
      dec_map (λ f row image region node k e m up. f row image k region e node m up) (λ f row image k region e node m up. f row image region node k e m up)
      (dec_pairs (λ row image. (region : ℕ) → row.parent ≡ Region region → (node : ℕ) → Mem node nodes → Meets host.nodes node image.parent → ⊥)
      (λ row image m n. dec_region_at row.parent
      (dec_all (λ node. Meets host.nodes node image.parent → ⊥) nodes
      (λ node k. dec_not (dec_meets host.nodes (λ a b. same_node_row host ground.valid) host.regions node (climb_at image n))))))

  dec_shared : Dec ((row image other twin : NodeRow) (port index : ℕ) (link first second : Link)
      → IsImage host pattern nodes row image → IsImage host pattern nodes other twin → At link port row.links → At link index other.links
      → At first port image.links → At second index twin.links → first ≡ second)
  dec_shared =
      dec_map (λ f row image other twin port index link first second k l a b c e. f row image k other twin l port link a index link b refl first c second e)
      (λ f row image k other twin l port link a index same b e first c second d.
      f row image other twin port index link first second k l a (subst (λ z. At z index other.links) e b) c d)
      (dec_pairs (λ row image. (other twin : NodeRow) → IsImage host pattern nodes other twin → (port : ℕ) (link : Link) → At link port row.links
      → (index : ℕ) (same : Link) → At same index other.links → same ≡ link → (first : Link) → At first port image.links → (second : Link) → At second index twin.links → first ≡ second)
      (λ row image m n. dec_pairs (λ other twin. (port : ℕ) (link : Link) → At link port row.links
      → (index : ℕ) (same : Link) → At same index other.links → same ≡ link → (first : Link) → At first port image.links → (second : Link) → At second index twin.links → first ≡ second)
      (λ other twin k l. dec_places (λ port link. (index : ℕ) (same : Link) → At same index other.links → same ≡ link → (first : Link) → At first port image.links → (second : Link) → At second index twin.links → first ≡ second) row.links
      (λ port link a. dec_places (λ index same. same ≡ link → (first : Link) → At first port image.links → (second : Link) → At second index twin.links → first ≡ second) other.links
      (λ index same b. dec_if (dec_link same link)
      (λ e. dec_entry (λ first. (second : Link) → At second index twin.links → first ≡ second) image.links port
      (λ first c. dec_entry (λ second. first ≡ second) twin.links index (λ second d. dec_link first second))))))))

  dec_onto : (edge image : ℕ) → Dec ((row other : NodeRow) (port : ℕ) (link : Link) → IsImage host pattern nodes row other
      → At (Edge edge) port row.links → At link port other.links → link ≡ Edge image)
  dec_onto edge image =
      dec_map (λ f row other port link k a b. f row other k port (Edge edge) a refl link b)
      (λ f row other k port own a e link b. f row other port link k (subst (λ z. At z port row.links) e a) b)
      (dec_pairs (λ row other. (port : ℕ) (own : Link) → At own port row.links → own ≡ Edge edge → (link : Link) → At link port other.links → link ≡ Edge image)
      (λ row other m n. dec_places (λ port own. own ≡ Edge edge → (link : Link) → At link port other.links → link ≡ Edge image) row.links
      (λ port own a. dec_if (dec_link own (Edge edge)) (λ e. dec_entry (λ link. link ≡ Edge image) other.links port (λ link b. dec_link link (Edge image))))))

  dec_only : (edge image : ℕ) → Dec ((other : NodeRow) (port : ℕ) → Mem other host.nodes → At (Edge image) port other.links
      → (row : NodeRow) × IsImage host pattern nodes row other × At (Edge edge) port row.links)
  unfolding Same
  dec_only edge image =
      dec_map (λ f other port m a. f other m port (Edge image) a refl)
      (λ f other m port own a e. f other port m (subst (λ z. At z port other.links) e a))
      (dec_all (λ other. (port : ℕ) (own : Link) → At own port other.links → own ≡ Edge image → (row : NodeRow) × IsImage host pattern nodes row other × At (Edge edge) port row.links) host.nodes
      (λ other m. dec_places (λ port own. own ≡ Edge image → (row : NodeRow) × IsImage host pattern nodes row other × At (Edge edge) port row.links) other.links
      (λ port own a. dec_if (dec_link own (Edge image))
      (λ e. dec_map (λ w. (w.0, record { of_pattern = w.1; of_host = m; same = w.2.0 }, w.2.1)) (λ w. (w.0, w.1.of_pattern, (w.1.same, w.2)))
      (dec_any (λ row. Same row other × At (Edge edge) port row.links) pattern.nodes
      (λ row k. dec_both (dec_same row other) (dec_at dec_link (Edge edge) port row.links)))))))

  dec_edge_image : (edge image : ℕ) → Dec (IsEdgeImage host pattern nodes edge image)
  dec_edge_image edge image =
      dec_map (λ w. record { onto = w.0; only = w.1 }) (λ k. (k.onto, k.only)) (dec_both (dec_onto edge image) (dec_only edge image))

  HaveImages : Type 0
  HaveImages = (row : NodeRow) → Mem row pattern.nodes
      → (image : NodeRow) × IsImage host pattern nodes row image × (image.control ≡ row.control) × (length image.links ≡ length row.links)

  -- an edge's image is an edge of the host
  image_there : HaveImages → (edge image : ℕ) → Mem edge pattern.edges → IsEdgeImage host pattern nodes edge image → Mem image host.edges
  unfolding HaveImages
  image_there images edge image m k =
      let w = used_edge pattern is m in
      let v = images w.0 w.2 in
      let below = At-below w.3 in
      let long = v.3 in
      let u = At-total v.0.links w.1 (omega (arith, below, long)) in
      let e = k.onto w.0 v.0 w.1 u.0 v.1 w.3 u.1 in
      edge_there host ground.valid (link_there host ground.valid v.1.of_host (Mem-from_At u.1)) e

  dec_closed : HaveImages → Dec ((edge : ℕ) → Mem edge pattern.edges → (image : ℕ) × IsEdgeImage host pattern nodes edge image)
  dec_closed images =
      dec_all (λ edge. (image : ℕ) × IsEdgeImage host pattern nodes edge image) pattern.edges
      (λ edge m. dec_map (λ w. (w.0, w.2)) (λ w. (w.0, image_there images edge w.0 m w.1, w.1))
      (dec_any (λ image. IsEdgeImage host pattern nodes edge image) host.edges (λ image k. dec_edge_image edge image)))

  pub dec_local : Dec (MeetsLocally host pattern nodes)
  unfolding HaveImages
  dec_local =
      dec_map
      (λ w. record {
        nodes_new = w.0;
        images = w.1.0.0;
        closed = w.1.0.1;
        nested = w.1.1.0;
        children = w.1.1.1.0;
        one_parent = w.1.1.1.1.0;
        clear = w.1.1.1.1.1.0;
        shared = w.1.1.1.1.1.1;
      })
      (λ l. (l.nodes_new, ((l.images, l.closed), (l.nested, (l.children, (l.one_parent, (l.clear, l.shared)))))))
      (dec_both dec_new (dec_both (dec_with dec_images dec_closed) (dec_both dec_nested (dec_both dec_children (dec_both dec_one_parent (dec_both dec_clear dec_shared))))))
