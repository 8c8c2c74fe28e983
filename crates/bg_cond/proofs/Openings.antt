-- The links of a piece: an edge is opened exactly where a port outside of the piece has it, and no two links of the host
-- become one.
use Rattle.std.proofs.Common.{◌≡◌, ℕ, not, true, false, List, [], ◌∷◌, filter, IsTrue, All, refl, sym, ap, subst, ◌∙◌, inl, inr}
use Rattle.std.proofs.lemmas.Bool.{cases_Bool, cond-true, cond-false, not_from_false, not-true}
use Rattle.bg_lists.specs.Lists.{Mem, here, there, At}
use Rattle.bg_lists.proofs.Members.{Mem-append_left, Mem-append_right, Mem-append_cases, Mem-filter, Mem-unfilter}
use Rattle.bg_lists.proofs.Places.{Mem-from_At, At-from_Mem}
use Rattle.bg_lists.proofs.Words.{All-member}
use Rattle.bg_base.specs.declared.names.Name.{Name}
use Rattle.bg_base.specs.declared.names.Name.TheVariants.{Opened}
use Rattle.bg_base.specs.declared.names.Link.{Link}
use Rattle.bg_base.specs.declared.names.Link.TheVariants.{Edge, Outer}
use Rattle.bg_base.specs.declared.big.NodeRow.{NodeRow}
use Rattle.bg_base.specs.declared.big.Big.{Big}
use Rattle.bg_base.specs.Bigraph.{IsValid}
use Rattle.bg_algebra.specs.Frame.{is_plain}
use Rattle.bg_rules.specs.Instantiation.{is_among}
use Rattle.bg_rules.proofs.Patterns.{link_there, name_there}
use Rattle.bg_rules.proofs.Upwards.{is_among-none, among_cases, not_among}
use Rattle.bg_cond.specs.Pieces.{edges_in, names_in, tied_edges, tied_names, edges_outside, link_opened}

plain_not_opened : {name : Name} {edge : ℕ} → is_plain name ≡ true → name ≡ Opened edge → ⊥
plain_not_opened plain e = let bad : true ≡ false = sym plain ∙ ap is_plain e in cc

-- ---- the edges and names of ports

pub edge_from_links : {edge : ℕ} (links : List Link) → Mem edge (edges_in links) → Mem (Edge edge) links
edge_from_links [] m = elim m [ ]
edge_from_links (Edge other ∷ links) (here e) = here (ap Edge e)
edge_from_links (Edge other ∷ links) (there m) = there (edge_from_links links m)
edge_from_links (Outer name ∷ links) m = there (edge_from_links links m)

pub edge_in_links : {edge : ℕ} {link : Link} (links : List Link) → Mem link links → link ≡ Edge edge → Mem edge (edges_in links)
edge_in_links [] m e = elim m [ ]
edge_in_links (Edge other ∷ links) (here d) e = here cc
edge_in_links (Edge other ∷ links) (there m) e = there (edge_in_links links m e)
edge_in_links {edge} (Outer name ∷ links) (here d) e = let bad : Outer name ≡ Edge edge = d ∙ e in cc
edge_in_links (Outer name ∷ links) (there m) e = edge_in_links links m e

pub name_in_links : {name : Name} {link : Link} (links : List Link) → Mem link links → link ≡ Outer name → Mem name (names_in links)
name_in_links [] m e = elim m [ ]
name_in_links {name} (Edge other ∷ links) (here d) e = let bad : Edge other ≡ Outer name = d ∙ e in cc
name_in_links (Edge other ∷ links) (there m) e = name_in_links links m e
name_in_links (Outer other ∷ links) (here d) e = here cc
name_in_links (Outer other ∷ links) (there m) e = there (name_in_links links m e)

pub edge_from_rows : {edge : ℕ} (rows : List NodeRow) → Mem edge (tied_edges rows) → (row : NodeRow) × Mem row rows × Mem (Edge edge) row.links
edge_from_rows [] m = elim m [ ]
edge_from_rows (row ∷ rows) m =
    elim (Mem-append_cases (edges_in row.links) (tied_edges rows) m) [
      | inl n ↦ (row, here refl, edge_from_links row.links n)
      | inr n ↦ (let w = edge_from_rows rows n in (w.0, there w.1, w.2))
    ]

pub edge_in_rows : {row : NodeRow} {edge : ℕ} (rows : List NodeRow) → Mem row rows → Mem (Edge edge) row.links → Mem edge (tied_edges rows)
edge_in_rows [] m k = elim m [ ]
edge_in_rows {row} {edge} (first ∷ rows) (here e) k =
    Mem-append_left (edges_in first.links) (tied_edges rows)
    (edge_in_links first.links (subst (λ (r : NodeRow). Mem (Edge edge) r.links) (sym e) k) refl)
edge_in_rows (first ∷ rows) (there m) k = Mem-append_right (edges_in first.links) (tied_edges rows) (edge_in_rows rows m k)

pub name_in_rows : {row : NodeRow} {name : Name} (rows : List NodeRow) → Mem row rows → Mem (Outer name) row.links → Mem name (tied_names rows)
name_in_rows [] m k = elim m [ ]
name_in_rows {row} {name} (first ∷ rows) (here e) k =
    Mem-append_left (names_in first.links) (tied_names rows)
    (name_in_links first.links (subst (λ (r : NodeRow). Mem (Outer name) r.links) (sym e) k) refl)
name_in_rows (first ∷ rows) (there m) k = Mem-append_right (names_in first.links) (tied_names rows) (name_in_rows rows m k)

-- ---- edges that are opened

module _ (rows : List NodeRow) (nodes : List ℕ) where
  -- where it is not opened, each node with a port on it is one of these
  pub uncut_among : {row : NodeRow} {edge port : ℕ} → is_among edge (edges_outside rows nodes) ≡ false → Mem row rows → At (Edge edge) port row.links
      → Mem row.id nodes
  uncut_among {row} {edge} e m a =
      elim (among_cases nodes row.id) [
        | inl k ↦ k
        | inr none ↦ absurd (not_among (edges_outside rows nodes) e
            (edge_in_rows (filter (λ (r : NodeRow). not (is_among r.id nodes)) rows)
            (Mem-filter (λ (r : NodeRow). not (is_among r.id nodes)) rows m (not_from_false (is_among row.id nodes) (is_among-none nodes row.id none)))
            (Mem-from_At a)))
      ]

  -- where each node with a port on it is one of these, it is not opened
  pub uncut_from : {edge : ℕ} → ((row : NodeRow) (port : ℕ) → Mem row rows → At (Edge edge) port row.links → Mem row.id nodes)
      → is_among edge (edges_outside rows nodes) ≡ false
  uncut_from {edge} all =
      is_among-none (edges_outside rows nodes) edge
      (λ m. let w = edge_from_rows (filter (λ (r : NodeRow). not (is_among r.id nodes)) rows) m in
      let v = Mem-unfilter (λ (r : NodeRow). not (is_among r.id nodes)) rows w.1 in
      let a = At-from_Mem w.2 in
      not_among nodes (not-true (is_among w.0.id nodes) v.1) (all w.0 a.0 v.0 a.1))

module _ (outside : List ℕ) where
  pub opened_uncut : {edge : ℕ} → is_among edge outside ≡ false → link_opened outside (Edge edge) ≡ Edge edge
  opened_uncut {edge} e = cond-false (is_among edge outside) _ _ e

  pub opened_cut : {edge : ℕ} → is_among edge outside ≡ true → link_opened outside (Edge edge) ≡ Outer (Opened edge)
  opened_cut {edge} e = cond-true (is_among edge outside) _ _ e

  -- what stays an edge was that edge, and is not cut
  pub unopened : {edge : ℕ} (link : Link) → link_opened outside link ≡ Edge edge → (link ≡ Edge edge) × (is_among edge outside ≡ false)
  unopened {edge} (Edge other) e =
      elim (cases_Bool (is_among other outside)) [
        | inl cut ↦ (let clash : Outer (Opened other) ≡ Edge edge = sym (opened_cut cut) ∙ e in cc)
        | inr uncut ↦ (let same : Edge other ≡ Edge edge = sym (opened_uncut uncut) ∙ e in
            let number : other ≡ edge = cc in (same, subst (λ n. is_among n outside ≡ false) number uncut))
      ]
  unopened {edge} (Outer name) e = let clash : Outer name ≡ Edge edge = e in cc

  -- no two links become one, where no name of the host is that of an opened edge
  abbrev IsUnopened : Link → Type 0
  IsUnopened link = (edge : ℕ) → link ≡ Outer (Opened edge) → ⊥

  opened_edge : (edge : ℕ) (other : Link) → link_opened outside (Edge edge) ≡ link_opened outside other → IsUnopened other → Edge edge ≡ other
  opened_edge edge (Edge other) e none =
      elim (cases_Bool (is_among edge outside)) [
        | inl c ↦ elim (cases_Bool (is_among other outside)) [
          | inl d ↦ (let same : Outer (Opened edge) ≡ Outer (Opened other) = sym (opened_cut c) ∙ e ∙ opened_cut d in cc)
          | inr d ↦ (let same : Outer (Opened edge) ≡ Edge other = sym (opened_cut c) ∙ e ∙ opened_uncut d in cc)
        ]
        | inr c ↦ elim (cases_Bool (is_among other outside)) [
          | inl d ↦ (let same : Edge edge ≡ Outer (Opened other) = sym (opened_uncut c) ∙ e ∙ opened_cut d in cc)
          | inr d ↦ sym (opened_uncut c) ∙ e ∙ opened_uncut d
        ]
      ]
  opened_edge edge (Outer name) e none =
      elim (cases_Bool (is_among edge outside)) [
        | inl c ↦ absurd (none edge (sym e ∙ opened_cut c))
        | inr c ↦ sym (opened_uncut c) ∙ e
      ]

  pub opened_injective : (link other : Link) → IsUnopened link → IsUnopened other → link_opened outside link ≡ link_opened outside other → link ≡ other
  opened_injective (Edge edge) other none none_other e = opened_edge edge other e none_other
  opened_injective (Outer name) (Edge edge) none none_other e = sym (opened_edge edge (Outer name) (sym e) none)
  opened_injective (Outer name) (Outer other) none none_other e = e

-- a link of a host with plain names is none that was opened
pub host_link : (host : Big) → IsValid host → All (λ (name : Name). IsTrue (is_plain name)) host.outer → {row : NodeRow} {link : Link} → Mem row host.nodes
    → Mem link row.links → (edge : ℕ) → link ≡ Outer (Opened edge) → ⊥
host_link host valid plain m k edge e =
    let there = name_there host valid (link_there host valid m k) e in
    plain_not_opened {edge = edge} (All-member (λ (name : Name). IsTrue (is_plain name)) host.outer plain there) refl
