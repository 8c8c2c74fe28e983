-- After rows are taken out, moved and put behind, the nodes of a control and the points of a link are those before without
-- those that were taken out, and then those of the new rows.
use Rattle.std.proofs.Common.{◌≡◌, ℕ, ◌+◌, ◌==◌, Bool, List, [], ◌∷◌, ◌++◌, map, filter, cond, refl, sym, ap, ◌∙◌, inl, inr, append_assoc, append-nil}
use Rattle.std.proofs.lemmas.Bool.{cases_Bool, cond-true, cond-false}
use Rattle.std.proofs.lemmas.List.{map-append}
use Rattle.bg_base.specs.declared.names.Link.{Link}
use Rattle.bg_base.specs.declared.big.NodeRow.{NodeRow}
use Rattle.bg_base.specs.declared.big.Big.{Big}
use Rattle.bg_base.specs.Products.{same_link}
use Rattle.bg_link.specs.declared.graph.PortRow.{PortRow}
use Rattle.bg_link.specs.declared.graph.Point.{Point}
use Rattle.bg_link.specs.declared.graph.Point.TheVariants.{Port}
use Rattle.bg_link.specs.Links.{port_row, ports_from, ports_in, point_of, links_of, points_of}
use Rattle.bg_rewriting.specs.Keeping.{ports_on, stays_at}
use Rattle.bg_rules.specs.Lookups.{nodes_with}

filter-append : {X : Type 0} (test : X → Bool) (xs ys : List X) → filter test (xs ++ ys) ≡ filter test xs ++ filter test ys
filter-append test [] ys = refl
filter-append test (x ∷ xs) ys =
    elim (cases_Bool (test x)) [
      | inl e ↦ cond-true (test x) (x ∷ filter test (xs ++ ys)) (filter test (xs ++ ys)) e ∙ ap (λ zs. x ∷ zs) (filter-append test xs ys)
          ∙ sym (ap (λ zs. zs ++ filter test ys) (cond-true (test x) (x ∷ filter test xs) (filter test xs) e))
      | inr e ↦ cond-false (test x) (x ∷ filter test (xs ++ ys)) (filter test (xs ++ ys)) e ∙ filter-append test xs ys
          ∙ sym (ap (λ zs. zs ++ filter test ys) (cond-false (test x) (x ∷ filter test xs) (filter test xs) e))
    ]

ports_in-append : (rows others : List PortRow) → ports_in (rows ++ others) ≡ ports_in rows ++ ports_in others
ports_in-append [] others = refl
ports_in-append (row ∷ rows) others =
    ap (λ xs. ports_from row.node 0 row.links ++ xs) (ports_in-append rows others)
    ∙ sym (append_assoc (ports_from row.node 0 row.links) (ports_in rows) (ports_in others))

-- without inner names the points of a link are ports
pub points_are : (big : Big) (link : Link) → big.inner ≡ [] → points_of (links_of big) link ≡ ports_on link big.nodes
points_are big link none =
    ap (λ rows. points_of (links_of (record big { inner = rows })) link) none
    ∙ ap (λ xs. map point_of (filter (λ (tied : Point × Link). same_link tied.1 link) xs)) (append-nil (ports_in (map port_row big.nodes)))

module _ (stay : ℕ → Bool) where
  -- the ports of one node stay or go together
  ports_together : (link : Link) (node index : ℕ) (links : List Link)
      → filter (stays_at stay) (map point_of (filter (λ (tied : Point × Link). same_link tied.1 link) (ports_from node index links)))
      ≡ cond (stay node) (map point_of (filter (λ (tied : Point × Link). same_link tied.1 link) (ports_from node index links))) []
  ports_together link node index [] = elim (cases_Bool (stay node)) [ inl e ↦ sym (cond-true (stay node) [] [] e) | inr e ↦ sym (cond-false (stay node) [] [] e) ]
  ports_together link node index (other ∷ links) =
      let rest = ports_together link node (index + 1) links in
      let left = filter (λ (tied : Point × Link). same_link tied.1 link) (ports_from node (index + 1) links) in
      elim (cases_Bool (same_link other link)) [
        | inl tied ↦ (let here = cond-true (same_link other link) ((Port node index, other) ∷ left) left tied in
            elim (cases_Bool (stay node)) [
              | inl e ↦ ap (λ xs. filter (stays_at stay) (map point_of xs)) here
                  ∙ cond-true (stay node) (Port node index ∷ filter (stays_at stay) (map point_of left)) (filter (stays_at stay) (map point_of left)) e
                  ∙ ap (λ xs. Port node index ∷ xs) (rest ∙ cond-true (stay node) (map point_of left) [] e)
                  ∙ sym (cond-true (stay node) (map point_of (filter (λ (tied : Point × Link). same_link tied.1 link) (ports_from node index (other ∷ links)))) [] e ∙ ap (map point_of) here)
              | inr e ↦ ap (λ xs. filter (stays_at stay) (map point_of xs)) here
                  ∙ cond-false (stay node) (Port node index ∷ filter (stays_at stay) (map point_of left)) (filter (stays_at stay) (map point_of left)) e
                  ∙ rest ∙ cond-false (stay node) (map point_of left) [] e
                  ∙ sym (cond-false (stay node) (map point_of (filter (λ (tied : Point × Link). same_link tied.1 link) (ports_from node index (other ∷ links)))) [] e)
            ])
        | inr apart ↦ (let here = cond-false (same_link other link) ((Port node index, other) ∷ left) left apart in
            ap (λ xs. filter (stays_at stay) (map point_of xs)) here ∙ rest ∙ sym (ap (λ xs. cond (stay node) (map point_of xs) []) here))
      ]

module _ (rows new : List NodeRow) (stay : ℕ → Bool) (move : NodeRow → NodeRow) (same_id : (row : NodeRow) → (move row).id ≡ row.id)
    (same_control : (row : NodeRow) → (move row).control ≡ row.control) (same_links : (row : NodeRow) → (move row).links ≡ row.links) where
  -- the rows that stay, moved, and then the new ones
  abbrev after : List NodeRow
  after = map move (filter (λ (row : NodeRow). stay row.id) rows) ++ new

  controls_kept : (control : ℕ) (rows : List NodeRow) → nodes_with control (map move (filter (λ (row : NodeRow). stay row.id) rows)) ≡ filter stay (nodes_with control rows)
  controls_kept control [] = refl
  controls_kept control (row ∷ rows) =
      let rest = controls_kept control rows in
      let test : ((move row).control == control) ≡ (row.control == control) = ap (λ n. n == control) (same_control row) in
      let kept = map move (filter (λ (row : NodeRow). stay row.id) rows) in
      elim (cases_Bool (stay row.id)) [
        | inl s ↦ ap (λ (xs : List NodeRow). nodes_with control (map move xs)) (cond-true (stay row.id) (row ∷ filter (λ (row : NodeRow). stay row.id) rows) (filter (λ (row : NodeRow). stay row.id) rows) s)
            ∙ elim (cases_Bool (row.control == control)) [
              | inl e ↦ ap (map (λ (row : NodeRow). row.id)) (cond-true ((move row).control == control) (move row ∷ filter (λ (row : NodeRow). row.control == control) kept) (filter (λ (row : NodeRow). row.control == control) kept) (test ∙ e))
                  ∙ (let id = same_id row in λ t. id t ∷ rest t)
                  ∙ sym (cond-true (stay row.id) (row.id ∷ filter stay (nodes_with control rows)) (filter stay (nodes_with control rows)) s)
                  ∙ sym (ap (λ (xs : List NodeRow). filter stay (map (λ (row : NodeRow). row.id) xs)) (cond-true (row.control == control) (row ∷ filter (λ (row : NodeRow). row.control == control) rows) (filter (λ (row : NodeRow). row.control == control) rows) e))
              | inr e ↦ ap (map (λ (row : NodeRow). row.id)) (cond-false ((move row).control == control) (move row ∷ filter (λ (row : NodeRow). row.control == control) kept) (filter (λ (row : NodeRow). row.control == control) kept) (test ∙ e))
                  ∙ rest
                  ∙ sym (ap (λ (xs : List NodeRow). filter stay (map (λ (row : NodeRow). row.id) xs)) (cond-false (row.control == control) (row ∷ filter (λ (row : NodeRow). row.control == control) rows) (filter (λ (row : NodeRow). row.control == control) rows) e))
            ]
        | inr s ↦ ap (λ (xs : List NodeRow). nodes_with control (map move xs)) (cond-false (stay row.id) (row ∷ filter (λ (row : NodeRow). stay row.id) rows) (filter (λ (row : NodeRow). stay row.id) rows) s)
            ∙ rest
            ∙ elim (cases_Bool (row.control == control)) [
              | inl e ↦ sym (cond-false (stay row.id) (row.id ∷ filter stay (nodes_with control rows)) (filter stay (nodes_with control rows)) s)
                  ∙ sym (ap (λ (xs : List NodeRow). filter stay (map (λ (row : NodeRow). row.id) xs)) (cond-true (row.control == control) (row ∷ filter (λ (row : NodeRow). row.control == control) rows) (filter (λ (row : NodeRow). row.control == control) rows) e))
              | inr e ↦ sym (ap (λ (xs : List NodeRow). filter stay (map (λ (row : NodeRow). row.id) xs)) (cond-false (row.control == control) (row ∷ filter (λ (row : NodeRow). row.control == control) rows) (filter (λ (row : NodeRow). row.control == control) rows) e))
            ]
      ]

  -- the nodes of a control
  pub nodes_after : (control : ℕ) → nodes_with control after ≡ filter stay (nodes_with control rows) ++ nodes_with control new
  nodes_after control =
      ap (map (λ (row : NodeRow). row.id)) (filter-append (λ (row : NodeRow). row.control == control) (map move (filter (λ (row : NodeRow). stay row.id) rows)) new)
      ∙ map-append (λ (row : NodeRow). row.id) (filter (λ (row : NodeRow). row.control == control) (map move (filter (λ (row : NodeRow). stay row.id) rows))) (filter (λ (row : NodeRow). row.control == control) new)
      ∙ ap (λ xs. xs ++ nodes_with control new) (controls_kept control rows)

  ports_on-append : (link : Link) (xs ys : List NodeRow) → ports_on link (xs ++ ys) ≡ ports_on link xs ++ ports_on link ys
  ports_on-append link xs ys =
      ap (λ ps. map point_of (filter (λ (tied : Point × Link). same_link tied.1 link) (ports_in ps))) (map-append port_row xs ys)
      ∙ ap (λ ps. map point_of (filter (λ (tied : Point × Link). same_link tied.1 link) ps)) (ports_in-append (map port_row xs) (map port_row ys))
      ∙ ap (map point_of) (filter-append (λ (tied : Point × Link). same_link tied.1 link) (ports_in (map port_row xs)) (ports_in (map port_row ys)))
      ∙ map-append point_of (filter (λ (tied : Point × Link). same_link tied.1 link) (ports_in (map port_row xs))) (filter (λ (tied : Point × Link). same_link tied.1 link) (ports_in (map port_row ys)))

  one_row : (link : Link) (row : NodeRow) → ports_on link (row ∷ []) ≡ map point_of (filter (λ (tied : Point × Link). same_link tied.1 link) (ports_from row.id 0 row.links))
  one_row link row = ap (λ ps. map point_of (filter (λ (tied : Point × Link). same_link tied.1 link) ps)) (append-nil (ports_from row.id 0 row.links))

  moved_row : (link : Link) (row : NodeRow) → ports_on link (move row ∷ []) ≡ ports_on link (row ∷ [])
  moved_row link row =
      let id = same_id row in
      let links = same_links row in
      λ t. map point_of (filter (λ (tied : Point × Link). same_link tied.1 link) (ports_from (id t) 0 (links t) ++ []))

  ports_kept : (link : Link) (rows : List NodeRow) → ports_on link (map move (filter (λ (row : NodeRow). stay row.id) rows)) ≡ filter (stays_at stay) (ports_on link rows)
  ports_kept link [] = refl
  ports_kept link (row ∷ rows) =
      let rest = ports_kept link rows in
      let kept = filter (λ (row : NodeRow). stay row.id) rows in
      let split = ports_on-append link (row ∷ []) rows in
      let cut = ap (filter (stays_at stay)) split ∙ filter-append (stays_at stay) (ports_on link (row ∷ [])) (ports_on link rows) in
      let own = ap (filter (stays_at stay)) (one_row link row) ∙ ports_together stay link row.id 0 row.links in
      elim (cases_Bool (stay row.id)) [
        | inl s ↦ ap (λ (xs : List NodeRow). ports_on link (map move xs)) (cond-true (stay row.id) (row ∷ kept) kept s)
            ∙ ports_on-append link (move row ∷ []) (map move kept)
            ∙ (let one = moved_row link row ∙ one_row link row
            ∙ sym (own ∙ cond-true (stay row.id) (map point_of (filter (λ (tied : Point × Link). same_link tied.1 link) (ports_from row.id 0 row.links))) [] s) in
            λ t. one t ++ rest t)
            ∙ sym cut
        | inr s ↦ ap (λ (xs : List NodeRow). ports_on link (map move xs)) (cond-false (stay row.id) (row ∷ kept) kept s)
            ∙ rest
            ∙ sym (cut ∙ ap (λ xs. xs ++ filter (stays_at stay) (ports_on link rows))
            (own ∙ cond-false (stay row.id) (map point_of (filter (λ (tied : Point × Link). same_link tied.1 link) (ports_from row.id 0 row.links))) [] s))
      ]

  -- the points of a link
  pub ports_after : (link : Link) → ports_on link after ≡ filter (stays_at stay) (ports_on link rows) ++ ports_on link new
  ports_after link =
      ports_on-append link (map move (filter (λ (row : NodeRow). stay row.id) rows)) new ∙ ap (λ xs. xs ++ ports_on link new) (ports_kept link rows)
