-- The frame of a side of a rule is valid, also under a signature; its numbers are those that the side was given.
use Rattle.std.proofs.Common.{◌≡◌, ℕ, true, List, [], ◌∷◌, ◌++◌, All, refl, inl, inr, map, length, nat_cmp, IsTrue, sym, ap, subst, ◌∙◌}
use Rattle.std.proofs.lemmas.List.{length-map, map-id}
use Rattle.bg_lists.specs.Lists.{Mem}
use Rattle.bg_lists.specs.Orders.{before}
use Rattle.bg_lists.proofs.Members.{Mem-map, Mem-unmap, Mem-append_cases, map-map}
use Rattle.bg_lists.proofs.Sorting.{Mem-unsort, IsDistinct-from_Ascending}
use Rattle.bg_lists.proofs.Words.{All-member, All-from_members}
use Rattle.bg_base.specs.declared.names.Name.{Name}
use Rattle.bg_base.specs.declared.names.Name.TheVariants.{Plain, Port, Opened}
use Rattle.bg_base.specs.declared.big.NodeRow.{NodeRow}
use Rattle.bg_base.specs.declared.big.InnerRow.{InnerRow}
use Rattle.bg_base.specs.declared.big.Big.{Big}
use Rattle.bg_base.specs.declared.signature.Control.{Control}
use Rattle.bg_base.specs.Bigraph.{IsValid, IsValidUnder, node_cmp}
use Rattle.bg_base.specs.Composition.{inner_names}
use Rattle.bg_base.specs.Elementary.{counted, row_to_itself, identity}
use Rattle.bg_base.specs.Translation.{place_renamed, row_renamed, inner_renamed, rename}
use Rattle.bg_base.proofs.Composed.{SupportsApart-from_members}
use Rattle.bg_base.proofs.Counted.{length-counted, counted_ascends}
use Rattle.bg_algebra.specs.Frame.{is_plain, is_port, framed}
use Rattle.bg_algebra.specs.Laws.{Apart}
use Rattle.bg_algebra.proofs.Renamed.{renamed_numbers, rename_valid, rename_valid_under}
use Rattle.bg_algebra.proofs.Beside.{tensor_valid, tensor_valid_under}
use Rattle.bg_algebra.proofs.Nested.{identity_valid, identity_valid_under}
use Rattle.bg_algebra.proofs.ProductLaws.{InnerApart-from_members, OuterApart-from_members}
use Rattle.bg_rules.specs.Decomposition.{port_names, names_of, IsParameter, AreNew, frame}
use Rattle.bg_algebra.proofs.Framed.{framed_same}

-- numbers in a row are new
pub counted_new : (first count : ℕ) → AreNew (counted first count) count
counted_new first count =
    record { as_many = sym (length-counted first count); differ = IsDistinct-from_Ascending (counted first count) (counted_ascends first count) }

-- the names of ports are names of ports
ports_of : (node count : ℕ) (name : Name) → Mem name (port_names node count) → is_port name ≡ true
ports_of node count name m = let w = Mem-unmap (λ index. Port node index) (counted 0 count) m in subst (λ y. is_port y ≡ true) w.2 refl

pub names_are_ports : (rows : List NodeRow) (name : Name) → Mem name (names_of rows) → is_port name ≡ true
names_are_ports [] name m = elim m [ ]
names_are_ports (row ∷ rows) name m =
    elim (Mem-append_cases (port_names row.id (length row.links)) (names_of rows) m)
    [ inl one ↦ ports_of row.id (length row.links) name one | inr more ↦ names_are_ports rows name more ]

plain_no_port : (x : Name) → is_plain x ≡ true → is_port x ≡ true → ⊥
plain_no_port (Plain word) p q = cc
plain_no_port (Port node index) p q = cc
plain_no_port (Opened edge) p q = cc

-- a side of a rule: valid, without inner names, with plain outer names
pub record IsSide (big : Big) : Type 0 where
  pub valid : IsValid big
  pub no_inner : big.inner ≡ []
  pub names_plain : All (λ (name : Name). IsTrue (is_plain name)) big.outer

module _ (big : Big) (nodes edges : List ℕ) (parameter : Big) (side : IsSide big) (is_parameter : IsParameter parameter)
    (nodes_new : AreNew nodes (length big.nodes)) (edges_new : AreNew edges (length big.edges)) where
  abbrev made : Big
  made = frame big nodes edges parameter.outer

  ports : All (λ name. IsTrue (is_port name)) parameter.outer
  ports =
      All-from_members (λ name. IsTrue (is_port name)) parameter.outer
      (λ name m. names_are_ports parameter.nodes name (subst (λ ns. Mem name ns) is_parameter.names m))

  -- the frame is one explicit bigraph
  pub frame_is : frame big nodes edges parameter.outer ≡ framed big nodes edges parameter.outer
  frame_is =
      framed_same big nodes edges parameter.outer side.valid side.no_inner side.names_plain nodes_new.as_many edges_new.as_many
      nodes_new.differ edges_new.differ is_parameter.ground.valid.outer_ascends ports

  pub frame_sites : (frame big nodes edges parameter.outer).sites ≡ map (place_renamed big nodes) big.sites
  frame_sites = ap (λ (b : Big). b.sites) frame_is

  pub frame_inner : (frame big nodes edges parameter.outer).inner ≡ map row_to_itself parameter.outer
  frame_inner = ap (λ (b : Big). b.inner) frame_is

  pub frame_regions : (frame big nodes edges parameter.outer).regions ≡ big.regions
  frame_regions = ap (λ (b : Big). b.regions) frame_is

  pub frame_outer : (frame big nodes edges parameter.outer).outer ≡ big.outer ++ parameter.outer
  frame_outer = ap (λ (b : Big). b.outer) frame_is

  pub frame_width : length (frame big nodes edges parameter.outer).sites ≡ length big.sites
  frame_width = ap (λ (b : Big). length b.sites) frame_is ∙ length-map big.sites (place_renamed big nodes)

  pub frame_names : inner_names (frame big nodes edges parameter.outer).inner ≡ parameter.outer
  frame_names =
      ap (λ (b : Big). inner_names b.inner) frame_is ∙ map-map row_to_itself (λ (row : InnerRow). row.name) parameter.outer ∙ map-id parameter.outer

  pub frame_number : {row : NodeRow} → Mem row (frame big nodes edges parameter.outer).nodes → Mem row.id nodes
  frame_number {row} m =
      let k = Mem-unsort (before node_cmp) (map (row_renamed big nodes edges) big.nodes) (subst (λ (b : Big). Mem row b.nodes) frame_is m) in
      subst (λ ns. Mem row.id ns) (renamed_numbers big nodes edges side.valid nodes_new.as_many edges_new.as_many)
      (Mem-map (λ (r : NodeRow). r.id) k)

  pub frame_edge : {edge : ℕ} → Mem edge (frame big nodes edges parameter.outer).edges → Mem edge edges
  frame_edge {edge} m = Mem-unsort (before nat_cmp) edges (subst (λ (b : Big). Mem edge b.edges) frame_is m)

  -- ---- the tensor product is defined, and valid

  pub frame_apart : Apart (rename big nodes edges) (identity 0 parameter.outer)
  unfolding identity rename
  frame_apart =
      record {
        supports = SupportsApart-from_members (rename big nodes edges) (identity 0 parameter.outer) (λ row other m n e. elim n [ ]) (record { apart = λ x m n. elim n [ ] });
        inner = InnerApart-from_members (rename big nodes edges) (identity 0 parameter.outer)
            (λ row other m n e. let k = subst (λ rows. Mem row (map (inner_renamed big edges) rows)) side.no_inner m in elim k [ ]);
        outer = OuterApart-from_members (rename big nodes edges) (identity 0 parameter.outer)
            (λ name m n. plain_no_port name (All-member (λ (y : Name). IsTrue (is_plain y)) big.outer side.names_plain m)
            (names_are_ports parameter.nodes name (subst (λ names. Mem name names) is_parameter.names n)));
      }

  renamed_valid : IsValid (rename big nodes edges)
  renamed_valid = rename_valid big nodes edges side.valid nodes_new.as_many edges_new.as_many nodes_new.differ edges_new.differ

  names_valid : IsValid (identity 0 parameter.outer)
  names_valid = identity_valid 0 parameter.outer is_parameter.ground.valid.outer_ascends

  pub frame_valid : IsValid (frame big nodes edges parameter.outer)
  frame_valid =
      tensor_valid (rename big nodes edges) (identity 0 parameter.outer) renamed_valid names_valid frame_apart.supports frame_apart.inner frame_apart.outer

  pub frame_valid_under : (signature : List Control) → IsValidUnder signature big → IsValidUnder signature (frame big nodes edges parameter.outer)
  frame_valid_under signature fits =
      tensor_valid_under (rename big nodes edges) (identity 0 parameter.outer) renamed_valid names_valid frame_apart.supports frame_apart.inner frame_apart.outer
      signature (rename_valid_under big nodes edges side.valid nodes_new.as_many edges_new.as_many nodes_new.differ edges_new.differ signature fits)
      (identity_valid_under 0 parameter.outer is_parameter.ground.valid.outer_ascends signature)
