-- The law of pieces: a pattern occurs in a piece exactly where it occurs in the host at nodes of the piece.
use Rattle.std.proofs.Common.{◌≡◌, ℕ, ◌<◌, List, []}
use Rattle.bg_lists.specs.Lists.{Mem}
use Rattle.bg_lists.proofs.Words.{All-member}
use Rattle.bg_base.specs.declared.big.NodeRow.{NodeRow}
use Rattle.bg_base.specs.declared.big.Big.{Big}
use Rattle.bg_base.specs.Bigraph.{IsGround}
use Rattle.bg_base.specs.Translation.{node_numbers}
use Rattle.bg_rules.specs.Hosts.{IsHost}
use Rattle.bg_rules.specs.Reaction.{HostState}
use Rattle.bg_rules.specs.Solid.{IsPattern}
use Rattle.bg_rules.specs.Decomposition.{Decomposes, Occurs}
use Rattle.bg_rules.specs.Parting.{lifted}
use Rattle.bg_rules.proofs.Glued.{Glued}
use Rattle.bg_rules.proofs.Occurrences.{glued_of, occurs_locally, locally_occurs}
use Rattle.bg_cond.specs.Pieces.{hole_control, holes, parameter_piece, context_piece}
use Rattle.bg_cond.proofs.Shown.{IsPiece, local_in_host, local_in_piece, maps_among}
use Rattle.bg_cond.proofs.Bounded.{piece_ground}
use Rattle.bg_cond.proofs.PiecesOf.{context_part, context_is_piece, parameter_part, parameter_is_piece}

module _ (host : HostState) (redex : Big) (nodes : List ℕ) (is_host : IsHost host) (is : IsPattern redex) (context : Big) (edges : List ℕ) (parameter : Big)
    (decomposes : Decomposes host.big redex nodes context edges parameter) where
  glued : Glued host.big redex nodes context edges parameter
  glued = glued_of host.big redex nodes context edges parameter is decomposes

  below : (row : NodeRow) → Mem row host.big.nodes → row.id < host.next_node
  below row m = All-member (λ (r : NodeRow). r.id < host.next_node) host.big.nodes is_host.numbered.nodes_below m

  pub parameter_ground : IsGround (parameter_piece host.big parameter)
  unfolding parameter_piece
  parameter_ground = piece_ground host.big parameter [] is_host.fits.ground.valid (parameter_part is is_host.fits.ground glued)

  pub context_ground : IsGround (context_piece host.big host.next_node context)
  unfolding context_piece
  context_ground =
      piece_ground host.big context (holes host.next_node context.sites) is_host.fits.ground.valid
      (context_part is is_host.fits.ground glued host.next_node below)

  parameter_shown : IsPiece host.big (parameter_piece host.big parameter) (node_numbers parameter.nodes) (lifted redex nodes context)
  unfolding parameter_piece
  parameter_shown = parameter_is_piece is is_host.fits.ground glued

  context_shown : IsPiece host.big (context_piece host.big host.next_node context) (node_numbers context.nodes) (λ place. place)
  unfolding context_piece
  context_shown = context_is_piece is is_host.fits.ground glued host.next_node below

  module _ (pattern : Big) (pattern_is : IsPattern pattern) (maps : List ℕ) where
    abbrev HasNoHole : Type 0
    HasNoHole = (row : NodeRow) → Mem row pattern.nodes → row.control ≡ hole_control → ⊥

    pub parameter_occurs : HasNoHole → Occurs (parameter_piece host.big parameter) pattern maps
        → Occurs host.big pattern maps × ((node : ℕ) → Mem node maps → Mem node (node_numbers parameter.nodes))
    parameter_occurs no_hole o =
        let local = occurs_locally (parameter_piece host.big parameter) pattern pattern_is parameter_ground maps o in
        let ground = is_host.fits.ground in (
          locally_occurs host.big pattern pattern_is ground maps
              (local_in_host host.big (parameter_piece host.big parameter) (node_numbers parameter.nodes) (lifted redex nodes context) ground.valid
              is_host.fits.names_plain parameter_shown pattern maps pattern_is no_hole local),
          λ node m. maps_among host.big (parameter_piece host.big parameter) (node_numbers parameter.nodes) (lifted redex nodes context) ground.valid
              is_host.fits.names_plain parameter_shown pattern maps pattern_is no_hole local m,
        )

    pub occurs_in_parameter : Occurs host.big pattern maps → ((node : ℕ) → Mem node maps → Mem node (node_numbers parameter.nodes))
        → Occurs (parameter_piece host.big parameter) pattern maps
    occurs_in_parameter o among =
        let ground = is_host.fits.ground in
        locally_occurs (parameter_piece host.big parameter) pattern pattern_is parameter_ground maps
        (local_in_piece host.big (parameter_piece host.big parameter) (node_numbers parameter.nodes) (lifted redex nodes context) ground.valid
        is_host.fits.names_plain parameter_shown pattern maps pattern_is among (occurs_locally host.big pattern pattern_is ground maps o))

    pub context_occurs : HasNoHole → Occurs (context_piece host.big host.next_node context) pattern maps
        → Occurs host.big pattern maps × ((node : ℕ) → Mem node maps → Mem node (node_numbers context.nodes))
    context_occurs no_hole o =
        let local = occurs_locally (context_piece host.big host.next_node context) pattern pattern_is context_ground maps o in
        let ground = is_host.fits.ground in (
          locally_occurs host.big pattern pattern_is ground maps
              (local_in_host host.big (context_piece host.big host.next_node context) (node_numbers context.nodes) (λ place. place) ground.valid
              is_host.fits.names_plain context_shown pattern maps pattern_is no_hole local),
          λ node m. maps_among host.big (context_piece host.big host.next_node context) (node_numbers context.nodes) (λ place. place) ground.valid
              is_host.fits.names_plain context_shown pattern maps pattern_is no_hole local m,
        )

    pub occurs_in_context : Occurs host.big pattern maps → ((node : ℕ) → Mem node maps → Mem node (node_numbers context.nodes))
        → Occurs (context_piece host.big host.next_node context) pattern maps
    occurs_in_context o among =
        let ground = is_host.fits.ground in
        locally_occurs (context_piece host.big host.next_node context) pattern pattern_is context_ground maps
        (local_in_piece host.big (context_piece host.big host.next_node context) (node_numbers context.nodes) (λ place. place) ground.valid
        is_host.fits.names_plain context_shown pattern maps pattern_is among (occurs_locally host.big pattern pattern_is ground maps o))
