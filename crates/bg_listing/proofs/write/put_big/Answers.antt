use Rattle.std.specs.Prelude.{codes}
use Rattle.bg_listing.specs.Spelling.{place_line, inner_line, name_line, edge_line, node_line, count_line, section_text, big_text}
use Rattle.bg_listing.proofs.SixParts.{six_parts}
use Rattle.bg_listing.proofs.write.put_big.Goals as goal

pub returns : goal.returns
unfolding big_text
returns c =
    let big = c.args.big.now in
    six_parts c.args.out.now.items _ _ _ _ _ _
    (count_line (codes "bigraph ") big.regions) (section_text (codes "sites ") place_line big.sites) (section_text (codes "inner ") inner_line big.inner)
    (section_text (codes "outer ") name_line big.outer) (section_text (codes "edges ") edge_line big.edges) (section_text (codes "nodes ") (node_line c.args.signature.now) big.nodes)
    c.in_ok-put_count.ensures c.in_ok-put_section.ensures c.in_ok-put_section-2.ensures c.in_ok-put_section-3.ensures c.in_ok-put_section-4.ensures c.in_ok-put_node_section.ensures
