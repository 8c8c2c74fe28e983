use Rattle.std.proofs.Common.{◌∙◌, sym}
use Rattle.bg_base.specs.Products.{parallel}
use Rattle.bg_link.proofs.WholeLaws.{inner_distinct, parallel_ports}
use Rattle.bg_link.proofs.products.share_links.Goals as goal

pub both_inner-requires : goal.both_inner-requires
both_inner-requires c = record { apart = inner_distinct c.args.f.now c.args.g.now c.requires.f_valid c.requires.g_valid c.requires.inner_apart }

pub returns : goal.returns
unfolding parallel
returns c =
    let ports = c.in_ok-both_ports.ensures ∙ sym (parallel_ports c.args.f.now c.args.g.now) in
    λ t. record { edges = c.in_ok-sorted_edges.ensures t; inner = c.in_ok-both_inner.ensures t; outer = c.in_ok-shared_names.ensures t; ports = ports t }
