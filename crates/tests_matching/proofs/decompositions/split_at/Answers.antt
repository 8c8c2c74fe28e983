use Rattle.bg_decompose.proofs.Splits.{joinable}
use Rattle.tests_matching.proofs.decompositions.split_at.Goals as goal

pub returns : goal.returns
returns c =
    joinable c.args.host.now c.args.pattern.now c.args.map.now c.in_ok-parts.parts.map c.in_ok-parts.parts.context c.in_ok-parts.parts.images
    c.in_ok-parts.parts.parameter c.in_ok-parts.ensures.map c.in_ok-parts.ensures.decomposes
