use Rattle.bg_rewriting.proofs.Rewritten.{rewritten, reacts_so}
use Rattle.bg_rewriting.proofs.reactions_rewrite_rows.Goals as goal

pub returns : goal.returns
returns c =
    λ host rule nodes boundary after numbered is_rule occurs is_boundary. (
      λ r. rewritten host rule nodes numbered is_rule boundary is_boundary after r,
      λ is. reacts_so host rule nodes numbered is_rule boundary is_boundary occurs after is,
    )
