use Rattle.std.proofs.Common.{◌++◌}
use Rattle.bg_match_text.specs.MatchText.{occurrence_line, decomposition_text, explained}
use Rattle.bg_match_text.proofs.Writing.{behind}
use Rattle.bg_match_text.proofs.occurrence.put_explained.Goals as goal

pub put_decomposition-requires-clause-context_fits : goal.put_decomposition-requires-clause-context_fits
put_decomposition-requires-clause-context_fits c = c.in_ok-parts.ensures.context_fits c.args.signature.now c.requires.fits

pub put_decomposition-requires-clause-parameter_fits : goal.put_decomposition-requires-clause-parameter_fits
put_decomposition-requires-clause-parameter_fits c = c.in_ok-parts.ensures.parameter_fits c.args.signature.now c.requires.fits

pub returns : goal.returns
returns c =
    let parts = c.in_ok-parts.parts in
    let first = occurrence_line c.args.map.now in
    let second = decomposition_text c.args.signature.now parts.context parts.images parts.parameter in
    record {
      text = first ++ second;
      is_text = explained c.in_ok-parts.ensures.decomposes;
      appended = behind c.args.out.now.items _ _ first second c.in_ok-put_map.ensures c.in_ok-put_decomposition.ensures;
    }
