use Rattle.bg_decompose.proofs.Splits.{split_valid, split_listed, split_decomposes, split_context_fits, split_parameter_fits}
use Rattle.bg_decompose.proofs.splitting.split.Goals as goal

pub cut-requires-clause-valid : goal.cut-requires-clause-valid
cut-requires-clause-valid c = split_valid c.args.host.now c.args.pattern.now c.big.result.now c.args.map.now c.requires.occurs c.big.ensures.kept c.big.ensures.same

pub cut-requires-clause-listed : goal.cut-requires-clause-listed
cut-requires-clause-listed c = split_listed c.args.host.now c.args.pattern.now c.big.result.now c.args.map.now c.requires.occurs c.big.ensures.kept c.big.ensures.same

pub returns-clause-decomposes : goal.returns-clause-decomposes
returns-clause-decomposes c =
    split_decomposes c.args.host.now c.args.pattern.now c.big.result.now c.args.map.now c.requires.occurs c.big.ensures.kept c.big.ensures.same
    c.in_ok-parts.parts.context c.in_ok-parts.parts.images c.in_ok-parts.parts.parameter c.in_ok-parts.ensures.cut

pub returns-clause-context_fits : goal.returns-clause-context_fits
returns-clause-context_fits c =
    split_context_fits c.args.host.now c.args.pattern.now c.big.result.now c.args.map.now c.requires.occurs c.big.ensures.kept c.big.ensures.same
    c.in_ok-parts.parts.context c.in_ok-parts.parts.images c.in_ok-parts.parts.parameter c.in_ok-parts.ensures.cut

pub returns-clause-parameter_fits : goal.returns-clause-parameter_fits
returns-clause-parameter_fits c =
    split_parameter_fits c.args.host.now c.args.pattern.now c.big.result.now c.args.map.now c.requires.occurs c.big.ensures.kept c.big.ensures.same
    c.in_ok-parts.parts.context c.in_ok-parts.parts.images c.in_ok-parts.parts.parameter c.in_ok-parts.ensures.cut
