use Rattle.bg_elab.proofs.OnlyGrammar.{unexpected_by_grammar}
use Rattle.bg_elab.proofs.laws.the_grammar_alone_is_unexpected.Goals as goal

pub returns : goal.returns
returns c = λ bytes detail offset reading. unexpected_by_grammar bytes detail offset reading
