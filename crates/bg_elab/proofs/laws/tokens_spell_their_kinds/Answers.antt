use Rattle.bg_elab.proofs.TokensSpelled.{tokens_spell}
use Rattle.bg_elab.proofs.laws.tokens_spell_their_kinds.Goals as goal

pub returns : goal.returns
returns c = λ bytes tokens number token cut at. tokens_spell bytes tokens number token cut at
