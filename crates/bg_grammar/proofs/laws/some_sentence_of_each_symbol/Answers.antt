use Rattle.bg_grammar.proofs.Stops.{some_sentence}
use Rattle.bg_grammar.proofs.laws.some_sentence_of_each_symbol.Goals as goal

pub returns : goal.returns
returns c = λ g p s ok low. some_sentence g p ok s low
