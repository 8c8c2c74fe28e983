use Rattle.bg_algebra.proofs.ProductLaws.{tensor_associative}
use Rattle.bg_algebra.proofs.laws.tensor_is_associative.Goals as goal

pub returns : goal.returns
returns c = λ f g h f_valid g_valid h_valid fg fh gh. tensor_associative f g h fg fh gh f_valid g_valid h_valid
