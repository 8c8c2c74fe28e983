-- What a term is to have, so that its value is valid under the signature reached.
use Rattle.std.specs.Prelude.{◌≡◌, ◌≤◌, List, length}
use Rattle.bg_lists.specs.Lists.{Mem}
use Rattle.bg_base.specs.Limits.{most_ports}
use Rattle.bg_base.specs.declared.signature.Control.{Control}
use Rattle.bg_terms.specs.Terms as terms
use Rattle.bg_terms.specs.Terms.{Term}

-- each control symbol of a term has as many names as its control has ports, and these are at most 16
abbrev pub HaveArities : Term → Type 0
HaveArities (terms.refusal r) = Unit {0}
HaveArities (terms.node at control words) = (length words ≡ control.arity) × (control.arity ≤ most_ports)
HaveArities (terms.names at words) = Unit {0}
HaveArities (terms.identity_of at width words) = Unit {0}
HaveArities (terms.merger_of at width) = Unit {0}
HaveArities (terms.barren at) = Unit {0}
HaveArities (terms.empty at) = Unit {0}
HaveArities (terms.counted at t) = HaveArities t
HaveArities (terms.deeper at t) = HaveArities t
HaveArities (terms.closure at word t) = HaveArities t
HaveArities (terms.nesting at is_atom t u) = HaveArities t × HaveArities u
HaveArities (terms.binary kind at t u) = HaveArities t × HaveArities u

-- controls with the same label are the same control
abbrev pub AreOneByLabel : List Control → Type 0
AreOneByLabel controls = (x y : Control) → Mem x controls → Mem y controls → x.label ≡ y.label → x ≡ y
