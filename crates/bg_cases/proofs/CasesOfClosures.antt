-- A closed identity, and a name that is inner in one and outer in another: small cases, computed.
use Rattle.std.proofs.Common.{◌≡◌, [], ◌∷◌, refl}
use Rattle.bg_lists.specs.Lists.{put, sort}
use Rattle.bg_base.specs.declared.names.Name.{Name}
use Rattle.bg_base.specs.declared.names.Name.TheVariants.{Plain}
use Rattle.bg_base.specs.declared.names.Link.TheVariants.{Edge}
use Rattle.bg_base.specs.declared.big.Big.{Big}
use Rattle.bg_base.specs.Composition.{compose, FacesAgree}
use Rattle.bg_base.specs.Elementary.{counted, identity, idle, empty}
use Rattle.bg_base.specs.Products.{tensor, close, lean}
use Rattle.bg_base.proofs.Composed.{SupportsApart-from_members}
use Rattle.bg_algebra.specs.Closure.{closure}
use Rattle.bg_algebra.specs.Laws.{Apart}
use Rattle.bg_algebra.proofs.ProductLaws.{InnerApart-from_members, OuterApart-from_members}

-- the name x
abbrev x : Name
x = Plain (120 ∷ [])

-- the identity on x, its outer name made edge 7
abbrev closed : Big
closed = close (identity 0 (x ∷ [])) x 7

-- the edge is there and the inner name is tied to it: it is the closure of x
closed_identity : closed ≡ record { nodes = []; edges = 7 ∷ []; sites = []; inner = record { name = x; link = Edge 7 } ∷ []; regions = 0; outer = [] }
unfolding close identity counted put
closed_identity = refl

closed_is_closure : closed ≡ closure x 7
unfolding close identity counted put closure
closed_is_closure = refl

-- its inner face is the outer face of the idle name
faces : FacesAgree closed (idle (x ∷ []))
unfolding close identity counted idle put
faces = record { widths = refl; names = refl }

-- with an idle name put in, nothing is tied to the edge: nothing is left once it is dropped
closed_idle : lean (compose closed (idle (x ∷ []))) ≡ empty
unfolding lean compose close identity counted idle empty put sort
closed_idle = refl

-- x is inner in one and outer in the other: they stand side by side, and the name is both
apart : Apart closed (idle (x ∷ []))
unfolding close identity counted idle put
apart =
    record {
      supports = SupportsApart-from_members closed (idle (x ∷ [])) (λ row other m n e. elim m [ ]) (record { apart = λ edge m n. elim n [ ] });
      inner = InnerApart-from_members closed (idle (x ∷ [])) (λ row other m n e. elim n [ ]);
      outer = OuterApart-from_members closed (idle (x ∷ [])) (λ name m n. elim m [ ]);
    }

inner_and_outer : tensor closed (idle (x ∷ []))
    ≡ record { nodes = []; edges = 7 ∷ []; sites = []; inner = record { name = x; link = Edge 7 } ∷ []; regions = 0; outer = x ∷ [] }
unfolding tensor close identity counted idle put sort
inner_and_outer = refl
