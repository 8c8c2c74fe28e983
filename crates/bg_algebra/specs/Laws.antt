-- What the laws of the algebra ask of two bigraphs.
use Rattle.bg_base.specs.declared.big.Big.{Big}
use Rattle.bg_base.specs.Composition.{SupportsApart}
use Rattle.bg_base.specs.Products.{InnerApart, OuterApart}

-- nothing is in both: no node, no edge, no inner name and no outer name
pub record Apart (f g : Big) : Type 0 where
  pub supports : SupportsApart f g
  pub inner : InnerApart f g
  pub outer : OuterApart f g
