-- The numbers of the causes, as commands write them.
use Rattle.std.specs.Prelude.{ℕ}
use Rattle.bg_values.specs.declared.refusal.Cause.{Cause}
use Rattle.bg_values.specs.declared.refusal.Cause.TheVariants.{FacesDiffer, NamesMeet, InnerNamesMeet, WidthsDiffer, HasInnerNames, Unexpected, UnknownName, DuplicateName, WrongPorts, AtomicHasChild, WrongArguments, NotGround, SidesDiffer, BadMap, NotSolid, NumberOverflow, ZeroDivisor, TooLarge, NoBlock, EmptyRange, WrongKind}

-- the number of a cause
abbrev pub code : Cause → ℕ
code FacesDiffer = 11
code NamesMeet = 13
code InnerNamesMeet = 14
code WidthsDiffer = 15
code HasInnerNames = 17
code Unexpected = 31
code UnknownName = 41
code DuplicateName = 42
code WrongPorts = 43
code AtomicHasChild = 44
code WrongArguments = 45
code NotGround = 46
code SidesDiffer = 47
code BadMap = 48
code (NotSolid clause) = 49
code NumberOverflow = 50
code ZeroDivisor = 51
code (TooLarge limit) = 52
code NoBlock = 53
code EmptyRange = 54
code WrongKind = 55
