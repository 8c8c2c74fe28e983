-- Why a command answers nothing of its own, and how what a call returns tells the outcome.
use Rattle.std.specs.Prelude.{◌≡◌, Result, Ok, Err}
use Rattle.bg_listing.specs.declared.fault.ListingFault.{ListingFault}
use Rattle.bg_listing.specs.declared.fault.ListingFault.TheVariants as listing
use Rattle.bg_algebra.specs.declared.fault.AlgebraFault.{AlgebraFault}
use Rattle.bg_algebra.specs.declared.fault.AlgebraFault.TheVariants as algebra
use Rattle.bg_answers.specs.declared.refusal.Refusal.{Refusal}
use Rattle.bg_answers.specs.declared.refusal.Refusal.TheVariants.{Listing, FacesDiffer, SupportMeets, NamesMeet, InnerNamesMeet, WidthsDiffer, NoSuchName, HasInnerNames}
use Rattle.bg_answers.specs.declared.failure.Failure.{Failure}
use Rattle.bg_answers.specs.declared.failure.Failure.TheVariants.{Refused, OutOfMemory}

abbrev pub of_listing : ListingFault → Failure
of_listing (listing.Bad code line) = Refused (Listing code line)
of_listing listing.OutOfMemory = OutOfMemory

abbrev pub of_algebra : AlgebraFault → Failure
of_algebra algebra.FacesDiffer = Refused FacesDiffer
of_algebra algebra.SupportMeets = Refused SupportMeets
of_algebra algebra.NamesMeet = Refused NamesMeet
of_algebra algebra.InnerNamesMeet = Refused InnerNamesMeet
of_algebra algebra.WidthsDiffer = Refused WidthsDiffer
of_algebra algebra.NoSuchName = Refused NoSuchName
of_algebra algebra.HasInnerNames = Refused HasInnerNames
of_algebra algebra.OutOfMemory = OutOfMemory

-- the failure is the refusal, or want of memory
abbrev pub Tells : {A : Type 0} → Failure → Result A Refusal → Type 0
Tells (Refused refusal) outcome = outcome ≡ Err refusal
Tells OutOfMemory outcome = Unit {0}

-- the value as view shows it, or the refusal, or want of memory
abbrev pub GivesOrRefuses : {A B : Type 0} → (A → B) → Result A Failure → Result B Refusal → Type 0
GivesOrRefuses view (Ok made) outcome = outcome ≡ Ok (view made)
GivesOrRefuses view (Err failure) outcome = Tells failure outcome
