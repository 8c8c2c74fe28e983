-- How what a function returned is told by what a reading function gives.
use Rattle.std.specs.Prelude.{◌≡◌, ℕ, Bool, List, Option, Some, None, Result, Ok, Err, take, drop, IsTrue}
use Rattle.std.specs.List.{prefix_len, list_all}
use Rattle.bg_listing.specs.declared.fault.PartFault.{PartFault}
use Rattle.bg_listing.specs.declared.fault.PartFault.TheVariants as part
use Rattle.bg_listing.specs.declared.fault.LineFault.{LineFault}
use Rattle.bg_listing.specs.declared.fault.LineFault.TheVariants as lines
use Rattle.bg_listing.specs.Lines.{Bad}

-- a part of a line is refused; of want of memory nothing is said
abbrev pub Fails : {Y : Type 0} → PartFault → Result Y (Unit {0}) → Type 0
Fails part.OutOfMemory read = Unit {0}
Fails part.NotThere read = read ≡ Err tt

-- a part of a line: the value as view shows it, or the refusal, or want of memory
abbrev pub GivesPart : {X Y : Type 0} → (X → Y) → Result X PartFault → Result Y (Unit {0}) → Type 0
GivesPart view (Ok x) read = read ≡ Ok (view x)
GivesPart view (Err fault) read = Fails fault read

-- the same of a function that takes no memory, whose fault says that it is not there and nothing else
abbrev pub GivesOrFails : {X Y F : Type 0} → (X → Y) → Result X F → Result Y (Unit {0}) → Type 0
GivesOrFails view (Ok x) read = read ≡ Ok (view x)
GivesOrFails view (Err fault) read = read ≡ Err tt

-- the same, as an option
abbrev pub Finds : {X Y : Type 0} → (X → Y) → Option X → Result Y (Unit {0}) → Type 0
Finds view (Some x) read = read ≡ Ok (view x)
Finds view None read = read ≡ Err tt

-- the bytes in front that pass the test, and those behind
pub record IsFrontRun (test : ℕ → Bool) (bytes front rest : List ℕ) : Type 0 where
  pub front_is : front ≡ take (prefix_len test bytes) bytes
  pub rest_is : rest ≡ drop (prefix_len test bytes) bytes
  pub pass : IsTrue (list_all test front)

-- lines are refused, with that code and so many bytes left; of want of memory nothing is said
abbrev pub FailsLines : {Y : Type 0} → LineFault → Result Y Bad → Type 0
FailsLines lines.OutOfMemory read = Unit {0}
FailsLines (lines.Bad code left) read = read ≡ Err (record { code = code; left = left })

-- lines: the value as view shows it, or the code and the bytes left at the bad line, or want of memory
abbrev pub GivesLines : {X Y : Type 0} → (X → Y) → Result X LineFault → Result Y Bad → Type 0
GivesLines view (Ok x) read = read ≡ Ok (view x)
GivesLines view (Err fault) read = FailsLines fault read
