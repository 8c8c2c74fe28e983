-- Want of memory is one of the faults of an operation.
use Rattle.std.proofs.Common.{◌≡◌, List, [], ◌∷◌, Result, Ok, Err, IfErr, IsErrAnd, Contains, refl, sym}
use Rattle.bg_lists.specs.Lists.{Mem, here, there}
use Rattle.bg_lists.proofs.Members.{Mem-same}
use Rattle.bg_lists.proofs.Words.{Contains-member}
use Rattle.bg_algebra.specs.declared.fault.AlgebraFault.{AlgebraFault}
use Rattle.bg_algebra.specs.declared.fault.AlgebraFault.TheVariants.{OutOfMemory}

among : {T : Type 0} (faults : List AlgebraFault) → Mem OutOfMemory faults → (r : Result T AlgebraFault)
    → IsErrAnd r (λ fault. fault ≡ OutOfMemory) → IfErr r (λ fault. Contains faults fault)
among faults m (Ok x) is = tt
among faults m (Err fault) is = Contains-member faults (Mem-same (sym is) m)

pub memory_or : {T : Type 0} (other : AlgebraFault) (r : Result T AlgebraFault) → IsErrAnd r (λ fault. fault ≡ OutOfMemory)
    → IfErr r (λ fault. Contains (other ∷ OutOfMemory ∷ []) fault)
memory_or other r is = among (other ∷ OutOfMemory ∷ []) (there (here refl)) r is

pub memory_or_two : {T : Type 0} (first second : AlgebraFault) (r : Result T AlgebraFault) → IsErrAnd r (λ fault. fault ≡ OutOfMemory)
    → IfErr r (λ fault. Contains (first ∷ second ∷ OutOfMemory ∷ []) fault)
memory_or_two first second r is = among (first ∷ second ∷ OutOfMemory ∷ []) (there (there (here refl))) r is
