use Rattle.std.proofs.Common.{◌≡◌, ℕ, refl, sym, subst, ◌∙◌}
use Rattle.bg_rules.specs.declared.fault.ListFault.{ListFault}
use Rattle.bg_rules.specs.declared.fault.ListFault.TheVariants as listing
use Rattle.bg_rules.specs.Occurrences.{AreMoreThan}
use Rattle.command_match.specs.declared.fault.MatchesFault.TheVariants.{TooMany}
use Rattle.command_match.specs.Faults.{fault_of}
use Rattle.command_match.proofs.matches.occurrences.Goals as goal

-- only that there are too many is told as that, of the rule
too_many_of : (number : ℕ) (fault : ListFault) (found : ℕ) → fault_of number fault ≡ TooMany found → (found ≡ number) × (fault ≡ listing.TooMany)
too_many_of number listing.TooMany found e = (cc, refl)
too_many_of number listing.OutOfMemory found e = cc

pub returns-in-Err-clause-many : goal.returns-in-Err-clause-many
returns-in-Err-clause-many g c =
    λ found is.
    let of = too_many_of c.args.number c.in-Err.fault found (sym c.fault_of.ensures ∙ is) in
    (of.0, subst (AreMoreThan c.args.most c.args.host.now) c.redex.ensures.same (c.in-Err.ensures.many of.1))
