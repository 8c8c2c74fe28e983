use Rattle.std.proofs.Common.{arith}
use Rattle.bg_listing.proofs.Longest.{number_found, no_number}
use Rattle.bg_listing.proofs.at_offset.read_number.Goals as goal

pub returns-in-Some-clause-found : goal.returns-in-Some-clause-found
returns-in-Some-clause-found c =
    let here = rw c.split_at.ensures.back at c.in-Some.ensures.value in
    let found = number_found c.args.bytes.now c.args.at c.from.result c.in-Some.number c.in-Some.rest.now (omega (arith, c.from.ensures)) here in
    rw c.offset_before.ensures found.0

pub returns-in-None-clause-none : goal.returns-in-None-clause-none
returns-in-None-clause-none c = λ n end le h.
    let none = rw c.split_at.ensures.back at c.in-None.ensures.value in
    no_number c.args.bytes.now c.args.at c.from.result (omega (arith, c.from.ensures)) none n end (omega (arith, c.from.ensures)) h
