use Rattle.command_compose.proofs.composition.composition.Goals as goal

pub write_big-requires : goal.write_big-requires
write_big-requires c =
    let valid = c.in_ok-signature.ensures.valid in
    c.in_ok-whole.ensures.fits c.in_ok-signature.field-0.signature valid.0 valid.1
