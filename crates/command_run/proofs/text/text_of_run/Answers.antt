use Rattle.std.proofs.Common.{List, length, ap, sym, subst, ◌∙◌, Bool}
use Rattle.bg_base.specs.Bigraph.{IsValidUnder}
use Rattle.bg_base.specs.declared.history.Entry.{Entry}
use Rattle.bg_base.specs.declared.signature.Control.{Control}
use Rattle.bg_cond.proofs.DrawnRuns.{system_run_fits}
use Rattle.bg_rules.specs.declared.predicate.Predicate.{Predicate}
use Rattle.command_run.proofs.Counted.{counts_length}
use Rattle.command_run.proofs.Telling.{told_count}
use Rattle.command_run.proofs.text.text_of_run.Goals as goal

pub put_front-requires : goal.put_front-requires
put_front-requires g c =
    told_count c.requires.truths

pub write_host-requires : goal.write_host-requires
write_host-requires g c =
    subst (λ (signature : List Control). IsValidUnder signature c.args.run.now.host.big) (sym c.signature.ensures.same)
    (system_run_fits c.args.run.now.system c.signature.ensures.kept c.requires.run)

pub put_watched-requires : goal.put_watched-requires
put_watched-requires g c =
    ap (λ (xs : List Entry). length xs) (c.as_slice-2.ensures.same ∙ sym c.as_slice.ensures.same) ∙ sym (counts_length c.in_ok-counts.ensures)
    ∙ ap length (sym c.as_slice-3.ensures.value)
