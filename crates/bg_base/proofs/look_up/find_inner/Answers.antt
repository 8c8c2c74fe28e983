use Rattle.std.proofs.Common.{rules, Some, Ok, Err, ap, sym, ◌∙◌}
use Rattle.std.proofs.lemmas.Fn.{always_returns_same}
use Rattle.bg_base.specs.declared.big.InnerRow.{InnerRow}
use Rattle.bg_base.specs.Order.{name_cmp}
use Rattle.bg_base.proofs.LookUps.{inner_of-search}
use Rattle.bg_base.proofs.look_up.find_inner.Goals as goal

pub returns-in-Ok : goal.returns-in-Ok
returns-in-Ok c =
    ap Some c.index-rows-at.is
    ∙ sym (inner_of-search c.args.rows.now c.args.name.now c.requires.ascending (Ok c.in-Ok.at) c.in-Ok.ensures.bound
    (c.in-Ok.ensures.position (λ (row : InnerRow). name_cmp row.name c.args.name.now) (always_returns_same _ _ _ (λ a r q called. search rules))) c.index-rows-at.result)

pub returns-in-Err : goal.returns-in-Err
returns-in-Err c =
    sym (inner_of-search c.args.rows.now c.args.name.now c.requires.ascending (Err c.in-Err.field-0) c.in-Err.ensures.bound
    (c.in-Err.ensures.position (λ (row : InnerRow). name_cmp row.name c.args.name.now) (always_returns_same _ _ _ (λ a r q called. search rules))))
