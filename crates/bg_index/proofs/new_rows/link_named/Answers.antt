use Rattle.std.proofs.Common.{Option, unwrap_or, is_eq, sym, ap, ◌∙◌}
use Rattle.std.specs.List.{position_or_len}
use Rattle.bg_base.specs.declared.names.Link.{Link}
use Rattle.bg_base.specs.declared.names.Link.TheVariants.{Outer}
use Rattle.bg_base.specs.declared.names.Name.{Name}
use Rattle.bg_base.specs.Order.{name_cmp}
use Rattle.bg_index.proofs.NewRowLaws.{given_or}
use Rattle.bg_index.proofs.new_rows.link_named.Goals as goal

pub returns-in_ok-copy-in-None : goal.returns-in_ok-copy-in-None
returns-in_ok-copy-in-None c =
    let at = position_or_len (λ (other : Name). is_eq (name_cmp other c.args.name.now)) c.args.names.now in
    ap Outer c.in_ok-copy-in-None.ensures
    ∙ sym (given_or c.args.found.now at (Outer c.args.name.now) ∙ ap (λ (o : Option Link). unwrap_or o (Outer c.args.name.now)) (sym c.in-None.ensures))
