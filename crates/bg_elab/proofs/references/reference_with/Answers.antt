use Rattle.std.proofs.Common.{◌∙◌, ap, sym}
use Rattle.bg_elab.specs.References.{OccurringParts}
use Rattle.bg_elab.proofs.ReferenceRead.{reference_so}
use Rattle.bg_terms.specs.Trees.{arguments}
use Rattle.bg_values.specs.Operands.{operands_read}
use Rattle.bg_values.specs.Scopes.{ScopeParts}
use Rattle.bg_elab.proofs.references.reference_with.Goals as goal

pub returns : goal.returns
returns c =
    let text = c.args.text.now in
    let o = c.args.occurring in
    let tree = c.args.tree.now in
    let name = c.in_ok-name.name in
    let read = c.in_ok-arguments.ensures in
    let scope = ap (λ (t : ScopeParts). record t { names = c.occurring.inside.names }) c.text.view_is
    ∙ ap (λ (p : OccurringParts). record text { names = p.names }) c.occurring.view_is in
    let lists = c.in_ok-lists.ensures.same ∙ ap (λ (p : OccurringParts). p.lists) c.occurring.view_is in (
      record { at = tree.part1; name = name; number = c.args.number; arguments = read.0; lists = o.lists },
      reference_so text o c.args.number tree name read.0 c.in_ok-name.ensures
          (ap (λ (s : ScopeParts). operands_read s (arguments tree.part2)) (sym scope) ∙ read.1),
      λ i. record { at = tree.part1; name = name; number = c.args.number; arguments = read.2 i; lists = lists i },
    )
