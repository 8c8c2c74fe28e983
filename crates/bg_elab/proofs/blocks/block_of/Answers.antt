use Rattle.std.proofs.Common.{◌∙◌, [], ap, sym, rules}
use Rattle.bg_elab.specs.References.{reference_read}
use Rattle.bg_elab.proofs.BlockRead.{block_so, preds_stop}
use Rattle.bg_statements.specs.Uses.{NameSpacesParts}
use Rattle.bg_elab.proofs.blocks.block_of.Goals as goal

pub returns-in_err-preds : goal.returns-in_err-preds
returns-in_err-preds c =
    let first = c.in_ok-init.ensures in
    let names = ap (λ (s : NameSpacesParts). s.bigraphs) c.spaces.view_is in
    let first_is = ap (λ bigraphs. reference_read c.args.text.now [] bigraphs c.args.init.now) (sym names)
    ∙ ap (λ visible. reference_read c.args.text.now visible c.spaces.inside.bigraphs.now c.args.init.now) (sym c.new.ensures) ∙ first.1 in
    let rules_read = c.in_ok-rules.ensures in
    let stopped = preds_stop c.args.text.now c.args.init.now c.args.classes.now c.args.preds.now c.args.spaces.now first.0 rules_read.0
    first_is rules_read.1
    c.in_err-preds.field-0.0 c.in_err-preds.ensures in
    search (rules, stopped)

pub returns : goal.returns
returns c =
    let first = c.in_ok-init.ensures in
    let names = ap (λ (s : NameSpacesParts). s.bigraphs) c.spaces.view_is in
    let first_is = ap (λ bigraphs. reference_read c.args.text.now [] bigraphs c.args.init.now) (sym names)
    ∙ ap (λ visible. reference_read c.args.text.now visible c.spaces.inside.bigraphs.now c.args.init.now) (sym c.new.ensures) ∙ first.1 in
    let rules_read = c.in_ok-rules.ensures in
    let preds = c.in_ok-preds.ensures in (
      record { init = first.0; rules = rules_read.0.0; classes = rules_read.0.1; preds = preds.0 },
      block_so c.args.text.now c.args.init.now c.args.classes.now c.args.preds.now c.args.spaces.now first.0 rules_read.0
          first_is rules_read.1
          preds.0 preds.1,
      λ i. record { init = first.2 i; rules = (rules_read.2 i).0; classes = (rules_read.2 i).1; preds = preds.2 i },
    )
