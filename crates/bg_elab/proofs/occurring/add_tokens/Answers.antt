use Rattle.std.proofs.Common.{◌+◌, ◌-◌, ◌∙◌, ap, sym}
use Rattle.bg_base.specs.Elementary.{counted}
use Rattle.bg_elab.specs.References.{with_tokens, with_word}
use Rattle.bg_elab.proofs.Numbers.{counted_next, counted_end}
use Rattle.bg_elab.proofs.occurring.add_tokens.Goals as goal

pub loop-token-preserved : goal.loop-token-preserved
loop-token-preserved c =
    let text = c.args.text.now in
    let parameters = c.args.parameters.now in
    let token = c.loop-token.token in
    c.loop-token.invariant
    ∙ ap (λ tokens. with_tokens text parameters tokens c.loop-token.found) (counted_next token c.args.to c.loop-token-test.true)
    ∙ ap (with_tokens text parameters (counted (token + 1) (c.args.to - (token + 1))))
    (ap (λ word. with_word parameters word c.loop-token.found) (sym c.spelling.ensures) ∙ sym c.in_ok-add_word.ensures)

pub returns : goal.returns
returns c =
    sym (c.loop-token.invariant
    ∙ ap (λ tokens. with_tokens c.args.text.now c.args.parameters.now tokens c.loop-token.found) (counted_end c.loop-token.token c.args.to c.loop-token-test.false))
