use Rattle.std.proofs.Common.{◌∙◌, Ok, ap, sym, rules}
use Rattle.bg_elab.specs.declared.blocks.Block.{Block as BlockCode}
use Rattle.bg_elab.proofs.BlockValued.{host_stops, rules_stop, preds_stop, parts_so}
use Rattle.bg_elab.proofs.SystemsKept.{block_is_system}
use Rattle.bg_statements.specs.Calls.{Kept}
use Rattle.bg_elab.proofs.systems.system_of_block.Goals as goal

pub returns-in_err-init : goal.returns-in_err-init
returns-in_err-init c = λ d b here is.
    let first = c.in_ok-first.ensures ∙ c.signature.ensures.same ∙ ap (λ (k : Kept). k.signature) here in
    let stopped = host_stops d b c.in_err-init.field-0.0 (c.in_err-init.ensures d b.init here (ap (λ (x : BlockCode). x.init) is) first) in
    search (rules, stopped)

pub returns-in_err-rules : goal.returns-in_err-rules
returns-in_err-rules c = λ d b here is.
    let first = c.in_ok-first.ensures ∙ c.signature.ensures.same ∙ ap (λ (k : Kept). k.signature) here in
    let host = c.in_ok-init.ensures d b.init here (ap (λ (x : BlockCode). x.init) is) first in
    let stopped = rules_stop d b c.in_ok-init.init c.in_ok-init.second host c.in_err-rules.field-0.0
    (c.in_err-rules.ensures d b.rules here (c.as_slice.ensures.same ∙ ap (λ (x : BlockCode). x.rules) is)) in
    search (rules, stopped)

pub returns-in_err-preds : goal.returns-in_err-preds
returns-in_err-preds c = λ d b here is.
    let first = c.in_ok-first.ensures ∙ c.signature.ensures.same ∙ ap (λ (k : Kept). k.signature) here in
    let host = c.in_ok-init.ensures d b.init here (ap (λ (x : BlockCode). x.init) is) first in
    let made = c.in_ok-rules.ensures d b.rules here (c.as_slice.ensures.same ∙ ap (λ (x : BlockCode). x.rules) is) in
    let stopped = preds_stop d b c.in_ok-init.init c.in_ok-init.second host c.in_ok-rules.rules c.in_ok-rules.third made c.in_err-preds.field-0.0
    (c.in_err-preds.ensures d b.preds here (c.as_slice-2.ensures.same ∙ ap (λ (x : BlockCode). x.preds) is)) in
    search (rules, stopped)

pub new-requires : goal.new-requires
new-requires c =
    let d = c.signature.ensures.kept.defined in
    let here = c.signature.ensures.kept.is in
    let b = c.requires.block in
    let is = c.requires.is in
    let first = c.in_ok-first.ensures ∙ c.signature.ensures.same ∙ ap (λ (k : Kept). k.signature) here in
    let host = c.in_ok-init.ensures d b.init here (ap (λ (x : BlockCode). x.init) is) first in
    let made = c.in_ok-rules.ensures d b.rules here (c.as_slice.ensures.same ∙ ap (λ (x : BlockCode). x.rules) is) in
    block_is_system d c.signature.ensures.kept.sound b c.requires.below _
    (parts_so d b c.in_ok-init.init c.in_ok-init.second host c.in_ok-rules.rules c.in_ok-rules.third made c.in_ok-preds.preds c.in_ok-preds.last
    (c.in_ok-preds.ensures d b.preds here (c.as_slice-2.ensures.same ∙ ap (λ (x : BlockCode). x.preds) is)) c.args.block.classes (ap (λ (x : BlockCode). x.classes) is))

pub returns : goal.returns
returns c = λ d b here is.
    let first = c.in_ok-first.ensures ∙ c.signature.ensures.same ∙ ap (λ (k : Kept). k.signature) here in
    let host = c.in_ok-init.ensures d b.init here (ap (λ (x : BlockCode). x.init) is) first in
    let made = c.in_ok-rules.ensures d b.rules here (c.as_slice.ensures.same ∙ ap (λ (x : BlockCode). x.rules) is) in
    parts_so d b c.in_ok-init.init c.in_ok-init.second host c.in_ok-rules.rules c.in_ok-rules.third made c.in_ok-preds.preds c.in_ok-preds.last
    (c.in_ok-preds.ensures d b.preds here (c.as_slice-2.ensures.same ∙ ap (λ (x : BlockCode). x.preds) is)) c.args.block.classes (ap (λ (x : BlockCode). x.classes) is)
    ∙ ap (λ system. Ok system) (sym c.new.ensures)
