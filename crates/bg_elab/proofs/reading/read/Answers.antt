use Rattle.std.proofs.Common.{Err, length, ap, sym, subst, ◌∙◌, arith}
use Rattle.bg_elab.specs.Elaboration.{text_of, Elaborates}
use Rattle.bg_elab.specs.Reading.{of_syntax, GivesReading}
use Rattle.bg_syntax.specs.Models.{IsTreeOf, IsSyntaxFault}
use Rattle.bg_elab.proofs.Readings.{residual_read, syntax_read, elaborated_read}
use Rattle.bg_text.proofs.TokenLaws.{as_many_bytes}
use Rattle.bg_elab.proofs.reading.read.Goals as goal

pub returns-in_err-found : goal.returns-in_err-found
returns-in_err-found c =
    residual_read c.args.bytes.now c.in_err-found.field-0.0 c.from_residual.result c.from_residual.ensures.0 c.from_residual.ensures.1 c.in_err-found.ensures.fault

pub parse-requires : goal.parse-requires
parse-requires c =
    let few = as_many_bytes c.args.bytes.now c.in_ok-found.found.items c.in_ok-found.ensures.tokens in
    let same = ap length c.deref.ensures.value in
    omega arith

pub returns-in-Err : goal.returns-in-Err
returns-in-Err c =
    let told = subst (λ z. IsSyntaxFault z c.in-Err.fault) c.deref.ensures.value c.in-Err.ensures.fault in
    let read = syntax_read c.args.bytes.now c.in_ok-found.found.items c.in-Err.fault c.in_ok-found.ensures.tokens told in
    subst (λ z. GivesReading (Err z) c.args.bytes.now) (sym (c.of_syntax.ensures ∙ ap (λ z. of_syntax (text_of c.args.bytes.now z) c.in-Err.fault) c.deref-in-Err.ensures.value)) read

pub elaborate-requires-clause-tokens : goal.elaborate-requires-clause-tokens
elaborate-requires-clause-tokens c =
    let few = as_many_bytes c.args.bytes.now c.in_ok-found.found.items c.in_ok-found.ensures.tokens in
    let same = ap length c.deref-2.ensures.value in
    omega arith

pub returns : goal.returns
returns c =
    let tree = subst (λ z. IsTreeOf z c.in-Ok.tree) c.deref.ensures.value c.in-Ok.ensures.tree in
    let made = subst (λ z. Elaborates c.elaborate.result c.args.bytes.now z c.in-Ok.tree) c.deref-2.ensures.value c.elaborate.ensures in
    elaborated_read c.args.bytes.now c.in_ok-found.found.items c.in-Ok.tree c.elaborate.result c.in_ok-found.ensures.tokens tree made
