use Rattle.std.proofs.Common.{◌≡◌, ◌<◌, ◌++◌, ◌∷◌, [], List, None, length, rules, ap, ◌∙◌}
use Rattle.bg_base.specs.Limits.{most_controls}
use Rattle.bg_base.specs.declared.signature.Control.{Control}
use Rattle.bg_base.specs.Signatures.{control_number}
use Rattle.bg_base.proofs.SignatureLaws.{one_more_control, one_more_number}
use Rattle.bg_base.proofs.signature.Signature.add.Goals as goal

pub invariant_of-self-2 : goal.invariant_of-self-2
invariant_of-self-2 c =
    let old = c.self.inside.controls.items in
    let control : Control = record { label = c.args.label; arity = c.args.arity; kind = c.args.kind } in
    let items : c.push.new.self.items ≡ old ++ control ∷ [] =
    (rw c.unwrap.ensures at c.push.ensures.items) ∙ ap (λ (l : List Control). l ++ control ∷ []) c.in_ok-reserve.ensures.items in
    let none : control_number old c.args.label ≡ None = search rules in
    let room : length old < most_controls = search rules in
    let number : c.len-number.result ≡ length old = search rules in
    let updates = rw (c.in_ok-key.ensures, number) at c.in_ok-insert.ensures.updates.0 in
    rw items (record {
      kept = one_more_control old control c.self.invariant.kept none (search rules) room;
      numbered = one_more_number old control c.self.inside.numbers c.insert.new.self c.self.invariant.numbered none updates;
    })
