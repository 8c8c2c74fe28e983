use Rattle.std.proofs.Common.{ℕ, List, length, sym, subst, ◌∙◌}
use Rattle.bg_index.specs.declared.reading.Part.{Part}
use Rattle.bg_index.specs.Going.{AreGathered}
use Rattle.bg_index.proofs.GoneLaws.{all_gathered}
use Rattle.bg_index.proofs.going.gone_of.Goals as goal

pub returns-clause-listed : goal.returns-clause-listed
returns-clause-listed c = λ node.
    let reading = c.args.reading.now in
    let gone = c.in_ok-gone.gone.items in
    let of_asked = subst (λ (xs : List ℕ). AreGathered c.args.map.now xs c.deref-2.result.now (length c.deref-2.result.now) gone)
    c.deref.ensures.value c.in_ok-gone.ensures in
    let of_parts = subst (λ (parts : List Part). AreGathered c.args.map.now reading.asked.items parts (length parts) gone) c.deref-2.ensures.value of_asked in
    let listed = all_gathered c.args.map.now reading c.args.rule.now gone (c.requires.asked_many ∙ sym c.requires.parts_many) c.requires.asked_are of_parts node in
    let same = c.number_set.ensures.same node in
    (λ m. listed.0 (same.0 m), λ l. same.1 (listed.1 l))
