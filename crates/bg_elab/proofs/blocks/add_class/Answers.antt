use Rattle.std.proofs.Common.{◌+◌, refl, rules}
use Rattle.bg_elab.specs.Blocks.{trees_of_refs}
use Rattle.bg_elab.proofs.Classes.{class_so, class_stops}
use Rattle.bg_elab.proofs.blocks.add_class.Goals as goal

pub returns-in_err-add_listed-clause-adds : goal.returns-in_err-add_listed-clause-adds
returns-in_err-add_listed-clause-adds c = λ done starts.
    let stopped = class_stops c.args.text.now c.args.spaces.now c.args.tree.now (trees_of_refs c.refs_of.result.now) c.refs_of.ensures c.args.class.now done
    c.in_err-add_listed.field-0.0 (c.in_err-add_listed.ensures done starts) in
    search (rules, stopped)

pub returns-clause-adds : goal.returns-clause-adds
returns-clause-adds c = λ done starts.
    class_so c.args.text.now c.args.spaces.now c.args.tree.now (trees_of_refs c.refs_of.result.now) c.refs_of.ensures c.args.class.now done
    c.add_listed.new.listed.items (c.args.class.now + 1) (c.in_ok-add_listed.ensures done starts) refl
