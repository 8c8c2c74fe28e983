use Rattle.std.proofs.Common.{◌∙◌, ap, subst, sym}
use Rattle.bg_base.specs.Bigraph.{IsValid, IsValidUnder}
use Rattle.bg_base.specs.Elementary.{atom, lone_node}
use Rattle.bg_algebra.proofs.Nested.{atom_valid, atom_valid_under}
use Rattle.bg_algebra.proofs.elementary.atom.Goals as goal

pub returns-clause-value : goal.returns-clause-value
unfolding atom
returns-clause-value c =
    c.in_ok-whole.ensures ∙ ap (lone_node c.args.control c.args.node c.args.names.now) (c.from_vec.ensures ∙ c.new.ensures.items)

pub returns-clause-valid : goal.returns-clause-valid
returns-clause-valid c = subst IsValid (sym (returns-clause-value c)) (atom_valid c.args.control c.args.node c.args.names.now)

pub returns-clause-fits : goal.returns-clause-fits
returns-clause-fits c =
    λ signature below ports. subst (IsValidUnder signature) (sym (returns-clause-value c))
    (atom_valid_under c.args.control c.args.node c.args.names.now signature below ports)
