use Rattle.std.proofs.Common.{ap, sym, ◌∙◌}
use Rattle.bg_values.specs.Names.{entry_at}
use Rattle.bg_values.proofs.Words.{found_number}
use Rattle.bg_values.proofs.names.NameTable.look_up.Goals as goal

pub returns-in-Some : goal.returns-in-Some
returns-in-Some g c =
    c.entry.ensures ∙ ap (entry_at c.args.self.now) (sym c.in-Some.is ∙ found_number c.args.word.now c.self.inside.entries.entries c.args.self.now
    c.get_index_of.result c.get_index_of.ensures.index c.self.view_is)

pub returns-in-None : goal.returns-in-None
returns-in-None g c =
    ap (entry_at c.args.self.now) (sym c.in-None.is ∙ found_number c.args.word.now c.self.inside.entries.entries c.args.self.now c.get_index_of.result
    c.get_index_of.ensures.index c.self.view_is)
