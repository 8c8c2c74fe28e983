use Rattle.std.proofs.Common.{ap, is_none, sym, ◌∙◌}
use Rattle.bg_values.proofs.Words.{found_number, added_last}
use Rattle.bg_values.proofs.names.NameTable.add.Goals as goal

pub returns-in-Some-clause-there : goal.returns-in-Some-clause-there
returns-in-Some-clause-there g c =
    ap is_none (sym c.in-Some.is ∙ found_number c.args.word.now c.self.inside.entries.entries c.args.self.now c.get_index_of.result
    c.get_index_of.ensures.index c.self.view_is)

pub returns-in-Ok-clause-added : goal.returns-in-Ok-clause-added
returns-in-Ok-clause-added g c =
    added_last c.self.inside.entries c.args.word.now c.in_ok-key.key c.args.value c.args.self.now c.get_index_of.result c.insert.new.self.entries
    c.in_ok-key.ensures.items c.get_index_of.ensures.found c.in-None.is c.self.view_is c.in-Ok.ensures.entries

pub returns-in-Ok-clause-there : goal.returns-in-Ok-clause-there
returns-in-Ok-clause-there g c =
    ap is_none (sym c.in-None.is ∙ found_number c.args.word.now c.self.inside.entries.entries c.args.self.now c.get_index_of.result
    c.get_index_of.ensures.index c.self.view_is)
