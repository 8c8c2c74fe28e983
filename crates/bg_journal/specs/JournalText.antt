-- The text of a journal, of the end of a run, and of a host.
use Rattle.std.specs.Prelude.{ℕ, List, ◌++◌, codes}
use Rattle.std.specs.List.{flat_map}
use Rattle.std.specs.Fmt.{decimal}
use Rattle.bg_base.specs.declared.history.Entry.{Entry}
use Rattle.bg_base.specs.declared.signature.Control.{Control}
use Rattle.bg_cond.specs.declared.ending.End.{End}
use Rattle.bg_cond.specs.declared.ending.End.TheVariants.{Quiet, Limit, Full}
use Rattle.bg_listing.specs.Spelling.{numbers_line, big_text}
use Rattle.bg_rules.specs.Reaction.{HostState}

-- a rule and the numbers of a map, each behind a space, and the line feed
unfoldable pub step_text : ℕ → List ℕ → List ℕ
step_text rule map = decimal rule ++ numbers_line map

-- the line of an entry: its worker, its rule, and its map
unfoldable pub entry_line : Entry → List ℕ
entry_line entry = codes "step " ++ (decimal entry.worker ++ (codes " " ++ step_text entry.rule entry.map))

-- the first line of a journal, a line for each entry, and the last line
unfoldable pub journal_text : List Entry → List ℕ
journal_text entries = codes "journal 1\n" ++ (flat_map entry_line entries ++ codes "end\n")

-- the line of the end of a run
unfoldable pub end_line : End → List ℕ
end_line Quiet = codes "quiet\n"
end_line Limit = codes "limit\n"
end_line (Full step) = codes "full " ++ step_text step.rule step.map

-- the line of the counters of a host, and the listing of its bigraph
unfoldable pub host_text : List Control → HostState → List ℕ
host_text signature host =
    codes "host " ++ (decimal host.next_node ++ (codes " " ++ (decimal host.next_edge ++ (codes "\n" ++ big_text signature host.big))))
