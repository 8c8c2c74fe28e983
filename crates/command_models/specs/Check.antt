-- The text that `check` makes of a system: how much there is of everything.
use Rattle.std.specs.Prelude.{ℕ, List, ◌++◌, length, codes}
use Rattle.std.specs.Fmt.{decimal}
use Rattle.bg_rules.specs.Systems.{SystemParts}
use Rattle.bg_answers.specs.Answer.{line}
use Rattle.command_models.specs.declared.counts.Counts.{Counts}

-- how much there is of everything; nodes and edges are those that a run begins with
abbrev pub counts_of : SystemParts → Counts
counts_of system =
    record {
      controls = length system.signature;
      rules = length system.rules;
      classes = system.classes;
      preds = length system.preds;
      nodes = length system.init.big.nodes;
      edges = length system.init.big.edges;
    }

-- the line that tells it, without its line feed
abbrev pub counts_text : Counts → List ℕ
counts_text counts =
    codes "ok controls " ++ (decimal counts.controls ++ (codes " rules " ++ (decimal counts.rules ++ (codes " classes " ++ (decimal counts.classes
    ++ (codes " preds " ++ (decimal counts.preds ++ (codes " nodes " ++ (decimal counts.nodes ++ (codes " edges " ++ decimal counts.edges))))))))))

-- the line that tells how much there is of everything in the system
abbrev pub check_text : SystemParts → List ℕ
check_text system = line (counts_text (counts_of system))
