use Rattle.std.proofs.Common.{rules, not}
use Rattle.std.proofs.lemmas.Fn.{filter_same}
use Rattle.bg_rules.specs.Instantiation.{is_among}
use Rattle.bg_index.specs.declared.entries.EdgeEntry.{EdgeEntry}
use Rattle.bg_index.proofs.commit_links.drop_edges.Goals as goal

pub returns-else-is_cheaper_singly-clause-kept : goal.returns-else-is_cheaper_singly-clause-kept
returns-else-is_cheaper_singly-clause-kept c = filter_same _ (λ (entry : EdgeEntry). not (is_among entry.edge c.args.idle.now)) _ (λ x b f called. search rules) _ _ c.retain.ensures.filtered
