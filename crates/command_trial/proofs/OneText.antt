-- There is one text of a trial of a system.
use Rattle.std.proofs.Common.{◌≡◌, ℕ, List, [], ◌∷◌, length, refl, sym, ap, ap₂, ◌∙◌}
use Rattle.bg_base.specs.declared.big.Big.{Big}
use Rattle.bg_base.specs.declared.history.Entry.{Entry}
use Rattle.bg_cond.proofs.DrawnRuns.{drawn_once, system_rules}
use Rattle.bg_cond.specs.declared.ending.End.{End}
use Rattle.bg_rules.proofs.Occurrences.{one_list}
use Rattle.bg_rules.specs.Reaction.{HostState}
use Rattle.bg_rules.specs.Rules.{RuleParts}
use Rattle.bg_rules.specs.Systems.{SystemParts, IsSystem}
use Rattle.command_trial.specs.TrialText.{trial_text, IsOccurrenceCount, AreOccurrenceCounts, IsTrialText}

one_count : (host : Big) (rule : RuleParts) (one other : ℕ) → IsOccurrenceCount host rule one → IsOccurrenceCount host rule other → one ≡ other
one_count host rule one other a b =
    a.count_is ∙ ap (λ (maps : List (List ℕ)). length maps) (one_list host rule.redex a.maps b.maps a.all b.all) ∙ sym b.count_is

one_counts : (host : Big) (rules : List RuleParts) (counts others : List ℕ) → AreOccurrenceCounts host rules counts → AreOccurrenceCounts host rules others → counts ≡ others
one_counts host [] [] [] a b = refl
one_counts host [] [] (y ∷ others) a b = absurd b
one_counts host [] (x ∷ counts) others a b = absurd a
one_counts host (rule ∷ rules) [] others a b = absurd a
one_counts host (rule ∷ rules) (x ∷ counts) [] a b = absurd b
one_counts host (rule ∷ rules) (x ∷ counts) (y ∷ others) a b =
    ap₂ (λ n ns. n ∷ ns) (one_count host rule x y a.0 b.0) (one_counts host rules counts others a.1 b.1)

pub one_text : (size : ℕ) (system : SystemParts) (one other : List ℕ) → IsSystem system → IsTrialText size system one → IsTrialText size system other → one ≡ other
one_text size system one other is a b =
    let same = drawn_once system.rules (system_rules system is) 0 is.init_is a.drawn b.drawn in
    let counts = one_counts system.init.big system.rules a.counts b.counts a.counted b.counted in
    a.text_is
    ∙ ap (λ (ns : List ℕ). trial_text size system ns a.entries a.end a.host) counts
    ∙ ap (λ (xs : List Entry). trial_text size system b.counts xs a.end a.host) same.0
    ∙ ap (λ (e : End). trial_text size system b.counts b.entries e a.host) same.1
    ∙ ap (λ (h : HostState). trial_text size system b.counts b.entries b.end h) same.2
    ∙ sym b.text_is
