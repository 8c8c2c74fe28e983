-- The occurrences of a pattern gone through, for one that lies on a side.
use Rattle.std.proofs.Common.{◌≡◌, ℕ, Bool, true, false, List, [], ◌∷◌, refl, sym, subst, ◌∙◌, inl, inr}
use Rattle.std.specs.List.{list_all}
use Rattle.std.proofs.lemmas.Bool.{false≢true}
use Rattle.bg_lists.specs.Lists.{Mem, here, there}
use Rattle.bg_lists.proofs.Members.{Mem-cons_cases}
use Rattle.bg_base.specs.declared.big.Big.{Big}
use Rattle.bg_rules.specs.declared.condition.Side.{Side}
use Rattle.bg_rules.specs.Decomposition.{Occurs}
use Rattle.bg_rules.specs.Occurrences.{AreOccurrences}
use Rattle.bg_rules.specs.Reaction.{HostState}
use Rattle.bg_rules.specs.Rules.{RuleParts}
use Rattle.bg_cond.specs.Conditions.{OccursSomewhere, IsEnabled, IsEnabledSomewhere}
use Rattle.bg_cond.specs.Sides.{lies_on, OccursOn}

-- these are occurrences, and each occurrence that lies on the side is one of them
pub record AreLeft (side : Side) (host : Big) (images : List ℕ) (pattern : Big) (rest : List (List ℕ)) : Type 0 where
  pub occur : (map : List ℕ) → Mem map rest → Occurs host pattern map
  pub left : (map : List ℕ) → Occurs host pattern map → list_all (lies_on side host images) map ≡ true → Mem map rest

module _ (side : Side) (host : Big) (images : List ℕ) (pattern : Big) where
  pub left_begins : {walk : List (List ℕ)} → AreOccurrences host pattern walk → AreLeft side host images pattern walk
  left_begins all = record { occur = all.occur; left = λ map o lies. all.all map o }

  pub left_next : (walk rest : List (List ℕ)) (map : List ℕ) → walk ≡ map ∷ rest → list_all (lies_on side host images) map ≡ false
      → AreLeft side host images pattern walk → AreLeft side host images pattern rest
  left_next walk rest map e other are =
      record {
        occur = λ next m. are.occur next (subst (λ maps. Mem next maps) (sym e) (there m));
        left = λ next o lies. elim (Mem-cons_cases (subst (λ maps. Mem next maps) e (are.left next o lies))) [
          | inl same ↦ absurd (false≢true (sym other ∙ subst (λ m. list_all (lies_on side host images) m ≡ true) (sym same) lies))
          | inr m ↦ m
        ];
      }

  pub left_found : (walk rest : List (List ℕ)) (map : List ℕ) → walk ≡ map ∷ rest → list_all (lies_on side host images) map ≡ true
      → AreLeft side host images pattern walk → OccursOn side host images pattern
  left_found walk rest map e lies are =
      record { nodes = map; occurs = are.occur map (subst (λ maps. Mem map maps) (sym e) (here refl)); lies = lies }

  pub left_none : (walk : List (List ℕ)) → walk ≡ [] → AreLeft side host images pattern walk → OccursOn side host images pattern → ⊥
  left_none walk e are o =
      let m : Mem o.nodes [] = subst (λ maps. Mem o.nodes maps) e (are.left o.nodes o.occurs o.lies) in elim m [ ]

-- the test was made of an equal map
pub lies_same : (side : Side) (host : Big) (images made map : List ℕ) (answer : Bool) → made ≡ map
    → answer ≡ list_all (lies_on side host images) made → list_all (lies_on side host images) map ≡ answer
lies_same side host images made map answer f is = sym (is ∙ (λ t. list_all (lies_on side host images) (f t)))

-- ---- an occurrence of the redex at which the rule is enabled

pub record AreLeftToTry (host : HostState) (rule : RuleParts) (rest : List (List ℕ)) : Type 0 where
  pub occur : (map : List ℕ) → Mem map rest → Occurs host.big rule.redex map
  pub left : (map : List ℕ) → IsEnabled host rule map → Mem map rest

module _ (host : HostState) (rule : RuleParts) where
  pub try_begins : {walk : List (List ℕ)} → AreOccurrences host.big rule.redex walk → AreLeftToTry host rule walk
  try_begins all =
      record {
        occur = all.occur;
        left = λ map e. all.all map (record { context = e.context; edges = e.edges; parameter = e.parameter; decomposes = e.decomposes });
      }

  pub try_occurs : (walk rest : List (List ℕ)) (map : List ℕ) → walk ≡ map ∷ rest → AreLeftToTry host rule walk → Occurs host.big rule.redex map
  try_occurs walk rest map e are = are.occur map (subst (λ maps. Mem map maps) (sym e) (here refl))

  pub try_next : (walk rest : List (List ℕ)) (map : List ℕ) → walk ≡ map ∷ rest → (IsEnabled host rule map → ⊥) → AreLeftToTry host rule walk → AreLeftToTry host rule rest
  try_next walk rest map e none are =
      record {
        occur = λ next m. are.occur next (subst (λ maps. Mem next maps) (sym e) (there m));
        left = λ next w. elim (Mem-cons_cases (subst (λ maps. Mem next maps) e (are.left next w))) [
          | inl same ↦ absurd (none (subst (λ nodes. IsEnabled host rule nodes) (sym same) w))
          | inr m ↦ m
        ];
      }

  pub try_none : (walk : List (List ℕ)) → walk ≡ [] → AreLeftToTry host rule walk → IsEnabledSomewhere host rule → ⊥
  try_none walk e are s =
      let m : Mem s.nodes [] = subst (λ maps. Mem s.nodes maps) e (are.left s.nodes s.enabled) in elim m [ ]

  pub try_starts : {walk : List (List ℕ)} (big pattern : Big) → big ≡ host.big → pattern ≡ rule.redex → AreOccurrences big pattern walk → AreLeftToTry host rule walk
  try_starts {walk} big pattern e f all =
      try_begins (subst (λ (b : Big). AreOccurrences b rule.redex walk) e (subst (λ (p : Big). AreOccurrences big p walk) f all))

-- the first of the occurrences tells whether there is one
pub some_occurs : (host pattern : Big) (walk rest : List (List ℕ)) (map : List ℕ) → walk ≡ map ∷ rest → AreOccurrences host pattern walk → OccursSomewhere host pattern
some_occurs host pattern walk rest map e all =
    record { nodes = map; occurs = all.occur map (subst (λ maps. Mem map maps) (sym e) (here refl)) }

pub none_occurs : (host pattern : Big) (walk : List (List ℕ)) → walk ≡ [] → AreOccurrences host pattern walk → OccursSomewhere host pattern → ⊥
none_occurs host pattern walk e all o =
    let m : Mem o.nodes [] = subst (λ maps. Mem o.nodes maps) e (all.all o.nodes o.occurs) in elim m [ ]
