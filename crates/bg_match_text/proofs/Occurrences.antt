-- The texts of occurrences, one more at a time.
use Rattle.std.proofs.Common.{◌≡◌, ◌<◌, ℕ, ◌+◌, Bool, List, [], ◌∷◌, ◌++◌, length, get_or, take, All, sym, ap, subst, ◌∙◌, append_assoc}
use Rattle.std.proofs.lemmas.List.{take_more, append-nil}
use Rattle.bg_base.specs.declared.signature.Control.{Control}
use Rattle.bg_base.specs.declared.big.Big.{Big}
use Rattle.bg_lists.proofs.Words.{All-from_members}
use Rattle.bg_rules.specs.Decomposition.{Occurs}
use Rattle.bg_rules.specs.Occurrences.{AreOccurrences}
use Rattle.bg_match_text.specs.Appending.{Appends}
use Rattle.bg_match_text.specs.MatchText.{IsOccurrenceText, AreOccurrenceTexts, none, each}
use Rattle.bg_match_text.proofs.Writing.{behind}

pub all_occur : (host pattern : Big) (maps : List (List ℕ)) → AreOccurrences host pattern maps → All (Occurs host pattern) maps
all_occur host pattern maps found = All-from_members (Occurs host pattern) maps found.occur

module _ {signature : List Control} {host pattern : Big} {explain : Bool} where
  pub none_yet : (before : List ℕ) → Appends (AreOccurrenceTexts signature host pattern explain []) before before
  none_yet before = record { text = []; is_text = none; appended = sym (append-nil before) }

  behind_others : {maps : List (List ℕ)} {texts : List ℕ} → AreOccurrenceTexts signature host pattern explain maps texts
      → {map text : List ℕ} → IsOccurrenceText signature host pattern map explain text
      → AreOccurrenceTexts signature host pattern explain (maps ++ (map ∷ [])) (texts ++ text)
  behind_others none {map} {text} last =
      subst (AreOccurrenceTexts signature host pattern explain (map ∷ [])) (append-nil text) (each last none)
  behind_others (each {map = first} {maps = maps} {text = one} {texts = more} is others) {map} {text} last =
      subst (AreOccurrenceTexts signature host pattern explain (first ∷ maps ++ (map ∷ []))) (sym (append_assoc one more text)) (each is (behind_others others last))

  -- the map is the one at that place, and what was written is of the map that was passed on
  pub one_more : (maps : List (List ℕ)) (at : ℕ) (map given before now after : List ℕ) → at < length maps → map ≡ get_or maps at map → given ≡ map
      → Appends (AreOccurrenceTexts signature host pattern explain (take at maps)) before now
      → Appends (IsOccurrenceText signature host pattern given explain) now after
      → Appends (AreOccurrenceTexts signature host pattern explain (take (at + 1) maps)) before after
  one_more maps at map given before now after below is same others last =
      let next : take at maps ++ (given ∷ []) ≡ take (at + 1) maps =
      ap (λ (m : List ℕ). take at maps ++ (m ∷ [])) (same ∙ is) ∙ sym (take_more maps at map below) in
      record {
        text = others.text ++ last.text;
        is_text = subst (λ (all : List (List ℕ)). AreOccurrenceTexts signature host pattern explain all (others.text ++ last.text))
            next (behind_others others.is_text last.is_text);
        appended = behind before now after others.text last.text others.appended last.appended;
      }
