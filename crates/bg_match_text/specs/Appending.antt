-- That a text of some kind was written behind what was there.
use Rattle.std.specs.Prelude.{◌≡◌, ℕ, List, ◌++◌}

pub record Appends (IsText : List ℕ → Type 0) (before after : List ℕ) : Type 0 where
  pub text : List ℕ
  pub is_text : IsText text
  pub appended : after ≡ before ++ text
