-- Texts written one behind the other.
use Rattle.std.proofs.Common.{◌≡◌, ℕ, List, ◌++◌, append_assoc}

pub five_parts : (before o1 o2 o3 o4 o5 a b c d e : List ℕ) → o1 ≡ before ++ a → o2 ≡ o1 ++ b → o3 ≡ o2 ++ c → o4 ≡ o3 ++ d → o5 ≡ o4 ++ e
    → o5 ≡ before ++ (a ++ (b ++ (c ++ (d ++ e))))
five_parts before o1 o2 o3 o4 o5 a b c d e p1 p2 p3 p4 p5 = rw (p5, p4, p3, p2, p1) (simp append_assoc)
