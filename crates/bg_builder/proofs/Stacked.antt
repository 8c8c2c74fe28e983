-- Frames and the bigraphs that they cut out of their rows.
use Rattle.std.proofs.Common.{◌≡◌, ℕ, ◌+◌, ◌≤◌, ◌<◌, true, false, List, [], ◌∷◌, ◌++◌, length, take, drop, reverse, refl, sym, ap, subst, ◌∙◌, arith}
use Rattle.std.proofs.lemmas.List.{length-reverse}
use Rattle.bg_base.specs.declared.names.Place.{Place}
use Rattle.bg_base.specs.declared.big.NodeRow.{NodeRow}
use Rattle.bg_base.specs.declared.big.Big.{Big}
use Rattle.bg_base.specs.Bigraph.{IsValid}
use Rattle.bg_builder.specs.declared.frames.Frame.{Frame}
use Rattle.bg_builder.specs.declared.lists.Lists.{Lists}
use Rattle.bg_builder.specs.Frames.{LaidRows, laid_rows, rows_below, top_of, bigs_of, inner_rows, BeginsWithin, AreKept, IsLaid, AreTwo, stack_of, IsStack}
use Rattle.bg_builder.specs.Numbers.{lies_behind}
use Rattle.bg_builder.specs.Stack.{top, under, second, others, two_follow, top_behind}
use Rattle.bg_builder.proofs.Framing.{Lies}

-- a frame over these rows, by its lists
pub laid : (new under : LaidRows) (frame : Frame) (nodes : List NodeRow) (edges : List ℕ) (sites : List Place)
    → Lies frame.nodes new.nodes under.nodes nodes → Lies frame.edges new.edges under.edges edges → Lies frame.sites new.sites under.sites sites
    → IsLaid new frame (rows_below under frame)
    (record { nodes = nodes; edges = edges; sites = sites; inner = inner_rows frame.inner.entries; regions = frame.regions; outer = frame.outer.keys })
laid new under frame nodes edges sites lie_nodes lie_edges lie_sites =
    record {
      within = record { nodes = lie_nodes.there; edges = lie_edges.there; sites = lie_sites.there };
      under_is = λ t. record { nodes = lie_nodes.front t; edges = lie_edges.front t; sites = lie_sites.front t };
      big_is = λ t. record {
        nodes = lie_nodes.back t;
        edges = lie_edges.back t;
        sites = lie_sites.back t;
        inner = inner_rows frame.inner.entries;
        regions = frame.regions;
        outer = frame.outer.keys;
      };
    }

-- the two topmost frames of a stack
pub two_of : (rows : LaidRows) (g f : Frame) (frames : List Frame) → AreKept rows (g ∷ f ∷ frames) → two_follow (bigs_of rows (g ∷ f ∷ frames)) ≡ true → AreTwo rows g f
two_of rows g f frames kept follow =
    record { g_within = kept.0; g_valid = kept.1; f_within = kept.2.0; f_valid = kept.2.1; follow = follow }

-- what a frame makes of a stack
pub put_on : (new under : LaidRows) (frame : Frame) (frames : List Frame) (big : Big) → IsLaid new frame under big → IsValid big → AreKept under frames
    → AreKept new (frame ∷ frames) × (bigs_of new (frame ∷ frames) ≡ big ∷ bigs_of under frames)
put_on new under frame frames big is valid kept = (
  (is.within, subst IsValid (sym is.big_is) valid, subst (λ rows. AreKept rows frames) (sym is.under_is) kept),
  λ t. is.big_is t ∷ bigs_of (is.under_is t) frames,
)

-- two frames are there
some_two : (rows : LaidRows) (frames : List Frame) → two_follow (bigs_of rows frames) ≡ true → 2 ≤ length frames
some_two rows [] follow = absurd cc
some_two rows (g ∷ []) follow = absurd cc
some_two rows (g ∷ f ∷ frames) follow = omega arith

pub two_there : (lists : Lists) (frames : List Frame) → two_follow (stack_of lists frames) ≡ true → 2 ≤ length frames
two_there lists frames follow = let there = some_two (laid_rows lists) (reverse frames) follow in omega (arith, there, length-reverse frames)

-- two frames are not there
few_follow_not : (rows : LaidRows) (frames : List Frame) → length frames < 2 → two_follow (bigs_of rows frames) ≡ false
few_follow_not rows [] few = refl
few_follow_not rows (g ∷ []) few = refl
few_follow_not rows (g ∷ f ∷ frames) few = absurd (omega (arith, few))

pub two_not_there : (lists : Lists) (frames : List Frame) → length frames < 2 → false ≡ two_follow (stack_of lists frames)
two_not_there lists frames few = sym (few_follow_not (laid_rows lists) (reverse frames) (omega (arith, few, length-reverse frames)))

-- one frame is there
some_one : (edge : ℕ) (rows : LaidRows) (frames : List Frame) → top_behind edge (bigs_of rows frames) ≡ true → 1 ≤ length frames
some_one edge rows [] behind = absurd cc
some_one edge rows (f ∷ frames) behind = omega arith

pub one_there : (edge : ℕ) (lists : Lists) (frames : List Frame) → top_behind edge (stack_of lists frames) ≡ true → 1 ≤ length frames
one_there edge lists frames behind = let there = some_one edge (laid_rows lists) (reverse frames) behind in omega (arith, there, length-reverse frames)

-- an operation on the two topmost bigraphs, by the frames before and behind it
module _ (old new : Lists) (before rest after : List Frame) (g f whole : Frame) (value : Big → Big → Big)
    (two : reverse before ≡ g ∷ f ∷ reverse rest) (one : reverse after ≡ whole ∷ reverse rest)
    (kept : AreKept (laid_rows old) (reverse before)) where
  pub operated :
      IsLaid (laid_rows new) whole (rows_below (rows_below (laid_rows old) g) f) (value (top_of (rows_below (laid_rows old) g) f) (top_of (laid_rows old) g))
      → IsValid (value (top_of (rows_below (laid_rows old) g) f) (top_of (laid_rows old) g))
      → IsStack new after (value (second (stack_of old before)) (top (stack_of old before)) ∷ others (stack_of old before))
  operated is valid =
      let kept_two : AreKept (laid_rows old) (g ∷ f ∷ reverse rest) = subst (AreKept (laid_rows old)) two kept in
      let made = put_on (laid_rows new) (rows_below (rows_below (laid_rows old) g) f) whole (reverse rest) (value (top_of (rows_below (laid_rows old) g) f) (top_of (laid_rows old) g)) is valid kept_two.2.2 in
      record {
        kept = subst (AreKept (laid_rows new)) (sym one) made.0;
        bigs_are = ap (bigs_of (laid_rows new)) one ∙ made.1
            ∙ ap (λ frames. value (second (bigs_of (laid_rows old) frames)) (top (bigs_of (laid_rows old) frames)) ∷ others (bigs_of (laid_rows old) frames)) (sym two);
      }

-- an operation on the topmost bigraph
module _ (old new : Lists) (before rest after : List Frame) (f whole : Frame) (value : Big → Big)
    (one : reverse before ≡ f ∷ reverse rest) (made : reverse after ≡ whole ∷ reverse rest)
    (kept : AreKept (laid_rows old) (reverse before)) where
  pub changed :
      IsLaid (laid_rows new) whole (rows_below (laid_rows old) f) (value (top_of (laid_rows old) f)) → IsValid (value (top_of (laid_rows old) f))
      → IsStack new after (value (top (stack_of old before)) ∷ under (stack_of old before))
  changed is valid =
      let kept_one : AreKept (laid_rows old) (f ∷ reverse rest) = subst (AreKept (laid_rows old)) one kept in
      let put = put_on (laid_rows new) (rows_below (laid_rows old) f) whole (reverse rest) (value (top_of (laid_rows old) f)) is valid kept_one.2 in
      record {
        kept = subst (AreKept (laid_rows new)) (sym made) put.0;
        bigs_are = ap (bigs_of (laid_rows new)) made ∙ put.1
            ∙ ap (λ frames. value (top (bigs_of (laid_rows old) frames)) ∷ under (bigs_of (laid_rows old) frames)) (sym one);
      }

-- a bigraph put on top
pub added : (old new : Lists) (before after : List Frame) (whole : Frame) (big : Big) → reverse after ≡ whole ∷ reverse before
    → AreKept (laid_rows old) (reverse before) → IsLaid (laid_rows new) whole (laid_rows old) big → IsValid big → IsStack new after (big ∷ stack_of old before)
added old new before after whole big is kept lies valid =
    let put = put_on (laid_rows new) (laid_rows old) whole (reverse before) big lies valid kept in
    record { kept = subst (AreKept (laid_rows new)) (sym is) put.0; bigs_are = ap (bigs_of (laid_rows new)) is ∙ put.1 }
