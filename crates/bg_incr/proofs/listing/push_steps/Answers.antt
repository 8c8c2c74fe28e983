use Rattle.std.proofs.Common.{◌≡◌, ◌+◌, ◌<◌, ◌≤◌, ◌⊎◌, ◌∙◌, None, inl, inr, ◌++◌, length, take, rules, sym, subst}
use Rattle.bg_lists.proofs.Places.{Mem-from_At}
use Rattle.bg_lists.proofs.Words.{All-member}
use Rattle.bg_cond.specs.Found.{IsEnabledBelow}
use Rattle.bg_cond.specs.Steps.{AreFirst}
use Rattle.bg_cond.proofs.FirstSteps.{found_skipped}
use Rattle.bg_cond.proofs.Upto.{item_at}
use Rattle.bg_incr.specs.Finders.{IsKeepable, steps_at}
use Rattle.bg_incr.proofs.KeptSteps.{first_joined}
use Rattle.bg_incr.proofs.listing.push_steps.Goals.{else-not-is_whole-via-then-not-is_whole+else-saturating_add-most, else-not-is_whole-via-else-not-is_whole}
use Rattle.bg_incr.proofs.listing.push_steps.Goals as goal

pub returns-then-class : goal.returns-then-class
returns-then-class c =
    let at = item_at c.args.rules.now c.args.number c.index-rules-number.result c.requires.there c.index-rules-number.is in
    λ yes. found_skipped c.args.most c.args._host.now c.args.rules.now c.args.class c.args.number c.index-rules-number.result at
    (λ e. c.if-class.true (c.class.ensures ∙ e)) c.requires.before

pub returns : goal.returns
returns c =
    let rule = c.index-rules-number.result in
    let list = c.index-lists-number.result in
    let inside : c.args.number < length c.args.lists.now = search rules in
    let of_class : rule.class ≡ c.args.class = search rules in
    let at = item_at c.args.rules.now c.args.number rule c.requires.there c.index-rules-number.is in
    let is_kept = c.requires.kept.kept.each c.args.number rule list at (item_at c.args.lists.now c.args.number list inside c.index-lists-number.is) in
    let enough : (list.first.bound ≡ None) ⊎ (c.args.most ≤ length c.args.steps.now.items + length list.first.maps.items) =
    elim c.else-not-is_whole.branch [
      | else-not-is_whole-via-then-not-is_whole+else-saturating_add-most w ↦ inr (search (rules, w))
      | else-not-is_whole-via-else-not-is_whole w ↦ inl (search (rules, w))
    ] in
    let pushed : c.push_kept.new.steps.items ≡ take c.args.most (c.args.steps.now.items ++ steps_at c.args.number list.first.maps.items) = search rules in
    λ yes. subst (AreFirst c.args.most (IsEnabledBelow c.args._host.now c.args.rules.now c.args.class (c.args.number + 1))) (sym pushed)
    (first_joined c.args.most c.args._host.now c.args.rules.now c.args.class c.args.number rule at of_class
    (All-member IsKeepable c.args.rules.now c.requires.kept.keepable (Mem-from_At at)).bare list.first.bound list.first.maps.items is_kept.first.maps
    c.args.steps.now.items c.requires.before enough)
