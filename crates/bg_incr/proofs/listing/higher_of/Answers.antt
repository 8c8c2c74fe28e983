use Rattle.std.proofs.Common.{◌≡◌, false, rules}
use Rattle.bg_cond.specs.Found.{is_higher}
use Rattle.bg_cond.proofs.FirstClass.{kept_lower}
use Rattle.bg_incr.proofs.listing.higher_of.Goals as goal

pub returns : goal.returns
returns c =
    let lower : is_higher c.args.rule.now.class c.args.first ≡ false = search rules in
    kept_lower c.args._host.now c.args.rule.now c.args.first lower
