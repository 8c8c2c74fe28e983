use Rattle.std.proofs.Common.{◌<◌, List, length, All, ℕ, sym, subst, ◌∙◌, arith}
use Rattle.bg_base.specs.declared.big.Big.{Big}
use Rattle.bg_rules.specs.LocalConditions.{MeetsLocally}
use Rattle.bg_rules.specs.Solid.{IsPattern}
use Rattle.bg_rules.proofs.Occurrences.{occurs_locally}
use Rattle.bg_index.proofs.reading.read.Goals as goal

pub read_at-requires : goal.read_at-requires
read_at-requires c =
    let redex = sym (c.big.ensures.same ∙ c.redex.ensures.same) in
    let entries = sym (c.as_slice.ensures.same ∙ c.map.ensures.same) in
    let local = occurs_locally c.args.host.now.big c.args.rule.now.redex c.requires.rule.sides.is_pattern c.requires.host.numbered.ground c.args.map.now
    c.requires.occurs in
    record {
      host = c.requires.host;
      pattern = subst IsPattern redex c.requires.rule.sides.is_pattern;
      meets = subst (λ (b : Big). MeetsLocally c.args.host.now.big b c.args.map.now) redex local;
      entries_there = subst (λ (b : Big). All (λ entry. entry < length b.sites) c.as_slice.result.now) redex
          (subst (λ (xs : List ℕ). All (λ entry. entry < length c.args.rule.now.redex.sites) xs) entries c.requires.rule.sides.fits.entries_there);
      few = (let small = c.as_slice.ensures.small in omega (arith, small));
    }

pub returns : goal.returns
returns c =
    record {
      is_host = c.requires.host;
      is_rule = c.requires.rule;
      occurs = c.requires.occurs;
      reads = c.in_ok-reading.ensures c.args.rule.now (sym (c.big.ensures.same ∙ c.redex.ensures.same)) (sym (c.as_slice.ensures.same ∙ c.map.ensures.same));
    }
