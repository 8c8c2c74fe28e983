use Rattle.std.proofs.Common.{◌+◌, refl, arith}
use Rattle.bg_text.specs.Tokens.{IsRefusal}
use Rattle.bg_text.proofs.Cutting.{after_gap, after_token, whole_cut, refused_there}
use Rattle.bg_text.proofs.Unique.{tokens_once, refused_has_none, refused_once}
use Rattle.bg_text.proofs.lex.tokens.Goals as goal

pub loop-at-preserved-in-Gap : goal.loop-at-preserved-in-Gap
loop-at-preserved-in-Gap c = record {
  inside = omega (arith, c.in-Gap.ensures.within.1);
  on = after_gap c.args.bytes.now c.loop-at.tokens.items c.loop-at.at c.in-Gap.size c.loop-at.invariant.on (rw c.split_at.ensures.back at c.in-Gap.ensures.is);
}

pub loop-at-preserved : goal.loop-at-preserved
loop-at-preserved c = record {
  inside = omega (arith, c.in-Token.ensures.within.1);
  on = rw c.in_ok-push-in-Token.ensures.items (after_token c.args.bytes.now c.loop-at.tokens.items c.loop-at.at c.in-Token.size c.in-Token.kind c.loop-at.invariant.on (rw c.split_at.ensures.back at c.in-Token.ensures.is));
}

pub returns-in-Bad-clause-fault : goal.returns-in-Bad-clause-fault
returns-in-Bad-clause-fault c =
    let refusal : IsRefusal c.args.bytes.now c.in-Bad.code (c.loop-at.at + c.in-Bad.apart) =
    refused_there c.args.bytes.now c.loop-at.tokens.items c.loop-at.at c.in-Bad.code c.in-Bad.apart (c.loop-at.at + c.in-Bad.apart) c.loop-at.invariant.on (rw c.split_at.ensures.back at c.in-Bad.ensures.is) refl in
    record {
      refusal = refusal;
      once = λ other away. refused_once c.args.bytes.now c.in-Bad.code (c.loop-at.at + c.in-Bad.apart) other away refusal;
      no_tokens = refused_has_none c.args.bytes.now c.in-Bad.code (c.loop-at.at + c.in-Bad.apart) refusal;
    }

pub returns-clause-tokens : goal.returns-clause-tokens
returns-clause-tokens c = whole_cut c.args.bytes.now c.loop-at.tokens.items c.loop-at.at c.loop-at.invariant.on c.loop-at.invariant.inside c.loop-at-test.false

pub returns-clause-once : goal.returns-clause-once
returns-clause-once c = λ others a.
    tokens_once c.args.bytes.now others c.loop-at.tokens.items a (whole_cut c.args.bytes.now c.loop-at.tokens.items c.loop-at.at c.loop-at.invariant.on c.loop-at.invariant.inside c.loop-at-test.false)
