use Rattle.std.proofs.Common.{IsUtf8, rules, subst, sym}
use Rattle.bg_base.proofs.Ascii.{utf8_from_ident}
use Rattle.bg_base.proofs.text.Ident.as_str.Goals as goal

pub unwrap-requires : goal.unwrap-requires
unwrap-requires c = let text : IsUtf8 c.as_bytes.result.now = subst IsUtf8 (sym c.as_bytes.ensures.same) (utf8_from_ident c.args.self.now c.as_bytes.ensures.spelled) in search rules
