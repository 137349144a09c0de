use Rattle.std.proofs.Common.{subst, sym, rules}
use Rattle.std.specs.Str.{IsUtf8}
use Rattle.cid.proofs.Letters.{IsUtf8-text}
use Rattle.cid.proofs.cid.CidDisplay.fmt.Goals as goal

pub unwrap-requires : goal.unwrap-requires
unwrap-requires g c =
    let letters : IsUtf8 c.text-text.result = subst IsUtf8 (sym c.text-text.ensures.value) (IsUtf8-text c.args.self.now) in
    let read = c.from_utf8.ensures.cases in
    search rules
