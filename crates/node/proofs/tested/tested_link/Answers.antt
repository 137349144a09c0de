use Rattle.std.proofs.Common.{take, ap, ◌∙◌}
use Rattle.std.proofs.lemmas.List.{take_rest}
use Rattle.spec.specs.Cid.{is_own_cid}
use Rattle.cid.specs.CidRef.{bytes_of}
use Rattle.node.proofs.ReadAgain.{link-own, none-own}
use Rattle.node.proofs.tested.tested_link.Goals as goal

pub unreachable-requires : goal.unreachable-requires
unreachable-requires c =
    let bytes = c.args.bytes.now in
    let own = ap is_own_cid (c.split_at.ensures.front ∙ ap (take 36) (take_rest bytes 5)) ∙ link-own bytes c.requires in
    none-own bytes_of c.from_bytes.result (is_own_cid c.split_at.result.0.now) c.split_at.result.0.now c.from_bytes.ensures c.in-None.is own
