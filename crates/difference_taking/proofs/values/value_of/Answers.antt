use Rattle.std.proofs.Common.{Some, sym, ap, ◌∙◌}
use Rattle.std.specs.Prelude.{option_map}
use Rattle.spec.specs.Cid.{cid}
use Rattle.spec.specs.States.{records}
use Rattle.spec.proofs.RecordPairs.{value-record}
use Rattle.difference_taking.proofs.values.value_of.Goals as goal

pub returns-in-Some : goal.returns-in-Some
returns-in-Some g c =
    let digest = g.D.Digest.digest_of in
    ap (λ v. Some v) c.cid.ensures ∙ ap (option_map (cid digest)) c.in-Some.ensures.value
    ∙ sym (value-record digest (records c.args.core.now) c.args.key.now).0

pub returns-in-None : goal.returns-in-None
returns-in-None g c =
    let digest = g.D.Digest.digest_of in
    ap (option_map (cid digest)) c.in-None.ensures.value
    ∙ sym (value-record digest (records c.args.core.now) c.args.key.now).0
