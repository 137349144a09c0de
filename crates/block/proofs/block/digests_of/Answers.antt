use Rattle.std.proofs.Common.{ℕ, List, map, sym, ap, ◌∙◌}
use Rattle.std.proofs.lemmas.Result.{IfOk-weaker}
use Rattle.block.specs.Bytes.{record_in}
use Rattle.block.proofs.Together.{map-twice}
use Rattle.block.proofs.block.digests_of.Goals as goal

pub returns : goal.returns
returns g c =
    let digest = g.D.Digest.digest_of in
    let records = c.in_ok-records.records.items in
    IfOk-weaker c.digest_each.result _ _ (λ digests is.
    is ∙ ap (map (λ bytes. digest bytes.now)) c.deref.ensures.value ∙ sym (map-twice digest (λ bytes. bytes.now) records)
    ∙ ap (λ (all : List (List ℕ)). map digest all) c.in_ok-records.ensures ∙ map-twice digest record_in c.args.writes.now)
    c.digest_each.ensures
