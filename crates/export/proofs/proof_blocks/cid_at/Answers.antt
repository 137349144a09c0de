use Rattle.std.proofs.Common.{[], ◌∙◌, sym, ap, map, subst, ◌<◌}
use Rattle.std.proofs.lemmas.List.{length-map, get_or-map}
use Rattle.spec.specs.Cid.{cid as cid_of}
use Rattle.export.proofs.Finding.{grown}
use Rattle.export.proofs.proof_blocks.cid_at.Goals as goal

pub returns-then-place-count-clause-hashed : goal.returns-then-place-count-clause-hashed
returns-then-place-count-clause-hashed g c =
    let blocks = c.args.blocks.now in
    grown g.D.Digest.digest_of (map g.K.AsSlice.items blocks) c.args.hashed.now c.push.new.self c.args.place c.of-cid.result
    (c.if-place-count.true ∙ c.count.ensures)
    (subst (λ n. c.args.place < n) (sym (length-map blocks g.K.AsSlice.items)) c.requires.within)
    (c.of-cid.ensures.value ∙ ap (cid_of g.D.Digest.digest_of) (c.as_slice.ensures ∙ ap g.K.AsSlice.items c.index-blocks-place.is ∙ sym (get_or-map g.K.AsSlice.items blocks c.args.place _ [] c.requires.within)))
    c.requires.hashed c.push.ensures
