use Rattle.std.proofs.Common.{◌≡◌, ◌<◌, ℕ, List, [], ◌∷◌, length, map, sym, ◌∙◌, subst, arith, rules}
use Rattle.std.specs.declared.option.Option.TheVariants.{None, Some}
use Rattle.std.specs.Arc.{arc_value}
use Rattle.spec.specs.Cid.{cid}
use Rattle.edit.specs.Among.{IsAmong}
use Rattle.edit.specs.Refusals.{IsRefusal}
use Rattle.edit.proofs.Results.{if-ok, if-err}
use Rattle.edit.proofs.Among.{refusal-within, two-within}
use Rattle.edit.specs.Firsts.{first_place}
use Rattle.edit.proofs.Placed.{has-first, among-none, found-within, among-found}
use Rattle.edit.proofs.differences.is_among.Goals as goal

pub returns-in_default-clause-found : goal.returns-in_default-clause-found
returns-in_default-clause-found g c =
    let bytes = g.T.Shown.bytes in
    let cid_is : c.cid-cid.result ≡ cid g.D.Digest.digest_of (arc_value c.args.block.now) = search rules in
    among-none bytes g.D.Digest.digest_of (arc_value c.args.block.now) c.args.others.now
    (subst (λ k. first_place k (map (cid g.D.Digest.digest_of) (map bytes c.args.others.now)) ≡ None) cid_is
    (sym (has-first c.args.places.now (map (cid g.D.Digest.digest_of) (map bytes c.args.others.now)) c.requires c.cid-cid.result) ∙ sym c.find.ensures ∙ c.in_default.is))

pub unreachable-requires : goal.unreachable-requires
unreachable-requires g c =
    let bytes = g.T.Shown.bytes in
    let cid_is : c.cid-cid.result ≡ cid g.D.Digest.digest_of (arc_value c.args.block.now) = search rules in
    let l : c.in-Some.place < length c.args.others.now =
    found-within bytes g.D.Digest.digest_of (arc_value c.args.block.now) c.args.others.now c.in-Some.place
    (subst (λ k. first_place k (map (cid g.D.Digest.digest_of) (map bytes c.args.others.now)) ≡ Some c.in-Some.place) cid_is
    (sym (has-first c.args.places.now (map (cid g.D.Digest.digest_of) (map bytes c.args.others.now)) c.requires c.cid-cid.result) ∙ sym c.find.ensures ∙ c.in-Some.is)) in
    let k = c.in_default-get.ensures.lookup.3 in
    omega (arith, l, k)

pub returns-clause-found : goal.returns-clause-found
returns-clause-found g c =
    let bytes = g.T.Shown.bytes in
    let digest = g.D.Digest.digest_of in
    let block = arc_value c.args.block.now in
    let cid_is : c.cid-cid.result ≡ cid digest block = search rules in
    let first : first_place (cid digest block) (map (cid digest) (map bytes c.args.others.now)) ≡ Some c.in-Some.place =
    subst (λ k. first_place k (map (cid digest) (map bytes c.args.others.now)) ≡ Some c.in-Some.place) cid_is
    (sym (has-first c.args.places.now (map (cid g.D.Digest.digest_of) (map bytes c.args.others.now)) c.requires c.cid-cid.result) ∙ sym c.find.ensures ∙ c.in-Some.is) in
    if-ok c.is_same.result (λ b a.
    among-found bytes digest block c.args.others.now c.in-Some.place c.in-Some-get.other.now b first
    c.in-Some-get.ensures.lookup.1
    (subst (λ (x : List ℕ). IsAmong digest block (x ∷ []) b) c.shown.ensures a))
    c.is_same.ensures.found

pub returns-clause-fault : goal.returns-clause-fault
returns-clause-fault g c =
    let bytes = g.T.Shown.bytes in
    let digest = g.D.Digest.digest_of in
    let block = arc_value c.args.block.now in
    let other = bytes c.in-Some-get.other.now in
    if-err c.is_same.result (λ f r.
    refusal-within digest ⊥ (block ∷ other ∷ []) (block ∷ map bytes c.args.others.now) f
    (two-within bytes block c.args.others.now c.in-Some.place c.in-Some-get.other.now c.in-Some-get.ensures.lookup.3.0
    c.in-Some-get.ensures.lookup.1)
    (subst (λ (x : List ℕ). IsRefusal digest (block ∷ x ∷ []) ⊥ f) c.shown.ensures r))
    c.is_same.ensures.fault
