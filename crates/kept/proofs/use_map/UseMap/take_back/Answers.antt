use Rattle.std.proofs.Common.{◌≡◌, ◌∙◌, ◌∷◌, [], ◌+◌, ◌-◌, ◌++◌, take, ap, refl, subst, arith, ℕ, List}
use Rattle.std.specs.Arc.{arc_value}
use Rattle.spec.specs.Cid.{cid as cid_of}
use Rattle.kept.specs.Counts.{Counts, ComeAlone, gained, lowered}
use Rattle.kept.specs.Uses.{at}
use Rattle.kept.proofs.Counting.{lowered_counted}
use Rattle.kept.proofs.Entering.{following_on}
use Rattle.kept.proofs.Exchanging.{bytes_of, block_further, alone_take}
use Rattle.kept.proofs.Gains.{last-taken_back}
use Rattle.kept.proofs.use_map.UseMap.take_back.Goals as goal

pub loop-left-preserved : goal.loop-left-preserved
loop-left-preserved g c =
    let dig = g.D.Digest.digest_of in
    let so_far = c.loop-left in
    let came = c.args.came.now in
    let x = c.index-came-left.result in
    let i = so_far.left - 1 in
    let next : so_far.left ≡ i + 1 = omega arith in
    let within = so_far.invariant.within in
    let first = bytes_of (take i came) in
    let more : bytes_of (take (i + 1) came) ≡ first ++ arc_value x ∷ [] = block_further came i x (omega arith) c.index-came-left.is in
    let name : c.cid.result ≡ cid_of dig (arc_value x) =
    c.cid.ensures ∙ ap (cid_of dig) c.deref.ensures in
    record {
      within = omega (arith, within);
      taken_back = λ before used alone is.
          lowered_counted so_far.self c.lower.new.self c.cid.result (at so_far.self c.cid.result) refl c.lower.ensures.lowered
          ∙ ap (λ (m : Counts). lowered m c.cid.result)
          (so_far.invariant.taken_back before used alone is ∙ ap (λ (k : ℕ). gained dig before (bytes_of (take k came))) next ∙ ap (gained dig before) more)
          ∙ ap (lowered (gained dig before (first ++ arc_value x ∷ []))) name
          ∙ last-taken_back dig before first (arc_value x) used
          (subst (λ (bs : List (List ℕ)). ComeAlone dig before bs) more (alone_take dig before came (i + 1) alone));
      fulls = c.lower.ensures.fulls ∙ so_far.invariant.fulls;
      followed = following_on dig g.S.BlockStore (at c.args.self.now) (at so_far.self) (at c.lower.new.self)
          c.args.store.now so_far.store c.lower.new.store so_far.invariant.followed c.lower.ensures.followed;
    }
