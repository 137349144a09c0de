use Rattle.std.proofs.Common.{◌∙◌, ◌∷◌, [], ◌+◌, ◌++◌, take, ap, sym, refl, arith, ◌≡◌}
use Rattle.kept.specs.Counts.{Counts, lost, lowered}
use Rattle.kept.specs.Uses.{at, counted}
use Rattle.kept.proofs.Counting.{lowered_counted}
use Rattle.kept.proofs.Entering.{following_on}
use Rattle.kept.proofs.Exchanging.{one_further}
use Rattle.kept.proofs.Gains.{lost-more}
use Rattle.kept.proofs.use_map.UseMap.lose.Goals as goal

pub loop-cid-preserved : goal.loop-cid-preserved
loop-cid-preserved g c =
    let so_far = c.loop-cid in
    let go = c.args.go.now in
    let x = c.cid-item.result in
    let before = counted c.args.self.now in
    let more : take (so_far.cid-index + 1) go ≡ take so_far.cid-index go ++ x ∷ [] = one_further go so_far.cid-index x (omega arith) c.cid-item.is in
    record {
      lost = lowered_counted so_far.self c.lower.new.self x (at so_far.self x) refl c.lower.ensures.lowered
          ∙ ap (λ (m : Counts). lowered m x) so_far.invariant.lost
          ∙ sym (lost-more before (take so_far.cid-index go) x)
          ∙ ap (lost before) (sym more);
      fulls = c.lower.ensures.fulls ∙ so_far.invariant.fulls;
      followed = following_on g.D.Digest.digest_of g.S.BlockStore (at c.args.self.now) (at so_far.self) (at c.lower.new.self)
          c.args.store.now so_far.store c.lower.new.store so_far.invariant.followed c.lower.ensures.followed;
    }
