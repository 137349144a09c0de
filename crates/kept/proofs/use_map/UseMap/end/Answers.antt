use Rattle.std.proofs.Common.{◌≡◌, ◌∙◌, ◌<◌, [], arith, length, subst, refl}
use Rattle.kept.specs.Uses.{at}
use Rattle.kept.proofs.Entries.{listed_at, shown_at}
use Rattle.kept.proofs.Entering.{following_first, following_on, following_gone, following_last}
use Rattle.kept.proofs.use_map.UseMap.end.Goals as goal

pub loop-held-init : goal.loop-held-init
loop-held-init g c =
    let es = c.self.inside.blocks.entries in
    record {
      fulls = refl;
      following = following_first g.D.Digest.digest_of g.S.BlockStore (at c.args.self) (listed_at es) c.args.store.now
          (shown_at es c.args.self c.self.view_is);
    }

pub loop-held-preserved : goal.loop-held-preserved
loop-held-preserved g c =
    let dig = g.D.Digest.digest_of in
    let es = c.loop-held.blocks.entries in
    let fs = c.take_one.new.blocks.entries in
    let taken = c.in-Some.ensures.taken in
    let kept = c.loop-held.invariant in
    record {
      fulls = c.give_back.ensures.counted ∙ kept.fulls;
      following = following_on dig g.S.BlockStore (at c.args.self) (listed_at es) (listed_at fs)
          c.args.store.now c.loop-held.store c.give_back.new.store kept.following
          (following_gone dig g.S.BlockStore (listed_at es) (listed_at fs) c.loop-held.store c.give_back.new.store
          c.in-Some.field-0-0 c.in-Some.held taken.here taken.gone c.give_back.ensures.left);
    }

pub returns-clause-entered : goal.returns-clause-entered
returns-clause-entered g c =
    following_last g.D.Digest.digest_of g.S.BlockStore (at c.args.self) c.loop-held.blocks.entries
    c.args.store.now c.loop-held.store c.loop-held.invariant.following
    (λ some. let none : c.loop-held.blocks.entries ≡ [] = c.in_default.ensures.none in
    absurd (let never : 0 < 0 = subst (λ xs. 0 < length xs) none some in omega (arith, never)))
