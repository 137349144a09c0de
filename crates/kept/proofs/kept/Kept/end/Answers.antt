use Rattle.std.proofs.Common.{refl, subst}
use Rattle.kept.specs.Counts.{Keeping}
use Rattle.kept.specs.Entering.{Enters, has_entry, no_block}
use Rattle.kept.specs.Leaving.{is_held}
use Rattle.kept.specs.Uses.{keeping_of}
use Rattle.kept.proofs.Entering.{held_is, in_words}
use Rattle.kept.proofs.kept.Kept.end.Goals as goal

pub returns-clause-entered : goal.returns-clause-entered
returns-clause-entered g c =
    let me = c.self.inside.me in
    let m = c.self.inside.blocks in
    let is = c.self.invariant in
    subst (λ (k : Keeping). Enters g.D.Digest.digest_of g.S.BlockStore k.me (is_held k) no_block c.args.store.now c.end.new.store)
    c.self.view_is
    (in_words g.D.Digest.digest_of g.S.BlockStore me (has_entry m) no_block (is_held (keeping_of me m)) no_block
    c.args.store.now c.end.new.store (held_is g.D.Digest.digest_of me m is) (λ q. refl)
    (c.end.ensures.entered me (λ q u e. is.entries q u e)))
