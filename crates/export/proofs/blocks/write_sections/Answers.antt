use Rattle.std.proofs.Common.{sym, subst, rules}
use Rattle.export.specs.Founds.{bytes_found, found_in, may_repeat, AreMarked}
use Rattle.export.proofs.WholeFile.{stops-commit, stops-blocks, sections-taken, sections-length, walked-single}
use Rattle.export.proofs.blocks.write_sections.Goals as goal

pub returns-in_err-first-clause-taken : goal.returns-in_err-first-clause-taken
returns-in_err-first-clause-taken g c =
    stops-commit bytes_found g.D.Digest.digest_of (found_in c.args.src.now.blocks.now) c.args.commit c.args.walk c.args.seen.now
    (g.W.Out.taken c.args.out.now) (g.W.Out.taken c.write_commit.new.out)
    c.from_residual.result c.from_residual.ensures.0 c.in_err-first.ensures.taken

pub returns-in_err-others-clause-taken : goal.returns-in_err-others-clause-taken
returns-in_err-others-clause-taken g c =
    stops-blocks bytes_found g.D.Digest.digest_of (found_in c.args.src.now.blocks.now) c.args.commit c.args.walk c.args.seen.now
    (may_repeat g.D.Digest.digest_of g.row.B c.args.core.now) c.write_commit.new.seen (found_in c.write_commit.new.src.blocks.now)
    c.requires.single c.in_ok-first.ensures.seen c.in_ok-first.ensures.same
    (g.W.Out.taken c.args.out.now) (g.W.Out.taken c.write_commit.new.out) (g.W.Out.taken c.write_blocks.new.out)
    c.from_residual-in_err-others.result c.in_ok-first.ensures.taken c.from_residual-in_err-others.ensures.0 c.in_err-others.ensures.taken

pub returns-clause-taken : goal.returns-clause-taken
returns-clause-taken g c =
    sections-taken bytes_found g.D.Digest.digest_of (found_in c.args.src.now.blocks.now) c.args.commit c.args.walk c.args.seen.now
    (may_repeat g.D.Digest.digest_of g.row.B c.args.core.now) c.write_commit.new.seen (found_in c.write_commit.new.src.blocks.now)
    c.requires.single c.in_ok-first.ensures.seen c.in_ok-first.ensures.same
    (g.W.Out.taken c.args.out.now) (g.W.Out.taken c.write_commit.new.out) (g.W.Out.taken c.write_blocks.new.out)
    c.in_ok-first.ensures.taken c.in_ok-others.ensures.taken

pub returns-clause-length : goal.returns-clause-length
returns-clause-length g c =
    sections-length bytes_found g.D.Digest.digest_of (found_in c.args.src.now.blocks.now) c.args.commit c.args.walk c.args.seen.now
    (may_repeat g.D.Digest.digest_of g.row.B c.args.core.now) c.write_commit.new.seen (found_in c.write_commit.new.src.blocks.now)
    c.requires.single c.in_ok-first.ensures.seen c.in_ok-first.ensures.same
    c.in_ok-first.first c.in_ok-others.others c.saturating_add.result
    c.in_ok-first.ensures.length c.in_ok-others.ensures.length c.saturating_add.ensures

pub write_commit-requires : goal.write_commit-requires
write_commit-requires g c = (search rules, (c.requires.noted, c.requires.marked))

pub write_blocks-requires : goal.write_blocks-requires
write_blocks-requires g c = (
  search rules,
  (
    c.in_ok-first.ensures.noted,
    (
      walked-single bytes_found g.D.Digest.digest_of (found_in c.args.src.now.blocks.now) c.args.commit c.args.walk c.args.seen.now
          (may_repeat g.D.Digest.digest_of g.row.B c.args.core.now) c.write_commit.new.seen (found_in c.write_commit.new.src.blocks.now)
          c.requires.single c.in_ok-first.ensures.seen c.in_ok-first.ensures.same,
      subst (AreMarked g.D.Digest.digest_of (may_repeat g.D.Digest.digest_of g.row.B c.args.core.now)) (sym c.in_ok-first.ensures.same) c.requires.marked,
    ),
  ),
)
