use Rattle.std.proofs.Common.{[], refl, rules}
use Rattle.export.specs.Founds.{bytes_found, found_in, may_repeat}
use Rattle.export.proofs.Leaving.{takes-nothing}
use Rattle.export.proofs.SignedFile.{file-length, file-taken, stops-commit, stops-name, stops-tree, walk-single}
use Rattle.export.proofs.Singles.{none-noted}
use Rattle.export.proofs.signed.write_signed.Goals as goal

pub returns-in_err-clone-clause-taken : goal.returns-in_err-clone-clause-taken
returns-in_err-clone-clause-taken g c =
    takes-nothing (g.W.Out.taken c.args.out.now) _ c.from_residual.result c.from_residual.ensures.0

pub returns-in_err-header-clause-taken : goal.returns-in_err-header-clause-taken
returns-in_err-header-clause-taken g c =
    let source = found_in c.args.src.now.blocks.now in
    stops-name bytes_found g.D.Digest.digest_of source c.args.most c.args.commit.now c.args.root [] _ refl refl c.cid.result c.cid.ensures
    (g.W.Out.taken c.args.out.now) (g.W.Out.taken c.write_header.new.out) c.from_residual-in_err-header.result
    c.from_residual-in_err-header.ensures.0 c.in_err-header.ensures.taken

pub returns-in_err-first-clause-taken : goal.returns-in_err-first-clause-taken
returns-in_err-first-clause-taken g c =
    let source = found_in c.args.src.now.blocks.now in
    stops-commit bytes_found g.D.Digest.digest_of source c.args.most c.args.commit.now c.args.root [] _ refl refl c.cid.result c.cid.ensures
    (g.W.Out.taken c.args.out.now) (g.W.Out.taken c.write_header.new.out) (g.W.Out.taken c.write_section.new.out) c.from_residual-in_err-first.result
    c.in_ok-header.ensures.taken c.from_residual-in_err-first.ensures.0 c.in_err-first.ensures.taken

pub returns-in_err-others-clause-taken : goal.returns-in_err-others-clause-taken
returns-in_err-others-clause-taken g c =
    let source = found_in c.args.src.now.blocks.now in
    stops-tree bytes_found g.D.Digest.digest_of source c.args.most c.args.commit.now c.args.root c.none-seen.result c.from_top-walk.result
    c.none-seen.ensures c.from_top-walk.ensures c.cid.result c.cid.ensures
    (g.W.Out.taken c.args.out.now) (g.W.Out.taken c.write_header.new.out) (g.W.Out.taken c.write_section.new.out) (g.W.Out.taken c.write_blocks.new.out)
    c.from_residual-in_err-others.result c.in_ok-header.ensures.taken c.in_ok-first.ensures.taken c.from_residual-in_err-others.ensures.0
    c.in_err-others.ensures.taken

pub returns-clause-taken : goal.returns-clause-taken
returns-clause-taken g c =
    let source = found_in c.args.src.now.blocks.now in
    file-taken bytes_found g.D.Digest.digest_of source c.args.most c.args.commit.now c.args.root c.none-seen.result c.from_top-walk.result
    c.none-seen.ensures c.from_top-walk.ensures c.cid.result c.cid.ensures
    (g.W.Out.taken c.args.out.now) (g.W.Out.taken c.write_header.new.out) (g.W.Out.taken c.write_section.new.out) (g.W.Out.taken c.write_blocks.new.out)
    c.in_ok-header.ensures.taken c.in_ok-first.ensures.taken c.in_ok-others.ensures.taken

pub returns-clause-length : goal.returns-clause-length
returns-clause-length g c =
    let source = found_in c.args.src.now.blocks.now in
    file-length bytes_found g.D.Digest.digest_of source c.args.most c.args.commit.now c.args.root c.none-seen.result c.from_top-walk.result
    c.none-seen.ensures c.from_top-walk.ensures c.cid.result c.cid.ensures
    c.in_ok-header.header c.in_ok-first.first c.in_ok-others.others c.saturating_add-sections.result c.saturating_add.result
    c.in_ok-header.ensures.length c.in_ok-first.ensures.length c.in_ok-others.ensures.length c.saturating_add-sections.ensures c.saturating_add.ensures

pub write_blocks-requires : goal.write_blocks-requires
write_blocks-requires g c = (
  search rules,
  (
    none-noted (may_repeat g.D.Digest.digest_of g.row.B c.args.core.now) c.none-seen.result c.none-seen.ensures,
    (
      walk-single bytes_found g.D.Digest.digest_of (found_in c.args.src.now.blocks.now) c.args.most c.args.commit.now c.args.root
          (may_repeat g.D.Digest.digest_of g.row.B c.args.core.now) c.from_top-walk.result c.from_top-walk.ensures c.requires.single,
      c.requires.marked,
    ),
  ),
)
