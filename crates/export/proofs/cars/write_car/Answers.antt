use Rattle.std.proofs.Common.{rules}
use Rattle.export.specs.Founds.{bytes_found, found_in, may_repeat}
use Rattle.export.proofs.Leaving.{takes-nothing}
use Rattle.export.proofs.Singles.{none-noted}
use Rattle.export.proofs.WholeFile.{stops-header, stops-sections, file-taken, file-length, due-single}
use Rattle.export.proofs.cars.write_car.Goals as goal

pub returns-in_err-clone-clause-taken : goal.returns-in_err-clone-clause-taken
returns-in_err-clone-clause-taken g c =
    takes-nothing (g.W.Out.taken c.args.out.now) _ c.from_residual.result c.from_residual.ensures.0

pub returns-in_err-header-clause-taken : goal.returns-in_err-header-clause-taken
returns-in_err-header-clause-taken g c =
    stops-header bytes_found g.D.Digest.digest_of (found_in c.args.src.now.blocks.now) c.args.most c.args.commit c.args.root
    (g.W.Out.taken c.args.out.now) (g.W.Out.taken c.write_header.new.out) c.root_of.result c.from_residual-in_err-header.result
    c.root_of.ensures c.from_residual-in_err-header.ensures.0 c.in_err-header.ensures.taken

pub returns-in_err-others-clause-taken : goal.returns-in_err-others-clause-taken
returns-in_err-others-clause-taken g c =
    stops-sections bytes_found g.D.Digest.digest_of (found_in c.args.src.now.blocks.now) c.args.most c.args.commit c.args.root
    c.root_of.result c.none-seen.result c.from_top-walk.result c.root_of.ensures c.none-seen.ensures c.from_top-walk.ensures
    (g.W.Out.taken c.args.out.now) (g.W.Out.taken c.write_header.new.out) (g.W.Out.taken c.write_sections.new.out)
    c.from_residual-in_err-others.result c.in_ok-header.ensures.taken c.from_residual-in_err-others.ensures.0 c.in_err-others.ensures.taken

pub returns-clause-taken : goal.returns-clause-taken
returns-clause-taken g c =
    file-taken bytes_found g.D.Digest.digest_of (found_in c.args.src.now.blocks.now) c.args.most c.args.commit c.args.root
    c.root_of.result c.none-seen.result c.from_top-walk.result c.root_of.ensures c.none-seen.ensures c.from_top-walk.ensures
    (g.W.Out.taken c.args.out.now) (g.W.Out.taken c.write_header.new.out) (g.W.Out.taken c.write_sections.new.out)
    c.in_ok-header.ensures.taken c.in_ok-others.ensures.taken

pub returns-clause-length : goal.returns-clause-length
returns-clause-length g c =
    file-length bytes_found g.D.Digest.digest_of (found_in c.args.src.now.blocks.now) c.args.most c.args.commit c.args.root
    c.root_of.result c.none-seen.result c.from_top-walk.result c.root_of.ensures c.none-seen.ensures c.from_top-walk.ensures
    c.in_ok-header.header c.in_ok-others.others c.saturating_add.result
    c.in_ok-header.ensures.length c.in_ok-others.ensures.length c.saturating_add.ensures

pub write_sections-requires : goal.write_sections-requires
write_sections-requires g c = (
  search rules,
  (
    none-noted (may_repeat g.D.Digest.digest_of g.row.B c.args.core.now) c.none-seen.result c.none-seen.ensures,
    (
      due-single bytes_found g.D.Digest.digest_of (found_in c.args.src.now.blocks.now) c.args.most c.args.commit c.args.root
          (may_repeat g.D.Digest.digest_of g.row.B c.args.core.now) c.from_top-walk.result c.from_top-walk.ensures c.requires.single,
      c.requires.marked,
    ),
  ),
)
