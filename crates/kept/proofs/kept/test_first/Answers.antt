use Rattle.std.proofs.Common.{ap, sym, ◌∙◌}
use Rattle.std.specs.Arc.{arc_value}
use Rattle.spec.specs.Cid.{cid}
use Rattle.kept.proofs.Fronting.{first-named}
use Rattle.kept.proofs.kept.test_first.Goals as goal

pub collision-requires-clause-one_cid : goal.collision-requires-clause-one_cid
collision-requires-clause-one_cid g c =
    sym (first-named g.D.Digest.digest_of c.args.blocks.now.blocks c.cid.result c.in-Some.first.now (sym c.in-Some.ensures.found)
    ∙ c.cid.ensures ∙ ap (cid g.D.Digest.digest_of) c.deref.ensures)
