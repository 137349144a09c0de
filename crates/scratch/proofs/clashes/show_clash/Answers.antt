use Rattle.std.specs.Arc.{arc_value}
use Rattle.std.proofs.lemmas.Result.{IfOk-weaker}
use Rattle.scratch.proofs.Whole.{clash-at, clash-in}
use Rattle.scratch.proofs.clashes.show_clash.Goals as goal

pub of_shared-requires : goal.of_shared-requires
of_shared-requires g c =
    (clash-at arc_value g.D.Digest.digest_of c.args.blocks.now c.args.one c.args.other c.index-blocks-one.result c.index-blocks-other.result c.requires
    c.index-blocks-one.is c.index-blocks-other.is).2

pub returns : goal.returns
returns g c =
    IfOk-weaker c.of_shared.result _ _
    (λ pair is. clash-in arc_value g.D.Digest.digest_of c.args.blocks.now c.args.one c.args.other c.index-blocks-one.result c.index-blocks-other.result pair c.requires
    c.index-blocks-one.is c.index-blocks-other.is is) c.of_shared.ensures
