use Rattle.std.proofs.Common.{◌≡◌, ap, ◌∙◌, arith}
use Rattle.spec.specs.DagCbor.{spelling, read}
use Rattle.spec.proofs.DagCborLaws.{read-spelling}
use Rattle.dagcbor.specs.View.{view}
use Rattle.dagcbor.proofs.writing.write.Goals as goal

pub returns-clause-reads_back : goal.returns-clause-reads_back
returns-clause-reads_back g c =
    let spelled : c.push_value.new.out.items ≡ spelling (view c.args.value.now) = grind arith in
    ap read spelled ∙ read-spelling (view c.args.value.now) c.requires
