use Rattle.std.proofs.Common.{◌∙◌, sym, ap, subst}
use Rattle.kept.specs.Uses.{Uses, IsKept, counted}
use Rattle.kept.proofs.Counting.{kept_empty, counted_empty}
use Rattle.kept.proofs.Keepings.{keeping_same}
use Rattle.kept.proofs.kept.Kept.open.Goals as goal

pub invariant_of-result : goal.invariant_of-result
invariant_of-result g c =
    subst (λ (m : Uses g.row.D.Denot g.row.A.Denot). IsKept g.D.Digest.digest_of c.args.me m) (sym c.new.ensures)
    (kept_empty g.D.Digest.digest_of c.args.me c.requires)

pub returns : goal.returns
returns g c = keeping_same c.args.me (ap (λ (m : Uses g.row.D.Denot g.row.A.Denot). counted m) c.new.ensures ∙ counted_empty g.row.D.Denot g.row.A.Denot)
