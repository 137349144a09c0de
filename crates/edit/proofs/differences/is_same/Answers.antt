use Rattle.std.proofs.Common.{rules}
use Rattle.std.specs.Arc.{arc_value}
use Rattle.spec.specs.Blocks.{IsClash}
use Rattle.edit.proofs.Among.{clash-two}
use Rattle.edit.proofs.differences.is_same.Goals as goal

pub returns-then-eq-clause-found : goal.returns-then-eq-clause-found
returns-then-eq-clause-found g c = search rules

pub returns-clause-fault : goal.returns-clause-fault
returns-clause-fault g c =
    let h : IsClash g.D.Digest.digest_of (arc_value c.args.one.now) (arc_value c.args.other.now) = search rules in
    clash-two g.D.Digest.digest_of (arc_value c.args.one.now) (arc_value c.args.other.now) c.in_ok-of_shared.field-0 h c.in_ok-of_shared.ensures
