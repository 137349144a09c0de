use Rattle.std.proofs.Common.{List, length, get_or, ap, ◌∙◌, subst, arith}
use Rattle.spec.specs.States.{State, IsLawful}
use Rattle.closing.specs.Settling.{ClosedView}
use Rattle.closing.specs.Headline.{AreTallies}
use Rattle.closing.proofs.Tallies.{count_is_tally}
use Rattle.closing.proofs.closed.Closed.shown.Goals as goal

pub element-requires : goal.element-requires
element-requires g c =
    let here = ap (λ (ss : List State). length ss) c.deref.ensures.value in
    let view = ap (λ (v : ClosedView). length v.cores) c.self.view_is in
    omega (arith, here, view, c.requires)

pub returns-clause-lawful : goal.returns-clause-lawful
returns-clause-lawful g c d = subst IsLawful
    (c.element.ensures.value d
    ∙ ap (λ (ss : List State). get_or ss c.args.number d) (c.deref.ensures.value ∙ ap (λ (v : ClosedView). v.cores) c.self.view_is))
    c.show.ensures.lawful

pub returns-clause-accepted : goal.returns-clause-accepted
returns-clause-accepted g c d =
    c.show.ensures.accepted
    ∙ ap (λ (s : State). s.accepted) (c.element.ensures.value d)
    ∙ ap (λ (ss : List State). (get_or ss c.args.number d).accepted) (c.deref.ensures.value ∙ ap (λ (v : ClosedView). v.cores) c.self.view_is)

pub returns-clause-stamps : goal.returns-clause-stamps
returns-clause-stamps g c d =
    c.show.ensures.stamps
    ∙ ap (λ (s : State). s.stamps) (c.element.ensures.value d)
    ∙ ap (λ (ss : List State). (get_or ss c.args.number d).stamps) (c.deref.ensures.value ∙ ap (λ (v : ClosedView). v.cores) c.self.view_is)

pub returns-clause-counts : goal.returns-clause-counts
returns-clause-counts g c =
    subst (λ (v : ClosedView). AreTallies g.D.Digest.digest_of g.row.B v.cores v.tables) c.self.view_is
    (λ cid. count_is_tally g.D.Digest.digest_of g.row.B c.self.inside.repositories.cores.items c.self.inside.repositories.tables c.self.invariant.settled.even cid)
