-- Steps that follow one another, by induction from the law of one.
use Rattle.std.proofs.Common.{◌≡◌, ◌<◌, ◌^◌, List, [], ◌∷◌, length, refl, sym, ap, subst, ◌∙◌, Ok, arith}
use Rattle.spec.specs.Tree.{Pair}
use Rattle.spec.specs.Blocks.{ArePairs, ClashesWithNone, nodes, root, value_of}
use Rattle.spec.proofs.Taking.{bind_ok}
use Rattle.batch_laws.specs.Batch.{changed}
use Rattle.batch_laws.proofs.Lawful.{pairs-changed}
use Rattle.change_laws.proofs.Undone.{old-is_undone}
use Rattle.step_laws.specs.Turned.{done}
use Rattle.step_laws.specs.Step.{step_verdict}
use Rattle.step_laws.specs.Chain.{steps_verdict, last_root, stepped, all_stepped}
use Rattle.step_laws.specs.ChainLaws.{StepsAreTrue, StepsFromNothing, StepsLeadTo}
use Rattle.step_laws.proofs.Stepping.{step-true}

pub steps-true : StepsAreTrue
steps-true digest bits fits es are [] fit e = record { last_is = refl; pairs = are; told = tt }
steps-true digest bits fits es are (s ∷ ss) fit e =
    let here = fit.0 in
    let b = bind_ok (step_verdict digest bits (root digest bits es) s.after s.given s.changes)
    (λ shown. steps_verdict digest bits s.after ss) tt e in
    let one = step-true digest bits fits s.after es are s.given here.clash_free s.changes here.keyed b.1 in
    let next = pairs-changed (done s.changes) es are here.keyed here.own here.few in
    let rest = steps-true digest bits fits (stepped s es) next ss fit.1
    (subst (λ r. steps_verdict digest bits r ss ≡ Ok tt) one.root_is b.2) in
    record {
      last_is = ap (λ r. last_root r ss) one.root_is ∙ rest.last_is;
      pairs = rest.pairs;
      told = (one.differ, rest.told);
    }

no-pairs : ArePairs []
no-pairs = record { sorted = refl; keys = tt; values = tt; count = omega arith }

pub steps-from_nothing : StepsFromNothing
steps-from_nothing digest bits fits ss fit e = steps-true digest bits fits [] no-pairs ss fit e

-- ---- the pairs of the last root

changed-nothing : (es : List Pair) → changed [] es ≡ es
changed-nothing [] = refl
changed-nothing (e ∷ es) = ap (λ t. e ∷ t) (changed-nothing es)

pub steps-lead_to : StepsLeadTo
steps-lead_to digest bits fits es new are are_new ss fit e is free =
    let d = steps-true digest bits fits es are ss fit e in
    let last = all_stepped ss es in
    let same = changed-nothing last in
    let found = old-is_undone digest bits fits new last are_new d.pairs []
    (record { ascending = tt; keys = tt }) tt
    (subst (λ ps. length ps < 2 ^ 64) (sym same) d.pairs.count)
    (subst (λ ps. ClashesWithNone digest (nodes digest bits new) (nodes digest bits ps)) (sym same) free)
    (record {
      root_is = sym is ∙ d.last_is ∙ ap (root digest bits) (sym same);
      differ = record { before = tt; after = tt; others = λ key none. ap (value_of key) same };
    }) in
    found.0 ∙ same
