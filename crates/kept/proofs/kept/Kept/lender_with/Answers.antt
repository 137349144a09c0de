use Rattle.std.proofs.Common.{◌≡◌, ℕ, List, map, sym, ap, subst, ◌∙◌, Some, Option}
use Rattle.std.specs.Prelude.{option_map}
use Rattle.std.specs.Arc.{arc_value}
use Rattle.std.specs.declared.sync.Arc.{Arc}
use Rattle.lookups.specs.Maps.{Lending, first_of}
use Rattle.kept.specs.Alone.{AreAlone}
use Rattle.kept.specs.Counts.{Keeping}
use Rattle.kept.specs.Fronts.{in_front}
use Rattle.kept.specs.Uses.{counted, lent}
use Rattle.kept.proofs.Fronting.{alone-free, fronted}
use Rattle.kept.proofs.kept.Kept.lender_with.Goals as goal

pub returns-clause-blocks : goal.returns-clause-blocks
returns-clause-blocks g c q b h =
    let dig = g.D.Digest.digest_of in
    let come = c.args.come.now in
    let alone = subst (λ (k : Keeping). AreAlone dig (first_of dig come) k.uses (map arc_value come)) c.self.view_is
    (subst (λ (m : Lending (Arc (List ℕ) g.row.A.Denot)). AreAlone dig (first_of dig m.blocks) (counted c.self.inside.blocks) (map arc_value come))
    c.in_ok-front.ensures c.in_ok-test_alone.ensures.alone) in
    subst (λ (f : List ℕ → Option (Arc (List ℕ) g.row.A.Denot)). option_map arc_value (in_front f (lent c.lender.result.blocks.now) q) ≡ Some b)
    (sym (c.in_ok-test_alone.ensures.gives ∙ ap (λ (m : Lending (Arc (List ℕ) g.row.A.Denot)). first_of dig m.blocks) c.in_ok-front.ensures))
    (fronted dig come c.args.self.now.uses alone (lent c.lender.result.blocks.now) c.lender.ensures.blocks q b h)

pub returns-clause-clash_free : goal.returns-clause-clash_free
returns-clause-clash_free g c =
    let dig = g.D.Digest.digest_of in
    let come = c.args.come.now in
    alone-free dig come c.args.self.now.uses
    (subst (λ (k : Keeping). AreAlone dig (first_of dig come) k.uses (map arc_value come)) c.self.view_is
    (subst (λ (m : Lending (Arc (List ℕ) g.row.A.Denot)). AreAlone dig (first_of dig m.blocks) (counted c.self.inside.blocks) (map arc_value come))
    c.in_ok-front.ensures c.in_ok-test_alone.ensures.alone))
