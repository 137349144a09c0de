use Rattle.std.proofs.Common.{◌≡◌, List, ℕ, ap, sym, ◌∙◌, Some, None, Option}
use Rattle.std.specs.Prelude.{IfOk, OnOk, Ok, Err, Result}
use Rattle.std.specs.Arc.{arc_value}
use Rattle.spec.specs.Cid.{cid}
use Rattle.kept.specs.Uses.{at}
use Rattle.kept.specs.declared.kept_use.Use.{Use}
use Rattle.kept.proofs.Counting.{counted_no_other}
use Rattle.kept.proofs.Outcomes.{on_ok_known}
use Rattle.kept.proofs.use_map.UseMap.test_other.Goals as goal

pub returns-in_default-clause-none : goal.returns-in_default-clause-none
returns-in_default-clause-none g c =
    let dig = g.D.Digest.digest_of in
    let named = c.cid.ensures ∙ ap (cid dig) c.deref.ensures in
    counted_no_other dig c.args.self.now (arc_value c.args.block.now)
    (λ v e. let never : ◌≡◌ {A = Option (Use g.row.D.Denot g.row.A.Denot)} None (Some v) =
    c.in_default.ensures ∙ ap (at c.args.self.now) named ∙ e in absurd cc)

pub test_same-requires : goal.test_same-requires
test_same-requires g c =
    let dig = g.D.Digest.digest_of in
    sym (c.cid.ensures ∙ ap (cid dig) c.deref.ensures) ∙ c.requires c.cid.result c.in-Some.held.now (sym c.in-Some.ensures)

pub returns-clause-none : goal.returns-clause-none
returns-clause-none g c =
    let dig = g.D.Digest.digest_of in
    let named = c.cid.ensures ∙ ap (cid dig) c.deref.ensures in
    on_ok_known c.test_same.result c.test_same.ensures.same_bytes
    (λ same. counted_no_other dig c.args.self.now (arc_value c.args.block.now)
    (λ v e. let is : c.in-Some.held.now ≡ v = some-same _ _ (c.in-Some.ensures ∙ ap (at c.args.self.now) named ∙ e) in
    ap (λ (u : Use g.row.D.Denot g.row.A.Denot). arc_value u.hold.0) (sym is) ∙ same))
  where
    some-same : {X : Type 0} (x y : X) → ◌≡◌ {A = Option X} (Some x) (Some y) → x ≡ y
    some-same x y e = cc
