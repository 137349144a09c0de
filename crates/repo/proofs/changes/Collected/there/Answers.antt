use Rattle.std.proofs.Common.{ℕ, Bool, List, Option, is_some, option_map, ap, ◌∙◌}
use Rattle.std.specs.Borrow.{Bor}
use Rattle.std.specs.declared.option.Option.TheVariants.{Some}
use Rattle.std.specs.declared.sync.Arc.{Arc}
use Rattle.spec.specs.Writes.{record_of}
use Rattle.block.specs.Bytes.{shared_record}
use Rattle.batches.specs.Values.{write_of}
use Rattle.batches.specs.Write.{Write}
use Rattle.repo.proofs.TestedWrites.{lookup-change, some-lent}
use Rattle.repo.proofs.changes.Collected.there.Goals as goal

pub returns-in-Some : goal.returns-in-Some
returns-in-Some g c =
    let left : Bor (Arc (Write g.row.A.Denot) g.row.A.Denot) → Option (List ℕ) = λ w. shared_record w.now in
    ap (λ (t : Bool). Some t)
    (c.is_some.ensures ∙ some-lent c.record.result _ (c.record.ensures ∙ ap (λ w. record_of (write_of w)) c.deref.ensures))
    ∙ ap (option_map is_some) (ap (option_map left) c.in-Some.ensures.value ∙ lookup-change left c.args.key.now c.args.self.now.writes.entries)

pub returns-in-None : goal.returns-in-None
returns-in-None g c =
    let left : Bor (Arc (Write g.row.A.Denot) g.row.A.Denot) → Option (List ℕ) = λ w. shared_record w.now in
    ap (option_map is_some) (ap (option_map left) c.in-None.ensures.value ∙ lookup-change left c.args.key.now c.args.self.now.writes.entries)
