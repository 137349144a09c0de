use Rattle.std.proofs.Common.{List, ap, ◌∙◌, sym, arith}
use Rattle.std.specs.Arc.{arc_value}
use Rattle.std.specs.declared.sync.Arc.{Arc}
use Rattle.spec.specs.Writes.{batch_test}
use Rattle.batch_laws.specs.Staged.{old_pairs}
use Rattle.batch_laws.specs.Collecting.{collected}
use Rattle.batches.specs.Values.{write_of, shared_writes}
use Rattle.batches.specs.Write.{Write}
use Rattle.repo.specs.Tested.{changes_in}
use Rattle.repo.proofs.Testing.{take-whole}
use Rattle.repo.proofs.TestedWrites.{one-more-change, passes-on, fails-at}
use Rattle.repo.proofs.write_tests.test_writes.Goals as goal

pub returns-in-Err-clause-fault : goal.returns-in-Err-clause-fault
returns-in-Err-clause-fault g c = λ s start.
    let dig = g.D.Digest.digest_of in
    let at = c.loop-place in
    fails-at dig g.row.B s c.args.room c.args.root c.args.kept.now.uses start c.args.writes.now at.place c.index-writes-place.result (changes_in at.changes) c.in-Err.fault
    (omega arith) c.index-writes-place.is at.invariant.changes (at.invariant.passed s start) (c.in-Err.ensures.fault (old_pairs dig s) start.tree)

pub loop-place-preserved : goal.loop-place-preserved
loop-place-preserved g c =
    let dig = g.D.Digest.digest_of in
    let at = c.loop-place in
    let x = c.index-writes-place.result in
    record {
      passed = λ s start.
          passes-on dig g.row.B s c.args.room c.args.root c.args.kept.now.uses start c.args.writes.now at.place x (changes_in at.changes)
          (omega arith) c.index-writes-place.is at.invariant.changes (at.invariant.passed s start) (c.in-Ok.ensures.passed (old_pairs dig s) start.tree);
      changes = one-more-change (λ w. write_of (arc_value w)) c.args.writes.now at.place x (changes_in at.changes) _ (omega arith) c.index-writes-place.is at.invariant.changes c.in-Ok.ensures.changed;
    }

pub returns-clause-passed : goal.returns-clause-passed
returns-clause-passed g c = λ s start.
    ap (λ (ws : List (Arc (Write g.row.A.Denot) g.row.A.Denot)). batch_test s.limit s.accepted (shared_writes ws)) (sym (take-whole c.args.writes.now c.loop-place.place (omega arith)))
    ∙ c.loop-place.invariant.passed s start

pub returns-clause-changes : goal.returns-clause-changes
returns-clause-changes g c =
    c.loop-place.invariant.changes
    ∙ ap (λ (ws : List (Arc (Write g.row.A.Denot) g.row.A.Denot)). collected (shared_writes ws)) (take-whole c.args.writes.now c.loop-place.place (omega arith))
