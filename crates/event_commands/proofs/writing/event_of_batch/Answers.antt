use Rattle.std.proofs.Common.{◌≡◌, ◌∙◌, Bool, true, false, sym, ap, subst, arith}
use Rattle.std.specs.Prelude.{map, option_map, Option, Some, None, IfNone, IfSome, Ok, Err}
use Rattle.std.specs.Arc.{arc_value}
use Rattle.spec.specs.Reading.{Gives}
use Rattle.spec.specs.Blocks.{pairs}
use Rattle.spec.specs.States.{records}
use Rattle.batches.specs.Values.{stamp_of, writes_of}
use Rattle.batch_laws.specs.Collecting.{collected, with_cids}
use Rattle.change_laws.specs.Told.{undone}
use Rattle.change_proofs.specs.StepProvings.{IsStepOf}
use Rattle.key_changes.specs.Keyed.{are_changes}
use Rattle.event_writing.specs.Views.{told_of}
use Rattle.repository_commands.specs.Faults.{text_fault_of}
use Rattle.repository_commands.specs.Views.{given_of}
use Rattle.change_commands.proofs.ChangedKeys.{ahead-told, batch-keyed, pairs-taken, taken-writes, writes-keyed}
use Rattle.event_commands.specs.Faults.{message_fault_of}
use Rattle.event_commands.proofs.Batches.{batch_fails, batch_told, no_batch}
use Rattle.event_commands.proofs.Refusals.{all_lineless}
use Rattle.event_commands.proofs.writing.event_of_batch.Goals as goal

some-seen : {X : Type 0} (o : Option X) (x : X) (P : X → Type 0) → o ≡ Some x → IfSome o P → P x
some-seen o x P e h = subst (λ q. IfSome q P) e h

none-seen : {X : Type 0} (o : Option X) (P : Type 0) → o ≡ None → IfNone o P → P
none-seen o P e h = subst (λ q. IfNone q P) e h

both : (b : Bool) → b ≡ true → b ≡ false → ⊥
both b p q = absurd (cc (p, q))

pub told_event-requires : goal.told_event-requires
told_event-requires g c =
    let digest = g.D.Digest.digest_of in
    let s = c.args.core.now in
    let t = c.apply_puts.new.core in
    let batch = given_of c.args.batch.now in
    let stamp = stamp_of c.args.stamp.now in
    let p = c.in-Some.proof in
    let nodes = map arc_value p.nodes.items in
    let step = subst (λ ws. IsStepOf digest 2 (with_cids digest (collected (writes_of ws))) (pairs digest (records s)) p.after p.changes.items nodes) c.deref.ensures.value
    (some-seen c.in_ok-ahead.ahead p (λ q. IsStepOf digest 2 (with_cids digest (collected (writes_of c.deref.result.now))) (pairs digest (records s)) q.after q.changes.items (map arc_value q.nodes.items)) c.in-Some.is c.in_ok-ahead.ensures.proof) in
    let state = c.in-Ok.ensures.state in
    let is = pairs-taken digest s t stamp batch state in
    record {
      keyed = subst (λ cs. are_changes (undone cs) ≡ true) (sym (c.deref-in-Some.ensures.value ∙ ahead-told digest s t batch.writes is p.after p.changes.items nodes step))
          (batch-keyed digest g.met.D.Digest.digest_len s t batch (taken-writes s t stamp batch state));
    }

pub unreachable-requires : goal.unreachable-requires
unreachable-requires g c =
    let digest = g.D.Digest.digest_of in
    let s = c.args.core.now in
    let batch = given_of c.args.batch.now in
    let stamp = stamp_of c.args.stamp.now in
    both (are_changes (with_cids digest (collected batch.writes)))
    (writes-keyed digest g.met.D.Digest.digest_len s batch (taken-writes s c.apply_puts.new.core stamp batch c.in-Ok.ensures.state))
    (subst (λ ws. are_changes (with_cids digest (collected (writes_of ws))) ≡ false) c.deref.ensures.value
    (none-seen c.in_ok-ahead.ahead _ c.in-None.is c.in_ok-ahead.ensures.none))

pub returns-in-Some-clause-message : goal.returns-in-Some-clause-message
returns-in-Some-clause-message g c =
    let digest = g.D.Digest.digest_of in
    let s = c.args.core.now in
    let t = c.apply_puts.new.core in
    let batch = given_of c.args.batch.now in
    let stamp = stamp_of c.args.stamp.now in
    let told = told_of c.args.told.now in
    let p = c.in-Some.proof in
    let nodes = map arc_value p.nodes.items in
    let step = subst (λ ws. IsStepOf digest 2 (with_cids digest (collected (writes_of ws))) (pairs digest (records s)) p.after p.changes.items nodes) c.deref.ensures.value
    (some-seen c.in_ok-ahead.ahead p (λ q. IsStepOf digest 2 (with_cids digest (collected (writes_of c.deref.result.now))) (pairs digest (records s)) q.after q.changes.items (map arc_value q.nodes.items)) c.in-Some.is c.in_ok-ahead.ensures.proof) in
    let state = c.in-Ok.ensures.state in
    let is = pairs-taken digest s t stamp batch state in
    let some : c.has_writes.result ≡ true = grind arith in
    subst (Gives (λ bytes. bytes.items) message_fault_of c.told_event.result)
    (sym (batch_told digest s stamp batch told t state (sym c.has_writes.ensures ∙ some) c.root-root.result c.deref-in-Some.result.now c.root-root.ensures.value
    (c.deref-in-Some.ensures.value ∙ ahead-told digest s t batch.writes is p.after p.changes.items nodes step)))
    c.told_event.ensures.message

pub returns-in-Err-clause-message : goal.returns-in-Err-clause-message
returns-in-Err-clause-message g c =
    batch_fails g.D.Digest.digest_of c.args.core.now (stamp_of c.args.stamp.now) (given_of c.args.batch.now) (told_of c.args.told.now)
    (text_fault_of c.in-Err.fault) c.in-Err.ensures.state

pub returns-then-not-has_writes-clause-message : goal.returns-then-not-has_writes-clause-message
returns-then-not-has_writes-clause-message g c =
    let none : c.has_writes.result ≡ false = grind arith in
    no_batch g.D.Digest.digest_of c.args.core.now (stamp_of c.args.stamp.now) (given_of c.args.batch.now) (told_of c.args.told.now)
    c.apply_puts.new.core c.in-Ok.ensures.state (sym c.has_writes.ensures ∙ none)

pub returns-in-Some-clause-refused : goal.returns-in-Some-clause-refused
returns-in-Some-clause-refused g c =
    all_lineless g.D.Digest.digest_of c.args.core.now (stamp_of c.args.stamp.now) (given_of c.args.batch.now) _ c.told_event.result c.told_event.ensures.lineless

pub returns-in-Err-clause-refused : goal.returns-in-Err-clause-refused
returns-in-Err-clause-refused g c = c.in-Err.ensures.refused
