use Rattle.std.proofs.Common.{◌≡◌, ◌<◌, Bool, true, false, map, sym, ap, subst, ◌∙◌, Option, Some, None, Ok}
use Rattle.std.specs.Prelude.{IfErr, IfNone, IfSome}
use Rattle.std.specs.Arc.{arc_value}
use Rattle.spec.specs.Blocks.{pairs}
use Rattle.spec.specs.States.{records}
use Rattle.batch_laws.specs.Collecting.{collected, with_cids}
use Rattle.batches.specs.Values.{stamp_of, writes_of}
use Rattle.key_changes.specs.Keyed.{are_changes}
use Rattle.change_laws.specs.Told.{undone}
use Rattle.change_proofs.specs.Provings.{told_by}
use Rattle.change_proofs.specs.StepProvings.{IsStepOf}
use Rattle.change_commands.specs.Texts.{second_stamp, text_on}
use Rattle.repository_commands.specs.Faults.{text_fault_of}
use Rattle.repository_commands.specs.Refusals.{IsRefusedLine}
use Rattle.repository_commands.specs.Views.{given_of}
use Rattle.change_commands.proofs.BatchTexts.{ahead-text, batch-fails, batch-text, fails-on}
use Rattle.change_commands.proofs.ChangedKeys.{ahead-told, all-told, batch-keyed, pairs-taken, taken-writes, writes-keyed}
use Rattle.repository_commands.proofs.Making.{passed}
use Rattle.change_commands.proofs.proving.change_of_batch.Goals as goal

some-seen : {X : Type 0} (o : Option X) (x : X) (P : X → Type 0) → o ≡ Some x → IfSome o P → P x
some-seen o x P e h = subst (λ q. IfSome q P) e h

none-seen : {X : Type 0} (o : Option X) (P : Type 0) → o ≡ None → IfNone o P → P
none-seen o P e h = subst (λ q. IfNone q P) e h

both : (b : Bool) → b ≡ true → b ≡ false → ⊥
both b p q = absurd (cc (p, q))

pub returns-in_err-apply_puts-clause-text : goal.returns-in_err-apply_puts-clause-text
returns-in_err-apply_puts-clause-text g c =
    let digest = g.D.Digest.digest_of in
    let direction = c.args.direction in
    let s = c.args.core.now in
    let batch = given_of c.args.batch.now in
    let f = c.in_err-apply_puts.field-0.0 in
    fails-on (λ bytes. bytes.items) (text_on digest direction s batch) c.from_residual-in_err-apply_puts.result f c.from_residual-in_err-apply_puts.ensures.1
    (batch-fails digest direction s batch (stamp_of c.in_ok-stamp.stamp) c.in_ok-stamp.ensures (text_fault_of f) c.in_err-apply_puts.ensures.state)

pub returns-in_err-apply_puts-clause-refused : goal.returns-in_err-apply_puts-clause-refused
returns-in_err-apply_puts-clause-refused g c =
    let digest = g.D.Digest.digest_of in
    let s = c.args.core.now in
    let batch = given_of c.args.batch.now in
    let f = c.in_err-apply_puts.field-0.0 in
    passed (λ q. IfErr q (IsRefusedLine digest s second_stamp batch (0 < g.S.BlockStore.fulls c.apply_puts.new.store)))
    c.from_residual-in_err-apply_puts.result f c.from_residual-in_err-apply_puts.ensures.1
    (subst (λ x. IsRefusedLine digest s x batch (0 < g.S.BlockStore.fulls c.apply_puts.new.store) f) c.in_ok-stamp.ensures c.in_err-apply_puts.ensures.refused)

pub shown_text-requires-clause-keyed : goal.shown_text-requires-clause-keyed
shown_text-requires-clause-keyed g c =
    let digest = g.D.Digest.digest_of in
    let s = c.args.core.now in
    let t = c.apply_puts.new.core in
    let batch = given_of c.args.batch.now in
    let stamp = stamp_of c.in_ok-stamp.stamp in
    let p = c.in-Some.proof in
    let nodes = map arc_value p.nodes.items in
    let step = subst (λ ws. IsStepOf digest 2 (with_cids digest (collected (writes_of ws))) (pairs digest (records s)) p.after p.changes.items nodes) c.deref.ensures.value
    (some-seen c.in_ok-ahead.ahead p (λ q. IsStepOf digest 2 (with_cids digest (collected (writes_of c.deref.result.now))) (pairs digest (records s)) q.after q.changes.items (map arc_value q.nodes.items)) c.in-Some.is c.in_ok-ahead.ensures.proof) in
    let is = pairs-taken digest s t stamp batch c.in_ok-apply_puts.ensures.state in
    subst (λ cs. are_changes (undone cs) ≡ true) (sym (ahead-told digest s t batch.writes is p.after p.changes.items nodes step))
    (batch-keyed digest g.met.D.Digest.digest_len s t batch (taken-writes s t stamp batch c.in_ok-apply_puts.ensures.state))

pub shown_text-requires-clause-told : goal.shown_text-requires-clause-told
shown_text-requires-clause-told g c =
    let digest = g.D.Digest.digest_of in
    let s = c.args.core.now in
    let t = c.apply_puts.new.core in
    let batch = given_of c.args.batch.now in
    let stamp = stamp_of c.in_ok-stamp.stamp in
    let p = c.in-Some.proof in
    let nodes = map arc_value p.nodes.items in
    let step = subst (λ ws. IsStepOf digest 2 (with_cids digest (collected (writes_of ws))) (pairs digest (records s)) p.after p.changes.items nodes) c.deref.ensures.value
    (some-seen c.in_ok-ahead.ahead p (λ q. IsStepOf digest 2 (with_cids digest (collected (writes_of c.deref.result.now))) (pairs digest (records s)) q.after q.changes.items (map arc_value q.nodes.items)) c.in-Some.is c.in_ok-ahead.ensures.proof) in
    let is = pairs-taken digest s t stamp batch c.in_ok-apply_puts.ensures.state in
    subst (λ cs. told_by (pairs digest (records t)) cs ≡ Ok tt) (sym (ahead-told digest s t batch.writes is p.after p.changes.items nodes step))
    (all-told digest s t batch.writes)

pub unreachable-requires : goal.unreachable-requires
unreachable-requires g c =
    let digest = g.D.Digest.digest_of in
    let s = c.args.core.now in
    let batch = given_of c.args.batch.now in
    let stamp = stamp_of c.in_ok-stamp.stamp in
    both (are_changes (with_cids digest (collected batch.writes)))
    (writes-keyed digest g.met.D.Digest.digest_len s batch (taken-writes s c.apply_puts.new.core stamp batch c.in_ok-apply_puts.ensures.state))
    (subst (λ ws. are_changes (with_cids digest (collected (writes_of ws))) ≡ false) c.deref.ensures.value
    (none-seen c.in_ok-ahead.ahead _ c.in-None.is c.in_ok-ahead.ensures.none))

pub returns-clause-text : goal.returns-clause-text
returns-clause-text g c =
    let digest = g.D.Digest.digest_of in
    let s = c.args.core.now in
    let t = c.apply_puts.new.core in
    let batch = given_of c.args.batch.now in
    let stamp = stamp_of c.in_ok-stamp.stamp in
    let p = c.in-Some.proof in
    let nodes = map arc_value p.nodes.items in
    let step = subst (λ ws. IsStepOf digest 2 (with_cids digest (collected (writes_of ws))) (pairs digest (records s)) p.after p.changes.items nodes) c.deref.ensures.value
    (some-seen c.in_ok-ahead.ahead p (λ q. IsStepOf digest 2 (with_cids digest (collected (writes_of c.deref.result.now))) (pairs digest (records s)) q.after q.changes.items (map arc_value q.nodes.items)) c.in-Some.is c.in_ok-ahead.ensures.proof) in
    let is = pairs-taken digest s t stamp batch c.in_ok-apply_puts.ensures.state in
    batch-text digest c.args.direction s batch stamp c.in_ok-stamp.ensures t c.in_ok-apply_puts.ensures.state
    ∙ sym (ap (λ text. Ok text) (c.in_ok-shown_text-in-Some.ensures
    ∙ ahead-text digest c.args.direction s t batch.writes is c.root-root.result p.after p.changes.items nodes c.root-root.ensures.value step))
