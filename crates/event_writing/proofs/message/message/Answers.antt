use Rattle.std.proofs.Common.{◌≡◌, ap, ◌∙◌}
use Rattle.std.specs.Prelude.{option_map}
use Rattle.std.proofs.lemmas.Result.{IfOk-weaker}
use Rattle.cid.specs.CidRef.{bytes_of}
use Rattle.batches.specs.Values.{stamp_of}
use Rattle.event_laws.specs.Events.{event_bytes}
use Rattle.event_writing_laws.specs.Messages.{event_of}
use Rattle.event_writing.specs.Views.{told_of}
use Rattle.event_writing.proofs.SameMessage.{made, made-same}
use Rattle.event_writing.proofs.message.message.Goals as goal

pub returns : goal.returns
returns g c =
    let told = told_of c.args.told.now in
    let stamp = stamp_of c.args.stamp.now in
    let since = option_map (λ s. s.now) c.since.result in
    let ops = c.in_ok-lent_ops.field-0.items in
    let commit = bytes_of c.from.result in
    let before = bytes_of c.from-2.result in
    IfOk-weaker c.write_event.result
    (λ out. out.items ≡ event_bytes (made told.seq c.deref.result.now commit c.deref-2.result.now since c.args.file.now ops c.time.result.now before))
    (λ out. out.items ≡ event_bytes (event_of told stamp c.args.commit.now c.args.file.now c.args.ops.now c.args.before.now))
    (λ out h. h ∙ ap event_bytes (made-same told.seq c.args.file.now c.deref.result.now stamp.did commit c.args.commit.now
    c.deref-2.result.now stamp.rev since told.since ops c.args.ops.now c.time.result.now told.time before c.args.before.now
    c.deref.ensures.value c.from.ensures c.deref-2.ensures.value c.since.ensures c.in_ok-lent_ops.ensures c.time.ensures c.from-2.ensures))
    c.write_event.ensures
