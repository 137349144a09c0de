use Rattle.std.proofs.Common.{◌+◌, ◌<◌, ◌≤◌, ◌++◌, length, drop, ap, sym, ◌∙◌, Err, arith}
use Rattle.std.proofs.lemmas.Result.{err_from_is_err_and}
use Rattle.event_writing.specs.Putting.{IsTooLong}
use Rattle.event_writing.specs.Sources.{record_given, records_given}
use Rattle.event_writing.proofs.EachOp.{if-err}
use Rattle.event_writing.proofs.Puts.{put-end, put-next, put-stop}
use Rattle.event_writing.proofs.AtSource.{next-given, none-given}
use Rattle.event_writing.proofs.file.put_records.Goals as goal

pub returns-in_err-put_record-clause-fault : goal.returns-in_err-put_record-clause-fault
returns-in_err-put_record-clause-fault g c =
    let p = err_from_is_err_and c.from_residual.result c.from_residual.ensures.1 in
    let e = c.in_err-put_record.field-0.0 in
    let digest = g.D.Digest.digest_of in
    let gives = g.S.Source.gives c.args.src.now in
    let ops = c.args.ops.now in
    let i = c.loop-op.op-index in
    let op = c.op-item.result in
    let lt : i < length ops = omega arith in
    if-err (IsTooLong digest (records_given gives ops) c.args.file.now) e c.from_residual.result (p.1 ∙ ap Err p.2)
    (put-stop digest (records_given gives ops) (records_given gives (drop i ops))
    (record_given (g.S.Source.gives c.loop-op.src) op.after) (records_given gives (drop (i + 1) ops)) c.args.file.now c.loop-op.file
    (next-given gives ops i op lt c.op-item.is
    ∙ ap (λ f. record_given f op.after ++ records_given gives (drop (i + 1) ops)) (sym c.loop-op.invariant.same))
    c.loop-op.invariant.left e c.in_err-put_record.ensures.fault)

pub loop-op-preserved : goal.loop-op-preserved
loop-op-preserved g c =
    let digest = g.D.Digest.digest_of in
    let gives = g.S.Source.gives c.args.src.now in
    let ops = c.args.ops.now in
    let i = c.loop-op.op-index in
    let op = c.op-item.result in
    let lt : i < length ops = omega arith in
    record {
      same = c.in_ok-put_record.ensures.same ∙ c.loop-op.invariant.same;
      left = put-next digest (records_given gives ops) (records_given gives (drop i ops))
          (record_given (g.S.Source.gives c.loop-op.src) op.after) (records_given gives (drop (i + 1) ops)) c.args.file.now c.loop-op.file
          (next-given gives ops i op lt c.op-item.is
          ∙ ap (λ f. record_given f op.after ++ records_given gives (drop (i + 1) ops)) (sym c.loop-op.invariant.same))
          c.loop-op.invariant.left c.put_record.new.file c.in_ok-put_record.ensures.put;
      short = c.in_ok-put_record.ensures.short;
    }

pub returns-clause-put : goal.returns-clause-put
returns-clause-put g c =
    let digest = g.D.Digest.digest_of in
    let gives = g.S.Source.gives c.args.src.now in
    let ops = c.args.ops.now in
    let i = c.loop-op.op-index in
    let all : length ops ≤ i = omega arith in
    put-end digest (records_given gives ops) (records_given gives (drop i ops)) c.args.file.now c.loop-op.file (none-given gives ops i all)
    c.loop-op.invariant.left
