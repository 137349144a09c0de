use Rattle.std.proofs.Common.{◌<◌, length, get_or, sym, arith}
use Rattle.std.specs.Arc.{arc_value}
use Rattle.std.proofs.lemmas.List.{get_or_default, length-map}
use Rattle.spec.specs.States.{fresh}
use Rattle.batches.specs.Values.{shared_writes, stamps_of, write_of}
use Rattle.run_command.proofs.Adding.{shown-added}
use Rattle.run_command.proofs.report.push_shown.Goals as goal

pub loop-number-preserved : goal.loop-number-preserved
loop-number-preserved g c =
    let cores = c.args.closed.now.cores in
    let i = c.loop-number.number in
    let shown = c.shown-shown.result in
    let is = c.shown-shown.ensures in
    let lt = c.loop-number-test.true in
    let within : i < length cores = omega (arith, lt, c.requires.all) in
    shown-added g.D.Digest.digest_of cores c.args.closed.now.tables c.args.text.now.items i c.loop-number.text.items c.push_repository.new.text.items (get_or cores i (fresh 0 1))
    (shared_writes shown.accepted.now) (stamps_of shown.stamps.now) shown.root shown.commit _ (length shown.accepted.now)
    within (get_or_default cores i (fresh 0 1) _ within) (is.lawful (fresh 0 1)) (is.accepted (fresh 0 1)) (is.stamps (fresh 0 1)) is.from_scratch is.counts
    (sym (length-map shown.accepted.now (λ w. write_of (arc_value w)))) c.in_ok-push_repository.ensures c.loop-number.invariant
