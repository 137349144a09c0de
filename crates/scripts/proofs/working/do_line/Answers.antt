use Rattle.scripts.proofs.Called.{accepted_call}
use Rattle.scripts.proofs.working.do_line.Goals as goal

pub returns-in-Ok-clause-call : goal.returns-in-Ok-clause-call
returns-in-Ok-clause-call g c =
    let e = c.in-Ok.ensures in
    accepted_call g.D.Digest.digest_of g.row.B c.args.writer.now c.args.line.now.repo c.args.line.now.call c.in-Apply.stamp c.in-Apply.writes c.deref.result.now c.in-Ok.notice c.apply.new.self
    c.in-Apply.is c.deref.ensures.value e.told e.notice e.accepted e.seen e.pushed e.none_back e.same (λ none. cc (e.missing none)) (λ has none. cc (e.seq_full has none))
