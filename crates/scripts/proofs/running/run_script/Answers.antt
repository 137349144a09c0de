use Rattle.scripts.proofs.Parts.{are_enough, are_done, are_ended}
use Rattle.scripts.proofs.running.run_script.Goals as goal

pub in_order-requires-clause-enough : goal.in_order-requires-clause-enough
in_order-requires-clause-enough g c =
    are_enough g.D.Digest.digest_of g.row.B c.args.host.now c.args.seats.items c.args.lines.now c.in_ok-results.results.items c.in_ok-done.done.items c.in_ok-ended.given.items
    c.in_ok-results.ensures.done c.in_ok-results.ensures.all c.in_ok-done.ensures c.in_ok-ended.ensures.answers

pub returns-clause-done : goal.returns-clause-done
returns-clause-done g c =
    are_done g.D.Digest.digest_of g.row.B c.args.host.now c.args.seats.items c.args.lines.now c.in_ok-results.results.items c.in_ok-done.done.items c.in_ok-ended.given.items
    c.in_ok-ended.ended.items c.in_ok-answers.answers.items
    c.in_ok-results.ensures.done c.in_ok-results.ensures.all c.in_ok-done.ensures c.in_ok-ended.ensures.answers c.in_ok-ended.ensures.ended c.in_ok-answers.ensures.own

pub returns-clause-ended : goal.returns-clause-ended
returns-clause-ended g c =
    are_ended c.args.host.now c.in_ok-results.results.items c.in_ok-done.done.items c.in_ok-ended.ended.items
    c.in_ok-results.ensures.ended c.in_ok-done.ensures c.in_ok-ended.ensures.ended
