use Rattle.std.proofs.Common.{◌≡◌, ℕ, ◌<◌, List, All, lit<, sym, ap, subst, ◌∙◌}
use Rattle.scripts.specs.declared.script.Line.{Line}
use Rattle.run_command.proofs.Seats.{own_seats, seats_count, seats_of, worked, reported, unclosed}
use Rattle.run_command.proofs.hosting.report_of_lines.Goals as goal

all_below : (n m : ℕ) (ls : List Line) → m ≡ n → All (λ l. l.worker < n) ls → All (λ l. l.worker < m) ls
all_below n m ls e h = subst (λ k. All (λ l. l.worker < k) ls) (sym e) h

pub run_script-requires-after_bounds : goal.run_script-requires-after_bounds
run_script-requires-after_bounds g c κs within =
    let opened = c.in-Ok.ensures in (
      lit< tt,
      (
        own_seats c.in-Ok.opened.host c.in-Ok.opened.seats.items _ _ opened.repos opened.seats,
        all_below _ _ c.args.lines.now (seats_count c.in-Ok.opened.host.queue.queue_id c.in-Ok.opened.seats.items _ _ opened.seats ∙ c.limits.ensures.writers) c.requires,
      ),
    )

pub close-requires : goal.close-requires
close-requires g c =
    let opened = c.in-Ok.ensures in (
      lit< tt,
      (
        lit< tt,
        (
          lit< tt,
          (
            ap (λ f. f.queue_id) opened.feed,
            (
              ap (λ f. f.joined) opened.feed,
              (
                c.in_ok-answers.ensures.ended,
                c.in_ok-answers.ensures.workers ∙ seats_count c.in-Ok.opened.host.queue.queue_id c.in-Ok.opened.seats.items _ _ opened.seats ∙ sym (ap (λ f. f.made) opened.feed),
              ),
            ),
          ),
        ),
      ),
    )

pub returns-in-Ok-close-clause-report : goal.returns-in-Ok-close-clause-report
returns-in-Ok-close-clause-report g c =
    let opened = c.in-Ok.ensures in
    let done = c.in_ok-answers.ensures in
    let closed = c.in-Ok-close.ensures in
    reported g.D.Digest.digest_of c.args.settings.now c.args.lines.now c.in-Ok.opened.host c.in-Ok.opened.seats.items c.in_ok-answers.field-0.answers.items c.in_ok-answers.field-0.ended.items
    c.deref.result.now c.in-Ok-close.closed.ended c.in-Ok-close.closed.cores c.in-Ok-close.closed.tables c.in_ok-text-in-Ok-close.text.items
    (
    worked g.D.Digest.digest_of c.args.settings.now c.args.lines.now c.in-Ok.opened.host c.in-Ok.opened.seats.items c.in_ok-answers.field-0.answers.items c.in_ok-answers.field-0.ended.items
    (opened.repos ∙ c.limits.ensures.repos)
    (opened.room ∙ c.limits.ensures.queue)
    (opened.limit ∙ c.limits.ensures.writes)
    (seats_of c.in-Ok.opened.host.queue.queue_id c.in-Ok.opened.seats.items _ _ _ _ opened.seats c.limits.ensures.writers c.limits.ensures.repos)
    done.all done.workers done.done
    )
    closed.cores
    closed.ended
    closed.settled
    (c.deref.ensures.value)
    c.in_ok-text-in-Ok-close.ensures

pub returns-clause-uneven : goal.returns-clause-uneven
returns-clause-uneven g c told =
    let opened = c.in-Ok.ensures in
    let done = c.in_ok-answers.ensures in
    let left = c.in-Err.field-0 in
    unclosed g.D.Digest.digest_of c.args.settings.now c.args.lines.now c.in-Ok.opened.host c.in-Ok.opened.seats.items c.in_ok-answers.field-0.answers.items c.in_ok-answers.field-0.ended.items
    left.ended left.cores left.tables left.mismatch
    (
    worked g.D.Digest.digest_of c.args.settings.now c.args.lines.now c.in-Ok.opened.host c.in-Ok.opened.seats.items c.in_ok-answers.field-0.answers.items c.in_ok-answers.field-0.ended.items
    (opened.repos ∙ c.limits.ensures.repos)
    (opened.room ∙ c.limits.ensures.queue)
    (opened.limit ∙ c.limits.ensures.writes)
    (seats_of c.in-Ok.opened.host.queue.queue_id c.in-Ok.opened.seats.items _ _ _ _ opened.seats c.limits.ensures.writers c.limits.ensures.repos)
    done.all done.workers done.done
    )
    c.in-Err.ensures.same
    c.in-Err.ensures.uneven
