use Rattle.std.proofs.Common.{rules, ◌≡◌, [], length, sym, ap, ◌∙◌, subst, arith}
use Rattle.notices.specs.Views.{PassView}
use Rattle.host.specs.Views.{HostView, SeatView, IsOrderly}
use Rattle.host.proofs.host.Host.writer.Goals as goal

pub sender-requires : goal.sender-requires
sender-requires g c =
    record {
      queue = ap (λ (s : SeatView). s.pass.queue_id) c.seat.view_is ∙ c.requires.queue ∙ ap (λ (h : HostView). h.queue.queue_id) (sym c.self.view_is);
    }

pub invariant_of-result : goal.invariant_of-result
invariant_of-result g c =
    let sent : c.sender.result.pass.sent ≡ [] = ap (λ (p : PassView). p.sent) c.sender.ensures.pass ∙ c.seat.invariant.0 in
    let none : c.seat.inside.kept.items ≡ [] = c.seat.invariant.1 in
    record {
      lent = search rules;
      queue = ap (λ (p : PassView). p.queue_id) c.sender.ensures.pass ∙ ap (λ (s : SeatView). s.pass.queue_id) c.seat.view_is ∙ c.requires.queue;
      orderly = subst (IsOrderly c.sender.result.pass) (sym none) (record { own = λ k d less. absurd (omega (arith, less)); numbered = tt });
      last_is = omega (arith, ap length sent, ap length none);
      room = search rules;
      places = ap (λ (s : SeatView). length s.seen) c.seat.view_is ∙ c.requires.places;
    }

pub returns : goal.returns
returns g c =
    let pass : c.sender.result.pass ≡ c.args.seat.pass = c.sender.ensures.pass ∙ ap (λ (s : SeatView). s.pass) c.seat.view_is in
    let none : c.seat.inside.kept.items ≡ [] = c.seat.invariant.1 in
    let seen = ap (λ (s : SeatView). s.seen) c.seat.view_is in
    λ i. record { host = c.args.self.now; refused = c.sender.ensures.refused i; pass = pass i; kept = none i; seen = seen i }
