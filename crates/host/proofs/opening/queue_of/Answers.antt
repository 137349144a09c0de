use Rattle.std.proofs.Common.{◌≡◌, [], All, sym, subst}
use Rattle.notices.specs.Views.{PassView}
use Rattle.host.proofs.Seats.{nothing_sent}
use Rattle.host.proofs.opening.queue_of.Goals as goal

pub seats_of-requires : goal.seats_of-requires
seats_of-requires g c =
    subst (All (λ (p : PassView). p.sent ≡ [])) (sym c.in_ok-made.ensures.passes)
    (nothing_sent c.in_ok-made.made.0.queue_id c.args.limits.now.writers)
