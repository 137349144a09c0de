-- The seats of a host that was opened are of that host.
use Rattle.std.proofs.Common.{◌≡◌, ℕ, [], refl, sym, ◌∙◌, All}
use Rattle.std.proofs.lemmas.List.{length-replicate}
use Rattle.std.proofs.lemmas.List.Elements.{All-map}
use Rattle.std.specs.List.{range_with_len}
use Rattle.notices.specs.Views.{QueueId, fresh, fresh_passes}
use Rattle.host.specs.Views.{HostView, IsSeatOf, fresh_seat, fresh_seats}

pub seats_are : (h : HostView) (queue_id : QueueId) (writers repos : ℕ) → h.queue.queue_id ≡ queue_id → h.repos ≡ repos → All (IsSeatOf h) (fresh_seats queue_id writers repos)
seats_are h queue_id writers repos queue size =
    All-map (IsSeatOf h) (fresh_seat repos) (fresh_passes queue_id writers)
    (All-map (λ p. IsSeatOf h (fresh_seat repos p)) (fresh queue_id) (range_with_len 0 writers)
    (λ k d lt. record { queue = sym queue; places = length-replicate repos 0 ∙ sym size }))

-- by passes that were just made nothing was sent
pub nothing_sent : (queue_id : QueueId) (writers : ℕ) → All (λ p. p.sent ≡ []) (fresh_passes queue_id writers)
nothing_sent queue_id writers =
    All-map (λ p. p.sent ≡ []) (fresh queue_id) (range_with_len 0 writers) (λ k d lt. refl)
