-- The seats of a host that was opened.
use Rattle.std.proofs.Common.{◌≡◌, ℕ, List, length, ap, sym, ◌∙◌, subst, All}
use Rattle.std.proofs.lemmas.List.{length-map}
use Rattle.std.proofs.lemmas.List.FromFn.{length-range_with_len}
use Rattle.std.specs.List.{range_with_len}
use Rattle.notices.specs.Views.{QueueId, FeedView, fresh, fresh_feed, fresh_passes}
use Rattle.host.specs.Views.{HostView, SeatView, IsSeatOf, fresh_seat, fresh_seats}
use Rattle.host.proofs.Seats.{seats_are}

seat_count : (queue_id : QueueId) (writers repos : ℕ) → length (fresh_seats queue_id writers repos) ≡ writers
seat_count queue_id writers repos =
    length-map (fresh_passes queue_id writers) (fresh_seat repos) ∙ length-map (range_with_len 0 writers) (fresh queue_id) ∙ length-range_with_len 0 writers

pub all_seated : (h : HostView) (seats : List SeatView) (queue_id : QueueId) (writers repos : ℕ) → h.queue.queue_id ≡ queue_id → h.repos ≡ repos
    → seats ≡ fresh_seats queue_id writers repos → All (IsSeatOf h) seats
all_seated h seats queue_id writers repos queue size same = subst (All (IsSeatOf h)) (sym same) (seats_are h queue_id writers repos queue size)

pub as_many : (seats : List SeatView) (feed : FeedView) (queue_id : QueueId) (writers repos : ℕ)
    → seats ≡ fresh_seats queue_id writers repos → feed ≡ fresh_feed queue_id writers → length seats ≡ feed.made
as_many seats feed queue_id writers repos same made = ap length same ∙ seat_count queue_id writers repos ∙ sym (ap (λ (f : FeedView). f.made) made)
