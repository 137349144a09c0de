-- The seats of a host that was opened, and the run of a script over them.
use Rattle.std.proofs.Common.{◌≡◌, ℕ, List, length, refl, sym, ap, subst, ◌∙◌}
use Rattle.std.specs.Prelude.{All}
use Rattle.std.specs.List.{range_with_len}
use Rattle.std.proofs.lemmas.List.{length-map, length-replicate}
use Rattle.std.proofs.lemmas.List.Elements.{All-map}
use Rattle.std.proofs.lemmas.List.FromFn.{length-range_with_len}
use Rattle.spec.specs.States.{State}
use Rattle.store.specs.Table.{Table}
use Rattle.notices.specs.Views.{QueueId, fresh, fresh_passes}
use Rattle.ended.specs.Ending.{EndedView}
use Rattle.closing.specs.Settling.{IsSettled, IsUneven}
use Rattle.closing.specs.declared.mismatch.Mismatch.{Mismatch}
use Rattle.host.specs.Views.{HostView, SeatView, IsSeatOf, fresh_seat, fresh_seats}
use Rattle.scripts.specs.Scripts.{AreDone}
use Rattle.scripts.specs.declared.script.Line.{Line}
use Rattle.scripts.specs.declared.script.Answer.{Answer}
use Rattle.run_command.specs.Reports.{AreWorked, IsTextOf, IsReport, IsUnclosed}
use Rattle.run_command.specs.declared.settings.Settings.{Settings}

own_seat : (h : HostView) (repos : ℕ) → h.repos ≡ repos → (writer : ℕ) → IsSeatOf h (fresh_seat repos (fresh h.queue.queue_id writer))
own_seat h repos e writer = record { queue = refl; places = length-replicate repos 0 ∙ sym e }

pub own_seats : (h : HostView) (seats : List SeatView) (writers repos : ℕ) → h.repos ≡ repos → seats ≡ fresh_seats h.queue.queue_id writers repos → All (IsSeatOf h) seats
own_seats h seats writers repos e is =
    subst (All (IsSeatOf h)) (sym is)
    (All-map (IsSeatOf h) (fresh_seat repos) (fresh_passes h.queue.queue_id writers)
    (All-map (λ p. IsSeatOf h (fresh_seat repos p)) (fresh h.queue.queue_id) (range_with_len 0 writers) (λ k d lt. own_seat h repos e _)))

pub seats_count : (q : QueueId) (seats : List SeatView) (writers repos : ℕ) → seats ≡ fresh_seats q writers repos → length seats ≡ writers
seats_count q seats writers repos is =
    ap length is ∙ length-map (fresh_passes q writers) (fresh_seat repos) ∙ length-map (range_with_len 0 writers) (fresh q) ∙ length-range_with_len 0 writers

pub seats_of : (q : QueueId) (seats : List SeatView) (writers repos a b : ℕ) → seats ≡ fresh_seats q writers repos → writers ≡ a → repos ≡ b → seats ≡ fresh_seats q a b
seats_of q seats writers repos a b is e f = is ∙ (λ i. fresh_seats q (e i) (f i))

-- the run of a script over these seats
module _ {D : Type 0} (digest : List ℕ → List ℕ) (s : Settings) (lines : List Line) (h : HostView) (seats : List SeatView) (given : List (Answer D)) (ended : List EndedView) where
  pub worked : h.repos ≡ s.repos → h.queue.room ≡ s.queue → h.limit ≡ 1048576 → seats ≡ fresh_seats h.queue.queue_id s.workers s.repos
      → length given ≡ length lines → length ended ≡ length seats → AreDone digest 2 h seats lines given ended → AreWorked digest s h lines given ended
  worked e room limit is answered ends done = record {
    host_repos = e;
    host_room = room;
    host_limit = limit;
    answered = answered;
    writers_are = ends ∙ seats_count h.queue.queue_id seats s.workers s.repos is;
    done = subst (λ ss. AreDone digest 2 h ss lines given ended) is done;
  }

  -- its report, where the host closed
  pub reported : (lent : List (Answer D)) (ended' : List EndedView) (cores : List State) (tables : List Table) (text : List ℕ) → AreWorked digest s h lines given ended
      → length cores ≡ h.repos → ended' ≡ ended → IsSettled digest 2 cores tables ended' → lent ≡ given → IsTextOf digest s lines lent cores tables ended' text → IsReport D digest s lines text
  reported lent ended' cores tables text work count same settled lends made = record {
    given = given;
    cores = cores;
    tables = tables;
    ended = ended;
    run = record {
      host = h;
      worked = work;
      repos_are = count ∙ work.host_repos;
      settled = subst (IsSettled digest 2 cores tables) same settled;
    };
    text_of = subst (λ as'. IsTextOf digest s lines as' cores tables ended text) lends (subst (λ es. IsTextOf digest s lines lent cores tables es text) same made);
  }

  -- and what there is where it didn't
  pub unclosed : (ended' : List EndedView) (cores : List State) (tables : List Table) (mismatch : Mismatch) → AreWorked digest s h lines given ended
      → ended' ≡ ended → IsUneven digest 2 cores tables ended' mismatch → IsUnclosed D digest s lines
  unclosed ended' cores tables mismatch work same uneven = record {
    host = h;
    given = given;
    ended = ended;
    worked = work;
    cores = cores;
    tables = tables;
    mismatch = mismatch;
    uneven = subst (λ es. IsUneven digest 2 cores tables es mismatch) same uneven;
  }
