use Rattle.std.proofs.Common.{◌<◌, length, IfOk, rules, get_or, subst, ℕ}
use Rattle.host.specs.Views.{SeatView}
use Rattle.scripts.specs.Working.{IsWork}
use Rattle.scripts.proofs.Parts.{seat_there, small_there, place_there, if_ok_one}
use Rattle.scripts.proofs.running.work_all.Goals as goal

pub map_vec-requires-after_bounds : goal.map_vec-requires-after_bounds
map_vec-requires-after_bounds g c κs within i x lt at = (
  search rules,
  (seat_there c.args.host.now c.args.seats.items c.in_ok-places.places.items i x c.requires c.in_ok-places.ensures.seats lt at, search rules),
)

pub returns-clause-done : goal.returns-clause-done
returns-clause-done g c =
    if_ok_one c.map_vec.result (λ v each k s r lt.
    let small : k < length c.in_ok-places.places.items = small_there c.args.seats.items c.in_ok-places.places.items k c.in_ok-places.ensures.seats lt in
    let job = (each k r small).1 in
    let said : IfOk (get_or v.items k r) (IsWork g.D.Digest.digest_of g.row.B c.args.host.now job.job.seat job.job.worker c.args.lines.now) = job.call.met.0 in
    subst (λ (p : SeatView × ℕ). IfOk (get_or v.items k r) (IsWork g.D.Digest.digest_of g.row.B c.args.host.now p.0 p.1 c.args.lines.now))
    (place_there c.args.seats.items c.in_ok-places.places.items k job.job s c.in_ok-places.ensures.seats c.in_ok-places.ensures.places small (job.job_is job.job)) said) c.map_vec.ensures.each
