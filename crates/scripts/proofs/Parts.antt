-- What all workers did, and the answers in order.
use Rattle.std.proofs.Common.{◌≡◌, ◌<◌, ℕ, List, [], ◌∷◌, length, map, get_or, ap, sym, ◌∙◌, subst, arith, All, IfOk, Ok, Err, Result, Global}
use Rattle.std.proofs.lemmas.List.{length-map}
use Rattle.std.proofs.lemmas.List.{get_or-map as get_or_map}
use Rattle.std.proofs.Math.ListN.{get_or-map}
use Rattle.std.specs.declared.collections.VecDeque.{VecDeque}
use Rattle.ended.specs.Ending.{EndedView, IsEndedAt}
use Rattle.host.specs.Views.{HostView, SeatView, IsSeatOf, beginning}
use Rattle.scripts.specs.Merging.{AreEnough, AreOwn, own_lines, own_answers}
use Rattle.scripts.specs.Working.{IsDone, IsWork}
use Rattle.scripts.specs.Scripts.{AreByPlace, AreDone, AreEachDone, AreEachEnded}
use Rattle.scripts.specs.declared.script.Line.{Line}
use Rattle.scripts.specs.declared.script.Answer.{Answer}
use Rattle.scripts.specs.declared.running.Place.{Place}
use Rattle.scripts.specs.declared.working.Done.{Done}
use Rattle.scripts.proofs.Runs.{run_length}

-- the seat of each place is one of the host's
pub seat_there : (h : HostView) (seats : List SeatView) (places : List Place) (i : ℕ) (p : Place) → All (IsSeatOf h) seats
    → map (λ p. p.seat) places ≡ seats → i < length places → p ≡ get_or places i p → IsSeatOf h p.seat
seat_there h seats places i p all same lt at =
    let f : Place → SeatView = λ p. p.seat in
    let there : get_or seats i p.seat ≡ p.seat = ap (λ xs. get_or xs i p.seat) (sym same) ∙ get_or_map f places i p p.seat lt ∙ ap f (sym at) in
    let small : i < length seats = omega (arith, length-map places f, ap length same) in
    subst (IsSeatOf h) there (all i p.seat small)

pub if_ok_one : {T E : Type 0} {P R : T → Type 0} (r : Result T E) → ((x : T) → P x → R x) → IfOk r P → IfOk r R
if_ok_one (Ok x) h p = h x p
if_ok_one (Err e) h p = tt

pub small_there : (seats : List SeatView) (places : List Place) (k : ℕ) → map (λ p. p.seat) places ≡ seats → k < length seats → k < length places
small_there seats places k same lt =
    let f : Place → SeatView = λ p. p.seat in omega (arith, length-map places f, ap length same)

-- the place of a worker has its seat, and its number
pub place_there : (seats : List SeatView) (places : List Place) (k : ℕ) (p : Place) (s : SeatView) → map (λ p. p.seat) places ≡ seats → AreByPlace places
    → k < length places → get_or places k p ≡ p → ◌≡◌ {A = SeatView × ℕ} (p.seat, p.worker) (get_or seats k s, k)
place_there seats places k p s same numbers lt at =
    let f : Place → SeatView = λ p. p.seat in
    let seat : p.seat ≡ get_or seats k s = sym (ap (λ xs. get_or xs k s) (sym same) ∙ get_or_map f places k p s lt ∙ ap f at) in
    let worker : p.worker ≡ k = sym (ap (λ (q : Place). q.worker) at) ∙ numbers k p lt in
    λ j. (seat j, worker j)

-- ---- over what all workers did

one_of : {X : Type 0} (xs : List X) (k : ℕ) → k < length xs → X
one_of [] k lt = absurd (omega arith)
one_of (x ∷ xs) k lt = x

pub each_done : {D E : Type 0} (digest : List ℕ → List ℕ) (bits : ℕ) (host : HostView) (seats : List SeatView) (lines : List Line) (all : List (Result (Done D) E)) (done : List (Done D))
    → AreEachDone digest bits host seats lines all → all ≡ map Ok done → (k : ℕ) (s : SeatView) (d : Done D) → k < length seats
    → IsWork digest bits host (get_or seats k s) k lines (get_or done k d)
each_done {D} {E} digest bits host seats lines all done each same k s d lt =
    let at : get_or all k (Ok d) ≡ Ok (get_or done k d) = ap (λ rs. get_or rs k (Ok d)) same ∙ get_or-map Ok done k d in
    subst (λ (r : Result (Done D) E). IfOk r (IsWork digest bits host (get_or seats k s) k lines)) at (each k s (Ok d) lt)

-- what the workers were answered
pub answers_at : {D : Type 0} (given : List (VecDeque (Answer D) Global)) (done : List (Done D)) (k : ℕ) (d : Done D) (x : List (Answer D))
    → given ≡ map (λ d. d.answers) done → k < length done → get_or (map (λ q. q.items) given) k x ≡ (get_or done k d).answers.items
answers_at {D} given done k d x same lt =
    let f : Done D → VecDeque (Answer D) Global = λ d. d.answers in
    let h : VecDeque (Answer D) Global → List (Answer D) = λ q. q.items in
    let long : k < length given = omega (arith, ap length same, length-map done f) in
    get_or_map h given k d.answers x long ∙ ap h (ap (λ qs. get_or qs k d.answers) same ∙ get_or-map f done k d)

-- these are enough
pub are_enough : {D E : Type 0} (digest : List ℕ → List ℕ) (bits : ℕ) (host : HostView) (seats : List SeatView) (lines : List Line) (all : List (Result (Done D) E)) (done : List (Done D)) (given : List (VecDeque (Answer D) Global))
    → AreEachDone digest bits host seats lines all → length all ≡ length seats → all ≡ map Ok done → given ≡ map (λ d. d.answers) done
    → AreEnough lines (map (λ q. q.items) given)
are_enough {D} {E} digest bits host seats lines all done given each long same parts k x lt =
    let f : Done D → VecDeque (Answer D) Global = λ d. d.answers in
    let h : VecDeque (Answer D) Global → List (Answer D) = λ q. q.items in
    let ok : Done D → Result (Done D) E = Ok in
    let in_done : k < length done = omega (arith, lt, length-map given h, ap length parts, length-map done f) in
    let in_seats : k < length seats = omega (arith, in_done, long, ap length same, length-map done ok) in
    let d = one_of done k in_done in
    let s = one_of seats k in_seats in
    let w = each_done digest bits host seats lines all done each same k s d in_seats in
    ap length (answers_at given done k d x parts in_done)
    ∙ run_length digest bits (beginning host (get_or seats k s)) w.0 (own_lines k lines) (get_or done k d).answers.items w.1

-- the whole script
pub are_done : {D E : Type 0} (digest : List ℕ → List ℕ) (bits : ℕ) (host : HostView) (seats : List SeatView) (lines : List Line) (all : List (Result (Done D) E)) (done : List (Done D)) (given : List (VecDeque (Answer D) Global)) (ended : List EndedView) (answers : List (Answer D))
    → AreEachDone digest bits host seats lines all → length all ≡ length seats → all ≡ map Ok done → given ≡ map (λ d. d.answers) done → ended ≡ map (λ d. d.ended) done
    → AreOwn lines answers (map (λ q. q.items) given)
    → AreDone digest bits host seats lines answers ended
are_done {D} {E} digest bits host seats lines all done given ended answers each long same parts ends own k s e lt =
    let f : Done D → VecDeque (Answer D) Global = λ d. d.answers in
    let h : VecDeque (Answer D) Global → List (Answer D) = λ q. q.items in
    let ok : Done D → Result (Done D) E = Ok in
    let in_done : k < length done = omega (arith, lt, long, ap length same, length-map done ok) in
    let d = one_of done k in_done in
    let last : get_or ended k e ≡ (get_or done k d).ended = ap (λ es. get_or es k e) ends ∙ get_or_map (λ (c : Done D). c.ended) done k d e in_done in
    let in_given : k < length (map h given) = omega (arith, in_done, length-map given h, ap length parts, length-map done f) in
    let x = d.answers.items in
    let said : own_answers k lines answers ≡ (get_or done k d).answers.items = own k x in_given ∙ answers_at given done k d x parts in_done in
    subst (λ xs. IsDone digest bits host (get_or seats k s) (own_lines k lines) xs (get_or ended k e)) (sym said)
    (subst (IsDone digest bits host (get_or seats k s) (own_lines k lines) (get_or done k d).answers.items) (sym last)
    (each_done digest bits host seats lines all done each same k s d lt))

pub are_ended : {D E : Type 0} (host : HostView) (all : List (Result (Done D) E)) (done : List (Done D)) (ended : List EndedView)
    → AreEachEnded host all → all ≡ map Ok done → ended ≡ map (λ d. d.ended) done
    → All (IsEndedAt host.queue.queue_id host.repos) ended
are_ended {D} {E} host all done ended each same ends k e lt =
    let f : Done D → EndedView = λ d. d.ended in
    let ok : Done D → Result (Done D) E = Ok in
    let in_done : k < length done = omega (arith, lt, ap length ends, length-map done f) in
    let in_all : k < length all = omega (arith, in_done, ap length same, length-map done ok) in
    let d = one_of done k in_done in
    let last : get_or ended k e ≡ (get_or done k d).ended = ap (λ es. get_or es k e) ends ∙ get_or_map f done k d e in_done in
    let at : get_or all k (Ok d) ≡ Ok (get_or done k d) = ap (λ rs. get_or rs k (Ok d)) same ∙ get_or-map Ok done k d in
    subst (IsEndedAt host.queue.queue_id host.repos) (sym last)
    (subst (λ (r : Result (Done D) E). IfOk r (λ c. IsEndedAt host.queue.queue_id host.repos c.ended)) at (each k (Ok d) in_all))
