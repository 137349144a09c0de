-- A worker's lines are answered one after the other.
use Rattle.std.proofs.Common.{Bool, ◌≡◌, ◌≢◌, ◌<◌, ◌==◌, ℕ, ◌+◌, List, [], ◌∷◌, ◌++◌, length, take, get_or, refl, ap, sym, ◌∙◌, subst, arith, cond, true, false, append-nil}
use Rattle.std.proofs.lemmas.Bool.Decides.{nat_tests}
use Rattle.std.proofs.lemmas.List.Elements.{filter_more}
use Rattle.ended.specs.Ending.{EndedView}
use Rattle.host.specs.Views.{HostView, SeatView, WriterView, beginning, ended_of}
use Rattle.scripts.specs.Calls.{IsCall}
use Rattle.scripts.specs.Merging.{own_lines}
use Rattle.scripts.specs.Working.{IsRun, IsDone}
use Rattle.scripts.specs.declared.script.Line.{Line}
use Rattle.scripts.specs.declared.script.Answer.{Answer}

-- one more line
run_snoc : {D : Type 0} (digest : List ℕ → List ℕ) (bits : ℕ) (old mid new : WriterView) (lines : List Line) (given : List (Answer D)) (l : Line) (a : Answer D)
    → IsRun digest bits old lines given mid → IsCall digest bits mid l.repo l.call a new
    → IsRun digest bits old (lines ++ l ∷ []) (given ++ a ∷ []) new
run_snoc {D} digest bits old mid new [] [] l a r c = (new, subst (λ (w : WriterView). IsCall digest bits w l.repo l.call a new) r c, refl)
run_snoc digest bits old mid new [] (b ∷ given) l a r c = absurd r
run_snoc digest bits old mid new (m ∷ lines) [] l a r c = absurd r
run_snoc digest bits old mid new (m ∷ lines) (b ∷ given) l a (next, first, rest) c =
    (next, first, run_snoc digest bits next mid new lines given l a rest c)

-- as many answers as lines
pub run_length : {D : Type 0} (digest : List ℕ → List ℕ) (bits : ℕ) (old new : WriterView) (lines : List Line) (given : List (Answer D))
    → IsRun digest bits old lines given new → length given ≡ length lines
run_length digest bits old new [] [] r = refl
run_length digest bits old new [] (b ∷ given) r = absurd r
run_length digest bits old new (m ∷ lines) [] r = absurd r
run_length digest bits old new (m ∷ lines) (b ∷ given) (next, first, rest) =
    let e = run_length digest bits next new lines given rest in omega arith

own_by : (b : Bool) (worker : ℕ) (lines : List Line) (i : ℕ) (l : Line) → (l.worker == worker) ≡ b → i < length lines → l ≡ get_or lines i l
    → own_lines worker (take (i + 1) lines) ≡ own_lines worker (take i lines) ++ cond b (l ∷ []) []
own_by b worker lines i l is lt at =
    filter_more (λ (m : Line). m.worker == worker) lines i l lt
    ∙ ap (λ (m : Line). own_lines worker (take i lines) ++ cond (m.worker == worker) (m ∷ []) []) (sym at)
    ∙ ap (λ t. own_lines worker (take i lines) ++ cond t (l ∷ []) []) is

-- so many lines are passed, and those of this worker among them are answered
pub record IsRunTo {D : Type 0} (digest : List ℕ → List ℕ) (bits : ℕ) (old : WriterView) (worker : ℕ) (lines : List Line) (count : ℕ) (given : List (Answer D)) (new : WriterView) : Type 0 where
  pub run : IsRun digest bits old (own_lines worker (take count lines)) given new

-- the next line is another worker's
pub passed : {D : Type 0} (digest : List ℕ → List ℕ) (bits : ℕ) (old new : WriterView) (worker : ℕ) (lines : List Line) (i : ℕ) (given : List (Answer D)) (l : Line)
    → IsRunTo digest bits old worker lines i given new → i < length lines → l ≡ get_or lines i l → l.worker ≢ worker
    → IsRunTo digest bits old worker lines (i + 1) given new
passed digest bits old new worker lines i given l r lt at other =
    let e = own_by false worker lines i l (grind (arith, nat_tests)) lt at ∙ append-nil (own_lines worker (take i lines)) in
    record { run = subst (λ ls. IsRun digest bits old ls given new) (sym e) r.run }

-- the next line is this worker's, and answered
pub answered : {D : Type 0} (digest : List ℕ → List ℕ) (bits : ℕ) (old mid new : WriterView) (worker : ℕ) (lines : List Line) (i : ℕ) (given : List (Answer D)) (l : Line) (a : Answer D)
    → IsRunTo digest bits old worker lines i given mid → i < length lines → l ≡ get_or lines i l → l.worker ≡ worker
    → IsCall digest bits mid l.repo l.call a new
    → IsRunTo digest bits old worker lines (i + 1) (given ++ a ∷ []) new
answered digest bits old mid new worker lines i given l a r lt at same c =
    let e = own_by true worker lines i l (grind (arith, nat_tests)) lt at in
    record {
      run = subst (λ ls. IsRun digest bits old ls (given ++ a ∷ []) new) (sym e)
          (run_snoc digest bits old mid new (own_lines worker (take i lines)) given l a r.run c);
    }

-- all lines are passed
pub done : {D : Type 0} (digest : List ℕ → List ℕ) (bits : ℕ) (host : HostView) (seat : SeatView) (old new : WriterView) (worker : ℕ) (lines : List Line) (i : ℕ) (given : List (Answer D)) (e : EndedView)
    → IsRunTo digest bits old worker lines i given new → take i lines ≡ lines → old ≡ beginning host seat → e ≡ ended_of new
    → IsDone digest bits host seat (own_lines worker lines) given e
done digest bits host seat old new worker lines i given e r all begins ends = (
  new,
  subst (λ (w : WriterView). IsRun digest bits w (own_lines worker lines) given new) begins
      (subst (λ ls. IsRun digest bits old (own_lines worker ls) given new) all r.run),
  ends,
)
