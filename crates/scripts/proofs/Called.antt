-- A batch that was accepted answers its line.
use Rattle.std.proofs.Common.{◌≡◌, ◌<◌, ◌≤◌, ◌++◌, ℕ, List, [], ◌∷◌, subst, sym, Vec, Global}
use Rattle.batches.specs.declared.stamp.Stamp.{Stamp}
use Rattle.batches.specs.Write.{Write}
use Rattle.notices.specs.declared.notice.Notice.{Notice}
use Rattle.host.specs.Telling.{IsPushed, HasNoneBack, HasNoNumber, IsSame, IsTold, IsOfBatch, told_by_writer}
use Rattle.host.specs.Views.{WriterView, with_seen}
use Rattle.scripts.specs.Calls.{IsAccepted, IsCall}
use Rattle.scripts.specs.declared.script.Call.{Call}
use Rattle.scripts.specs.declared.script.Call.TheVariants as calls
use Rattle.scripts.specs.declared.script.Answer.TheVariants as answers

pub accepted_call : {D : Type 0} (digest : List ℕ → List ℕ) (bits : ℕ) (old : WriterView) (repo : ℕ) (call : Call) (stamp : Stamp Global) (writes : Vec (Write Global) Global) (batch : List (Write Global)) (n : Notice) (new : WriterView)
    → call ≡ calls.Apply stamp writes → batch ≡ writes.items → told_by_writer new ≡ told_by_writer old ++ n ∷ [] → IsTold old repo n
    → IsOfBatch digest bits old repo stamp batch n → new.seen ≡ (with_seen old repo n.number).seen → IsPushed old new → HasNoneBack old new → IsSame old new
    → (old.host.repos ≤ repo → ⊥) → (repo < old.host.repos → HasNoNumber old → ⊥)
    → IsCall {D = D} digest bits old repo call (answers.Accepted n) new
accepted_call {D} digest bits old repo call stamp writes batch n new is same told notice accepted seen pushed none_back alike there numbered =
    let one : IsAccepted digest bits old repo stamp writes.items n new =
    record { told = told; notice = notice; accepted = subst (λ b. IsOfBatch digest bits old repo stamp b n) same accepted; seen = seen; pushed = pushed; none_back = none_back; same = alike } in
    subst (λ (c : Call). IsCall {D = D} digest bits old repo c (answers.Accepted n) new) (sym is)
    (record { answered = one; missing = λ none. absurd (there none); no_number = λ has none. absurd (numbered has none) })
