-- The agenda of the code.
use Rattle.std.proofs.Common.{◌≡◌, List, [], ◌∷◌, ◌++◌, length, refl, ap, ◌∙◌, arith}
use Rattle.cid.specs.declared.digest.Digest.{Ghosts}
use Rattle.edit.specs.declared.walk.Task as code
use Rattle.edit.specs.Agendas.{task_of, agenda_of}

more : {D A : Type 0} {g : Ghosts D} (ts : List (code.Task D A g)) (t : code.Task D A g) → agenda_of (ts ++ (t ∷ [])) ≡ agenda_of ts ++ (task_of t ∷ [])
more [] t = refl
more (x ∷ ts) t = ap (λ ys. task_of x ∷ ys) (more ts t)

pub agenda-more : {D A : Type 0} {g : Ghosts D} (all ts : List (code.Task D A g)) (t : code.Task D A g) → all ≡ ts ++ (t ∷ [])
    → agenda_of all ≡ agenda_of ts ++ (task_of t ∷ [])
agenda-more all ts t e = ap agenda_of e ∙ more ts t

pub agenda-none : {D A : Type 0} {g : Ghosts D} (ts : List (code.Task D A g)) → length ts ≡ 0 → agenda_of ts ≡ []
agenda-none [] h = refl
agenda-none (t ∷ ts) h = absurd (omega arith)
