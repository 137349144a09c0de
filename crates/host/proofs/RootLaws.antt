-- Whether a core has the root that is wanted of it.
use Rattle.std.proofs.Common.{◌≡◌, ℕ, List, Bool, sym, subst, Option, Some}
use Rattle.std.specs.Prelude.{Decides}
use Rattle.std.specs.Str.{bytes_eq}
use Rattle.std.proofs.lemmas.Slice.Eq.{bytes_eq-Decides}
use Rattle.spec.specs.States.{State, state_root}
use Rattle.host.specs.Rooting.{HasRoot}

-- by its own one
pub root-decides : (digest : List ℕ → List ℕ) (bits : ℕ) (s : State) (wanted : Option (List ℕ)) (root own : List ℕ) (t : Bool)
    → wanted ≡ Some root → own ≡ state_root digest bits s → t ≡ bytes_eq own root → Decides t (HasRoot digest bits wanted s)
root-decides digest bits s wanted root own t is own_is e =
    subst (λ w. Decides t (HasRoot digest bits w s)) (sym is)
    (subst (λ b. Decides b (state_root digest bits s ≡ root)) (sym e)
    (subst (λ x. Decides (bytes_eq own root) (x ≡ root)) own_is (bytes_eq-Decides own root)))
