-- What holds of each pair of a list holds of each in its cut.
use Rattle.std.proofs.Common.{◌≡◌, ℕ, zero, suc, ◌<◌, Bool, true, false, nat_eq, List, [], ◌∷◌, refl, arith}
use Rattle.std.proofs.lemmas.Bool.{eqb-false}
use Rattle.spec.specs.Tree.{Pair, Part, Sub, Groups, LastGroup, MoreGroups, push, enter, cut, node_of, below, tree}
use Rattle.edit_laws.specs.TreeEdit.{with_first, locate, close}
use Rattle.edit_laws.specs.Pairs.{Each, IsAfter}
use Rattle.edit_laws.proofs.Cut.{befores, last_group, first_group, Keys}
use Rattle.spec.proofs.TreeLaws.{Inner, IsLower}

abbrev pub InGroups : (Pair → Type 0) → Groups → Type 0
InGroups P (LastGroup g) = Each P g
InGroups P (MoreGroups g e r) = Each P g × P e × InGroups P r

enter-in : (P : Pair → Type 0) (b : Bool) (e : Pair) (g : Groups) → P e → InGroups P g → InGroups P (enter b e g)
enter-in P true e g p h = (tt, p, h)
enter-in P false e (LastGroup g) p h = (p, h)
enter-in P false e (MoreGroups g x r) p h = ((p, h.0), h.1, h.2)

pub cut-in : (P : Pair → Type 0) (layer : List ℕ → ℕ) (n : ℕ) (es : List Pair) → Each P es → InGroups P (cut layer n es)
cut-in P layer n [] h = tt
cut-in P layer n (e ∷ es) h = enter-in P (nat_eq (layer e.0) n) e (cut layer n es) h.0 (cut-in P layer n es h.1)

pub befores-in : (P : Pair → Type 0) (part : List Pair → Part) (g : Groups) → InGroups P g → Keys P (befores part g)
befores-in P part (LastGroup g) h = tt
befores-in P part (MoreGroups g e r) h = (h.1, befores-in P part r h.2)

pub last-in : (P : Pair → Type 0) (g : Groups) → InGroups P g → Each P (last_group g)
last-in P (LastGroup g) h = h
last-in P (MoreGroups g e r) h = last-in P r h.2

pub first-in : (P : Pair → Type 0) (g : Groups) → InGroups P g → Each P (first_group g)
first-in P (LastGroup g) h = h
first-in P (MoreGroups g e r) h = h.0

pub last-inner : (P : Pair → Type 0) (g : Groups) → Inner P g → Each P (last_group g)
last-inner P (LastGroup g) h = h
last-inner P (MoreGroups g e r) h = last-inner P r h.1

pub first-inner : (P : Pair → Type 0) (g : Groups) → Inner P g → Each P (first_group g)
first-inner P (LastGroup g) h = h
first-inner P (MoreGroups g e r) h = h.0

-- a key stops the search in what begins after it
pub stops : (key : List ℕ) (p : Part) (part : List Pair → Part) (g : Groups) → InGroups (IsAfter key) g
    → locate key (with_first p (node_of part g)) ≡ record { before = []; here = with_first p (node_of part g) }
stops key p part (LastGroup g) h = refl
stops key p part (MoreGroups g e r) h = rw h.1

close-pushed : (layer : List ℕ → ℕ) (m : ℕ) (e : Pair) (g : Groups)
    → close (node_of (below layer (suc m)) (push e g)) ≡ Sub (node_of (below layer (suc m)) (push e g))
close-pushed layer m e (LastGroup g) = refl
close-pushed layer m e (MoreGroups g x r) = refl

close-entered : (layer : List ℕ → ℕ) (n : ℕ) (b : Bool) (e : Pair) (g : Groups) → (b ≡ false → layer e.0 < n)
    → close (node_of (below layer n) (enter b e g)) ≡ Sub (node_of (below layer n) (enter b e g))
close-entered layer n true e g h = refl
close-entered layer zero false e g h = let l : layer e.0 < zero = h refl in absurd (omega arith)
close-entered layer (suc m) false e g h = close-pushed layer m e g

pub close-tree : (layer : List ℕ → ℕ) (n : ℕ) (es : List Pair) → Each (IsLower layer (suc n)) es
    → close (tree layer n es) ≡ below layer (suc n) es
close-tree layer zero [] h = refl
close-tree layer (suc m) [] h = refl
close-tree layer n (e ∷ es) h =
    close-entered layer n (nat_eq (layer e.0) n) e (cut layer n es)
    (λ q. let l : layer e.0 < suc n = h.0 in let ne = eqb-false (layer e.0) n q in omega arith)
