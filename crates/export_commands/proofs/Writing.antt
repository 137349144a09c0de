-- Writing in parts: what is written of a whole where the next part is, and where one fails.
use Rattle.std.proofs.Common.{◌≡◌, ℕ, suc, ◌+◌, ◌<◌, List, ◌++◌, length, drop, get_or, sym, ap, ◌∙◌, add-one, append_assoc}
use Rattle.std.specs.List.{flat_map}
use Rattle.std.proofs.Math.Seq.{drop-cons}
use Rattle.std.specs.Prelude.{Option, Result, Ok, Err, IsErr}
use Rattle.std.specs.Io.KnownBytes.{Appends}
use Rattle.console.specs.Written.{AppendsBeginning, Writes}
use Rattle.console.proofs.Leaving.{Appends-append}

beginning-then : (a b c : Option (List ℕ)) (x y : List ℕ) → Appends a b x → AppendsBeginning b c y → AppendsBeginning a c (x ++ y)
beginning-then a b c x y p q =
    (x ++ q.0, q.1, ap (λ t. x ++ t) q.2 ∙ sym (append_assoc x q.0 q.1), Appends-append a b c x q.0 p q.3)

-- a part was written, and then the next, or not all of it
pub writes-then : {E : Type 0} (a b c : Option (List ℕ)) (x y : List ℕ) (r : Result (Unit {0}) E) → Appends a b x → Writes b c r y → Writes a c r (x ++ y)
writes-then a b c x y (Ok done) p q = Appends-append a b c x y p q
writes-then a b c x y (Err e) p q = beginning-then a b c x y p q

-- a part wasn't written whole
pub writes-stopped : {E : Type 0} (a b : Option (List ℕ)) (x y : List ℕ) (r : Result (Unit {0}) E) → AppendsBeginning a b x → IsErr r → Writes a b r (x ++ y)
writes-stopped a b x y (Ok done) p e = absurd cc
writes-stopped a b x y (Err e) p err = (p.0, p.1 ++ y, ap (λ t. t ++ y) p.2 ∙ append_assoc p.0 p.1 y, p.3)

-- what is written of the items from a place on is that of the first of them and that of the others
pub next_line : {X : Type 0} (write : X → List ℕ) (xs : List X) (i : ℕ) (x : X) → i < length xs → x ≡ get_or xs i x
    → flat_map write (drop i xs) ≡ write x ++ flat_map write (drop (i + 1) xs)
next_line write xs i x lt e =
    ap (flat_map write) (drop-cons xs i x lt)
    ∙ ap (λ z. write z ++ flat_map write (drop (suc i) xs)) (sym e)
    ∙ ap (λ j. write x ++ flat_map write (drop j xs)) (sym (add-one i))
