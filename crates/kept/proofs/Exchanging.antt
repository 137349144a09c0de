-- Blocks that come one after the other, and are taken back from the last.
use Rattle.std.proofs.Common.{zero, suc, ◌≡◌, ℕ, ◌+◌, ◌<◌, ◌∷◌, [], ◌++◌, List, length, get_or, take, ap, sym, ◌∙◌, subst, arith, map as each}
use Rattle.std.specs.Prelude.{Contains}
use Rattle.std.specs.Arc.{arc_value}
use Rattle.std.specs.declared.sync.Arc.{Arc}
use Rattle.std.proofs.lemmas.List.{take_more, map-append}
use Rattle.store.specs.Faults.{IsRefusalOf}
use Rattle.store.specs.declared.fault.StoreFault.{StoreFault}
use Rattle.store.specs.declared.fault.StoreFault.TheVariants.{Collision, Full, NoMemory}
use Rattle.kept.specs.Counts.{Counts, ComeAlone, raised}
use Rattle.kept.specs.Faults.{IsRefusalOfOne}

-- the elements up to a place, that one too
pub one_further : {X : Type 0} (xs : List X) (i : ℕ) (x : X) → i < length xs → x ≡ get_or xs i x → take (i + 1) xs ≡ take i xs ++ x ∷ []
one_further xs i x below is = take_more xs i x below ∙ ap (λ y. take i xs ++ y ∷ []) (sym is)

module _ {A : Type 0} where
  abbrev pub bytes_of : List (Arc (List ℕ) A) → List (List ℕ)
  bytes_of xs = each arc_value xs

  pub block_further : (xs : List (Arc (List ℕ) A)) (i : ℕ) (x : Arc (List ℕ) A) → i < length xs → x ≡ get_or xs i x
      → bytes_of (take (i + 1) xs) ≡ bytes_of (take i xs) ++ arc_value x ∷ []
  block_further xs i x below is = ap bytes_of (one_further xs i x below is) ∙ map-append arc_value (take i xs) (x ∷ [])

  pub block_in : (xs : List (Arc (List ℕ) A)) (i : ℕ) (x : Arc (List ℕ) A) → i < length xs → x ≡ get_or xs i x → Contains (bytes_of xs) (arc_value x)
  block_in [] i x below is = absurd (omega arith)
  block_in (y ∷ ys) zero x below is = (zero, omega arith, ap arc_value (sym is))
  block_in (y ∷ ys) (suc i) x below is = further (block_in ys i x (omega arith) is)
    where
      further : Contains (bytes_of ys) (arc_value x) → Contains (arc_value y ∷ bytes_of ys) (arc_value x)
      further (k, lt, e) = (suc k, omega arith, e)

  -- the first of the blocks come alone too
  pub alone_take : (digest : List ℕ → List ℕ) (m : Counts) (xs : List (Arc (List ℕ) A)) (n : ℕ) → ComeAlone digest m (bytes_of xs)
      → ComeAlone digest m (bytes_of (take n xs))
  alone_take digest m [] zero h = tt
  alone_take digest m [] (suc n) h = tt
  alone_take digest m (x ∷ xs) zero h = tt
  alone_take digest m (x ∷ xs) (suc n) h = (h.0, alone_take digest (raised digest m (arc_value x)) xs n h.1)

-- a block's refusal is one of some blocks among which it is
pub refusal_of_one : {D A : Type 0} (digest : List ℕ → List ℕ) (bs : List (List ℕ)) (b : List ℕ) (fault : StoreFault D A) → Contains bs b
    → IsRefusalOf digest b fault → IsRefusalOfOne digest bs fault
refusal_of_one digest bs b (Collision pair) i h = (subst (Contains bs) (sym h.0) i, h.1)
refusal_of_one digest bs b Full i h = tt
refusal_of_one digest bs b NoMemory i h = tt
