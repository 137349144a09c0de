-- A frame is cut head by head.
use Rattle.std.proofs.Common.{◌≡◌, ◌∙◌, ◌+◌, ◌-◌, ◌<◌, ◌≤◌, ℕ, suc, List, length, Ok, Err, refl, sym, ap, ap₂, subst, arith}
use Rattle.std.specs.Prelude.{Option, Some, None, Result}
use Rattle.spec.specs.Reading.{◌>>=◌, Fails}
use Rattle.spec.specs.Head.{CborFault, Truncated}
use Rattle.event_frames.specs.Frames.{behind, behind_head, frame_length}

-- ---- one head

one_more : (heads items : ℕ) (left : List ℕ) (r : ℕ × List ℕ) → behind_head items left ≡ Ok r → behind (suc heads) (suc items) left ≡ behind heads r.0 r.1
unfolding behind
one_more heads items left r e = ap (λ q. q >>= (λ s. behind heads s.0 s.1)) e

one_fails : (heads items : ℕ) (left : List ℕ) (f : CborFault) → behind_head items left ≡ Err f → behind (suc heads) (suc items) left ≡ Err f
unfolding behind
one_fails heads items left f e = ap (λ q. q >>= (λ s. behind heads s.0 s.1)) e

none_left : (heads : ℕ) (left : List ℕ) → behind heads 0 left ≡ Ok left
unfolding behind
none_left heads left = refl

too_few : (items : ℕ) (left : List ℕ) → behind 0 (suc items) left ≡ Err Truncated
unfolding behind
too_few items left = refl

-- ---- in the loop

module _ (bytes : List ℕ) (turn items : ℕ) (left : List ℕ) (far : turn < length bytes) (some : 0 < items) where
  as_suc : behind (length bytes - turn) items left ≡ behind (suc (length bytes - (turn + 1))) (suc (items - 1)) left
  as_suc =
      let heads : length bytes - turn ≡ suc (length bytes - (turn + 1)) = omega (arith, far) in
      let first : items ≡ suc (items - 1) = omega (arith, some) in
      ap₂ (λ h i. behind h i left) heads first

  pub passed_on : (r : ℕ × List ℕ) → behind_head (items - 1) left ≡ Ok r → behind (length bytes - turn) items left ≡ behind (length bytes - (turn + 1)) r.0 r.1
  passed_on r e = as_suc ∙ one_more (length bytes - (turn + 1)) (items - 1) left r e

  fails_on : (f : CborFault) → behind_head (items - 1) left ≡ Err f → behind (length bytes - turn) items left ≡ Err f
  fails_on f e = as_suc ∙ one_fails (length bytes - (turn + 1)) (items - 1) left f e

-- ---- the whole

ended : (bytes left : List ℕ) → behind (length bytes) 2 bytes ≡ Ok left → frame_length bytes ≡ Ok (length bytes - length left)
unfolding frame_length
ended bytes left e = ap (λ q. q >>= (λ rest. Ok (length bytes - length rest))) e

stopped : (bytes : List ℕ) (f : CborFault) → behind (length bytes) 2 bytes ≡ Err f → frame_length bytes ≡ Err f
unfolding frame_length
stopped bytes f e = ap (λ q. q >>= (λ rest. Ok (length bytes - length rest))) e

-- no item is left
pub at_end : (bytes left : List ℕ) (heads items place : ℕ) → behind (length bytes) 2 bytes ≡ behind heads items left → items ≡ 0
    → place + length left ≡ length bytes → frame_length bytes ≡ Ok place
at_end bytes left heads items place is none whole =
    let before : length bytes - length left ≡ place = omega (arith, whole) in
    ended bytes left (is ∙ ap (λ i. behind heads i left) none ∙ none_left heads left) ∙ ap (λ n. Ok n) before

-- the bytes end before
pub cut_off : (bytes left : List ℕ) (heads items : ℕ) → behind (length bytes) 2 bytes ≡ behind heads items left → heads ≡ 0 → 0 < items
    → frame_length bytes ≡ Err Truncated
cut_off bytes left heads items is end some =
    let first : items ≡ suc (items - 1) = omega (arith, some) in
    stopped bytes Truncated (is ∙ ap₂ (λ h i. behind h i left) end first ∙ too_few (items - 1) left)

-- a head is at fault
pub at_fault : (bytes left : List ℕ) (turn items : ℕ) (o : Option CborFault) → behind (length bytes) 2 bytes ≡ behind (length bytes - turn) items left
    → turn < length bytes → 0 < items → Fails o (behind_head (items - 1) left) → Fails o (frame_length bytes)
at_fault bytes left turn items None is far some fails = tt
at_fault bytes left turn items (Some f) is far some fails = stopped bytes f (is ∙ fails_on bytes turn items left far some f fails)
