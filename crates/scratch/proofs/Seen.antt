-- Blocks that are seen one after the other, each CID with the place of a block.
use Rattle.std.proofs.Common.{◌≡◌, ◌≢◌, ℕ, ◌+◌, ◌<◌, ◌≤◌, Bool, true, false, not, cond, nat_eq, List, [], map, length, slice_index_or, Option, Some, None, refl, sym, ap, ◌∙◌, subst, arith}
use Rattle.std.specs.Cmp.Lexicographic.{pointwise}
use Rattle.std.specs.Str.{bytes_eq}
use Rattle.std.proofs.lemmas.Bool.{eqb-true, eqb-false}
use Rattle.std.proofs.lemmas.List.{get_or_default, get_or-map, length-map}
use Rattle.std.proofs.lemmas.Slice.Eq.{bytes_eq-Decides}
use Rattle.spec.specs.Cid.{cid}
use Rattle.spec.specs.Blocks.{IsClashFree}
use Rattle.scratch.specs.Faults.{AreClashing}

-- a place of the same bytes for each of the first n blocks, and no other place
pub record Sees (digest : List ℕ → List ℕ) (block : ℕ → List ℕ) (n : ℕ) (place_of : List ℕ → Option ℕ) : Type 0 where
  pub known : (j : ℕ) → j < n → (i : ℕ) × (place_of (cid digest (block j)) ≡ Some i) × (block i ≡ block j)
  pub held : (q : List ℕ) (i : ℕ) → place_of q ≡ Some i → (i < n) × (cid digest (block i) ≡ q)

same_place : (i j : ℕ) (o p : Option ℕ) → o ≡ p → o ≡ Some i → p ≡ Some j → i ≡ j
same_place i j o p e f g = cc

-- no two of them clash
Sees-clash_free : (digest : List ℕ → List ℕ) (bs : List (List ℕ)) (n : ℕ) (place_of : List ℕ → Option ℕ) → n ≡ length bs → Sees digest (λ i. slice_index_or bs i []) n place_of → IsClashFree digest bs
Sees-clash_free digest bs n place_of whole s a b in_a in_b e =
    let k = s.known in_a.0 (omega (arith, in_a.1)) in
    let l = s.known in_b.0 (omega (arith, in_b.1)) in
    let is_a : slice_index_or bs in_a.0 [] ≡ a = get_or_default bs in_a.0 [] a in_a.1 ∙ in_a.2 in
    let is_b : slice_index_or bs in_b.0 [] ≡ b = get_or_default bs in_b.0 [] b in_b.1 ∙ in_b.2 in
    let same : k.0 ≡ l.0 = same_place k.0 l.0 _ _ (ap place_of (ap (cid digest) is_a ∙ e ∙ ap (cid digest) (sym is_b))) k.1 l.1 in
    sym is_a ∙ sym k.2 ∙ ap (λ i. slice_index_or bs i []) same ∙ l.2 ∙ is_b

-- ---- the place of the next block is put under its CID

abbrev pub is_at_key : List ℕ → List ℕ → Bool
is_at_key k q = pointwise nat_eq k q

same_key : (k q : List ℕ) → is_at_key k q ≡ true → k ≡ q
same_key k q h = (bytes_eq-Decides k q).0 h

at_itself : (k : List ℕ) → is_at_key k k ≡ true
at_itself k = (bytes_eq-Decides k k).1 refl

-- what stood there was a place of the same bytes, or none
abbrev pub IsSame : (ℕ → List ℕ) → ℕ → Option ℕ → Type 0
IsSame block n None = Unit {0}
IsSame block n (Some i) = block i ≡ block n

same_bytes : (block : ℕ → List ℕ) (n i : ℕ) (o : Option ℕ) → IsSame block n o → o ≡ Some i → block i ≡ block n
same_bytes block n i None h e = cc
same_bytes block n i (Some j) h e = let same : j ≡ i = same_place j i (Some j) (Some i) e refl refl in ap block (sym same) ∙ h

module _ (digest : List ℕ → List ℕ) (block : ℕ → List ℕ) (n : ℕ) (old new : List ℕ → Option ℕ) (o : Option ℕ) (was : o ≡ old (cid digest (block n))) (same : IsSame block n o)
    (puts : (q : List ℕ) → new q ≡ cond (is_at_key (cid digest (block n)) q) (Some n) (old q)) (s : Sees digest block n old) where
  put_there : (q : List ℕ) (b : Bool) → is_at_key (cid digest (block n)) q ≡ b → new q ≡ cond b (Some n) (old q)
  put_there q b e = puts q ∙ ap (λ t. cond t (Some n) (old q)) e

  -- an earlier block with the CID of the next
  again : (j : ℕ) → j < n → cid digest (block n) ≡ cid digest (block j) → block n ≡ block j
  again j lt e = let k = s.known j lt in sym (same_bytes block n k.0 o same (was ∙ ap old e ∙ k.1)) ∙ k.2

  known_at : (j : ℕ) → j < n + 1 → (b : Bool) → nat_eq j n ≡ b → (t : Bool) → is_at_key (cid digest (block n)) (cid digest (block j)) ≡ t → (i : ℕ) × (new (cid digest (block j)) ≡ Some i) × (block i ≡ block j)
  known_at j lt true e true h = (n, put_there _ true h, ap block (sym (eqb-true j n e)))
  known_at j lt true e false h =
      let back : is_at_key (cid digest (block n)) (cid digest (block j)) ≡ true = subst (λ i. is_at_key (cid digest (block n)) (cid digest (block i)) ≡ true) (sym (eqb-true j n e)) (at_itself (cid digest (block n))) in
      absurd cc
  known_at j lt false e true h = let ne = eqb-false j n e in (n, put_there _ true h, again j (omega arith) (same_key _ _ h))
  known_at j lt false e false h = let ne = eqb-false j n e in let k = s.known j (omega arith) in (k.0, put_there _ false h ∙ k.1, k.2)

  held_at : (q : List ℕ) (i : ℕ) → new q ≡ Some i → (t : Bool) → is_at_key (cid digest (block n)) q ≡ t → (i < n + 1) × (cid digest (block i) ≡ q)
  held_at q i e true h =
      let here : n ≡ i = same_place n i (new q) (new q) refl (put_there q true h) e in
      (omega arith, ap (λ k. cid digest (block k)) (sym here) ∙ same_key _ q h)
  held_at q i e false h = let k = s.held q i (sym (put_there q false h) ∙ e) in (omega (arith, k.0), k.1)

  pub Sees-more : Sees digest block (n + 1) new
  Sees-more = record { known = λ j lt. known_at j lt (nat_eq j n) refl (is_at_key (cid digest (block n)) (cid digest (block j))) refl; held = λ q i e. held_at q i e (is_at_key (cid digest (block n)) q) refl }

-- ---- elements that are seen as their blocks

at_place : {X : Type 0} (f : X → List ℕ) (xs : List X) (i : ℕ) (x : X) → i < length xs → x ≡ slice_index_or xs i x → slice_index_or (map f xs) i [] ≡ f x
at_place f xs i x h e = get_or-map f xs i x [] h ∙ ap f (sym e)

equal_by : (t : Bool) (a b : List ℕ) → bytes_eq a b ≡ t → not t ≡ false → a ≡ b
equal_by true a b e h = (bytes_eq-Decides a b).0 e
equal_by false a b e h = cc

other_by : (t : Bool) (a b : List ℕ) → bytes_eq a b ≡ t → not t ≡ true → a ≢ b
other_by true a b e h = cc
other_by false a b e h = λ same. let f = (bytes_eq-Decides a b).1 same in cc

module _ {X : Type 0} (f : X → List ℕ) (digest : List ℕ → List ℕ) (xs : List X) (n : ℕ) (x : X) (old : List ℕ → Option ℕ) (key : List ℕ)
    (lt : n < length xs) (is : x ≡ slice_index_or xs n x) (is_key : key ≡ cid digest (f x)) (s : Sees digest (λ i. slice_index_or (map f xs) i []) n old) where
  here : slice_index_or (map f xs) n [] ≡ f x
  here = at_place f xs n x lt is

  key_here : key ≡ cid digest (slice_index_or (map f xs) n [])
  key_here = is_key ∙ ap (cid digest) (sym here)

  -- the place that stood there
  pub place_below : (i : ℕ) → old key ≡ Some i → i < length xs
  place_below i found = omega (arith, (s.held key i found).0)

  -- other bytes were found there
  pub Sees-clashing : (i : ℕ) (y : X) (a b : List ℕ) → old key ≡ Some i → y ≡ slice_index_or xs i y → a ≡ f y → b ≡ f x → not (bytes_eq a b) ≡ true → AreClashing digest (map f xs) i n
  Sees-clashing i y a b found is_y is_a is_b other =
      let h = s.held key i found in
      let there = at_place f xs i y (place_below i found) is_y in
      let apart = other_by (bytes_eq a b) a b refl other in
      let few : length (map f xs) ≡ length xs = length-map xs f in
      record {
        has_one = omega (arith, place_below i found);
        has_other = omega arith;
        clash = (h.1 ∙ key_here, λ same. apart (is_a ∙ sym there ∙ same ∙ here ∙ sym is_b));
      }

  -- the same bytes were found there, or nothing
  pub Sees-same : (i : ℕ) (y : X) (a b : List ℕ) (new : List ℕ → Option ℕ) → old key ≡ Some i → y ≡ slice_index_or xs i y → a ≡ f y → b ≡ f x → not (bytes_eq a b) ≡ false
      → ((q : List ℕ) → new q ≡ cond (is_at_key key q) (Some n) (old q)) → Sees digest (λ i. slice_index_or (map f xs) i []) (n + 1) new
  Sees-same i y a b new found is_y is_a is_b equal puts =
      let there = at_place f xs i y (place_below i found) is_y in
      Sees-more digest (λ i. slice_index_or (map f xs) i []) n old new (Some i) (sym found ∙ ap old key_here)
      (there ∙ sym is_a ∙ equal_by (bytes_eq a b) a b refl equal ∙ is_b ∙ sym here)
      (λ q. puts q ∙ ap (λ k. cond (is_at_key k q) (Some n) (old q)) key_here) s

  pub Sees-new : (new : List ℕ → Option ℕ) → old key ≡ None → ((q : List ℕ) → new q ≡ cond (is_at_key key q) (Some n) (old q)) → Sees digest (λ i. slice_index_or (map f xs) i []) (n + 1) new
  Sees-new new found puts =
      Sees-more digest (λ i. slice_index_or (map f xs) i []) n old new None (sym found ∙ ap old key_here) tt (λ q. puts q ∙ ap (λ k. cond (is_at_key k q) (Some n) (old q)) key_here) s

-- all are seen
pub Sees-all : {X : Type 0} (f : X → List ℕ) (digest : List ℕ → List ℕ) (xs : List X) (n : ℕ) (place_of : List ℕ → Option ℕ) → length xs ≤ n → n ≤ length xs → Sees digest (λ i. slice_index_or (map f xs) i []) n place_of
    → IsClashFree digest (map f xs)
Sees-all f digest xs n place_of low high s = let few : length (map f xs) ≡ length xs = length-map xs f in Sees-clash_free digest (map f xs) n place_of (omega arith) s
