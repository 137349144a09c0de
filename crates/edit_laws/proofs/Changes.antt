-- What an edit adds and drops, as lists without doubles, makes the new blocks of the old ones.
use Rattle.std.proofs.Common.{◌≡◌, ℕ, zero, suc, ◌+◌, ◌<◌, ◌≤◌, Bool, true, false, not, List, ◌++◌, map, refl, ap, arith}
use Rattle.std.specs.Prelude.{Contains}
use Rattle.std.specs.List.{filter}
use Rattle.spec.specs.Cid.{cid}
use Rattle.spec.specs.Blocks.{IsClashFree}
use Rattle.edit_laws.specs.Changes.{count, has_cid, add_of, drop_of, AreChanges}
use Rattle.edit_laws.proofs.Lists.{contains-counted, counted-contains, count-append, count-map, From, from-map, filter-out, filter-in, firsts-once, firsts-from, firsts-some, has-counted, has-not, filter-fewer}

-- what is known of an edit: over each block, old and made is new and gone
pub record Balance (digest : List ℕ → List ℕ) (old new made gone read : List (List ℕ)) : Type 0 where
  pub even : (b : List ℕ) → count b old + count b made ≡ count b new + count b gone
  pub gone_old : (b : List ℕ) → count b gone ≤ count b old
  pub old_once : (b : List ℕ) → count b old ≤ 1
  pub gone_once : (c : List ℕ) → count c (map (cid digest) gone) ≤ 1
  pub gone_read : (b : List ℕ) → 0 < count b gone → 0 < count b read
  pub read_old : (b : List ℕ) → 0 < count b read → 0 < count b old
  pub free : IsClashFree digest (made ++ read)

module _ (digest : List ℕ → List ℕ) (old new made gone read : List (List ℕ))
    (known : Balance digest old new made gone read) where
  abbrev is_unread : List ℕ → Bool
  is_unread b = not (has_cid (cid digest b) (map (cid digest) read))

  -- of what is made or read, one CID has one block
  one : (a b : List ℕ) → 0 < count a made + count a read → 0 < count b made + count b read
      → cid digest a ≡ cid digest b → a ≡ b
  one a b h k e =
      let p = count-append a made read in
      let q = count-append b made read in
      known.free a b (contains-counted a (made ++ read) (omega arith))
      (contains-counted b (made ++ read) (omega arith)) e

  unread-case : (b : List ℕ) (t : Bool) → has_cid (cid digest b) (map (cid digest) read) ≡ t
      → 0 < count b (filter is_unread made) → (0 < count b made) × (count b read ≡ 0)
  unread-case b true h k = let z = filter-out is_unread b made (ap not h) in absurd (omega arith)
  unread-case b false h k =
      let e = filter-in is_unread b made (ap not h) in
      let z = has-not (cid digest b) (map (cid digest) read) h in
      let l = count-map (cid digest) b read in
      (omega arith, omega arith)

  unread : (b : List ℕ) → 0 < count b (add_of digest read made) → (0 < count b made) × (count b read ≡ 0)
  unread b k =
      let l = firsts-from (cid digest) b (filter is_unread made) in
      unread-case b (has_cid (cid digest b) (map (cid digest) read)) refl (omega arith)

  gone-none : (b : List ℕ) (g : ℕ) → count b gone ≡ g → count b read ≡ 0 → g ≡ 0
  gone-none b zero e z = refl
  gone-none b (suc g) e z = let l : 0 < count b read = known.gone_read b (omega arith) in absurd (omega arith)

  fresh : (b : List ℕ) → Contains (add_of digest read made) b → Contains new b × (Contains read b → ⊥)
  fresh b c =
      let u = unread b (counted-contains b (add_of digest read made) c) in
      let m : 0 < count b made = u.0 in
      let r : count b read ≡ 0 = u.1 in
      let g = gone-none b (count b gone) refl r in
      let e = known.even b in
      (contains-counted b new (omega arith), λ d. let k = counted-contains b read d in absurd (omega arith))

  -- a made block that is not old
  unread-made : (b : List ℕ) → 0 < count b made → count b old ≡ 0 → (t : Bool)
      → has_cid (cid digest b) (map (cid digest) read) ≡ t → t ≡ false
  unread-made b m o true h =
      let f : From (cid digest) (cid digest b) read =
      from-map (cid digest) (cid digest b) read (has-counted (cid digest b) (map (cid digest) read) h) in
      let s : 0 < count f.source read = f.stands in
      let e : f.source ≡ b = one f.source b (omega arith) (omega arith) f.is in
      let r : count f.source read ≡ count b read = ap (λ x. count x read) e in
      let k : 0 < count b old = known.read_old b (omega arith) in
      absurd (omega arith)
  unread-made b m o false h = refl

  added : (b : List ℕ) → 0 < count b made → count b old ≡ 0 → 0 < count b (add_of digest read made)
  added b m o =
      let t = has_cid (cid digest b) (map (cid digest) read) in
      let h : t ≡ false = unread-made b m o t refl in
      let e = filter-in is_unread b made (ap not h) in
      firsts-some (cid digest) b (filter is_unread made)
      (λ a l c. let x = filter-fewer is_unread a made in let y : 0 < count a (filter is_unread made) = l in
      one a b (omega arith) (omega arith) c)
      (omega arith)

  -- what is made and wasn't read stands among the new blocks once more than among the old ones
  apart : ((b : List ℕ) → count b new ≤ 1) → (b : List ℕ) → Contains (add_of digest read made) b → Contains old b → ⊥
  apart most b c o =
      let u = unread b (counted-contains b (add_of digest read made) c) in
      let m : 0 < count b made = u.0 in
      let r : count b read ≡ 0 = u.1 in
      let g = gone-none b (count b gone) refl r in
      let k = counted-contains b old o in
      let e = known.even b in
      let n = most b in
      absurd (omega arith)

  none-old : (b : List ℕ) (k : ℕ) → count b old ≡ k → (Contains old b → ⊥) → k ≡ 0
  none-old b zero e n = refl
  none-old b (suc k) e n = absurd (n (contains-counted b old (omega arith)))

  none-new : (b : List ℕ) (k : ℕ) → count b new ≡ k → (Contains new b → ⊥) → k ≡ 0
  none-new b zero e n = refl
  none-new b (suc k) e n = absurd (n (contains-counted b new (omega arith)))

  whole : (b : List ℕ) → Contains new b → (Contains old b → ⊥) → Contains (add_of digest read made) b
  whole b c n =
      let k = counted-contains b new c in
      let o = none-old b (count b old) refl n in
      let e = known.even b in
      let g = known.gone_old b in
      contains-counted b (add_of digest read made) (added b (omega arith) o)

  -- ---- what is dropped

  abbrev not_made : List ℕ → Bool
  not_made c = not (has_cid c (map (cid digest) made))

  drop-case : (c : List ℕ) (t : Bool) → has_cid c (map (cid digest) made) ≡ t
      → 0 < count c (drop_of digest made gone)
      → (0 < count c (map (cid digest) gone)) × (count c (map (cid digest) made) ≡ 0)
  drop-case c true h k = let z = filter-out not_made c (map (cid digest) gone) (ap not h) in absurd (omega arith)
  drop-case c false h k =
      let e = filter-in not_made c (map (cid digest) gone) (ap not h) in
      (omega arith, has-not c (map (cid digest) made) h)

  abbrev IsDropped : List ℕ → Type 0
  IsDropped c = (b : List ℕ) × Contains old b × (Contains new b → ⊥) × (cid digest b ≡ c)

  dropped-is : (c : List ℕ) → Contains (drop_of digest made gone) c → IsDropped c
  dropped-is c d =
      let u = drop-case c (has_cid c (map (cid digest) made)) refl (counted-contains c (drop_of digest made gone) d) in
      let f : From (cid digest) c gone = from-map (cid digest) c gone u.0 in
      let b = f.source in
      let s : 0 < count b gone = f.stands in
      let m = count-map (cid digest) b made in
      let n : count (cid digest b) (map (cid digest) made)
      ≡ count c (map (cid digest) made) = ap (λ x. count x (map (cid digest) made)) f.is in
      let z : count c (map (cid digest) made) ≡ 0 = u.1 in
      let g = known.gone_old b in
      let o = known.old_once b in
      let e = known.even b in
      (b, contains-counted b old (omega arith), (λ k. let l = counted-contains b new k in absurd (omega arith)), f.is)

  made-none : (b : List ℕ) → 0 < count b gone → count b made ≡ 0 → (t : Bool)
      → has_cid (cid digest b) (map (cid digest) made) ≡ t → t ≡ false
  made-none b g m true h =
      let f : From (cid digest) (cid digest b) made =
      from-map (cid digest) (cid digest b) made (has-counted (cid digest b) (map (cid digest) made) h) in
      let s : 0 < count f.source made = f.stands in
      let r : 0 < count b read = known.gone_read b g in
      let e : f.source ≡ b = one f.source b (omega arith) (omega arith) f.is in
      let q : count f.source made ≡ count b made = ap (λ x. count x made) e in
      absurd (omega arith)
  made-none b g m false h = refl

  is-dropped : (b : List ℕ) → Contains old b → (Contains new b → ⊥)
      → 0 < count (cid digest b) (drop_of digest made gone)
  is-dropped b o n =
      let k = counted-contains b old o in
      let z = none-new b (count b new) refl n in
      let g = known.gone_old b in
      let e = known.even b in
      let m : count b made ≡ 0 = omega arith in
      let s : 0 < count b gone = omega arith in
      let t = has_cid (cid digest b) (map (cid digest) made) in
      let h : t ≡ false = made-none b s m t refl in
      let f = filter-in not_made (cid digest b) (map (cid digest) gone) (ap not h) in
      let l = count-map (cid digest) b gone in
      omega arith

  dropped-in : (c : List ℕ) → IsDropped c → Contains (drop_of digest made gone) c
  dropped-in c (b, o, n, e) =
      let k = is-dropped b o n in
      let f : count (cid digest b) (drop_of digest made gone)
      ≡ count c (drop_of digest made gone) = ap (λ x. count x (drop_of digest made gone)) e in
      contains-counted c (drop_of digest made gone) (omega arith)

  pub changes : AreChanges digest old new read (add_of digest read made) (drop_of digest made gone)
  changes = record {
    fresh = fresh;
    whole = whole;
    once = λ c. firsts-once (cid digest) c (filter is_unread made);
    dropped = λ c. (dropped-is c, dropped-in c);
    drop_once = λ c. let l = known.gone_once c in let k = filter-fewer not_made c (map (cid digest) gone) in
        omega arith;
    apart = apart;
  }
