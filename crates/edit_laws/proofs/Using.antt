-- How often CIDs are used, before and after an edit of a tree.
use Rattle.std.proofs.Common.{◌≡◌, ℕ, zero, suc, ◌+◌, ◌<◌, ◌≤◌, List, map, refl, sym, subst, ◌∙◌, arith, inl, inr}
use Rattle.std.specs.Prelude.{Contains, ◌⊎◌}
use Rattle.spec.specs.Cid.{cid, IsDigest}
use Rattle.spec.specs.Tree.{Pair}
use Rattle.spec.specs.Blocks.{nodes, ArePairs, IsClashFree}
use Rattle.spec.proofs.Once.{firsts-nodes}
use Rattle.edit_laws.specs.Changes.{count, AreChanges}
use Rattle.edit_laws.proofs.Lists.{contains-counted, counted-contains, count-map, from-map, firsts-once}
use Rattle.edit_laws.specs.Uses.{uses}
use Rattle.edit_laws.specs.Laws.Uses.{EditKeepsUses}

-- a block of a list uses its CID
pub used : (digest : List ℕ → List ℕ) (bs : List (List ℕ)) (b : List ℕ) → Contains bs b → 0 < uses digest (cid digest b) bs
used digest bs b h = let i = counted-contains b bs h in let j = count-map (cid digest) b bs in omega arith

pub used_at : (digest : List ℕ → List ℕ) (bs : List (List ℕ)) (b c : List ℕ) → cid digest b ≡ c → Contains bs b → 0 < uses digest c bs
used_at digest bs b c e h = subst (λ x. 0 < uses digest x bs) e (used digest bs b h)

-- and a CID that is used is that of a block
pub record User (digest : List ℕ → List ℕ) (c : List ℕ) (bs : List (List ℕ)) : Type 0 where
  pub block : List ℕ
  pub is : cid digest block ≡ c
  pub here : Contains bs block

pub user : (digest : List ℕ → List ℕ) (c : List ℕ) (bs : List (List ℕ)) → 0 < uses digest c bs → User digest c bs
user digest c bs h = let f = from-map (cid digest) c bs h in record { block = f.source; is = f.is; here = contains-counted f.source bs f.stands }

-- a block is in a list or isn't
pub here_or_not : (b : List ℕ) (bs : List (List ℕ)) → Contains bs b ⊎ (Contains bs b → ⊥)
here_or_not b bs = by_count (count b bs) refl
  where
    by_count : (k : ℕ) → count b bs ≡ k → Contains bs b ⊎ (Contains bs b → ⊥)
    by_count zero e = inr (λ h. let i = counted-contains b bs h in absurd (omega arith))
    by_count (suc k) e = inl (contains-counted b bs (omega arith))

-- ---- numbers of uses of one CID: new, dropped, old, added

balance : (n d o a : ℕ) → n ≤ 1 → d ≤ 1 → o ≤ 1 → a ≤ 1 → (0 < a → 0 < n) → (0 < d → 0 < o) → (0 < a → 0 < o → 0 < d)
    → (a ≡ 0 → 0 < n → (0 < o) × (d ≡ 0)) → (n ≡ 0 → 0 < o → 0 < d) → n + d ≡ o + a
balance n zero zero (suc a) ln ld lo la h1 h2 h3 h4 h5 = let x = h1 (omega arith) in omega arith
balance n (suc d) zero (suc a) ln ld lo la h1 h2 h3 h4 h5 = let x : 0 < 0 = h2 (omega arith) in absurd (omega arith)
balance n d (suc o) (suc a) ln ld lo la h1 h2 h3 h4 h5 = let x = h1 (omega arith) in let y = h3 (omega arith) (omega arith) in omega arith
balance zero zero zero zero ln ld lo la h1 h2 h3 h4 h5 = omega arith
balance zero (suc d) zero zero ln ld lo la h1 h2 h3 h4 h5 = let x : 0 < 0 = h2 (omega arith) in absurd (omega arith)
balance zero d (suc o) zero ln ld lo la h1 h2 h3 h4 h5 = let x = h5 refl (omega arith) in omega arith
balance (suc n) d o zero ln ld lo la h1 h2 h3 h4 h5 = let x = h4 refl (omega arith) in let y : 0 < o = x.0 in let z : d ≡ 0 = x.1 in omega arith

-- ---- an edit

module _ (digest : List ℕ → List ℕ) (old new read add drop : List (List ℕ)) (changes : AreChanges digest old new read add drop)
    (old_free : IsClashFree digest old) (new_free : IsClashFree digest new)
    (old_once : (c : List ℕ) → uses digest c old ≤ 1) (new_once : (c : List ℕ) → uses digest c new ≤ 1) where
  new_most : (b : List ℕ) → count b new ≤ 1
  new_most b = let i = count-map (cid digest) b new in let j = new_once (cid digest b) in omega arith

  added-new : (c : List ℕ) → 0 < uses digest c add → 0 < uses digest c new
  added-new c h = let u = user digest c add h in used_at digest new u.block c u.is (changes.fresh u.block u.here).0

  abbrev Dropped : List ℕ → Type 0
  Dropped c = (b : List ℕ) × Contains old b × (¬ Contains new b) × (cid digest b ≡ c)

  dropped : (c : List ℕ) → 0 < count c drop → Dropped c
  dropped c h = (changes.dropped c).0 (contains-counted c drop h)

  drops : (c b : List ℕ) → Contains old b → (Contains new b → ⊥) → cid digest b ≡ c → 0 < count c drop
  drops c b o n e = counted-contains c drop ((changes.dropped c).1 (b, o, n, e))

  dropped-old : (c : List ℕ) → 0 < count c drop → 0 < uses digest c old
  dropped-old c h = let d = dropped c h in used_at digest old d.0 c d.3 d.1

  both-dropped : (c : List ℕ) → 0 < uses digest c add → 0 < uses digest c old → 0 < count c drop
  both-dropped c h k =
      let a = user digest c add h in
      let o = user digest c old k in
      drops c o.block o.here
      (λ n. let same : o.block ≡ a.block = new_free o.block a.block n (changes.fresh a.block a.here).0 (o.is ∙ sym a.is) in
      changes.apart new_most a.block a.here (subst (λ x. Contains old x) same o.here)) o.is

  new-old : (c : List ℕ) → uses digest c add ≡ 0 → 0 < uses digest c new → User digest c new
      → (b : List ℕ) → Contains new b → cid digest b ≡ c → Contains old b ⊎ (Contains old b → ⊥) → (0 < uses digest c old) × (count c drop ≡ 0)
  new-old c z h u b n e (inl o) = (used_at digest old b c e o, none (count c drop) refl)
    where
      none : (k : ℕ) → count c drop ≡ k → k ≡ 0
      none zero q = refl
      none (suc k) q =
          let d = dropped c (omega arith) in
          let same : d.0 ≡ b = old_free d.0 b d.1 o (d.3 ∙ sym e) in
          absurd (d.2 (subst (λ x. Contains new x) (sym same) n))
  new-old c z h u b n e (inr not_old) = let i = used_at digest add b c e (changes.whole b n not_old) in absurd (omega arith)

  old-dropped : (c : List ℕ) → uses digest c new ≡ 0 → 0 < uses digest c old → 0 < count c drop
  old-dropped c z h =
      let o = user digest c old h in
      drops c o.block o.here (λ n. let i = used_at digest new o.block c o.is n in absurd (omega arith)) o.is

  pub uses-even : (c : List ℕ) → uses digest c new + count c drop ≡ uses digest c old + uses digest c add
  uses-even c =
      balance (uses digest c new) (count c drop) (uses digest c old) (uses digest c add) (new_once c) (changes.drop_once c) (old_once c) (changes.once c)
      (added-new c) (dropped-old c) (both-dropped c)
      (λ z h. let u = user digest c new h in new-old c z h u u.block u.here u.is (here_or_not u.block old))
      (old-dropped c)

-- ---- of trees

pub nodes-used_once : (digest : List ℕ → List ℕ) (bits : ℕ) → IsDigest digest → (es : List Pair) → ArePairs es → IsClashFree digest (nodes digest bits es)
    → (c : List ℕ) → uses digest c (nodes digest bits es) ≤ 1
nodes-used_once digest bits fits es are free c =
    subst (λ bs. count c (map (cid digest) bs) ≤ 1) (firsts-nodes digest bits fits es are free) (firsts-once (cid digest) c (nodes digest bits es))

pub edit-uses : EditKeepsUses
edit-uses digest bits fits es fs old_are new_are read add drop changes old_free new_free =
    uses-even digest (nodes digest bits es) (nodes digest bits fs) read add drop changes old_free new_free
    (nodes-used_once digest bits fits es old_are old_free) (nodes-used_once digest bits fits fs new_are new_free)
