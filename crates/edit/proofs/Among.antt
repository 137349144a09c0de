-- A block among others, and what is added over a list of made blocks.
use Rattle.std.proofs.Common.{◌≡◌, ℕ, zero, suc, ◌<◌, ◌≤◌, Bool, true, false, cond, not, ◌||◌, ◌⊎◌, inl, inr, List, [], ◌∷◌, ◌++◌, length, map, get_or, refl, sym, ap, ◌∙◌, subst, arith}
use Rattle.std.specs.Prelude.{Contains}
use Rattle.std.specs.List.{filter, list_any}
use Rattle.std.specs.Str.{bytes_eq}
use Rattle.std.proofs.lemmas.List.{append-nil, map-append}
use Rattle.std.proofs.lemmas.List.Elements.{filter-append, Contains-append_left, Contains-append_right, Contains-append_cases, Contains-push, Contains-push_cases}
use Rattle.std.proofs.lemmas.List.Folds.{list_any_at}
use Rattle.std.proofs.lemmas.Slice.Eq.{bytes_eq-Decides}
use Rattle.spec.specs.Cid.{cid}
use Rattle.spec.specs.Blocks.{IsClashFree, firsts, IsClash, IsClashIn}
use Rattle.spec.proofs.RootLaws.{in_head, in_tail}
use Rattle.edit_laws.specs.Changes.{has_cid, add_of}
use Rattle.edit.specs.Among.{IsAmong}
use Rattle.edit.specs.Refusals.{IsRefusal}
use Rattle.edit.specs.declared.outcome.EditFault.{EditFault}
use Rattle.edit.specs.declared.outcome.EditFault.TheVariants.{Missing, BadNode, TooDeep, NotTree, NoSuchKey, Clash, NoMemory}

any-map : {A B : Type 0} (p : B → Bool) (f : A → B) (xs : List A) → list_any p (map f xs) ≡ list_any (λ x. p (f x)) xs
any-map p f [] = refl
any-map p f (x ∷ xs) = ap (λ b. p (f x) || b) (any-map p f xs)

or-false : (b : Bool) → (b || false) ≡ b
or-false true = refl
or-false false = refl

-- ---- a search in a list, by the CID

-- the block has the CID of x
abbrev pub is_like : {X : Type 0} → (X → List ℕ) → (List ℕ → List ℕ) → List ℕ → X → Bool
is_like view digest block x = bytes_eq (cid digest block) (cid digest (view x))

module _ {X : Type 0} (view : X → List ℕ) (digest : List ℕ → List ℕ) (block : List ℕ) where
  has-like : (xs : List X)
      → has_cid (cid digest block) (map (cid digest) (map view xs)) ≡ list_any (is_like view digest block) xs
  has-like xs =
      any-map (bytes_eq (cid digest block)) (cid digest) (map view xs)
      ∙ any-map (λ b. bytes_eq (cid digest block) (cid digest b)) view xs

  like-of : (x : X) (b : Bool) → IsAmong digest block (view x ∷ []) b → is_like view digest block x ≡ b
  like-of x b h = sym (or-false (is_like view digest block x)) ∙ sym h.by_cid

  in-map : (xs : List X) (i : ℕ) (x : X) → i < length xs → x ≡ get_or xs i x → Contains (map view xs) (view x)
  in-map [] i x l e = absurd (omega arith)
  in-map (y ∷ xs) zero x l e = subst (λ z. Contains (map view (y ∷ xs)) (view z)) (sym e) (in_head (view y) (map view xs))
  in-map (y ∷ xs) (suc i) x l e = in_tail (view y) (view x) (map view xs) (in-map xs i x (omega arith) e)

  pub one-here : (xs : List X) (i : ℕ) (x : X) → i < length xs → x ≡ get_or xs i x
      → IsAmong digest block (view x ∷ []) true → IsAmong digest block (map view xs) true
  one-here xs i x l e h =
      let c = h.here refl in
      record {
        by_cid = sym (has-like xs
            ∙ list_any_at (is_like view digest block) xs i x l (ap (is_like view digest block) (sym e) ∙ like-of x true h));
        here = λ _. subst (Contains (map view xs)) (only block (view x) c) (in-map xs i x l e);
      }
    where
      only : (a b : List ℕ) → Contains (b ∷ []) a → b ≡ a
      only a b (zero, k, q) = q
      only a b (suc i, k, q) = absurd (omega arith)

-- ---- refusals

pub clash-two : (digest : List ℕ → List ℕ) (a b : List ℕ) (pair : List ℕ × List ℕ) → IsClash digest a b → pair ≡ (a, b)
    → IsClashIn digest (a ∷ b ∷ []) pair
clash-two digest a b pair h e =
    subst (IsClashIn digest (a ∷ b ∷ [])) (sym e) (in_head a (b ∷ []), in_tail a b (b ∷ []) (in_head b []), h)

pub refusal-within : {D A : Type 0} (digest : List ℕ → List ℕ) (P : Type 0) (xs ys : List (List ℕ)) (fault : EditFault D A)
    → ((b : List ℕ) → Contains xs b → Contains ys b) → IsRefusal digest xs ⊥ fault → IsRefusal digest ys P fault
refusal-within digest P xs ys (Missing c) within r = r
refusal-within digest P xs ys (BadNode c) within r = r
refusal-within digest P xs ys TooDeep within r = r
refusal-within digest P xs ys NotTree within r = r
refusal-within digest P xs ys NoSuchKey within r = absurd r
refusal-within digest P xs ys (Clash pair) within r = (within pair.0 r.0, within pair.1 r.1, r.2)
refusal-within digest P xs ys NoMemory within r = tt

-- a block and one of others, among the block and all others
pub two-within : {X : Type 0} (view : X → List ℕ) (block : List ℕ) (xs : List X) (i : ℕ) (x : X) → i < length xs
    → x ≡ get_or xs i x → (b : List ℕ) → Contains (block ∷ view x ∷ []) b → Contains (block ∷ map view xs) b
two-within view block xs i x l e b (zero, k, q) = subst (Contains (block ∷ map view xs)) q (in_head block (map view xs))
two-within view block xs i x l e b (suc zero, k, q) =
    subst (Contains (block ∷ map view xs)) q (in_tail block (view x) (map view xs) (in-map view (λ y. y) block xs i x l e))
two-within view block xs i x l e b (suc (suc n), k, q) = absurd (omega arith)

-- ---- the first of each mark

any-filter-case : (c : List ℕ) (mark : List ℕ → List ℕ) (q : List ℕ → Bool) (x : List ℕ) (xs : List (List ℕ)) (s t : Bool)
    → bytes_eq c (mark x) ≡ s → (s ≡ true → t ≡ true)
    → list_any (bytes_eq c) (map mark (filter q xs)) ≡ list_any (bytes_eq c) (map mark xs)
    → list_any (bytes_eq c) (map mark (cond t (x ∷ filter q xs) (filter q xs)))
    ≡ (bytes_eq c (mark x) || list_any (bytes_eq c) (map mark xs))
any-filter-case c mark q x xs s true h k ih = ap (λ b. bytes_eq c (mark x) || b) ih
any-filter-case c mark q x xs true false h k ih = let f = k refl in cc
any-filter-case c mark q x xs false false h k ih = ih ∙ sym (ap (λ b. b || list_any (bytes_eq c) (map mark xs)) h)

any-filter : (c : List ℕ) (mark : List ℕ → List ℕ) (q : List ℕ → Bool) (xs : List (List ℕ))
    → ((f : List ℕ) → bytes_eq c (mark f) ≡ true → q f ≡ true)
    → list_any (bytes_eq c) (map mark (filter q xs)) ≡ list_any (bytes_eq c) (map mark xs)
any-filter c mark q [] h = refl
any-filter c mark q (x ∷ xs) h =
    any-filter-case c mark q x xs (bytes_eq c (mark x)) (q x) refl (h x) (any-filter c mark q xs h)

abbrev other : (List ℕ → List ℕ) → List ℕ → List ℕ → Bool
other mark y c = not (bytes_eq (mark y) (mark c))

other-same : (mark : List ℕ → List ℕ) (x y : List ℕ) → bytes_eq (mark x) (mark y) ≡ true → other mark y x ≡ false
other-same mark x y h =
    ap not ((bytes_eq-Decides (mark y) (mark x)).1 (sym ((bytes_eq-Decides (mark x) (mark y)).0 h)))

other-new-case : (mark : List ℕ → List ℕ) (x y : List ℕ) (t : Bool) → bytes_eq (mark y) (mark x) ≡ t
    → bytes_eq (mark x) (mark y) ≡ false → not t ≡ true
other-new-case mark x y true e h =
    let k = (bytes_eq-Decides (mark x) (mark y)).1 (sym ((bytes_eq-Decides (mark y) (mark x)).0 e)) in cc
other-new-case mark x y false e h = refl

other-new : (mark : List ℕ → List ℕ) (x y : List ℕ) → bytes_eq (mark x) (mark y) ≡ false → other mark y x ≡ true
other-new mark x y h = other-new-case mark x y (bytes_eq (mark y) (mark x)) refl h

filter-one : (q : List ℕ → Bool) (x : List ℕ) (ys : List (List ℕ)) (t : Bool) → q x ≡ t
    → filter q (ys ++ x ∷ []) ≡ cond t (filter q ys ++ x ∷ []) (filter q ys)
filter-one q x ys t h = filter-append q ys (x ∷ []) ∙ ap (λ b. filter q ys ++ cond b (x ∷ []) []) h ∙ last t
  where
    last : (t : Bool) → filter q ys ++ cond t (x ∷ []) [] ≡ cond t (filter q ys ++ x ∷ []) (filter q ys)
    last true = refl
    last false = append-nil (filter q ys)

abbrev Snoc : (List ℕ → List ℕ) → List ℕ → List (List ℕ) → Type 0
Snoc mark x ys =
    firsts mark (ys ++ x ∷ [])
    ≡ cond (list_any (bytes_eq (mark x)) (map mark (firsts mark ys))) (firsts mark ys) (firsts mark ys ++ x ∷ [])

-- the same mark as y: x goes
same-mark : (mark : List ℕ → List ℕ) (x y : List ℕ) (fs : List (List ℕ)) (t : Bool) → other mark y x ≡ false
    → filter (other mark y) (cond t fs (fs ++ x ∷ [])) ≡ filter (other mark y) fs
same-mark mark x y fs true h = refl
same-mark mark x y fs false h = filter-one (other mark y) x fs false h

-- another mark: x stays where it is new
other-mark : (mark : List ℕ → List ℕ) (x y : List ℕ) (fs : List (List ℕ)) (t : Bool) → other mark y x ≡ true
    → y ∷ filter (other mark y) (cond t fs (fs ++ x ∷ []))
    ≡ cond t (y ∷ filter (other mark y) fs) (y ∷ filter (other mark y) fs ++ x ∷ [])
other-mark mark x y fs true h = refl
other-mark mark x y fs false h = ap (λ zs. y ∷ zs) (filter-one (other mark y) x fs true h)

snoc-case : (mark : List ℕ → List ℕ) (x y : List ℕ) (ys : List (List ℕ)) (s : Bool) → bytes_eq (mark x) (mark y) ≡ s
    → Snoc mark x ys
    → y ∷ filter (other mark y) (firsts mark (ys ++ x ∷ []))
    ≡ cond (s || list_any (bytes_eq (mark x)) (map mark (filter (other mark y) (firsts mark ys))))
    (y ∷ filter (other mark y) (firsts mark ys)) (y ∷ filter (other mark y) (firsts mark ys) ++ x ∷ [])
snoc-case mark x y ys true h ih =
    ap (λ zs. y ∷ filter (other mark y) zs) ih
    ∙ ap (λ zs. y ∷ zs)
    (same-mark mark x y (firsts mark ys) (list_any (bytes_eq (mark x)) (map mark (firsts mark ys))) (other-same mark x y h))
snoc-case mark x y ys false h ih =
    ap (λ zs. y ∷ filter (other mark y) zs) ih
    ∙ other-mark mark x y (firsts mark ys) (list_any (bytes_eq (mark x)) (map mark (firsts mark ys))) (other-new mark x y h)
    ∙ sym (ap (λ b. cond b (y ∷ filter (other mark y) (firsts mark ys)) (y ∷ filter (other mark y) (firsts mark ys) ++ x ∷ []))
    (any-filter (mark x) mark (other mark y) (firsts mark ys)
    (λ f k. other-new mark f y (differs mark x y f h k))))
  where
    differs-case : (mark : List ℕ → List ℕ) (x y f : List ℕ) (t : Bool) → bytes_eq (mark f) (mark y) ≡ t
        → bytes_eq (mark x) (mark y) ≡ false → bytes_eq (mark x) (mark f) ≡ true → t ≡ false
    differs-case mark x y f true e h k =
        let same = (bytes_eq-Decides (mark x) (mark y)).1
        ((bytes_eq-Decides (mark x) (mark f)).0 k ∙ (bytes_eq-Decides (mark f) (mark y)).0 e) in cc
    differs-case mark x y f false e h k = refl

    differs : (mark : List ℕ → List ℕ) (x y f : List ℕ) → bytes_eq (mark x) (mark y) ≡ false
        → bytes_eq (mark x) (mark f) ≡ true → bytes_eq (mark f) (mark y) ≡ false
    differs mark x y f h k = differs-case mark x y f (bytes_eq (mark f) (mark y)) refl h k

firsts-snoc : (mark : List ℕ → List ℕ) (x : List ℕ) (ys : List (List ℕ)) → Snoc mark x ys
firsts-snoc mark x [] = refl
firsts-snoc mark x (y ∷ ys) = snoc-case mark x y ys (bytes_eq (mark x) (mark y)) refl (firsts-snoc mark x ys)

-- ---- what is added

-- what is added so far, over the blocks that were read and those that were made so far
pub record AreAdded (digest : List ℕ → List ℕ) (read made add : List (List ℕ)) : Type 0 where
  pub added : add ≡ add_of digest read made
  pub within : (b : List ℕ) → Contains made b → Contains (add ++ read) b
  pub clash_free : IsClashFree digest read → IsClashFree digest (add ++ read)
  pub from : (b : List ℕ) → Contains add b → Contains made b

not-there : (digest : List ℕ → List ℕ) (x : List ℕ) (bs : List (List ℕ))
    → has_cid (cid digest x) (map (cid digest) bs) ≡ false → (a : List ℕ) → Contains bs a → cid digest x ≡ cid digest a → ⊥
not-there digest x bs h a c e =
    let like : List ℕ → Bool = λ y. bytes_eq (cid digest x) (cid digest y) in
    let found : list_any like bs ≡ true = list_any_at like bs c.0 a c.1
    (ap like c.2 ∙ (bytes_eq-Decides (cid digest x) (cid digest a)).1 e) in
    let none : list_any like bs ≡ false = sym (any-map (bytes_eq (cid digest x)) (cid digest) bs) ∙ h in
    cc

module _ (digest : List ℕ → List ℕ) (read made add : List (List ℕ)) (x : List ℕ) where
  unread : List ℕ → Bool
  unread b = not (has_cid (cid digest b) (map (cid digest) read))

  push-within : (ys : List (List ℕ)) → Contains ys x → ((b : List ℕ) → Contains made b → Contains ys b)
      → (b : List ℕ) → Contains (made ++ x ∷ []) b → Contains ys b
  push-within ys here h b c = by (Contains-push_cases made x b c)
    where
      by : Contains made b ⊎ (x ≡ b) → Contains ys b
      by (inl m) = h b m
      by (inr e) = subst (Contains ys) e here

  pub added-read : IsAmong digest x read true → AreAdded digest read made add → AreAdded digest read (made ++ x ∷ []) add
  unfolding unread
  added-read r a = record {
    added = a.added ∙ sym (ap (firsts (cid digest)) (filter-one unread x made false (ap not (sym r.by_cid))));
    within = push-within (add ++ read) (Contains-append_right add read x (r.here refl)) a.within;
    clash_free = a.clash_free;
    from = λ b k. Contains-append_left made (x ∷ []) b (a.from b k);
  }

  pub added-held : IsAmong digest x read false → IsAmong digest x add true → AreAdded digest read made add
      → AreAdded digest read (made ++ x ∷ []) add
  unfolding unread
  added-held r m a =
      let has : has_cid (cid digest x) (map (cid digest) (add_of digest read made)) ≡ true =
      ap (λ bs. has_cid (cid digest x) (map (cid digest) bs)) (sym a.added) ∙ sym m.by_cid in
      record {
        added = a.added ∙ sym (ap (firsts (cid digest)) (filter-one unread x made true (ap not (sym r.by_cid)))
            ∙ firsts-snoc (cid digest) x (filter unread made)
            ∙ ap (λ b. cond b (add_of digest read made) (add_of digest read made ++ x ∷ [])) has);
        within = push-within (add ++ read) (Contains-append_left add read x (m.here refl)) a.within;
        clash_free = a.clash_free;
        from = λ b k. Contains-append_left made (x ∷ []) b (a.from b k);
      }

  either : (b : List ℕ) → Contains (add ++ x ∷ [] ++ read) b → Contains (add ++ read) b ⊎ (x ≡ b)
  either b c = outer (Contains-append_cases (add ++ x ∷ []) read b c)
    where
      inner : Contains add b ⊎ (x ≡ b) → Contains (add ++ read) b ⊎ (x ≡ b)
      inner (inl k) = inl (Contains-append_left add read b k)
      inner (inr e) = inr e

      outer : Contains (add ++ x ∷ []) b ⊎ Contains read b → Contains (add ++ read) b ⊎ (x ≡ b)
      outer (inl k) = inner (Contains-push_cases add x b k)
      outer (inr k) = inr-less k
        where
          inr-less : Contains read b → Contains (add ++ read) b ⊎ (x ≡ b)
          inr-less k = inl (Contains-append_right add read b k)

  widen : (b : List ℕ) → Contains (add ++ read) b → Contains (add ++ x ∷ [] ++ read) b
  widen b c = by (Contains-append_cases add read b c)
    where
      by : Contains add b ⊎ Contains read b → Contains (add ++ x ∷ [] ++ read) b
      by (inl k) = Contains-append_left (add ++ x ∷ []) read b (Contains-append_left add (x ∷ []) b k)
      by (inr k) = Contains-append_right (add ++ x ∷ []) read b k

  absent : IsAmong digest x read false → IsAmong digest x add false → (b : List ℕ) → Contains (add ++ read) b
      → cid digest x ≡ cid digest b → ⊥
  absent r m b c e = by (Contains-append_cases add read b c)
    where
      by : Contains add b ⊎ Contains read b → ⊥
      by (inl k) = not-there digest x add (sym m.by_cid) b k e
      by (inr k) = not-there digest x read (sym r.by_cid) b k e

  free-more : IsAmong digest x read false → IsAmong digest x add false → IsClashFree digest (add ++ read)
      → IsClashFree digest (add ++ x ∷ [] ++ read)
  free-more r m free a b ca cb e = by (either a ca) (either b cb)
    where
      by : Contains (add ++ read) a ⊎ (x ≡ a) → Contains (add ++ read) b ⊎ (x ≡ b) → a ≡ b
      by (inl p) (inl q) = free a b p q e
      by (inl p) (inr q) = absurd (absent r m a p (ap (cid digest) q ∙ sym e))
      by (inr p) (inl q) = absurd (absent r m b q (ap (cid digest) p ∙ e))
      by (inr p) (inr q) = sym p ∙ q

  pub added-new : IsAmong digest x read false → IsAmong digest x add false → AreAdded digest read made add
      → AreAdded digest read (made ++ x ∷ []) (add ++ x ∷ [])
  unfolding unread
  added-new r m a =
      let has : has_cid (cid digest x) (map (cid digest) (add_of digest read made)) ≡ false =
      ap (λ bs. has_cid (cid digest x) (map (cid digest) bs)) (sym a.added) ∙ sym m.by_cid in
      record {
        added = ap (λ bs. bs ++ x ∷ []) a.added
            ∙ sym (ap (firsts (cid digest)) (filter-one unread x made true (ap not (sym r.by_cid)))
            ∙ firsts-snoc (cid digest) x (filter unread made)
            ∙ ap (λ b. cond b (add_of digest read made) (add_of digest read made ++ x ∷ [])) has);
        within = push-within (add ++ x ∷ [] ++ read)
            (Contains-append_left (add ++ x ∷ []) read x (Contains-push add x)) (λ b c. widen b (a.within b c));
        clash_free = λ free. free-more r m (a.clash_free free);
        from = λ b k. pushed a b (Contains-push_cases add x b k);
      }
    where
      pushed : AreAdded digest read made add → (b : List ℕ) → Contains add b ⊎ (x ≡ b) → Contains (made ++ x ∷ []) b
      pushed a b (inl k) = Contains-append_left made (x ∷ []) b (a.from b k)
      pushed a b (inr e) = subst (Contains (made ++ x ∷ [])) e (Contains-push made x)

-- where all are added, what was made clashes with none that was made or read
pub added-free : (digest : List ℕ → List ℕ) (read made add : List (List ℕ)) → AreAdded digest read made add
    → IsClashFree digest read → IsClashFree digest (made ++ read)
added-free digest read made add a free x y cx cy e =
    a.clash_free free x y (by x (Contains-append_cases made read x cx)) (by y (Contains-append_cases made read y cy)) e
  where
    by : (b : List ℕ) → Contains made b ⊎ Contains read b → Contains (add ++ read) b
    by b (inl k) = a.within b k
    by b (inr k) = Contains-append_right add read b k

-- ---- a loop over the made blocks

module _ {X : Type 0} (view : X → List ℕ) (read : List (List ℕ)) (all so_far rest : List X) (x : X)
    (whole : all ≡ so_far ++ x ∷ rest) where
  in-all : (b : List ℕ) → Contains (map view so_far ++ (view x ∷ map view rest)) b → Contains (map view all) b
  in-all b c =
      subst (λ (ys : List X). Contains (map view ys) b) (sym whole)
      (subst (λ (ys : List (List ℕ)). Contains ys b) (sym (map-append view so_far (x ∷ rest))) c)

  this-one : Contains (map view all) (view x)
  this-one = in-all (view x) (Contains-append_right (map view so_far) (view x ∷ map view rest) (view x) (in_head (view x) (map view rest)))

  pub among-read : (b : List ℕ) → Contains (view x ∷ read) b → Contains (map view all ++ read) b
  among-read b (zero, k, e) = Contains-append_left (map view all) read b (subst (Contains (map view all)) e this-one)
  among-read b (suc n, k, e) = Contains-append_right (map view all) read b (n, omega arith, e)

  pub among-made : (digest : List ℕ → List ℕ) (add : List (List ℕ)) → AreAdded digest read (map view so_far) add
      → (b : List ℕ) → Contains (view x ∷ add) b → Contains (map view all ++ read) b
  among-made digest add a b (zero, k, e) =
      Contains-append_left (map view all) read b (subst (Contains (map view all)) e this-one)
  among-made digest add a b (suc n, k, e) =
      Contains-append_left (map view all) read b
      (in-all b (Contains-append_left (map view so_far) (view x ∷ map view rest) b (a.from b (n, omega arith, e))))

module _ {X : Type 0} (view : X → List ℕ) (digest : List ℕ → List ℕ) (read : List (List ℕ)) (made add : List X) (x : X)
    (a : AreAdded digest read (map view made) (map view add)) where
  pub turn-read : (b : Bool) → b ≡ true → IsAmong digest (view x) read b
      → AreAdded digest read (map view (made ++ x ∷ [])) (map view add)
  turn-read b e r =
      subst (λ (ys : List (List ℕ)). AreAdded digest read ys (map view add)) (sym (map-append view made (x ∷ [])))
      (added-read digest read (map view made) (map view add) (view x) (subst (IsAmong digest (view x) read) e r) a)

  pub turn-held : (b h : Bool) (others : List X) → b ≡ false → IsAmong digest (view x) read b → others ≡ add → h ≡ true
      → IsAmong digest (view x) (map view others) h → AreAdded digest read (map view (made ++ x ∷ [])) (map view add)
  turn-held b h others e r o i m =
      subst (λ (ys : List (List ℕ)). AreAdded digest read ys (map view add)) (sym (map-append view made (x ∷ [])))
      (added-held digest read (map view made) (map view add) (view x) (subst (IsAmong digest (view x) read) e r)
      (subst (IsAmong digest (view x) (map view add)) i
      (subst (λ (ys : List X). IsAmong digest (view x) (map view ys) h) o m)) a)

  pub turn-new : (b h : Bool) (others new : List X) → b ≡ false → IsAmong digest (view x) read b → others ≡ add
      → h ≡ false → IsAmong digest (view x) (map view others) h → new ≡ add ++ x ∷ []
      → AreAdded digest read (map view (made ++ x ∷ [])) (map view new)
  turn-new b h others new e r o i m n =
      subst (λ (ys : List X). AreAdded digest read (map view (made ++ x ∷ [])) (map view ys)) (sym n)
      (subst (λ (ys : List (List ℕ)). AreAdded digest read (map view (made ++ x ∷ [])) ys) (sym (map-append view add (x ∷ [])))
      (subst (λ (ys : List (List ℕ)). AreAdded digest read ys (map view add ++ view x ∷ []))
      (sym (map-append view made (x ∷ [])))
      (added-new digest read (map view made) (map view add) (view x) (subst (IsAmong digest (view x) read) e r)
      (subst (IsAmong digest (view x) (map view add)) i
      (subst (λ (ys : List X). IsAmong digest (view x) (map view ys) h) o m)) a)))

-- a list that a loop went over to its end
pub over : {X : Type 0} (all so_far rest : List X) → all ≡ so_far ++ rest → length rest ≡ 0 → so_far ≡ all
over all so_far [] h n = sym (h ∙ append-nil so_far)
over all so_far (x ∷ xs) h n = absurd (omega arith)

-- ---- how many come

shorter-case : (p : List ℕ → Bool) (x : List ℕ) (xs : List (List ℕ)) (t : Bool) → length (filter p xs) ≤ length xs
    → length (cond t (x ∷ filter p xs) (filter p xs)) ≤ suc (length xs)
shorter-case p x xs true h = omega arith
shorter-case p x xs false h = omega arith

shorter : (p : List ℕ → Bool) (xs : List (List ℕ)) → length (filter p xs) ≤ length xs
shorter p [] = omega arith
shorter p (x ∷ xs) = shorter-case p x xs (p x) (shorter p xs)

fewer : (mark : List ℕ → List ℕ) (xs : List (List ℕ)) → length (firsts mark xs) ≤ length xs
fewer mark [] = omega arith
fewer mark (x ∷ xs) =
    let a = fewer mark xs in
    let b = shorter (λ c. not (bytes_eq (mark x) (mark c))) (firsts mark xs) in omega arith

pub add-few : (digest : List ℕ → List ℕ) (read made : List (List ℕ)) → length (add_of digest read made) ≤ length made
add-few digest read made =
    let unread : List ℕ → Bool = λ b. not (has_cid (cid digest b) (map (cid digest) read)) in
    let a = fewer (cid digest) (filter unread made) in
    let b = shorter unread made in omega arith
