-- Two lists of pairs merged from their ends.
use Rattle.std.proofs.Common.{◌≡◌, ◌≢◌, ◌⊎◌, inl, inr, ℕ, zero, suc, ◌+◌, ◌-◌, ◌<◌, ◌≤◌, Bool, true, false, List, [], ◌∷◌, ◌++◌, length, get_or, take, drop, map, Option, refl, sym, ap, ◌∙◌, subst, arith, append_assoc}
use Rattle.std.proofs.Math.Seq.{drop-cons}
use Rattle.std.proofs.lemmas.List.{take_all, map-append, reverse-append, length-drop}
use Rattle.std.proofs.lemmas.Slice.Eq.{bytes_eq-Decides}
use Rattle.std.specs.Prelude.{◌↔◌, IsTrue, reverse}
use Rattle.std.specs.Str.{bytes_eq}
use Rattle.std.specs.Ordering.{is_gt}
use Rattle.std.specs.declared.option.Option.TheVariants.{Some, None}
use Rattle.std.specs.declared.cmp.Ordering.{Ordering}
use Rattle.std.specs.declared.cmp.Ordering.TheVariants.{Less, Equal, Greater}
use Rattle.spec.specs.Tree.{Pair}
use Rattle.edit_laws.specs.Order.{order}
use Rattle.edit_laws.specs.Pairs.{Each, IsBefore, IsAfter, Ascending}
use Rattle.edit_laws.proofs.EachPair.{halves, each-parts, each-both, each-map, ascending-parts}
use Rattle.edit_laws.proofs.Orders.{order-equal, turned, turned_back, after-trans, before-trans}
use Rattle.change_laws.specs.Told.{KeyChange}
use Rattle.difference_laws.specs.Laws.{IsDifference, front}
use Rattle.difference_laws.proofs.Merging.{merges-in_front}
use Rattle.difference.specs.Keys.{key_in}
use Rattle.difference.specs.Merged.{AreLast, HasLast, IsLastOf, greatest_of, pair_of, pairs_in, changes_told, told_of}
use Rattle.difference.specs.declared.line.Row.{Row}
use Rattle.difference.specs.declared.merging.Greatest.{Greatest}
use Rattle.difference.specs.declared.outcome.KeyDifference.{KeyDifference}

-- ---- keys that ascend

first-case : (e f : Pair) (fs : List Pair) (o : Ordering) (b : Bool) → order f.0 e.0 ≡ o → b ≡ is_gt o → Ascending (f ∷ fs)
    → IsTrue b ↔ Ascending (e ∷ f ∷ fs)
first-case e f fs Less b q h a = ((λ k. absurd cc), λ k. let z : order f.0 e.0 ≡ Greater = k.0.0 in absurd cc)
first-case e f fs Equal b q h a = ((λ k. absurd cc), λ k. let z : order f.0 e.0 ≡ Greater = k.0.0 in absurd cc)
first-case e f fs Greater b q h a = (
  (λ k. ((q, each-map (IsAfter f.0) (IsAfter e.0) fs (λ x l. after-trans x.0 f.0 e.0 l q) a.0), a)),
  λ k. h,
)

module _ {A : Type 0} (r : Row A) where
  pub comes-alone : (rs : List (Row A)) → length rs < 1 → IsTrue true ↔ Ascending (pairs_in (r ∷ rs))
  comes-alone [] h = ((λ k. (tt, tt)), λ k. refl)
  comes-alone (x ∷ rs) h = absurd (omega arith)

  comes-case : (rs : List (Row A)) (x : Row A) (b : Bool) → 1 ≤ length rs → x ≡ get_or rs 0 x
      → b ≡ is_gt (order (key_in x.key) (key_in r.key)) → Ascending (pairs_in rs) → IsTrue b ↔ Ascending (pairs_in (r ∷ rs))
  comes-case [] x b l is h a = absurd (omega arith)
  comes-case (y ∷ rs) x b l is h a =
      first-case (pair_of r) (pair_of y) (pairs_in rs) (order (key_in y.key) (key_in r.key)) b refl
      (h ∙ ap (λ z. is_gt (order (key_in z.key) (key_in r.key))) is) a

  pub comes-first : (rs : List (Row A)) (x : Row A) (b : Bool) → 1 ≤ length rs → x ≡ get_or rs 0 x
      → b ≡ is_gt (order (key_in x.key) (key_in r.key)) → Ascending (pairs_in rs) → IsTrue b ↔ Ascending (pairs_in (r ∷ rs))
  comes-first = comes-case

asc-drop : {A : Type 0} (rs : List (Row A)) (i : ℕ) → Ascending (pairs_in rs) → Ascending (pairs_in (drop i rs))
asc-drop rs zero a = a
asc-drop [] (suc i) a = a
asc-drop (r ∷ rs) (suc i) a = asc-drop rs i a.1

pub asc-none : {A : Type 0} (rs : List (Row A)) → Ascending (pairs_in (drop (length rs) rs))
asc-none [] = tt
asc-none (r ∷ rs) = asc-none rs

rest-of : {X : Type 0} (xs : List X) (i : ℕ) → take (length xs - i) (drop i xs) ≡ drop i xs
rest-of xs i = let l = length-drop i xs in take_all (length xs - i) (drop i xs) (omega (arith, l))

module _ {A : Type 0} (rs : List (Row A)) (i : ℕ) (x : Row A) (b : Bool) (short : i < length rs) (is : x ≡ get_or rs i x)
    (first : Ascending (pairs_in (take (length rs - (i + 1)) (drop (i + 1) rs)))
    → IsTrue b ↔ Ascending (pairs_in (x ∷ take (length rs - (i + 1)) (drop (i + 1) rs)))) where
  from-here : drop i rs ≡ x ∷ drop (i + 1) rs
  from-here =
      let next : suc i ≡ i + 1 = omega arith in
      drop-cons rs i x short ∙ ap (λ y. y ∷ drop (suc i) rs) (sym is) ∙ ap (λ n. x ∷ drop n rs) next

  firstly : Ascending (pairs_in (drop (i + 1) rs)) → IsTrue b ↔ Ascending (pairs_in (drop i rs))
  firstly a =
      subst (λ (z : List (Row A)). IsTrue b ↔ Ascending (pairs_in z)) (ap (λ z. x ∷ z) (rest-of rs (i + 1)) ∙ sym from-here)
      (first (subst (λ (z : List (Row A)). Ascending (pairs_in z)) (sym (rest-of rs (i + 1))) a))

  pub asc-more : b ≡ true → Ascending (pairs_in (drop (i + 1) rs)) → Ascending (pairs_in (drop i rs))
  asc-more t a = (firstly a).0 t

  pub asc-not : b ≡ false → Ascending (pairs_in (drop (i + 1) rs)) → IsTrue false ↔ Ascending (pairs_in rs)
  asc-not f a = ((λ k. absurd cc), λ k. let t : b ≡ true = (firstly a).1 (asc-drop rs i k) in absurd cc)

-- ---- last keys

no-end : {X : Type 0} (xs : List X) (x : X) → xs ++ (x ∷ []) ≡ [] → ⊥
no-end [] x e = cc
no-end (y ∷ xs) x e = cc

longer : {X Y : Type 0} (f : X → Y) (xs : List X) → 0 < length xs → 0 < length (map f xs)
longer f [] h = h
longer f (x ∷ xs) h = omega arith

pub last-greater : {A : Type 0} (rs ss : List (Row A)) → 0 < length rs → ss ≡ [] → AreLast (pairs_in rs) (pairs_in ss) Greater
last-greater rs ss l e =
    record { has = longer pair_of rs l; is = λ xs ys a b p q. absurd (no-end ys b (sym q ∙ ap pairs_in e)) }

pub last-less : {A : Type 0} (rs ss : List (Row A)) → 0 < length ss → rs ≡ [] → AreLast (pairs_in rs) (pairs_in ss) Less
last-less rs ss l e =
    record { has = longer pair_of ss l; is = λ xs ys a b p q. absurd (no-end xs a (sym p ∙ ap pairs_in e)) }

last-is : {A : Type 0} (rs : List (Row A)) (x : Row A) (xs : List Pair) (e : Pair) → x ≡ get_or rs (length rs - 1) x
    → pairs_in rs ≡ xs ++ (e ∷ []) → e ≡ pair_of x
last-is [] x [] e h q = absurd cc
last-is [] x (p ∷ xs) e h q = absurd cc
last-is (r ∷ []) x [] e h q =
    let same : pair_of r ≡ e = cc in
    sym same ∙ ap pair_of (sym h)
last-is (r ∷ []) x (p ∷ xs) e h q = absurd (no-end xs e (sym (tail-of (pair_of r) p [] (xs ++ (e ∷ [])) q)))
  where
    tail-of : (a b : Pair) (us vs : List Pair) → ◌≡◌ {A = List Pair} (a ∷ us) (b ∷ vs) → us ≡ vs
    tail-of a b us vs k = cc
last-is (r ∷ s ∷ rs) x [] e h q = absurd cc
last-is (r ∷ s ∷ rs) x (p ∷ xs) e h q =
    last-is (s ∷ rs) x xs e (h ∙ further) (tail-of (pair_of r) p (pairs_in (s ∷ rs)) (xs ++ (e ∷ [])) q)
  where
    further : get_or (r ∷ s ∷ rs) (length (r ∷ s ∷ rs) - 1) x ≡ get_or (s ∷ rs) (length (s ∷ rs) - 1) x
    further =
        let n : length (r ∷ s ∷ rs) - 1 ≡ suc (length (s ∷ rs) - 1) = omega arith in
        ap (λ k. get_or (r ∷ s ∷ rs) k x) n

    tail-of : (a b : Pair) (us vs : List Pair) → ◌≡◌ {A = List Pair} (a ∷ us) (b ∷ vs) → us ≡ vs
    tail-of a b us vs k = cc

has-both : (m n : ℕ) (o : Ordering) → 0 < m → 0 < n → HasLast m n o
has-both m n Less h k = k
has-both m n Equal h k = (h, k)
has-both m n Greater h k = h

pub last-both : {A : Type 0} (rs ss : List (Row A)) (x y : Row A) (o : Ordering) → 0 < length rs → 0 < length ss
    → x ≡ get_or rs (length rs - 1) x → y ≡ get_or ss (length ss - 1) y → o ≡ order (key_in x.key) (key_in y.key)
    → AreLast (pairs_in rs) (pairs_in ss) o
last-both rs ss x y o l m p q h = record {
  has = has-both (length (pairs_in rs)) (length (pairs_in ss)) o (longer pair_of rs l) (longer pair_of ss m);
  is = λ xs ys e f u v. (ap (λ a. order a.0 f.0) (last-is rs x xs e p u)
      ∙ ap (λ b. order (key_in x.key) b.0) (last-is ss y ys f q v) ∙ sym h);
}

-- ---- the last key goes

append-none : {X : Type 0} (xs : List X) → xs ++ [] ≡ xs
append-none [] = refl
append-none (x ∷ xs) = ap (λ t. x ∷ t) (append-none xs)

data Ended (es : List Pair) : Type 0 where
  Empty : es ≡ [] → Ended es
  Last : (xs : List Pair) (e : Pair) → es ≡ xs ++ (e ∷ []) → Ended es

ended-more : (p : Pair) (es : List Pair) → Ended es → Ended (p ∷ es)
ended-more p es (Empty q) = Last [] p (ap (λ t. p ∷ t) q)
ended-more p es (Last xs e q) = Last (p ∷ xs) e (ap (λ t. p ∷ t) q)

ended : (es : List Pair) → Ended es
ended [] = Empty refl
ended (e ∷ es) = ended-more e es (ended es)

pub before-end : (ys : List Pair) (f : Pair) → Ascending (ys ++ (f ∷ [])) → Each (IsBefore f.0) ys
before-end ys f a = (halves ys f [] a).before

all-before : (k : List ℕ) (es : List Pair) → Ended es
    → ((xs : List Pair) (e : Pair) → es ≡ xs ++ (e ∷ []) → order e.0 k ≡ Less) → Ascending es → Each (IsBefore k) es
all-before k es (Empty q) h a = subst (Each (IsBefore k)) (sym q) tt
all-before k es (Last xs e q) h a =
    let l = h xs e q in
    subst (Each (IsBefore k)) (sym q)
    (each-both (IsBefore k) xs (e ∷ [])
    (each-map (IsBefore e.0) (IsBefore k) xs (λ x b. before-trans x.0 e.0 k b l) (before-end xs e (subst Ascending q a)))
    (l, tt))

-- of the new list alone
pub last-new : (es fs ys : List Pair) (f : Pair) → AreLast es fs Less → fs ≡ ys ++ (f ∷ [])
    → IsLastOf es fs es ys (record { key = f.0; before = None; after = Some f.1 })
last-new es fs ys f l q = record {
  old = sym (append-none es);
  new = q;
  old_before = all-before f.0 es (ended es) (λ xs e p. l.is xs ys e f p q);
  new_before = λ a. before-end ys f (subst Ascending q a);
}

-- of the old list alone
pub last-old : (es fs xs : List Pair) (e : Pair) → AreLast es fs Greater → es ≡ xs ++ (e ∷ [])
    → IsLastOf es fs xs fs (record { key = e.0; before = Some e.1; after = None })
last-old es fs xs e l q = record {
  old = q;
  new = sym (append-none fs);
  old_before = λ a. before-end xs e (subst Ascending q a);
  new_before = all-before e.0 fs (ended fs) (λ ys f p. turned e.0 f.0 (l.is xs ys e f q p));
}

-- of both
pub last-same : (es fs xs ys : List Pair) (e f : Pair) → AreLast es fs Equal → es ≡ xs ++ (e ∷ []) → fs ≡ ys ++ (f ∷ [])
    → IsLastOf es fs xs ys (record { key = e.0; before = Some e.1; after = Some f.1 })
last-same es fs xs ys e f l p q =
    let same : e.0 ≡ f.0 = order-equal e.0 f.0 (l.is xs ys e f p q) in
    record {
      old = p;
      new = q ∙ ap (λ k. ys ++ ((k, f.1) ∷ [])) (sym same);
      old_before = λ a. before-end xs e (subst Ascending p a);
      new_before = λ a. subst (λ k. Each (IsBefore k) ys) (sym same) (before-end ys f (subst Ascending q a));
    }

pub pairs-end : {A : Type 0} (rs ss : List (Row A)) (r : Row A) → rs ≡ ss ++ (r ∷ [])
    → pairs_in rs ≡ pairs_in ss ++ (pair_of r ∷ [])
pairs-end rs ss r q = ap pairs_in q ∙ map-append pair_of ss (r ∷ [])

-- ---- all that went so far

pub record IsMerging (old new xs ys : List Pair) (cs : List KeyChange) : Type 0 where
  pub old_done : List Pair
  pub new_done : List Pair
  pub old_is : old ≡ xs ++ old_done
  pub new_is : new ≡ ys ++ new_done
  pub old_before : Each (λ x. Each (IsAfter x.0) new_done) xs
  pub new_before : Each (λ y. Each (IsAfter y.0) old_done) ys
  pub is : IsDifference cs old_done new_done

before-none : (xs : List Pair) → Each (λ x. Each (IsAfter x.0) []) xs
before-none [] = tt
before-none (x ∷ xs) = (tt, before-none xs)

nothing : IsDifference [] [] []
nothing = record { ascending = tt; real = tt; differ = record { before = tt; after = tt; others = λ key h. refl } }

pub merging-begins : (old new : List Pair) → IsMerging old new old new []
merging-begins old new = record {
  old_done = [];
  new_done = [];
  old_is = sym (append-none old);
  new_is = sym (append-none new);
  old_before = before-none old;
  new_before = before-none new;
  is = nothing;
}

front-append : (o : Option (List ℕ)) (k : List ℕ) (zs : List Pair) → front o k [] ++ zs ≡ front o k zs
front-append None k zs = refl
front-append (Some v) k zs = refl

each-front : (P : Pair → Type 0) (o : Option (List ℕ)) (k : List ℕ) (zs : List Pair) → ((v : List ℕ) → P (k, v)) → Each P zs
    → Each P (front o k zs)
each-front P None k zs h a = a
each-front P (Some v) k zs h a = (h v, a)

still-before : (k : List ℕ) (o : Option (List ℕ)) (done xs : List Pair) → Each (IsBefore k) xs
    → Each (λ x. Each (IsAfter x.0) done) xs → Each (λ x. Each (IsAfter x.0) (front o k done)) xs
still-before k o done [] b h = tt
still-before k o done (x ∷ xs) b h =
    (each-front (IsAfter x.0) o k done (λ v. turned_back x.0 k b.0) h.0, still-before k o done xs b.1 h.1)

-- what went before is after this key
after-own : (v k : List ℕ) (es xs done : List Pair) → es ≡ xs ++ ((k, v) ∷ []) → Ascending (es ++ done)
    → Each (IsAfter k) done
after-own v k es xs done q a =
    (halves xs (k, v) done (subst Ascending (ap (λ z. z ++ done) q ∙ append_assoc xs ((k, v) ∷ []) done) a)).after

after-other : (w k : List ℕ) (fs ys done : List Pair) → fs ≡ ys ++ ((k, w) ∷ [])
    → Each (λ y. Each (IsAfter y.0) done) fs → Each (IsAfter k) done
after-other w k fs ys done q h =
    (each-parts (λ y. Each (IsAfter y.0) done) ys ((k, w) ∷ []) (subst (Each (λ y. Each (IsAfter y.0) done)) q h)).1.0

module _ (old new es fs xs ys : List Pair) (cs : List KeyChange) (k : List ℕ) (asc_old : Ascending old) (asc_new : Ascending new)
    (m : IsMerging old new es fs cs) where
  go-on : (o p : Option (List ℕ)) (ds : List KeyChange) → IsLastOf es fs xs ys (record { key = k; before = o; after = p })
      → IsDifference ds (front o k m.old_done) (front p k m.new_done) → IsMerging old new xs ys ds
  go-on o p ds l d =
      let olds = ascending-parts es m.old_done (subst Ascending m.old_is asc_old) in
      let news = ascending-parts fs m.new_done (subst Ascending m.new_is asc_new) in
      record {
        old_done = front o k m.old_done;
        new_done = front p k m.new_done;
        old_is = m.old_is ∙ ap (λ z. z ++ m.old_done) l.old ∙ append_assoc xs (front o k []) m.old_done
            ∙ ap (λ z. xs ++ z) (front-append o k m.old_done);
        new_is = m.new_is ∙ ap (λ z. z ++ m.new_done) l.new ∙ append_assoc ys (front p k []) m.new_done
            ∙ ap (λ z. ys ++ z) (front-append p k m.new_done);
        old_before = still-before k p m.new_done xs (l.old_before olds.0)
            (each-parts (λ x. Each (IsAfter x.0) m.new_done) xs (front o k [])
            (subst (Each (λ x. Each (IsAfter x.0) m.new_done)) l.old m.old_before)).0;
        new_before = still-before k o m.old_done ys (l.new_before news.0)
            (each-parts (λ y. Each (IsAfter y.0) m.old_done) ys (front p k [])
            (subst (Each (λ y. Each (IsAfter y.0) m.old_done)) l.new m.new_before)).0;
        is = d;
      }

  -- what went is after a key of either list
  after-old : (o p : Option (List ℕ)) → (o ≢ None) ⊎ (p ≢ None)
      → IsLastOf es fs xs ys (record { key = k; before = o; after = p }) → Each (IsAfter k) m.old_done
  after-old (Some v) p h l = after-own v k es xs m.old_done l.old (subst Ascending m.old_is asc_old)
  after-old None (Some w) h l = after-other w k fs ys m.old_done l.new m.new_before
  after-old None None h l = elim h [ inl n ↦ absurd (n refl) | inr n ↦ absurd (n refl) ]

  after-new : (o p : Option (List ℕ)) → (o ≢ None) ⊎ (p ≢ None)
      → IsLastOf es fs xs ys (record { key = k; before = o; after = p }) → Each (IsAfter k) m.new_done
  after-new o (Some w) h l = after-own w k fs ys m.new_done l.new (subst Ascending m.new_is asc_new)
  after-new (Some v) None h l = after-other v k es xs m.new_done l.old m.old_before
  after-new None None h l = elim h [ inl n ↦ absurd (n refl) | inr n ↦ absurd (n refl) ]

  in-front : (o p : Option (List ℕ)) → (o ≢ None) ⊎ (p ≢ None)
      → IsLastOf es fs xs ys (record { key = k; before = o; after = p })
      → (o ≢ p → IsDifference (record { key = k; before = o; after = p } ∷ cs) (front o k m.old_done) (front p k m.new_done))
      × (o ≡ p → IsDifference cs (front o k m.old_done) (front p k m.new_done))
  in-front o p h l =
      merges-in_front k o p cs m.old_done m.new_done
      (ascending-parts es m.old_done (subst Ascending m.old_is asc_old)).1
      (ascending-parts fs m.new_done (subst Ascending m.new_is asc_new)).1
      (after-old o p h l) (after-new o p h l) m.is

  some-there : (o p : Option (List ℕ)) → o ≢ p → (o ≢ None) ⊎ (p ≢ None)
  some-there (Some v) p h = inl (λ e. absurd cc)
  some-there None p h = inr (λ e. h (sym e))

  pub with-change : (o p : Option (List ℕ)) → o ≢ p → IsLastOf es fs xs ys (record { key = k; before = o; after = p })
      → IsMerging old new xs ys (record { key = k; before = o; after = p } ∷ cs)
  with-change o p h l = go-on o p (record { key = k; before = o; after = p } ∷ cs) l ((in-front o p (some-there o p h) l).0 h)

  pub without-change : (o p : Option (List ℕ)) → o ≡ p → IsLastOf es fs xs ys (record { key = k; before = o; after = p })
      → IsMerging old new xs ys cs
  without-change (Some v) p h l =
      go-on (Some v) p cs l ((in-front (Some v) p (inl (λ e. absurd cc)) l).1 h)
  without-change None None h l = go-on None None cs l m.is
  without-change None (Some w) h l = absurd cc

pub merged-all : (old new : List Pair) (cs : List KeyChange) → IsMerging old new [] [] cs → IsDifference cs old new
merged-all old new cs m =
    subst (λ z. IsDifference cs old z) (sym m.new_is) (subst (λ z. IsDifference cs z m.new_done) (sym m.old_is) m.is)

pub told-more : {A : Type 0} (cs : List (KeyDifference A)) (c : KeyDifference A)
    → changes_told (reverse (cs ++ (c ∷ []))) ≡ told_of c ∷ changes_told (reverse cs)
told-more cs c = ap changes_told (reverse-append cs (c ∷ []))

pub same-change : {A : Type 0} (l : Greatest A) (c : KeyDifference A) → c.key.items ≡ key_in l.key → c.before ≡ l.before
    → c.after ≡ l.after → told_of c ≡ greatest_of l
same-change l c p q r = λ i. record { key = p i; before = q i; after = r i }

pub told-next : {A : Type 0} (cs : List (KeyDifference A)) (l : Greatest A) (c : KeyDifference A) → told_of c ≡ greatest_of l
    → changes_told (reverse (cs ++ (c ∷ []))) ≡ greatest_of l ∷ changes_told (reverse cs)
told-next cs l c same = told-more cs c ∙ ap (λ k. k ∷ changes_told (reverse cs)) same

pub at-order : {A : Type 0} (rs ss us vs : List (Row A)) (o p : Ordering) → AreLast (pairs_in rs) (pairs_in ss) o → rs ≡ us
    → ss ≡ vs → o ≡ p → AreLast (pairs_in us) (pairs_in vs) p
at-order rs ss us vs o p l q r h =
    subst (λ z. AreLast (pairs_in us) (pairs_in vs) z) h
    (subst (λ (z : List (Row _)). AreLast (pairs_in us) (pairs_in z) o) r
    (subst (λ (z : List (Row _)). AreLast (pairs_in z) (pairs_in ss) o) q l))

pub is-changed : (o p : Option (List ℕ)) (b : Bool) → IsTrue b ↔ (o ≡ p) → b ≡ false → o ≢ p
is-changed o p b h f = λ e. (let t : b ≡ true = h.1 e in absurd cc)

kept-case : (x y : List ℕ) (b : Bool) → b ≡ bytes_eq x y → IsTrue b ↔ (◌≡◌ {A = Option (List ℕ)} (Some x) (Some y))
kept-case x y b h = (
  (λ t. ap (λ z. Some z) ((bytes_eq-Decides x y).0 (sym h ∙ t))),
  (λ e. let same : x ≡ y = some-is x y e in h ∙ (bytes_eq-Decides x y).1 same),
)
  where
    some-is : (u v : List ℕ) → ◌≡◌ {A = Option (List ℕ)} (Some u) (Some v) → u ≡ v
    some-is u v q = cc

pub kept-some : (o p : Option (List ℕ)) (x y : List ℕ) (b : Bool) → o ≡ Some x → p ≡ Some y → b ≡ bytes_eq x y
    → IsTrue b ↔ (o ≡ p)
kept-some o p x y b q r h =
    subst (λ z. IsTrue b ↔ (z ≡ p)) (sym q) (subst (λ z. IsTrue b ↔ (Some x ≡ z)) (sym r) (kept-case x y b h))
