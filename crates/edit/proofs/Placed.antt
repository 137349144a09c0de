-- First places in lists of CIDs.
use Rattle.std.proofs.Common.{◌≡◌, ℕ, zero, suc, ◌+◌, ◌<◌, Bool, true, false, cond, ◌||◌, List, [], ◌∷◌, ◌++◌, length, get_or, take, map, Option, refl, sym, ap, ◌∙◌, subst, arith}
use Rattle.std.specs.Prelude.{not, option_map, is_some, unwrap_or}
use Rattle.std.specs.declared.option.Option.TheVariants.{Some, None}
use Rattle.std.specs.Cmp.Lexicographic.{slice_cmp}
use Rattle.std.specs.Ordering.{nat_cmp, is_eq}
use Rattle.std.specs.List.{filter, position_from}
use Rattle.std.specs.Str.{bytes_eq}
use Rattle.std.proofs.lemmas.Map.Text.{is_eq-slice_cmp}
use Rattle.std.proofs.lemmas.List.Elements.{filter-append}
use Rattle.std.proofs.lemmas.Slice.Eq.{bytes_eq-Decides}
use Rattle.std.proofs.lemmas.List.{map-append, length-map, append-nil, map_more}
use Rattle.spec.specs.Cid.{cid}
use Rattle.edit_laws.specs.Changes.{has_cid, drop_of}
use Rattle.edit.specs.Among.{IsAmong}
use Rattle.edit.proofs.Among.{one-here}
use Rattle.edit.specs.Firsts.{first_place, HasPlaces, place_in}
use Rattle.edit.specs.declared.differences.Places.{Places}
use Rattle.edit.specs.declared.differences.Places.TheVariants.{Few, Many}

same-eq-case : (a b : List ℕ) (s t : Bool) → bytes_eq a b ≡ s → bytes_eq b a ≡ t → s ≡ t
same-eq-case a b true true h k = refl
same-eq-case a b true false h k =
    let e = (bytes_eq-Decides b a).1 (sym ((bytes_eq-Decides a b).0 h)) in
    let c : true ≡ false = sym e ∙ k in cc
same-eq-case a b false true h k =
    let e = (bytes_eq-Decides a b).1 (sym ((bytes_eq-Decides b a).0 k)) in
    let c : true ≡ false = sym e ∙ h in cc
same-eq-case a b false false h k = refl

same-eq : (a b : List ℕ) → bytes_eq a b ≡ bytes_eq b a
same-eq a b = same-eq-case a b (bytes_eq a b) (bytes_eq b a) refl refl

-- ---- one more at the end

or_place : Option ℕ → Option ℕ → Option ℕ
or_place None q = q
or_place (Some p) q = Some p

at_end : Bool → ℕ → Option ℕ
at_end b n = cond b (Some n) None

end-case : (b t : Bool) (f : Option ℕ) (n : ℕ)
    → cond b (Some zero) (option_map suc (or_place f (at_end t n)))
    ≡ or_place (cond b (Some zero) (option_map suc f)) (at_end t (suc n))
unfolding or_place at_end
end-case true t f n = refl
end-case false t (Some p) n = refl
end-case false true None n = refl
end-case false false None n = refl

first-end : (c x : List ℕ) (xs : List (List ℕ))
    → first_place c (xs ++ x ∷ []) ≡ or_place (first_place c xs) (at_end (bytes_eq x c) (length xs))
unfolding or_place at_end
first-end c x [] = refl
first-end c x (y ∷ ys) =
    ap (λ f. cond (bytes_eq y c) (Some zero) (option_map suc f)) (first-end c x ys)
    ∙ end-case (bytes_eq y c) (bytes_eq x c) (first_place c ys) (length ys)

module _ (cids : List (List ℕ)) (k : List ℕ) (n : ℕ) (many : n ≡ length cids) (old new : List ℕ → Option ℕ)
    (has : (c : List ℕ) → old c ≡ first_place c cids) where
  put-case : (c : List ℕ) (t : Bool) → bytes_eq k c ≡ t
      → cond t (Some (unwrap_or (old k) n)) (old c) ≡ or_place (old c) (at_end t n)
  unfolding or_place at_end
  put-case c true e = ap (λ f. Some (unwrap_or f n)) (ap old ((bytes_eq-Decides k c).0 e)) ∙ by (old c)
    where
      by : (f : Option ℕ) → Some (unwrap_or f n) ≡ or_place f (Some n)
      by None = refl
      by (Some p) = refl
  put-case c false e = by (old c)
    where
      by : (f : Option ℕ) → f ≡ or_place f None
      by None = refl
      by (Some p) = refl

  -- one that isn't there is put at the end, one that is there keeps its place
  pub places-put : ((c : List ℕ) → new c ≡ cond (is_eq (slice_cmp nat_cmp k c)) (Some (unwrap_or (old k) n)) (old c))
      → (c : List ℕ) → new c ≡ first_place c (cids ++ k ∷ [])
  places-put puts c =
      puts c ∙ ap (λ b. cond b (Some (unwrap_or (old k) n)) (old c)) (is_eq-slice_cmp k c)
      ∙ put-case c (bytes_eq k c) refl
      ∙ ap (λ f. or_place f (at_end (bytes_eq k c) n)) (has c)
      ∙ ap (λ m. or_place (first_place c cids) (at_end (bytes_eq k c) m)) many
      ∙ sym (first-end c k cids)

-- ---- what a place says

none-case : (b : Bool) (f : Option ℕ) → cond b (Some zero) (option_map suc f) ≡ None → (b ≡ false) × (f ≡ None)
none-case true f h = absurd cc
none-case false None h = (refl, refl)
none-case false (Some p) h = absurd cc

-- none: it isn't there
pub nowhere : (c : List ℕ) (xs : List (List ℕ)) → first_place c xs ≡ None → has_cid c xs ≡ false
nowhere c [] h = refl
nowhere c (x ∷ xs) h =
    let n = none-case (bytes_eq x c) (first_place c xs) h in
    ap (λ b. b || has_cid c xs) (same-eq c x ∙ n.0) ∙ nowhere c xs n.1

somewhere-case : (c x : List ℕ) (xs : List (List ℕ)) (p : ℕ) (b : Bool) (f : Option ℕ) → bytes_eq x c ≡ b
    → ((q : ℕ) → f ≡ Some q → has_cid c xs ≡ true) → cond b (Some zero) (option_map suc f) ≡ Some p
    → has_cid c (x ∷ xs) ≡ true
somewhere-case c x xs p true f e h k = ap (λ b. b || has_cid c xs) (same-eq c x ∙ e)
somewhere-case c x xs p false None e h k = absurd cc
somewhere-case c x xs p false (Some q) e h k = ap (λ b. b || has_cid c xs) (same-eq c x ∙ e) ∙ h q refl

pub somewhere : (c : List ℕ) (xs : List (List ℕ)) (p : ℕ) → first_place c xs ≡ Some p → has_cid c xs ≡ true
somewhere c [] p h = absurd cc
somewhere c (x ∷ xs) p h = somewhere-case c x xs p (bytes_eq x c) (first_place c xs) refl (somewhere c xs) h

-- the block at its place has it
pub IsAt : {X : Type 0} → (X → List ℕ) → List ℕ → List X → ℕ → Type 0
IsAt mark c xs p = (p < length xs) × ((x : _) → x ≡ get_or xs p x → bytes_eq (mark x) c ≡ true)

module _ {X : Type 0} (mark : X → List ℕ) (c : List ℕ) where
  at-case : (x : X) (xs : List X) (p : ℕ) (b : Bool) (f : Option ℕ) → bytes_eq (mark x) c ≡ b
      → ((q : ℕ) → f ≡ Some q → IsAt mark c xs q) → cond b (Some zero) (option_map suc f) ≡ Some p
      → IsAt mark c (x ∷ xs) p
  unfolding IsAt
  at-case x xs zero true f e h k = (omega arith, λ y is. ap (λ z. bytes_eq (mark z) c) is ∙ e)
  at-case x xs (suc p) true f e h k = absurd cc
  at-case x xs p false None e h k = absurd cc
  at-case x xs zero false (Some q) e h k = absurd cc
  at-case x xs (suc p) false (Some q) e h k =
      let same : q ≡ p = cc in
      let at = h q refl in
      let l = at.0 in
      (omega (arith, l, same), λ y is. at.1 y (is ∙ ap (λ n. get_or xs n y) (sym same)))

  pub place-at : (xs : List X) (p : ℕ) → first_place c (map mark xs) ≡ Some p → IsAt mark c xs p
  place-at [] p h = absurd cc
  place-at (x ∷ xs) p h = at-case x xs p (bytes_eq (mark x) c) (first_place c (map mark xs)) refl (place-at xs) h

-- ---- a block among others

map-twice : {X : Type 0} (f : X → List ℕ) (g : List ℕ → List ℕ) (xs : List X) → map g (map f xs) ≡ map (λ x. g (f x)) xs
map-twice f g [] = refl
map-twice f g (x ∷ xs) = ap (λ t. g (f x) ∷ t) (map-twice f g xs)

module _ {X : Type 0} (view : X → List ℕ) (digest : List ℕ → List ℕ) (block : List ℕ) (xs : List X) where
  pub among-none : first_place (cid digest block) (map (cid digest) (map view xs)) ≡ None
      → IsAmong digest block (map view xs) false
  among-none h = record {
    by_cid = sym (nowhere (cid digest block) (map (cid digest) (map view xs)) h);
    here = λ k. cc;
  }

  at : (p : ℕ) → first_place (cid digest block) (map (cid digest) (map view xs)) ≡ Some p
      → IsAt (λ x. cid digest (view x)) (cid digest block) xs p
  at p h =
      place-at (λ x. cid digest (view x)) (cid digest block) xs p
      (ap (first_place (cid digest block)) (sym (map-twice view (cid digest) xs)) ∙ h)

  pub found-within : (p : ℕ) → first_place (cid digest block) (map (cid digest) (map view xs)) ≡ Some p → p < length xs
  unfolding IsAt
  found-within p h = (at p h).0

  or-false : (b : Bool) → (b || false) ≡ b
  or-false true = refl
  or-false false = refl

  -- what holds of the block at that place holds of all
  pub among-found : (p : ℕ) (x : X) (b : Bool) → first_place (cid digest block) (map (cid digest) (map view xs)) ≡ Some p
      → x ≡ get_or xs p x → IsAmong digest block (view x ∷ []) b → IsAmong digest block (map view xs) b
  unfolding IsAt
  among-found p x b h is a =
      let l = at p h in
      let same = same-eq (cid digest block) (cid digest (view x)) ∙ l.1 x is in
      let yes : b ≡ true = a.by_cid ∙ or-false (bytes_eq (cid digest block) (cid digest (view x))) ∙ same in
      subst (IsAmong digest block (map view xs)) (sym yes)
      (one-here view digest block xs p x l.0 is (subst (IsAmong digest block (view x ∷ [])) yes a))

-- the places of a list have its first places
pub has-first : {A : Type 0} (places : Places A) (cids : List (List ℕ)) → HasPlaces cids places → (c : List ℕ)
    → place_in places c ≡ first_place c cids
has-first (Few all) cids h c = ap (first_place c) h
has-first (Many places) cids h c = h c

-- a list looked through from its front
from-case : (n : ℕ) (b : Bool) (f : Option ℕ)
    → cond b (Some n) (option_map (λ p. n + 1 + p) f) ≡ option_map (λ p. n + p) (cond b (Some zero) (option_map suc f))
from-case n true f = ap Some (omega arith)
from-case n false None = refl
from-case n false (Some p) = ap Some (omega arith)

from-place : (c : List ℕ) (n : ℕ) (cids : List (List ℕ))
    → position_from (λ x. bytes_eq x c) n cids ≡ option_map (λ p. n + p) (first_place c cids)
from-place c n [] = refl
from-place c n (x ∷ cids) =
    ap (cond (bytes_eq x c) (Some n)) (from-place c (n + 1) cids) ∙ from-case n (bytes_eq x c) (first_place c cids)

pub looked-through : (c : List ℕ) (cids : List (List ℕ)) → position_from (λ x. bytes_eq x c) 0 cids ≡ first_place c cids
looked-through c cids = from-place c 0 cids ∙ by (first_place c cids)
  where
    by : (f : Option ℕ) → option_map (λ p. 0 + p) f ≡ f
    by None = refl
    by (Some p) = ap Some (omega arith)

pub is-there : (c : List ℕ) (cids : List (List ℕ)) (f : Option ℕ) → f ≡ first_place c cids → is_some f ≡ has_cid c cids
is-there c cids None h = sym (nowhere c cids (sym h))
is-there c cids (Some p) h = sym (somewhere c cids p (sym h))

-- a list of blocks with one more at its end
pub placed-more : {X A : Type 0} (view : X → List ℕ) (digest : List ℕ → List ℕ) (xs ys : List X) (x : X) (c : List ℕ)
    (places : Places A) → HasPlaces (map (cid digest) (map view xs) ++ c ∷ []) places
    → c ≡ cid digest (view x) → ys ≡ xs ++ x ∷ [] → HasPlaces (map (cid digest) (map view ys)) places
placed-more view digest xs ys x c places has is more =
    let e : map (cid digest) (map view ys) ≡ map (cid digest) (map view xs) ++ cid digest (view x) ∷ [] =
    ap (λ (zs : List _). map (cid digest) (map view zs)) more
    ∙ ap (map (cid digest)) (map-append view xs (x ∷ []))
    ∙ map-append (cid digest) (map view xs) (view x ∷ []) in
    subst (λ (zs : List (List ℕ)). HasPlaces zs places) (sym e)
    (subst (λ (k : List ℕ). HasPlaces (map (cid digest) (map view xs) ++ k ∷ []) places) is has)

pub count-twice : {X : Type 0} (view : X → List ℕ) (digest : List ℕ → List ℕ) (xs : List X) (n : ℕ) → n ≡ length xs
    → n ≡ length (map (cid digest) (map view xs))
count-twice view digest xs n h =
    h ∙ sym (length-map xs view) ∙ sym (length-map (map view xs) (cid digest))

-- ---- what goes, one after another

drop-case : (digest : List ℕ → List ℕ) (made gone : List (List ℕ)) (x : List ℕ) (b : Bool)
    → b ≡ has_cid (cid digest x) (map (cid digest) made)
    → drop_of digest made (gone ++ x ∷ []) ≡ cond b (drop_of digest made gone) (drop_of digest made gone ++ cid digest x ∷ [])
drop-case digest made gone x b h =
    let stays : List ℕ → Bool = λ c. not (has_cid c (map (cid digest) made)) in
    ap (filter stays) (map-append (cid digest) gone (x ∷ []))
    ∙ filter-append stays (map (cid digest) gone) (cid digest x ∷ [])
    ∙ ap (λ t. drop_of digest made gone ++ cond (not t) (cid digest x ∷ []) []) (sym h)
    ∙ by b
  where
    by : (b : Bool) → drop_of digest made gone ++ cond (not b) (cid digest x ∷ []) []
        ≡ cond b (drop_of digest made gone) (drop_of digest made gone ++ cid digest x ∷ [])
    by true = append-nil (drop_of digest made gone)
    by false = refl

pub drop-step : {X : Type 0} (view : X → List ℕ) (digest : List ℕ → List ℕ) (made : List (List ℕ)) (gone : List X) (i : ℕ)
    (x : X) (b : Bool) (old new : List (List ℕ)) → i < length gone → x ≡ get_or gone i x
    → b ≡ has_cid (cid digest (view x)) (map (cid digest) made) → old ≡ drop_of digest made (map view (take i gone))
    → new ≡ cond b old (old ++ cid digest (view x) ∷ []) → new ≡ drop_of digest made (map view (take (i + 1) gone))
drop-step view digest made gone i x b old new l is has was goes =
    goes
    ∙ ap (λ ds. cond b ds (ds ++ cid digest (view x) ∷ [])) was
    ∙ sym (drop-case digest made (map view (take i gone)) (view x) b has)
    ∙ ap (λ y. drop_of digest made (map view (take i gone) ++ view y ∷ [])) is
    ∙ sym (ap (drop_of digest made) (map_more view gone i x l))
