-- The last of a list, and stamps in order.
use Rattle.std.proofs.Common.{◌≡◌, ◌-◌, ◌<◌, Bool, true, false, ◌&&◌, List, [], ◌∷◌, ◌++◌, length}
use Rattle.std.proofs.Common.{refl, sym, ap, ◌∙◌, arith, Option, None, Result}
use Rattle.std.specs.Prelude.{slice_get, nat_lt}
use Rattle.std.specs.declared.option.Option.TheVariants.{Some}
use Rattle.std.specs.Cmp.Lexicographic.{slice_cmp}
use Rattle.std.specs.Ordering.{nat_cmp, is_lt}
use Rattle.std.proofs.lemmas.Bool.{ltb-true, lt-ltb}
use Rattle.spec.specs.Reading.{◌>>=◌, ensure}
use Rattle.spec.specs.Writes.{passes}
use Rattle.spec.specs.Stamps.{Stamped, StampFault, BadDid, BadRev, RevOrder, is_did, is_tid, is_next_rev}
use Rattle.spec.specs.Stamps.{last, rev_of, length_after, stamp_test, are_stamps, are_stamps_after}
use Rattle.spec.specs.Laws.States.{Ascend, StampsAscend}
use Rattle.spec.proofs.Bools.{both, and}

-- the last of a list, or this where there is none
abbrev pub last_or : {A : Type 0} → Option A → List A → Option A
last_or before [] = before
last_or before (x ∷ xs) = last_or (Some x) xs

last-from : {A : Type 0} (x : A) (xs : List A) → slice_get (x ∷ xs) (length xs) ≡ last_or (Some x) xs
last-from x [] = refl
last-from x (y ∷ ys) = last-from y ys

pub last-is : {A : Type 0} (xs : List A) → last xs ≡ last_or None xs
last-is [] = refl
last-is (x ∷ xs) = let e : length (x ∷ xs) - 1 ≡ length xs = omega arith in ap (slice_get (x ∷ xs)) e ∙ last-from x xs

last_or-push : {A : Type 0} (before : Option A) (xs : List A) (x : A) → last_or before (xs ++ x ∷ []) ≡ Some x
last_or-push before [] x = refl
last_or-push before (y ∷ ys) x = last_or-push (Some y) ys x

pub last-push : {A : Type 0} (xs : List A) (x : A) → last (xs ++ x ∷ []) ≡ Some x
last-push xs x = last-is (xs ++ x ∷ []) ∙ last_or-push None xs x

-- ---- one more stamp

pub stamps-push : (before : Option Stamped) (ss : List Stamped) (s : Stamped) → are_stamps_after before ss ≡ true
    → passes (stamp_test (rev_of (last_or before ss)) s.0) ≡ true → nat_lt (length_after (last_or before ss)) s.1 ≡ true → are_stamps_after before (ss ++ s ∷ []) ≡ true
stamps-push before [] s h p n = and _ true (and _ _ p n) refl
stamps-push before (x ∷ ss) s h p n =
    let i = both (passes (stamp_test (rev_of before) x.0) && nat_lt (length_after before) x.1) (are_stamps_after (Some x) ss) h in
    and _ _ i.0 (stamps-push (Some x) ss s i.1 p n)

-- ---- a stamp that passes its test

abbrev tests : Bool → Bool → Bool → Result (Unit {0}) StampFault
tests a b c = ensure a BadDid >>= λ (x : Unit {0}). ensure b BadRev >>= λ (y : Unit {0}). ensure c RevOrder

all_three : (a b c : Bool) → passes (tests a b c) ≡ true → (a ≡ true) × (b ≡ true) × (c ≡ true)
all_three true true true h = (refl, refl, refl)
all_three true true false h = absurd cc
all_three true false c h = absurd cc
all_three false b c h = absurd cc

three : (a b c : Bool) → a ≡ true → b ≡ true → c ≡ true → passes (tests a b c) ≡ true
three true true true p q r = refl
three true true false p q r = r
three true false c p q r = q
three false b c p q r = p

record IsNext (last : Option Stamped) (s : Stamped) : Type 0 where
  did : is_did s.0.did ≡ true
  tid : is_tid s.0.rev ≡ true
  rev : is_next_rev (rev_of last) s.0.rev ≡ true
  longer : length_after last < s.1

first-next : (last : Option Stamped) (s : Stamped) (ss : List Stamped) → are_stamps_after last (s ∷ ss) ≡ true → IsNext last s
first-next last s ss h =
    let p = both (passes (stamp_test (rev_of last) s.0) && nat_lt (length_after last) s.1) (are_stamps_after (Some s) ss) h in
    let q = both (passes (stamp_test (rev_of last) s.0)) (nat_lt (length_after last) s.1) p.0 in
    let t = all_three (is_did s.0.did) (is_tid s.0.rev) (is_next_rev (rev_of last) s.0.rev) q.0 in
    record { did = t.0; tid = t.1; rev = t.2; longer = ltb-true (length_after last) s.1 q.1 }

rest-stamps : (last : Option Stamped) (s : Stamped) (ss : List Stamped) → are_stamps_after last (s ∷ ss) ≡ true → are_stamps_after (Some s) ss ≡ true
rest-stamps last s ss h = (both (passes (stamp_test (rev_of last) s.0) && nat_lt (length_after last) s.1) (are_stamps_after (Some s) ss) h).1

-- ---- stamps ascend

each-at : (last : Option Stamped) (before after : List Stamped) (s : Stamped) → are_stamps_after last (before ++ s ∷ after) ≡ true → (is_did s.0.did ≡ true) × (is_tid s.0.rev ≡ true) × (0 < s.1)
each-at last [] after s h = let n = first-next last s after h in let l = n.longer in (n.did, n.tid, omega arith)
each-at last (x ∷ before) after s h = each-at (Some x) before after s (rest-stamps last x (before ++ s ∷ after) h)

two-at : (last : Option Stamped) (before after : List Stamped) (s t : Stamped) → are_stamps_after last (before ++ s ∷ t ∷ after) ≡ true → (is_lt (slice_cmp nat_cmp s.0.rev t.0.rev) ≡ true) × (s.1 < t.1)
two-at last [] after s t h = let n = first-next (Some s) t after (rest-stamps last s (t ∷ after) h) in (n.rev, n.longer)
two-at last (x ∷ before) after s t h = two-at (Some x) before after s t (rest-stamps last x (before ++ s ∷ t ∷ after) h)

ascend : (ss : List Stamped) → are_stamps ss ≡ true → Ascend ss
ascend ss h = record {
  each = λ before after s e. each-at None before after s (ap are_stamps (sym e) ∙ h);
  two = λ before after s t e. two-at None before after s t (ap are_stamps (sym e) ∙ h);
}

-- the first stamp stands after the last one
abbrev StartsAfter : Option Stamped → List Stamped → Type 0
StartsAfter last [] = Unit {0}
StartsAfter last (s ∷ ss) = (is_next_rev (rev_of last) s.0.rev ≡ true) × (length_after last < s.1)

starts : (s : Stamped) (ss : List Stamped) → Ascend (s ∷ ss) → StartsAfter (Some s) ss
starts s [] a = tt
starts s (t ∷ ss) a = a.two [] ss s t refl

rest-ascend : (s : Stamped) (ss : List Stamped) → Ascend (s ∷ ss) → Ascend ss
rest-ascend s ss a = record {
  each = λ before after x e. a.each (s ∷ before) after x (ap (λ (xs : List Stamped). s ∷ xs) e);
  two = λ before after x y e. a.two (s ∷ before) after x y (ap (λ (xs : List Stamped). s ∷ xs) e);
}

stamps-from : (last : Option Stamped) (ss : List Stamped) → StartsAfter last ss → Ascend ss → are_stamps_after last ss ≡ true
stamps-from last [] h a = refl
stamps-from last (s ∷ ss) h a =
    let e = a.each [] ss s refl in
    and (passes (stamp_test (rev_of last) s.0) && nat_lt (length_after last) s.1) (are_stamps_after (Some s) ss)
    (and (passes (stamp_test (rev_of last) s.0)) (nat_lt (length_after last) s.1)
    (three (is_did s.0.did) (is_tid s.0.rev) (is_next_rev (rev_of last) s.0.rev) e.0 e.1 h.0) (lt-ltb (length_after last) s.1 h.1))
    (stamps-from (Some s) ss (starts s ss a) (rest-ascend s ss a))

begins : (ss : List Stamped) → Ascend ss → StartsAfter None ss
begins [] a = tt
begins (s ∷ ss) a = (refl, (a.each [] ss s refl).2)

pub stamps-ascend : StampsAscend
stamps-ascend ss = (ascend ss, λ a. stamps-from None ss (begins ss a) a)
