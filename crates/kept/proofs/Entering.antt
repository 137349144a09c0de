-- The cores that a core's calls enter in its store.
use Rattle.std.proofs.Common.{◌≡◌, ℕ, ◌<◌, List, length, refl, ap, sym, ◌∙◌, cond, Bool, true, false, arith, nat_eq}
use Rattle.std.specs.Prelude.{◌≢◌, Option, Some, None, Ok, is_some, ◌&&◌}
use Rattle.std.specs.Arc.{arc_value}
use Rattle.std.proofs.lemmas.Bool.Decides.{nat_tests}
use Rattle.std.specs.BTreeMap.{is_at}
use Rattle.std.specs.FinMap as map
use Rattle.std.specs.Cmp.{tied_itself}
use Rattle.std.specs.Cmp.Lexicographic.{slice_cmp, nat_list_cmp_total}
use Rattle.std.specs.Ordering.{nat_cmp, is_eq}
use Rattle.std.specs.declared.sync.Arc.{Arc}
use Rattle.spec.specs.Cid.{cid as cid_of}
use Rattle.store.specs.Stores.{Entered, Store, with_core}
use Rattle.kept.specs.Counts.{Keeping}
use Rattle.kept.specs.Entering.{Enters, EntersKept, Follows, has_entry, no_block}
use Rattle.kept.specs.Leaving.{is_held}
use Rattle.kept.specs.Uses.{Uses, AreUses, IsUse, IsKept, IsChanged, Updated, at, keeping_of, lowered_in}
use Rattle.kept.specs.declared.kept_use.Use.{Use}
use Rattle.kept.proofs.Counting.{uses_lowered}
use Rattle.kept.proofs.Entries.{here, listed_at, shown_at, shown_updated, put_cut}
use Rattle.kept.proofs.Leaving.{held_none, held_some, none_in}

-- ---- one core is entered, or taken out

itself : (n : ℕ) → nat_eq n n ≡ true
itself n = grind (arith, nat_tests)

apart : (m n : ℕ) → m ≢ n → nat_eq m n ≡ false
apart m n ne = grind (arith, nat_tests, ne)

at_itself : (k : List ℕ) → is_at (slice_cmp nat_cmp k) k ≡ true
at_itself k = ap is_eq (tied_itself nat_list_cmp_total k)

-- of the core itself
core_mine : (e : Entered) (k : List ℕ) (me : ℕ) (there : Bool) (c : List ℕ)
    → with_core e k me there c me ≡ cond (is_at (slice_cmp nat_cmp k) c) there (e c me)
core_mine e k me there c = ap (λ t. cond (is_at (slice_cmp nat_cmp k) c && t) there (e c me)) (itself me) ∙ either (is_at (slice_cmp nat_cmp k) c)
  where
    either : (t : Bool) → cond (t && true) there (e c me) ≡ cond t there (e c me)
    either true = refl
    either false = refl

-- of another
core_other : (e : Entered) (k : List ℕ) (me : ℕ) (there : Bool) (c : List ℕ) (core : ℕ) → core ≢ me → with_core e k me there c core ≡ e c core
core_other e k me there c core ne = ap (λ t. cond (is_at (slice_cmp nat_cmp k) c && t) there (e c core)) (apart core me ne) ∙ either (is_at (slice_cmp nat_cmp k) c)
  where
    either : (t : Bool) → cond (t && false) there (e c core) ≡ e c core
    either true = refl
    either false = refl

-- ---- what is kept, as the code's map changes

module _ {D A : Type 0} where
  -- there is an entry where there was one
  pub entry_same : (f g : List ℕ → Option (Use D A)) (k : List ℕ) (o : Option (Use D A)) → Updated f g k o → is_some o ≡ is_some (f k)
      → (c : List ℕ) → is_some (g c) ≡ is_some (f c)
  entry_same f g k o h e c = ap (λ (w : Option (Use D A)). is_some w) (h c) ∙ by_key (is_at (slice_cmp nat_cmp k) c) refl
    where
      by_key : (b : Bool) → is_at (slice_cmp nat_cmp k) c ≡ b → is_some (cond b o (f c)) ≡ is_some (f c)
      by_key true a = e ∙ ap (λ x. is_some (f x)) (here k c a)
      by_key false a = refl

  -- one has gone
  pub entry_gone : (f g : List ℕ → Option (Use D A)) (k : List ℕ) → Updated f g k None
      → (c : List ℕ) → is_some (g c) ≡ cond (is_at (slice_cmp nat_cmp k) c) false (is_some (f c))
  entry_gone f g k h c = ap (λ (w : Option (Use D A)). is_some w) (h c) ∙ by_key (is_at (slice_cmp nat_cmp k) c)
    where
      by_key : (b : Bool) → is_some (cond b None (f c)) ≡ cond b false (is_some (f c))
      by_key true = refl
      by_key false = refl

  -- one has come
  pub entry_new : (f g : List ℕ → Option (Use D A)) (k : List ℕ) (u : Use D A) → Updated f g k (Some u)
      → (c : List ℕ) → is_some (g c) ≡ cond (is_at (slice_cmp nat_cmp k) c) true (is_some (f c))
  entry_new f g k u h c = ap (λ (w : Option (Use D A)). is_some w) (h c) ∙ by_key (is_at (slice_cmp nat_cmp k) c)
    where
      by_key : (b : Bool) → is_some (cond b (Some u) (f c)) ≡ cond b true (is_some (f c))
      by_key true = refl
      by_key false = refl

  pub put_here : (f g : List ℕ → Option (Use D A)) (k : List ℕ) (u : Use D A) → Updated f g k (Some u) → g k ≡ Some u
  put_here f g k u h = h k ∙ ap (λ b. cond b (Some u) (f k)) (at_itself k)

  pub none_some : (u : Use D A) → ◌≡◌ {A = Option (Use D A)} None (Some u) → ⊥
  none_some u h = absurd cc

  pub uses_left : (digest : List ℕ → List ℕ) (me : ℕ) (f g : List ℕ → Option (Use D A)) (k : List ℕ) → AreUses digest me f → Updated f g k None
      → AreUses digest me g
  uses_left digest me f g k is h q u e = by_key (is_at (slice_cmp nat_cmp k) q) (sym (h q) ∙ e)
    where
      by_key : (b : Bool) → cond b None (f q) ≡ Some u → IsUse digest me q u
      by_key true e = absurd cc
      by_key false e = is q u e

  -- what is held is what has an entry
  pub held_is : (digest : List ℕ → List ℕ) (me : ℕ) (m : Uses D A) → IsKept digest me m
      → (c : List ℕ) → is_held (keeping_of me m) c ≡ has_entry m c
  held_is digest me m is c = by_entry (at m c) refl
    where
      by_entry : (w : Option (Use D A)) → at m c ≡ w → is_held (keeping_of me m) c ≡ has_entry m c
      by_entry None e = held_none digest m c me e ∙ sym (ap (λ (w : Option (Use D A)). is_some w) e)
      by_entry (Some u) e = held_some digest m c me u e (is.entries c u e).used ∙ sym (ap (λ (w : Option (Use D A)). is_some w) e)

-- ---- what the store's readings tell

module _ {S D A : Type 0} (digest : List ℕ → List ℕ) (store : Store S D A) where
  -- nothing was asked of the store
  pub stays : (me : ℕ) (p q : List ℕ → Bool) (s : S) → ((c : List ℕ) → q c ≡ p c) → Enters digest store me p q s s
  stays me p q s same entered is = record {
    mine = λ c e. e ∙ sym (same c);
    others = λ c core ne. refl;
  }

  -- one call after the other
  pub then : (me : ℕ) (p q r : List ℕ → Bool) (s t u : S) → Enters digest store me p q s t → Enters digest store me q r t u
      → Enters digest store me p r s u
  then me p q r s t u a b entered is = record {
    mine = λ c e. (b entered is).mine c ((a entered is).mine c e);
    others = λ c core ne. (b entered is).others c core ne ∙ (a entered is).others c core ne;
  }

  -- the same sets in other words
  pub in_words : (me : ℕ) (p q x y : List ℕ → Bool) (s t : S) → ((c : List ℕ) → x c ≡ p c) → ((c : List ℕ) → y c ≡ q c)
      → Enters digest store me p q s t → Enters digest store me x y s t
  in_words me p q x y s t e f a entered is = record {
    mine = λ c h. (a entered is).mine c (h ∙ e c) ∙ sym (f c);
    others = (a entered is).others;
  }

  -- a hold of this core is given back
  pub goes_out : (me : ℕ) (p q : List ℕ → Bool) (k : List ℕ) (h : Arc (List ℕ) A × ℕ) (s t : S) → k ≡ cid_of digest (arc_value h.0) → h.1 ≡ me
      → store.leaves s h t → ((c : List ℕ) → q c ≡ cond (is_at (slice_cmp nat_cmp k) c) false (p c)) → Enters digest store me p q s t
  goes_out me p q k h s t name mine left gone entered is =
      let e : entered t ≡ with_core (entered s) k me false =
      is.released s h t left ∙ (λ i. with_core (entered s) (sym name i) (mine i) false) in record {
        mine = λ c a.
            ap (λ (x : Entered). x c me) e
            ∙ core_mine (entered s) k me false c
            ∙ ap (λ b. cond (is_at (slice_cmp nat_cmp k) c) false b) a
            ∙ sym (gone c);
        others = λ c core ne. ap (λ (x : Entered). x c core) e ∙ core_other (entered s) k me false c core ne;
      }

  -- a block is acquired
  pub comes_in : (me : ℕ) (p q : List ℕ → Bool) (k : List ℕ) (b : Arc (List ℕ) A) (h : Arc (List ℕ) A × ℕ) (s t : S)
      → k ≡ cid_of digest (arc_value b) → store.makes s b me (Ok h) t
      → ((c : List ℕ) → q c ≡ cond (is_at (slice_cmp nat_cmp k) c) true (p c)) → Enters digest store me p q s t
  comes_in me p q k b h s t name answer come entered is =
      let e : entered t ≡ with_core (entered s) k me true =
      is.acquired s b me h t answer ∙ ap (λ x. with_core (entered s) x me true) (sym name) in record {
        mine = λ c a.
            ap (λ (x : Entered). x c me) e
            ∙ core_mine (entered s) k me true c
            ∙ ap (λ b. cond (is_at (slice_cmp nat_cmp k) c) true b) a
            ∙ sym (come c);
        others = λ c core ne. ap (λ (x : Entered). x c core) e ∙ core_other (entered s) k me true c core ne;
      }

  -- of the code's entries: one is still there
  pub one_stays : (es fs : List (List ℕ × Use D A)) (m : Uses D A) (k : List ℕ) (u v : Use D A) (me : ℕ) (s : S) → map.from_entries es ≡ m
      → listed_at es k ≡ Some u → Updated (listed_at es) (listed_at fs) k (Some v)
      → Enters digest store me (has_entry m) (has_entry (map.from_entries fs)) s s
  one_stays es fs m k u v me s e a put =
      stays me (has_entry m) (has_entry (map.from_entries fs)) s
      (entry_same (at m) (at (map.from_entries fs)) k (Some v) (shown_updated es fs m k (Some v) e put)
      (sym (ap (λ (w : Option (Use D A)). is_some w) (sym (shown_at es m e k) ∙ a))))

  -- one is taken out, and its hold is given back
  pub one_goes : (es ms fs : List (List ℕ × Use D A)) (m : Uses D A) (k : List ℕ) (u v : Use D A) (s t : S) → map.from_entries es ≡ m
      → listed_at es k ≡ Some u → v.hold ≡ u.hold → Updated (listed_at es) (listed_at ms) k (Some v) → Updated (listed_at ms) (listed_at fs) k None
      → store.leaves s v.hold t → (me : ℕ) → AreUses digest me (at m)
      → Enters digest store me (has_entry m) (has_entry (map.from_entries fs)) s t
  one_goes es ms fs m k u v s t e a same put cut left me are =
      let is = are k u (sym (shown_at es m e k) ∙ a) in
      goes_out me (has_entry m) (has_entry (map.from_entries fs)) k v.hold s t
      (is.named ∙ ap (λ (h : Arc (List ℕ) A × ℕ). cid_of digest (arc_value h.0)) (sym same)) (ap (λ (h : Arc (List ℕ) A × ℕ). h.1) same ∙ is.mine) left
      (entry_gone (at m) (at (map.from_entries fs)) k
      (shown_updated es fs m k None e (put_cut (listed_at es) (listed_at ms) (listed_at fs) k v put cut)))

  -- one comes, whose block is acquired
  pub one_comes : (es fs : List (List ℕ × Use D A)) (m : Uses D A) (k : List ℕ) (b : Arc (List ℕ) A) (h : Arc (List ℕ) A × ℕ) (v : Use D A) (me : ℕ)
      (s t : S) → map.from_entries es ≡ m → k ≡ cid_of digest (arc_value b) → Updated (listed_at es) (listed_at fs) k (Some v)
      → store.makes s b me (Ok h) t → Enters digest store me (has_entry m) (has_entry (map.from_entries fs)) s t
  one_comes es fs m k b h v me s t e name put answer =
      comes_in me (has_entry m) (has_entry (map.from_entries fs)) k b h s t name answer
      (entry_new (at m) (at (map.from_entries fs)) k v (shown_updated es fs m k (Some v) e put))

  -- one comes, but has no room, and its hold is given back
  pub one_tried : (m : Uses D A) (k : List ℕ) (b : Arc (List ℕ) A) (h back : Arc (List ℕ) A × ℕ) (me : ℕ) (s t v : S)
      → k ≡ cid_of digest (arc_value b) → at m k ≡ None → store.makes s b me (Ok h) t → k ≡ cid_of digest (arc_value back.0) → back.1 ≡ me
      → store.leaves t back v → Enters digest store me (has_entry m) (has_entry m) s v
  one_tried m k b h back me s t v name none answer named mine left =
      then me (has_entry m) (λ c. cond (is_at (slice_cmp nat_cmp k) c) true (has_entry m c)) (has_entry m) s t v
      (comes_in me (has_entry m) (λ c. cond (is_at (slice_cmp nat_cmp k) c) true (has_entry m c)) k b h s t name answer (λ c. refl))
      (goes_out me (λ c. cond (is_at (slice_cmp nat_cmp k) c) true (has_entry m c)) (has_entry m) k back t v named mine left
      (λ c. by_key c (is_at (slice_cmp nat_cmp k) c) refl))
    where
      by_key : (c : List ℕ) (x : Bool) → is_at (slice_cmp nat_cmp k) c ≡ x → has_entry m c ≡ cond x false (cond x true (has_entry m c))
      by_key c true e = ap (λ q. has_entry m q) (sym (here k c e)) ∙ ap (λ (w : Option (Use D A)). is_some w) none
      by_key c false e = refl

  -- of what is kept: nothing was asked
  pub kept_stays : (k : Keeping) (s : S) → EntersKept digest store k k s s
  kept_stays k s = stays k.me (is_held k) (is_held k) s (λ c. refl)

  -- of the code's map
  pub kept_entered : (me : ℕ) (m n : Uses D A) (s t : S) → IsKept digest me m → IsKept digest me n
      → Enters digest store me (has_entry m) (has_entry n) s t → EntersKept digest store (keeping_of me m) (keeping_of me n) s t
  kept_entered me m n s t is are h =
      in_words me (has_entry m) (has_entry n) (is_held (keeping_of me m)) (is_held (keeping_of me n)) s t
      (held_is digest me m is) (held_is digest me n are) h

  -- ---- step by step

  abbrev pub Following : (f g : List ℕ → Option (Use D A)) → S → S → Type 0
  Following f g s t = Follows digest store f g s t

  pub following_first : (f g : List ℕ → Option (Use D A)) (s : S) → ((q : List ℕ) → g q ≡ f q) → Following f g s s
  following_first f g s same me are =
      (λ q u e. are q u (sym (same q) ∙ e), stays me (λ c. is_some (f c)) (λ c. is_some (g c)) s (λ c. ap (λ (w : Option (Use D A)). is_some w) (same c)))

  pub following_on : (f g h : List ℕ → Option (Use D A)) (s t v : S) → Following f g s t → Following g h t v → Following f h s v
  following_on f g h s t v a b me are =
      let x = a me are in
      let y = b me x.0 in
      (y.0, then me (λ c. is_some (f c)) (λ c. is_some (g c)) (λ c. is_some (h c)) s t v x.1 y.1)

  -- an entry goes, and its hold is given back
  pub following_gone : (f g : List ℕ → Option (Use D A)) (s t : S) (k : List ℕ) (u : Use D A) → f k ≡ Some u → Updated f g k None
      → store.leaves s u.hold t → Following f g s t
  following_gone f g s t k u a gone left me are = (
    uses_left digest me f g k are gone,
    goes_out me (λ c. is_some (f c)) (λ c. is_some (g c)) k u.hold s t (are k u a).named (are k u a).mine left (entry_gone f g k gone),
  )

  -- all were given back
  pub following_last : (f : List ℕ → Option (Use D A)) (es : List (List ℕ × Use D A)) (s t : S) → Following f (listed_at es) s t → (0 < length es → ⊥)
      → (me : ℕ) → AreUses digest me f → Enters digest store me (λ c. is_some (f c)) no_block s t
  following_last f es s t following never me are =
      in_words me (λ c. is_some (f c)) (λ c. is_some (listed_at es c)) (λ c. is_some (f c)) no_block s t (λ c. refl)
      (λ c. sym (ap (λ (w : Option (Use D A)). is_some w) (none_in digest es c never))) (following me are).1

  -- a use goes, and its entry may go with it
  pub following_lowered : (m n : Uses D A) (s t : S) (k : List ℕ) → IsChanged lowered_in m n k
      → ((me : ℕ) → AreUses digest me (at m) → Enters digest store me (has_entry m) (has_entry n) s t) → Following (at m) (at n) s t
  following_lowered m n s t k h entered me are = (uses_lowered digest me (at m) (at n) k are h, entered me are)
