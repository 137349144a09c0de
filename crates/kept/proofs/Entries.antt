-- The entries of the map of kept blocks, as a function of the CID, and how they follow the code's changes.
use Rattle.std.proofs.Common.{zero, suc, ◌≡◌, ℕ, ◌∷◌, [], List, refl, ap, sym, ◌∙◌, subst, cond, Bool, true, false, arith, nat_lt, nat_eq}
use Rattle.std.specs.Prelude.{Option, Some, None, ◌+◌, option_map, is_some, length, IfSome, IsTrue}
use Rattle.std.specs.Arc.{arc_value}
use Rattle.std.proofs.lemmas.Bool.Decides.{nat_tests}
use Rattle.std.specs.Ordering.{nat_cmp, is_eq}
use Rattle.std.specs.declared.cmp.Ordering.{Ordering}
use Rattle.std.specs.declared.cmp.Ordering.TheVariants.{Less, Equal, Greater}
use Rattle.std.specs.Cmp.{eq_by_cmp_equiv}
use Rattle.std.specs.Cmp.Lexicographic.{slice_cmp, nat_list_cmp_total, pointwise, texts_ties, bytes_decides}
use Rattle.std.specs.Map.{lookup}
use Rattle.std.specs.BTreeMap.{is_at}
use Rattle.std.specs.FinMap as map
use Rattle.std.specs.FinMap.{find, slice_cmp-IsAntisymmetric, nat_cmp-IsAntisymmetric}
use Rattle.spec.specs.Cid.{cid as cid_of}
pub use Rattle.kept.specs.Uses.{listed_at}
use Rattle.kept.specs.Uses.{Uses, lowered_use, lowered_in, if_used, at, Updated, IsTaken, IsUse, IsRaised, uses_of}
use Rattle.kept.specs.declared.kept_use.Use.{Use}

-- only equal CIDs tie
pub same : map.IsAntisymmetric (slice_cmp nat_cmp)
same = slice_cmp-IsAntisymmetric nat_cmp-IsAntisymmetric

pub turn : (k q : List ℕ) → is_at (slice_cmp nat_cmp k) q ≡ is_eq (slice_cmp nat_cmp q k)
turn k q = (eq_by_cmp_equiv nat_list_cmp_total).symm k q

is_same : (k q : List ℕ) (r : Ordering) → slice_cmp nat_cmp k q ≡ r → is_eq r ≡ true → k ≡ q
is_same k q Less tied h = absurd cc
is_same k q Equal tied h = same k q tied
is_same k q Greater tied h = absurd cc

pub here : (k q : List ℕ) → is_at (slice_cmp nat_cmp k) q ≡ true → k ≡ q
here k q h = is_same k q (slice_cmp nat_cmp k q) refl h

module _ {D A : Type 0} where
  pub the_same : (u v : Use D A) → Some u ≡ Some v → u ≡ v
  the_same u v h = cc

  -- ---- the list of entries that the code has, and the map that contracts see

  -- the code's map asks whether two CIDs are equal
  pub seen_at : (es : List (List ℕ × Use D A)) (q : List ℕ) → lookup (pointwise nat_eq q) es ≡ listed_at es q
  seen_at es q = λ i. lookup (λ k. texts_ties q k i) es

  pub seen_updated : (es fs : List (List ℕ × Use D A)) (k : List ℕ) (o : Option (Use D A))
      → ((q : List ℕ) → lookup (pointwise nat_eq q) fs ≡ cond (pointwise nat_eq k q) o (lookup (pointwise nat_eq q) es))
      → Updated (listed_at es) (listed_at fs) k o
  seen_updated es fs k o h q = sym (seen_at fs q) ∙ h q ∙ (λ i. cond (texts_ties k q i) o (seen_at es q i))

  find_at : (es : List (List ℕ × Use D A)) (q : List ℕ) → find (slice_cmp nat_cmp) q es ≡ listed_at es q
  find_at [] q = refl
  find_at (e ∷ es) q = ap (cond (is_eq (slice_cmp nat_cmp q e.0)) (Some e.1)) (find_at es q)

  pub entries_at : (m : Uses D A) (q : List ℕ) → listed_at (map.entries m) q ≡ at m q
  entries_at m q = sym (find_at (map.entries m) q) ∙ sym (map.get-entries m q)

  pub view_at : (es : List (List ℕ × Use D A)) (q : List ℕ) → at (map.from_entries es) q ≡ listed_at es q
  view_at es q = map.get-from_entries nat_list_cmp_total es q ∙ find_at es q

  -- the list and the value that it is seen as have the same under a CID
  pub shown_at : (es : List (List ℕ × Use D A)) (m : Uses D A) → map.from_entries es ≡ m → (q : List ℕ) → listed_at es q ≡ at m q
  shown_at es m e q = sym (view_at es q) ∙ ap (λ (n : Uses D A). at n q) e

  pub shown_updated : (es fs : List (List ℕ × Use D A)) (m : Uses D A) (k : List ℕ) (o : Option (Use D A)) → map.from_entries es ≡ m
      → Updated (listed_at es) (listed_at fs) k o → Updated (at m) (at (map.from_entries fs)) k o
  shown_updated es fs m k o e h q = view_at fs q ∙ h q ∙ ap (cond (is_at (slice_cmp nat_cmp k) q) o) (shown_at es m e q)

  -- an entry is taken out that a key names
  pub taken_is : (es fs : List (List ℕ × Use D A)) (k : List ℕ) (r : Option (List ℕ × Use D A)) → IfSome r (λ e. IsTrue (pointwise nat_eq k e.0))
      → option_map (λ e. e.1) r ≡ lookup (pointwise nat_eq k) es
      → ((q : List ℕ) → lookup (pointwise nat_eq q) fs ≡ cond (pointwise nat_eq k q) None (lookup (pointwise nat_eq q) es))
      → length fs + cond (is_some r) 1 0 ≡ length es → IfSome r (λ e. IsTaken es e fs)
  taken_is es fs k None s v u n = tt
  taken_is es fs k (Some e) s v u n =
      let named : k ≡ e.0 = (bytes_decides k e.0).0 s in record {
        here = ap (listed_at es) (sym named) ∙ sym (seen_at es k) ∙ sym v;
        gone = subst (λ (x : List ℕ). Updated (listed_at es) (listed_at fs) x None) named (seen_updated es fs k None u);
        fewer = omega (arith, n);
      }

  -- an entry changes by a function
  pub shown_change : (F : Option (Use D A) → Option (Use D A)) (es fs : List (List ℕ × Use D A)) (m : Uses D A) (k : List ℕ)
      → map.from_entries es ≡ m → Updated (listed_at es) (listed_at fs) k (F (listed_at es k))
      → Updated (at m) (at (map.from_entries fs)) k (F (at m k))
  shown_change F es fs m k e h =
      subst (λ (o : Option (Use D A)). Updated (at m) (at (map.from_entries fs)) k o) (ap F (shown_at es m e k))
      (shown_updated es fs m k (F (listed_at es k)) e h)

  pub shown_same : (es fs : List (List ℕ × Use D A)) (m : Uses D A) → map.from_entries es ≡ m
      → ((q : List ℕ) → listed_at fs q ≡ listed_at es q) → map.from_entries fs ≡ m
  shown_same es fs m e h = map.same_map nat_list_cmp_total same _ _ (λ q. view_at fs q ∙ h q ∙ shown_at es m e q)

  pub shown_raised : (digest : List ℕ → List ℕ) (me : ℕ) (es fs : List (List ℕ × Use D A)) (m : Uses D A) (bytes : List ℕ) → map.from_entries es ≡ m
      → IsRaised digest me (listed_at es) (listed_at fs) bytes → IsRaised digest me (at m) (at (map.from_entries fs)) bytes
  shown_raised digest me es fs m bytes e h =
      let c = cid_of digest bytes in
      let s = shown_at es m e c in record {
        u = h.u;
        bytes_are = h.bytes_are;
        mine = h.mine;
        uses_are = h.uses_are ∙ ap (λ (o : Option (Use D A)). suc (uses_of o)) s;
        no_other = λ v y. h.no_other v (s ∙ y);
        updated = shown_updated es fs m c (Some h.u) e h.updated;
      }

  -- ---- the entry that is raised

  raised_here : (digest : List ℕ → List ℕ) (me : ℕ) (f g : List ℕ → Option (Use D A)) (bytes : List ℕ) (v w : Use D A)
      → IsUse digest me (cid_of digest bytes) v → w ≡ (record v { uses = suc v.uses }) → arc_value v.hold.0 ≡ bytes
      → f (cid_of digest bytes) ≡ Some v → Updated f g (cid_of digest bytes) (Some w) → IsRaised digest me f g bytes
  raised_here digest me f g bytes v w is e b a h = record {
    u = w;
    bytes_are = ap (λ (u : Use D A). arc_value u.hold.0) e ∙ b;
    mine = ap (λ (u : Use D A). u.hold.1) e ∙ is.mine;
    uses_are = ap (λ (u : Use D A). u.uses) e ∙ ap (λ o. suc (uses_of o)) (sym a);
    no_other = λ x y. ap (λ (u : Use D A). arc_value u.hold.0) (the_same x v (sym y ∙ a)) ∙ b;
    updated = h;
  }

  pub raised_held : (digest : List ℕ → List ℕ) (me : ℕ) (f g : List ℕ → Option (Use D A)) (bytes k : List ℕ) (v w : Use D A) → k ≡ cid_of digest bytes
      → IsUse digest me k v → w ≡ (record v { uses = suc v.uses }) → arc_value v.hold.0 ≡ bytes
      → f k ≡ Some v → Updated f g k (Some w) → IsRaised digest me f g bytes
  raised_held digest me f g bytes k v w name is e b a h =
      raised_here digest me f g bytes v w (subst (λ (x : List ℕ). IsUse digest me x v) name is) e b (ap f (sym name) ∙ a)
      (subst (λ (x : List ℕ). Updated f g x (Some w)) name h)

  raised_first : (digest : List ℕ → List ℕ) (me : ℕ) (f g : List ℕ → Option (Use D A)) (bytes : List ℕ) (w : Use D A)
      → arc_value w.hold.0 ≡ bytes → w.hold.1 ≡ me → w.uses ≡ 1
      → f (cid_of digest bytes) ≡ None → Updated f g (cid_of digest bytes) (Some w) → IsRaised digest me f g bytes
  raised_first digest me f g bytes w b m o a h = record {
    u = w;
    bytes_are = b;
    mine = m;
    uses_are = o ∙ ap (λ o. suc (uses_of o)) (sym a);
    no_other = λ x y. absurd (let never : Some x ≡ None = sym y ∙ a in cc);
    updated = h;
  }

  pub raised_new : (digest : List ℕ → List ℕ) (me : ℕ) (f g : List ℕ → Option (Use D A)) (bytes k : List ℕ) (w : Use D A) → k ≡ cid_of digest bytes
      → arc_value w.hold.0 ≡ bytes → w.hold.1 ≡ me → w.uses ≡ 1
      → f k ≡ None → Updated f g k (Some w) → IsRaised digest me f g bytes
  raised_new digest me f g bytes k w name b m o a h =
      raised_first digest me f g bytes w b m o (ap f (sym name) ∙ a) (subst (λ (x : List ℕ). Updated f g x (Some w)) name h)

  -- the same entry is put again
  pub same_entry : (f g : List ℕ → Option (Use D A)) (k : List ℕ) (v w : Use D A) → f k ≡ Some v → Updated f g k (Some w) → w ≡ v
      → (q : List ℕ) → g q ≡ f q
  same_entry f g k v w a h e q = h q ∙ again (is_at (slice_cmp nat_cmp k) q) refl
    where
      again : (b : Bool) → is_at (slice_cmp nat_cmp k) q ≡ b → cond b (Some w) (f q) ≡ f q
      again true t = ap (λ (x : Use D A). Some x) e ∙ sym a ∙ ap f (here k q t)
      again false t = refl

  -- where nothing stands, nothing is put
  pub none_put : (f : List ℕ → Option (Use D A)) (k q : List ℕ) (o : Option (Use D A)) → f k ≡ None → o ≡ None
      → f q ≡ cond (is_at (slice_cmp nat_cmp k) q) o (f q)
  none_put f k q o a e = again (is_at (slice_cmp nat_cmp k) q) refl
    where
      again : (b : Bool) → is_at (slice_cmp nat_cmp k) q ≡ b → f q ≡ cond b o (f q)
      again true t = ap f (sym (here k q t)) ∙ a ∙ sym e
      again false t = refl

  -- an entry is put and then taken out
  pub put_cut : (f m g : List ℕ → Option (Use D A)) (k : List ℕ) (w : Use D A) → Updated f m k (Some w) → Updated m g k None → Updated f g k None
  put_cut f m g k w u v q = v q ∙ ap (cond (is_at (slice_cmp nat_cmp k) q) None) (u q) ∙ over (is_at (slice_cmp nat_cmp k) q)
    where
      over : (b : Bool) → cond b None (cond b (Some w) (f q)) ≡ cond b None (f q)
      over true = refl
      over false = refl

  if_left : (u : Use D A) (n : ℕ) → nat_lt 0 n ≡ true → if_used u n ≡ Some u
  if_left u zero e = absurd cc
  if_left u (suc n) e = refl

  if_gone : (u : Use D A) (n : ℕ) → nat_lt 0 n ≡ false → if_used u n ≡ None
  if_gone u zero e = refl
  if_gone u (suc n) e = absurd (grind (arith, nat_tests))

  -- a use that is lowered stays, or goes
  pub lowered_left : (f g : List ℕ → Option (Use D A)) (k : List ℕ) (v w : Use D A) → f k ≡ Some v → w ≡ lowered_use v
      → nat_lt 0 w.uses ≡ true → Updated f g k (Some w) → Updated f g k (lowered_in (f k))
  lowered_left f g k v w a e l h =
      subst (λ (o : Option (Use D A)). Updated f g k o)
      (sym (if_left w w.uses l) ∙ ap (λ (u : Use D A). if_used u u.uses) e ∙ ap lowered_in (sym a)) h

  pub lowered_gone : (f g : List ℕ → Option (Use D A)) (k : List ℕ) (v w : Use D A) → f k ≡ Some v → w ≡ lowered_use v
      → nat_lt 0 w.uses ≡ false → Updated f g k None → Updated f g k (lowered_in (f k))
  lowered_gone f g k v w a e l h =
      subst (λ (o : Option (Use D A)). Updated f g k o)
      (sym (if_gone w w.uses l) ∙ ap (λ (u : Use D A). if_used u u.uses) e ∙ ap lowered_in (sym a)) h
