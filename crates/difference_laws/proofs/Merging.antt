-- A difference with one key more in front.
use Rattle.std.proofs.Common.{◌≡◌, ◌≢◌, ℕ, List, [], ◌∷◌, refl, sym, ap, subst, ◌∙◌, Option}
use Rattle.std.specs.declared.option.Option.TheVariants.{Some, None}
use Rattle.std.specs.declared.cmp.Ordering.{Ordering}
use Rattle.std.specs.declared.cmp.Ordering.TheVariants.{Less, Equal, Greater}
use Rattle.std.specs.List.{AllByRecursion}
use Rattle.spec.specs.Tree.{Pair}
use Rattle.spec.specs.Blocks.{value_of}
use Rattle.edit_laws.specs.Order.{order}
use Rattle.edit_laws.specs.Pairs.{Each, IsAfter, Ascending, value_in, value_first}
use Rattle.edit_laws.proofs.Orders.{order-same, order-equal, turned, after-same, after-trans}
use Rattle.edit_laws.proofs.RecordMaps.{find-is}
use Rattle.batch_laws.specs.Batch.{IsLater, at_key, if_same}
use Rattle.change_laws.specs.Told.{KeyChange, undone}
use Rattle.difference_laws.specs.Laws.{AreReal, IsDifference, front, MergesInFront}

-- the value of a key, by how the first key stands to it
abbrev pick : Ordering → Option (List ℕ) → Option (List ℕ) → Option (List ℕ)
pick Less o r = r
pick Equal o r = o
pick Greater o r = None

not-there : (key : List ℕ) (es : List Pair) → Each (IsAfter key) es → value_in key es ≡ None
not-there key [] a = refl
not-there key (e ∷ es) a = ap (λ o. value_first o e (value_in key es)) a.0

later-all : (key k : List ℕ) (es : List Pair) → ((e : Pair) → order e.0 k ≡ Greater → order e.0 key ≡ Greater)
    → Each (IsAfter k) es → Each (IsAfter key) es
later-all key k [] f h = tt
later-all key k (e ∷ es) f h = (f e h.0, later-all key k es f h.1)

value-case : (o : Option (List ℕ)) (k key : List ℕ) (es : List Pair) (c : Ordering) → order k key ≡ c → Each (IsAfter k) es
    → value_in key (front o k es) ≡ pick c o (value_in key es)
value-case None k key es Less q a = refl
value-case None k key es Equal q a = not-there key es (later-all key k es (λ e h. after-same e.0 k key h q) a)
value-case None k key es Greater q a = not-there key es (later-all key k es (λ e h. after-trans e.0 k key h q) a)
value-case (Some v) k key es Less q a = ap (λ c. value_first c (k, v) (value_in key es)) q
value-case (Some v) k key es Equal q a = ap (λ c. value_first c (k, v) (value_in key es)) q
value-case (Some v) k key es Greater q a = ap (λ c. value_first c (k, v) (value_in key es)) q

front-ascends : (o : Option (List ℕ)) (k : List ℕ) (es : List Pair) → Ascending es → Each (IsAfter k) es
    → Ascending (front o k es)
front-ascends None k es a h = a
front-ascends (Some v) k es a h = (h, a)

value-front : (o : Option (List ℕ)) (k key : List ℕ) (es : List Pair) (c : Ordering) → order k key ≡ c → Ascending es
    → Each (IsAfter k) es → value_of key (front o k es) ≡ pick c o (value_of key es)
value-front o k key es c q a h =
    find-is key (front o k es) (front-ascends o k es a h) ∙ value-case o k key es c q h
    ∙ ap (pick c o) (sym (find-is key es a))

-- ---- a key that is there comes later

there-case : (k key v : List ℕ) (e : Pair) (rest : Option (List ℕ)) (o : Ordering) → order e.0 key ≡ o → order e.0 k ≡ Greater
    → (rest ≡ Some v → order key k ≡ Greater) → value_first o e rest ≡ Some v → order key k ≡ Greater
there-case k key v e rest Less q g f h = f h
there-case k key v e rest Equal q g f h = subst (λ x. order x k ≡ Greater) (order-equal e.0 key q) g
there-case k key v e rest Greater q g f h = absurd cc

there-later : (k key v : List ℕ) (es : List Pair) → Each (IsAfter k) es → value_in key es ≡ Some v → order key k ≡ Greater
there-later k key v [] a h = absurd cc
there-later k key v (e ∷ es) a h =
    there-case k key v e (value_in key es) (order e.0 key) refl a.0 (there-later k key v es a.1) h

module _ (k : List ℕ) (es fs : List Pair) (aes : Ascending es) (afs : Ascending fs) (les : Each (IsAfter k) es)
    (lfs : Each (IsAfter k) fs) where
  later-by : (c : KeyChange) (o p : Option (List ℕ)) → c.before ≡ o → c.after ≡ p → c.before ≢ c.after
      → value_of c.key es ≡ c.before → value_of c.key fs ≡ c.after → order c.key k ≡ Greater
  later-by c (Some v) p q r real h i = there-later k c.key v es les (sym (find-is c.key es aes) ∙ h ∙ q)
  later-by c None (Some v) q r real h i = there-later k c.key v fs lfs (sym (find-is c.key fs afs) ∙ i ∙ r)
  later-by c None None q r real h i = absurd (real (q ∙ sym r))

  later-each : (cs : List KeyChange) → AreReal cs → AllByRecursion (λ c. value_of c.key es ≡ c.before) cs
      → AllByRecursion (λ c. value_of c.key fs ≡ c.after) cs → AllByRecursion (IsLater k) (undone cs)
  later-each [] r p q = tt
  later-each (c ∷ cs) r p q = (later-by c c.before c.after refl refl r.0 p.0 q.0, later-each cs r.1 p.1 q.1)

  -- the values of later keys stay
  kept-each : (o : Option (List ℕ)) (xs : List Pair) (f : KeyChange → Option (List ℕ)) → Ascending xs → Each (IsAfter k) xs
      → (cs : List KeyChange) → AllByRecursion (IsLater k) (undone cs) → AllByRecursion (λ c. value_of c.key xs ≡ f c) cs
      → AllByRecursion (λ c. value_of c.key (front o k xs) ≡ f c) cs
  kept-each o xs f a h [] l p = tt
  kept-each o xs f a h (c ∷ cs) l p = (
    value-front o k c.key xs Less (turned c.key k l.0) a h ∙ p.0,
    kept-each o xs f a h cs l.1 p.1,
  )

  here-is : (o : Option (List ℕ)) (xs : List Pair) → Ascending xs → Each (IsAfter k) xs → value_of k (front o k xs) ≡ o
  here-is o xs a h = value-front o k k xs Equal (order-same k) a h

  other-case : (o p : Option (List ℕ)) (key : List ℕ) (c : Ordering) → order k key ≡ c
      → (c ≡ Less → value_of key es ≡ value_of key fs) → (c ≡ Equal → o ≡ p)
      → value_of key (front o k es) ≡ value_of key (front p k fs)
  other-case o p key Less q f g =
      value-front o k key es Less q aes les ∙ f refl ∙ sym (value-front p k key fs Less q afs lfs)
  other-case o p key Equal q f g =
      value-front o k key es Equal q aes les ∙ g refl ∙ sym (value-front p k key fs Equal q afs lfs)
  other-case o p key Greater q f g =
      value-front o k key es Greater q aes les ∙ sym (value-front p k key fs Greater q afs lfs)

  module _ (cs : List KeyChange) (d : IsDifference cs es fs) where
    later : AllByRecursion (IsLater k) (undone cs)
    later = later-each cs d.real d.differ.before d.differ.after

    none-then : (o : Option (List ℕ)) (key : List ℕ) (c : Ordering) (r : Option (Option (List ℕ)))
        → if_same c (k, o) r ≡ None → c ≡ Less → r ≡ None
    none-then o key Less r h e = h
    none-then o key Equal r h e = absurd cc
    none-then o key Greater r h e = h

    none-here : (o : Option (List ℕ)) (c : Ordering) (r : Option (Option (List ℕ))) → if_same c (k, o) r ≡ None → c ≡ Equal
        → (x y : Option (List ℕ)) → x ≡ y
    none-here o Less r h e x y = absurd cc
    none-here o Equal r h e x y = absurd cc
    none-here o Greater r h e x y = absurd cc

    pub with-change : (o p : Option (List ℕ)) → o ≢ p
        → IsDifference (record { key = k; before = o; after = p } ∷ cs) (front o k es) (front p k fs)
    with-change o p real = record {
      ascending = (later, d.ascending);
      real = (real, d.real);
      differ = record {
        before = (here-is o es aes les, kept-each o es (λ c. c.before) aes les cs later d.differ.before);
        after = (here-is p fs afs lfs, kept-each p fs (λ c. c.after) afs lfs cs later d.differ.after);
        others = λ key n. other-case o p key (order k key) refl
            (λ e. d.differ.others key (none-then o key (order k key) (at_key key (undone cs)) n e))
            (λ e. none-here o (order k key) (at_key key (undone cs)) n e o p);
      };
    }

    pub without-change : (o p : Option (List ℕ)) → o ≡ p → IsDifference cs (front o k es) (front p k fs)
    without-change o p same = record {
      ascending = d.ascending;
      real = d.real;
      differ = record {
        before = kept-each o es (λ c. c.before) aes les cs later d.differ.before;
        after = kept-each p fs (λ c. c.after) afs lfs cs later d.differ.after;
        others = λ key n. other-case o p key (order k key) refl (λ e. d.differ.others key n) (λ e. same);
      };
    }

pub merges-in_front : MergesInFront
merges-in_front k o p cs es fs aes afs les lfs d =
    (with-change k es fs aes afs les lfs cs d o p, without-change k es fs aes afs les lfs cs d o p)
