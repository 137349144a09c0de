-- The value that the walk meets for one change is the one that a look-up finds, whatever the source shows.
use Rattle.std.proofs.Common.{◌≡◌, ℕ, zero, suc, ◌≤◌, List, [], ◌∷◌, refl, sym, ap, subst, ◌∙◌, arith, Option}
use Rattle.std.proofs.lemmas.List.{append-nil}
use Rattle.std.specs.declared.option.Option.TheVariants.{Some, None}
use Rattle.std.specs.declared.cmp.Ordering.{Ordering}
use Rattle.std.specs.declared.cmp.Ordering.TheVariants.{Less, Equal, Greater}
use Rattle.spec.specs.Tree.{Pair}
use Rattle.spec.specs.NodeFormat.{Shape, LastLink, MoreLinks}
use Rattle.edit_laws.specs.Order.{order}
use Rattle.edit_laws.specs.Sources.{gap, entry_value, or_deeper, value_at, value_from}
use Rattle.edit_laws.proofs.Orders.{order-equal, order-same, turned, turned_back}
use Rattle.batch_laws.specs.Batch.{Change}
use Rattle.batch_laws.specs.Paths.{IsWhole, IsWholeAt}
use Rattle.batch_laws.specs.Previous.{previous_node, previous_shown, previous_gap}

module _ (shows : List ℕ → Option Shape) (key : List ℕ) where
  -- ---- more nodes than the path has

  found-none : (k : ℕ) → value_from shows k key None ≡ None
  found-none zero = refl
  found-none (suc k) = refl

  found-at : (k m : ℕ) (o : Option Shape)
      → ((l : Option (List ℕ)) → IsWhole shows k key l → value_from shows k key l ≡ value_from shows m key l)
      → IsWholeAt (IsWhole shows k key) key o
      → value_at (value_from shows k key) key o ≡ value_at (value_from shows m key) key o
  found-at k m None ih h = absurd h
  found-at k m (Some s) ih h = ap (or_deeper (entry_value key s)) (ih (gap key s) h)

  pub found-enough : (k m : ℕ) (l : Option (List ℕ)) → k ≤ m → IsWhole shows k key l
      → value_from shows k key l ≡ value_from shows m key l
  found-enough k m None q h = found-none k ∙ sym (found-none m)
  found-enough zero m (Some c) q h = absurd h
  found-enough (suc k) zero (Some c) q h = absurd (omega arith)
  found-enough (suc k) (suc m) (Some c) q h =
      found-at k m (shows c) (λ l. found-enough k m l (omega arith)) h

  -- ---- without changes nothing is met

  met-none : (k : ℕ) (l : Option (List ℕ)) → previous_gap shows k l [] ≡ []
  met-none zero None = refl
  met-none zero (Some c) = refl
  met-none (suc k) None = refl
  met-none (suc k) (Some c) = refl

  met-node : (k : ℕ) (m : Shape) → previous_node (previous_gap shows k) [] m ≡ []
  met-node k (LastLink l) = met-none k l
  met-node k (MoreLinks l e r) = rw (met-none k l) (met-node k r)

  module _ (v : Option (List ℕ)) where
    abbrev one : List Change
    one = (key, v) ∷ []

    abbrev MeetsPart : ℕ → Type 0
    MeetsPart k = (l : Option (List ℕ)) → IsWhole shows k key l
        → previous_gap shows k l one ≡ value_from shows k key l ∷ []

    abbrev MeetsNode : ℕ → Shape → Type 0
    MeetsNode k m = IsWhole shows k key (gap key m) → previous_node (previous_gap shows k) one m
        ≡ or_deeper (entry_value key m) (value_from shows k key (gap key m)) ∷ []

    one-more : (k : ℕ) (l : Option (List ℕ)) (e : Pair) (r : Shape) (o : Ordering) → order key e.0 ≡ o → MeetsPart k
        → MeetsNode k r → MeetsNode k (MoreLinks l e r)
    one-more k l e r Less q ih rest =
        rw (q, turned_back key e.0 q, met-node k r) (λ w. append-nil (previous_gap shows k l one) ∙ ih l w)
    one-more k l e r Equal q ih rest =
        let same : order e.0 key ≡ Equal = subst (λ x. order e.0 x ≡ Equal) (sym (order-equal key e.0 q)) (order-same e.0) in
        rw (q, same, met-none k l, met-node k r) (λ w. refl)
    one-more k l e r Greater q ih rest =
        rw (q, turned key e.0 q, met-none k l) rest

    pub one-node : (k : ℕ) (m : Shape) → MeetsPart k → MeetsNode k m
    one-node k (LastLink l) ih = λ w. ih l w
    one-node k (MoreLinks l e r) ih = one-more k l e r (order key e.0) refl ih (one-node k r ih)

    one-shown : (k : ℕ) (o : Option Shape) → MeetsPart k → IsWholeAt (IsWhole shows k key) key o
        → previous_shown (previous_gap shows k) one o ≡ value_at (value_from shows k key) key o ∷ []
    one-shown k None ih w = absurd w
    one-shown k (Some m) ih w = one-node k m ih w

    pub one-part : (k : ℕ) → MeetsPart k
    one-part zero None w = refl
    one-part zero (Some c) w = absurd w
    one-part (suc k) None w = refl
    one-part (suc k) (Some c) w = one-shown k (shows c) (one-part k) w
