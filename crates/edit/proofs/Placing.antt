-- Where a key stands among changes.
use Rattle.std.proofs.Common.{◌≡◌, ℕ, zero, suc, ◌<◌, ◌≤◌, Bool, true, false, get_or, List, [], ◌∷◌, ◌++◌, length, take, drop, refl, sym, ap, subst, ◌∙◌, arith}
use Rattle.std.proofs.lemmas.List.{append_assoc, append-nil}
use Rattle.std.specs.List.{AllByRecursion}
use Rattle.std.specs.Ordering.{is_lt, is_eq, nat_cmp}
use Rattle.std.specs.declared.option.Option.TheVariants.{Some, None}
use Rattle.std.specs.declared.cmp.Ordering.{Ordering}
use Rattle.std.specs.declared.cmp.Ordering.TheVariants.{Less, Equal, Greater}
use Rattle.edit_laws.specs.Order.{order}
use Rattle.std.specs.Cmp.Lexicographic.{slice_cmp}
use Rattle.std.proofs.Math.Seq.{drop-cons}
use Rattle.edit_laws.proofs.Orders.{after-same, order-is}
use Rattle.batch_laws.specs.Batch.{Change, before, at_key, after, if_less, if_greater, if_same, IsLater, AreAscending}
use Rattle.edit.specs.Places.{is_first_before, IsPlace, IsAround}
use Rattle.key_changes.specs.Keyed.{are_ascending}
use Rattle.key_changes.proofs.Ascending.{later-than, ascends, ascends-back}

-- ---- lists

take-next : (i : ℕ) (cs ds : List Change) (c : Change) → drop i cs ≡ c ∷ ds → take (suc i) cs ≡ take i cs ++ (c ∷ [])
take-next zero [] ds c h = absurd cc
take-next (suc i) [] ds c h = absurd cc
take-next zero (x ∷ cs) ds c h = let e : x ≡ c = cc in ap (λ y. y ∷ []) e
take-next (suc i) (x ∷ cs) ds c h = ap (λ ys. x ∷ ys) (take-next i cs ds c h)

later-take : (key : List ℕ) (i : ℕ) (cs : List Change) → AllByRecursion (IsLater key) cs
    → AllByRecursion (IsLater key) (take i cs)
later-take key zero cs h = tt
later-take key (suc i) [] h = tt
later-take key (suc i) (c ∷ cs) h = (h.0, later-take key i cs h.1)

ascending-take : (i : ℕ) (cs : List Change) → AreAscending cs → AreAscending (take i cs)
ascending-take zero cs h = tt
ascending-take (suc i) [] h = tt
ascending-take (suc i) (c ∷ cs) h = (later-take c.0 i cs h.0, ascending-take i cs h.1)

ascending-drop : (i : ℕ) (cs : List Change) → AreAscending cs → AreAscending (drop i cs)
ascending-drop zero cs h = h
ascending-drop (suc i) [] h = tt
ascending-drop (suc i) (c ∷ cs) h = ascending-drop i cs h.1

-- ---- changes of keys after a key

pub record AreBeyond (key : List ℕ) (cs : List Change) : Type 0 where
  pub none_before : before key cs ≡ []
  pub none_at : at_key key cs ≡ None
  pub all_after : after key cs ≡ cs

pub beyond : (key : List ℕ) (cs : List Change) → AllByRecursion (IsLater key) cs → AreBeyond key cs
beyond key [] h = record { none_before = refl; none_at = refl; all_after = refl }
beyond key (c ∷ cs) h =
    let i = beyond key cs h.1 in
    record {
      none_before = ap (λ o. if_less o c (before key cs)) h.0 ∙ i.none_before;
      none_at = ap (λ o. if_same o c (at_key key cs)) h.0 ∙ i.none_at;
      all_after = ap (λ o. if_greater o c (after key cs)) h.0 ∙ ap (λ ds. c ∷ ds) i.all_after;
    }

later-same : (key k : List ℕ) (cs : List Change) → order k key ≡ Equal → AllByRecursion (IsLater k) cs
    → AllByRecursion (IsLater key) cs
later-same key k [] g h = tt
later-same key k (c ∷ cs) g h = (after-same c.0 k key h.0 g, later-same key k cs g h.1)

is-equal : (o : Ordering) → is_eq o ≡ true → o ≡ Equal
is-equal Less h = absurd cc
is-equal Equal h = refl
is-equal Greater h = absurd cc

is-greater : (o : Ordering) → is_lt o ≡ false → is_eq o ≡ false → o ≡ Greater
is-greater Less h k = absurd cc
is-greater Equal h k = absurd cc
is-greater Greater h k = refl

is-less : (o : Ordering) → is_lt o ≡ true → o ≡ Less
is-less Less h = refl
is-less Equal h = absurd cc
is-less Greater h = absurd cc

-- ---- the place

pub cut-here : (cs : List Change) (i : ℕ) (x : Change) → i < length cs → x ≡ get_or cs i x → drop i cs ≡ x ∷ drop (suc i) cs
cut-here cs i x h e = drop-cons cs i x h ∙ ap (λ t. t ∷ drop (suc i) cs) (sym e)

pub first-not : (key : List ℕ) (cs : List Change) (i : ℕ) (x : Change) → i < length cs → x ≡ get_or cs i x
    → is_lt (order x.0 key) ≡ false → is_first_before key (drop i cs) ≡ false
first-not key cs i x h e l = ap (is_first_before key) (cut-here cs i x h e) ∙ l

pub compared : (b : Bool) (f : Ordering → Bool) (x key : List ℕ) → b ≡ f (slice_cmp nat_cmp x key) → b ≡ f (order x key)
compared b f x key h = h ∙ ap f (order-is x key)

pub place-more : (key : List ℕ) (cs ds : List Change) (i j : ℕ) (c : Change) → j ≡ suc i → drop i cs ≡ c ∷ drop (suc i) cs
    → is_lt (order c.0 key) ≡ true → IsPlace key cs i → IsPlace key cs j
place-more key cs ds i j c e d l p =
    let o = is-less (order c.0 key) l in
    let rest = drop (suc i) cs in
    subst (λ m. IsPlace key cs m) (sym e) (record {
      before_is = p.before_is ∙ ap (λ ys. take i cs ++ before key ys) d
          ∙ ap (λ x. take i cs ++ if_less x c (before key rest)) o
          ∙ sym (append_assoc (take i cs) (c ∷ []) (before key rest))
          ∙ ap (λ ys. ys ++ before key rest) (sym (take-next i cs rest c d));
      at_is = p.at_is ∙ ap (at_key key) d ∙ ap (λ x. if_same x c (at_key key rest)) o;
      after_is = p.after_is ∙ ap (after key) d ∙ ap (λ x. if_greater x c (after key rest)) o;
    })

-- the next one is at the key
pub around-at : (key : List ℕ) (cs front rest back : List Change) (c : Change) (i : ℕ) → are_ascending cs ≡ true → IsPlace key cs i
    → front ≡ take i cs → rest ≡ drop i cs → rest ≡ c ∷ back → is_eq (order c.0 key) ≡ true
    → IsAround key cs front (Some c.1) back
around-at key cs front rest back c i a p f r e q =
    let here : drop i cs ≡ c ∷ back = sym r ∙ e in
    let o = is-equal (order c.0 key) q in
    let up : AreAscending (c ∷ back) = subst AreAscending here (ascending-drop i cs (ascends cs a)) in
    let b = beyond key back (later-same key c.0 back o up.0) in
    record {
      before_is = f ∙ sym (append-nil (take i cs)) ∙ sym (p.before_is ∙ ap (λ ys. take i cs ++ before key ys) here
          ∙ ap (λ x. take i cs ++ if_less x c (before key back)) o ∙ ap (λ ys. take i cs ++ ys) b.none_before);
      at_is = sym (p.at_is ∙ ap (at_key key) here ∙ ap (λ x. if_same x c (at_key key back)) o);
      after_is = sym (p.after_is ∙ ap (after key) here ∙ ap (λ x. if_greater x c (after key back)) o ∙ b.all_after);
      ascending_before = ascends-back front (subst AreAscending (sym f) (ascending-take i cs (ascends cs a)));
      ascending_after = ascends-back back up.1;
    }

-- the next one is after the key
pub around-gap : (key : List ℕ) (cs front rest back : List Change) (c : Change) (i : ℕ) → are_ascending cs ≡ true
    → IsPlace key cs i → is_first_before key (drop i cs) ≡ false → front ≡ take i cs → rest ≡ drop i cs → rest ≡ c ∷ back
    → is_eq (order c.0 key) ≡ false → IsAround key cs front None rest
around-gap key cs front rest back c i a p l f r e q =
    let here : drop i cs ≡ c ∷ back = sym r ∙ e in
    let o = is-greater (order c.0 key) (sym (ap (is_first_before key) here) ∙ l) q in
    let up : AreAscending (c ∷ back) = subst AreAscending here (ascending-drop i cs (ascends cs a)) in
    let b = beyond key (c ∷ back) (o, later-than key c.0 back o up.0) in
    record {
      before_is = f ∙ sym (append-nil (take i cs)) ∙ sym (p.before_is ∙ ap (λ ys. take i cs ++ before key ys) here
          ∙ ap (λ ys. take i cs ++ ys) b.none_before);
      at_is = sym (p.at_is ∙ ap (at_key key) here ∙ b.none_at);
      after_is = e ∙ sym (p.after_is ∙ ap (after key) here ∙ b.all_after);
      ascending_before = ascends-back front (subst AreAscending (sym f) (ascending-take i cs (ascends cs a)));
      ascending_after = ascends-back rest (subst AreAscending (sym r) (ascending-drop i cs (ascends cs a)));
    }

pub drop-over : (i : ℕ) (cs : List Change) → length cs ≤ i → drop i cs ≡ []
drop-over zero [] h = refl
drop-over (suc i) [] h = refl
drop-over zero (c ∷ cs) h = absurd (omega arith)
drop-over (suc i) (c ∷ cs) h = drop-over i cs (omega arith)

pub none-left : (cs : List Change) → length cs ≡ 0 → cs ≡ []
none-left [] h = refl
none-left (c ∷ cs) h = absurd (omega arith)
