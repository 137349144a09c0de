-- Of changes those that change something: their keys ascend as well, and they tell all of the difference.
use Rattle.std.proofs.Common.{◌≡◌, ℕ, Bool, true, false, cond, List, [], ◌∷◌, refl, sym, ap, ◌∙◌, Option}
use Rattle.std.specs.Prelude.{codes, is_some}
use Rattle.std.specs.List.{AllByRecursion}
use Rattle.std.specs.Str.{bytes_eq}
use Rattle.std.proofs.lemmas.Slice.Eq.{bytes_eq-Decides}
use Rattle.std.specs.declared.option.Option.TheVariants.{Some, None}
use Rattle.std.specs.declared.cmp.Ordering.{Ordering}
use Rattle.std.specs.declared.cmp.Ordering.TheVariants.{Less, Equal, Greater}
use Rattle.spec.specs.NodeFormat.{is_key}
use Rattle.spec.specs.Tree.{Pair}
use Rattle.spec.specs.Blocks.{value_of}
use Rattle.edit_laws.specs.Order.{order}
use Rattle.edit_laws.proofs.Orders.{order-equal}
use Rattle.batch_laws.specs.Batch.{AreAscending, AreKeyed, IsLater, at_key, if_same}
use Rattle.change_laws.specs.Told.{KeyChange, undone, DifferBy}
use Rattle.event_laws.specs.Ops.{action_of, is_op, ops_of}

-- ---- what holds of each change

kept-case : (P : KeyChange → Type 0) (c : KeyChange) (cs : List KeyChange) (t : Bool) → P c → AllByRecursion P cs
    → AllByRecursion P (cond t (c ∷ cs) cs)
kept-case P c cs true h k = (h, k)
kept-case P c cs false h k = k

pub all-kept : (P : KeyChange → Type 0) (cs : List KeyChange) → AllByRecursion P cs → AllByRecursion P (ops_of cs)
all-kept P [] h = tt
all-kept P (c ∷ cs) h = kept-case P c (ops_of cs) (is_op c) h.0 (all-kept P cs h.1)

op-case : (c : KeyChange) (cs : List KeyChange) (t : Bool) → is_op c ≡ t → AllByRecursion (λ d. is_op d ≡ true) cs
    → AllByRecursion (λ d. is_op d ≡ true) (cond t (c ∷ cs) cs)
op-case c cs true e k = (e, k)
op-case c cs false e k = k

pub are-ops : (cs : List KeyChange) → AllByRecursion (λ c. is_op c ≡ true) (ops_of cs)
are-ops [] = tt
are-ops (c ∷ cs) = op-case c (ops_of cs) (is_op c) refl (are-ops cs)

-- ---- keys that ascend

later-case : (key : List ℕ) (c : KeyChange) (cs : List KeyChange) (t : Bool) → order c.key key ≡ Greater
    → AllByRecursion (IsLater key) (undone cs) → AllByRecursion (IsLater key) (undone (cond t (c ∷ cs) cs))
later-case key c cs true h k = (h, k)
later-case key c cs false h k = k

later-kept : (key : List ℕ) (cs : List KeyChange) → AllByRecursion (IsLater key) (undone cs)
    → AllByRecursion (IsLater key) (undone (ops_of cs))
later-kept key [] h = tt
later-kept key (c ∷ cs) h = later-case key c (ops_of cs) (is_op c) h.0 (later-kept key cs h.1)

ascending-case : (c : KeyChange) (cs : List KeyChange) (t : Bool) → AllByRecursion (IsLater c.key) (undone cs)
    → AreAscending (undone cs) → AreAscending (undone (cond t (c ∷ cs) cs))
ascending-case c cs true h k = (h, k)
ascending-case c cs false h k = k

ascending-kept : (cs : List KeyChange) → AreAscending (undone cs) → AreAscending (undone (ops_of cs))
ascending-kept [] h = tt
ascending-kept (c ∷ cs) h = ascending-case c (ops_of cs) (is_op c) (later-kept c.key cs h.0) (ascending-kept cs h.1)

keys-case : (c : KeyChange) (cs : List KeyChange) (t : Bool) → is_key c.key ≡ true
    → AllByRecursion (λ x. is_key x.0 ≡ true) (undone cs) → AllByRecursion (λ x. is_key x.0 ≡ true) (undone (cond t (c ∷ cs) cs))
keys-case c cs true h k = (h, k)
keys-case c cs false h k = k

keys-kept : (cs : List KeyChange) → AllByRecursion (λ x. is_key x.0 ≡ true) (undone cs)
    → AllByRecursion (λ x. is_key x.0 ≡ true) (undone (ops_of cs))
keys-kept [] h = tt
keys-kept (c ∷ cs) h = keys-case c (ops_of cs) (is_op c) h.0 (keys-kept cs h.1)

pub keyed-kept : (cs : List KeyChange) → AreKeyed (undone cs) → AreKeyed (undone (ops_of cs))
keyed-kept cs h = record { ascending = ascending-kept cs h.ascending; keys = keys-kept cs h.keys }

-- ---- what isn't an operation changes nothing

no-update : (t : Bool) → is_some (cond t None (Some (codes "update"))) ≡ false → t ≡ true
no-update true e = refl
no-update false e = absurd cc

not-op : (before after : Option (List ℕ)) → is_some (action_of before after) ≡ false → before ≡ after
not-op None None e = refl
not-op None (Some a) e = absurd cc
not-op (Some b) None e = absurd cc
not-op (Some b) (Some a) e = ap (λ (x : List ℕ). Some x) ((bytes_eq-Decides b a).0 (no-update (bytes_eq b a) e))

some-none : {A : Type 0} (b : Option (List ℕ)) → ◌≡◌ {A = Option (Option (List ℕ))} (Some b) None → A
some-none b e = absurd cc

module _ (key : List ℕ) (old new : List Pair) where
  abbrev Same : Type 0
  Same = value_of key old ≡ value_of key new

  -- no change is of this key
  abbrev Unnamed : List KeyChange → Type 0
  Unnamed cs = at_key key (undone cs) ≡ None

  equal-case : (c : KeyChange) (os : List KeyChange) (t : Bool) → is_op c ≡ t → order c.key key ≡ Equal
      → value_of c.key old ≡ c.before → value_of c.key new ≡ c.after → Unnamed (cond t (c ∷ os) os) → Same
  equal-case c os true is q b a e =
      some-none c.before (sym (ap (λ o. if_same o (c.key, c.before) (at_key key (undone os))) q) ∙ e)
  equal-case c os false is q b a e =
      let same = order-equal c.key key q in
      ap (λ k. value_of k old) (sym same) ∙ b ∙ not-op c.before c.after is ∙ sym a ∙ ap (λ k. value_of k new) same

  kept-skip : (c : KeyChange) (os : List KeyChange) (t : Bool) → at_key key (undone (c ∷ os)) ≡ at_key key (undone os)
      → Unnamed (cond t (c ∷ os) os) → Unnamed os
  kept-skip c os true s e = sym s ∙ e
  kept-skip c os false s e = e

  step : (c : KeyChange) (cs os : List KeyChange) (o : Ordering) → order c.key key ≡ o → value_of c.key old ≡ c.before
      → value_of c.key new ≡ c.after → (Unnamed (c ∷ cs) → Same) → ((Unnamed cs → Same) → Unnamed os → Same)
      → Unnamed (cond (is_op c) (c ∷ os) os) → Same
  step c cs os Less q b a all next e =
      let skip : (xs : List KeyChange) → at_key key (undone (c ∷ xs)) ≡ at_key key (undone xs) =
      λ xs. ap (λ o. if_same o (c.key, c.before) (at_key key (undone xs))) q in
      next (λ n. all (skip cs ∙ n)) (kept-skip c os (is_op c) (skip os) e)
  step c cs os Equal q b a all next e = equal-case c os (is_op c) refl q b a e
  step c cs os Greater q b a all next e =
      let skip : (xs : List KeyChange) → at_key key (undone (c ∷ xs)) ≡ at_key key (undone xs) =
      λ xs. ap (λ o. if_same o (c.key, c.before) (at_key key (undone xs))) q in
      next (λ n. all (skip cs ∙ n)) (kept-skip c os (is_op c) (skip os) e)

  others-kept : (cs : List KeyChange) → AllByRecursion (λ c. value_of c.key old ≡ c.before) cs
      → AllByRecursion (λ c. value_of c.key new ≡ c.after) cs → (Unnamed cs → Same) → Unnamed (ops_of cs) → Same
  others-kept [] b a all e = all e
  others-kept (c ∷ cs) b a all e =
      step c cs (ops_of cs) (order c.key key) refl b.0 a.0 all (others-kept cs b.1 a.1) e

pub differ-kept : (cs : List KeyChange) (old new : List Pair) → DifferBy cs old new → DifferBy (ops_of cs) old new
differ-kept cs old new d = record {
  before = all-kept (λ c. value_of c.key old ≡ c.before) cs d.before;
  after = all-kept (λ c. value_of c.key new ≡ c.after) cs d.after;
  others = λ key e. others-kept key old new cs d.before d.after (d.others key) e;
}
