-- Changes are the entries of a map by key.
use Rattle.std.proofs.Common.{◌≡◌, ℕ, true, cond, List, [], ◌∷◌, refl, sym, ap, ◌∙◌, Option}
use Rattle.std.specs.Cmp.Lexicographic.{slice_cmp}
use Rattle.std.specs.Ordering.{nat_cmp, is_eq, is_lt, ordering_reverse}
use Rattle.std.specs.FinMap.{is_sorted, find, put}
use Rattle.std.specs.FinMap.Entries.{below_all}
use Rattle.std.specs.declared.option.Option.TheVariants.{Some}
use Rattle.std.specs.declared.cmp.Ordering.{Ordering}
use Rattle.std.specs.declared.cmp.Ordering.TheVariants.{Less, Equal, Greater}
use Rattle.spec.proofs.Bools.{and}
use Rattle.edit_laws.specs.Order.{order}
use Rattle.edit_laws.proofs.Orders.{order-equal}
use Rattle.batch_laws.specs.Batch.{Change, if_same, at_key, AreAscending, change_first, with_change}
use Rattle.batch_laws.specs.Laws.Collecting.{ChangesAreEntries}
use Rattle.batch_laws.proofs.OneByOne.{AllLater}
use Rattle.batch_laws.proofs.WritesAtOnce.{key-tie}

-- ---- in order

below-later : (key : List ℕ) (cs : List Change) → AllLater key cs → below_all (slice_cmp nat_cmp) key cs ≡ true
below-later key [] h = refl
below-later key (c ∷ cs) h =
    and _ _ (ap is_lt (key-tie key c.0 ∙ ap ordering_reverse h.0)) (below-later key cs h.1)

sorted-changes : (cs : List Change) → AreAscending cs → is_sorted (slice_cmp nat_cmp) cs ≡ true
sorted-changes [] a = refl
sorted-changes (c ∷ cs) a = and _ _ (below-later c.0 cs a.0) (sorted-changes cs a.1)

-- ---- the change of a key

at-tie : (o : Ordering) (c : Change) (further : Option (Option (List ℕ)))
    → if_same o c further ≡ cond (is_eq (ordering_reverse o)) (Some c.1) further
at-tie Less c further = refl
at-tie Equal c further = refl
at-tie Greater c further = refl

at-find : (key : List ℕ) (cs : List Change) → at_key key cs ≡ find (slice_cmp nat_cmp) key cs
at-find key [] = refl
at-find key (c ∷ cs) =
    ap (if_same (order c.0 key) c) (at-find key cs)
    ∙ at-tie (order c.0 key) c (find (slice_cmp nat_cmp) key cs)
    ∙ ap (λ (o : Ordering). cond (is_eq o) (Some c.1) (find (slice_cmp nat_cmp) key cs)) (sym (key-tie key c.0))

-- ---- one more

put-case : (c d : Change) (ds : List Change) (o : Ordering) → order d.0 c.0 ≡ o
    → with_change c ds ≡ put (slice_cmp nat_cmp) c.0 c.1 ds
    → change_first o c d ds (with_change c ds) ≡ put (slice_cmp nat_cmp) c.0 c.1 (d ∷ ds)
put-case c d ds Less q i = rw (key-tie c.0 d.0, q) (ap (λ t. d ∷ t) i)
put-case c d ds Equal q i = rw (key-tie c.0 d.0, q) (ap (λ k. (k, c.1) ∷ ds) (sym (order-equal d.0 c.0 q)))
put-case c d ds Greater q i = rw (key-tie c.0 d.0, q) refl

with-put : (c : Change) (cs : List Change) → with_change c cs ≡ put (slice_cmp nat_cmp) c.0 c.1 cs
with-put c [] = refl
with-put c (d ∷ ds) = put-case c d ds (order d.0 c.0) refl (with-put c ds)

pub changes-are_entries : ChangesAreEntries
changes-are_entries c cs key = (sorted-changes cs, at-find key cs, with-put c cs)
