-- A difference is the batch that leads from the old pairs to the new ones.
use Rattle.std.proofs.Common.{◌≡◌, ℕ, List, [], ◌∷◌, map, refl, sym, ap, ◌∙◌, Option}
use Rattle.std.specs.declared.option.Option.TheVariants.{None}
use Rattle.std.specs.declared.cmp.Ordering.{Ordering}
use Rattle.std.specs.declared.cmp.Ordering.TheVariants.{Less, Equal, Greater}
use Rattle.std.specs.List.{AllByRecursion}
use Rattle.spec.specs.Blocks.{value_of}
use Rattle.edit_laws.specs.Order.{order}
use Rattle.batch_laws.specs.Batch.{IsLater, at_key, if_same, changed, AreAscending}
use Rattle.change_laws.specs.Told.{KeyChange, undone, DifferBy}
use Rattle.change_laws.proofs.Undone.{differ-undone}
use Rattle.difference_laws.specs.Laws.{done, DifferenceIsBatch}

-- the change back
abbrev back : KeyChange → KeyChange
back c = record { key = c.key; before = c.after; after = c.before }

back-undone : (cs : List KeyChange) → undone (map back cs) ≡ done cs
back-undone [] = refl
back-undone (c ∷ cs) = ap (λ t. (c.key, c.after) ∷ t) (back-undone cs)

later-back : (key : List ℕ) (cs : List KeyChange) → AllByRecursion (IsLater key) (undone cs)
    → AllByRecursion (IsLater key) (undone (map back cs))
later-back key [] h = tt
later-back key (c ∷ cs) h = (h.0, later-back key cs h.1)

ascends-back : (cs : List KeyChange) → AreAscending (undone cs) → AreAscending (undone (map back cs))
ascends-back [] h = tt
ascends-back (c ∷ cs) h = (later-back c.key cs h.0, ascends-back cs h.1)

each-back : (P Q : KeyChange → Type 0) (cs : List KeyChange) → ((c : KeyChange) → P c → Q (back c))
    → AllByRecursion P cs → AllByRecursion Q (map back cs)
each-back P Q [] f h = tt
each-back P Q (c ∷ cs) f h = (f c h.0, each-back P Q cs f h.1)

none-case : (c : KeyChange) (key : List ℕ) (r s : Option (Option (List ℕ))) (o : Ordering)
    → if_same o (c.key, c.after) r ≡ None → (r ≡ None → s ≡ None) → if_same o (c.key, c.before) s ≡ None
none-case c key r s Less h f = f h
none-case c key r s Equal h f = absurd cc
none-case c key r s Greater h f = f h

none-back : (cs : List KeyChange) (key : List ℕ) → at_key key (undone (map back cs)) ≡ None
    → at_key key (undone cs) ≡ None
none-back [] key h = refl
none-back (c ∷ cs) key h =
    none-case c key (at_key key (undone (map back cs))) (at_key key (undone cs)) (order c.key key) h (none-back cs key)

pub difference-batch : DifferenceIsBatch
difference-batch cs old new are_old are_new d =
    let turned : DifferBy (map back cs) new old = record {
      before = each-back (λ c. value_of c.key new ≡ c.after) (λ c. value_of c.key new ≡ c.before) cs (λ c h. h) d.differ.after;
      after = each-back (λ c. value_of c.key old ≡ c.before) (λ c. value_of c.key old ≡ c.after) cs (λ c h. h) d.differ.before;
      others = λ key h. sym (d.differ.others key (none-back cs key h));
    } in
    ap (λ t. changed t old) (sym (back-undone cs))
    ∙ sym (differ-undone (map back cs) new old (ascends-back cs d.ascending) are_new are_old turned)
