-- To do changes is to undo them turned round.
use Rattle.std.proofs.Common.{◌≡◌, ℕ, List, [], ◌∷◌, refl, sym, ap, subst, Option}
use Rattle.std.specs.List.{AllByRecursion}
use Rattle.std.specs.declared.option.Option.TheVariants.{None}
use Rattle.std.specs.declared.cmp.Ordering.{Ordering}
use Rattle.std.specs.declared.cmp.Ordering.TheVariants.{Less, Equal, Greater}
use Rattle.spec.specs.Tree.{Pair}
use Rattle.spec.specs.Blocks.{value_of}
use Rattle.edit_laws.specs.Order.{order}
use Rattle.batch_laws.specs.Batch.{Change, at_key, if_same}
use Rattle.change_laws.specs.Told.{KeyChange, undone, DifferBy}
use Rattle.step_laws.specs.Turned.{turned, done}

pub undone-turned : (cs : List KeyChange) → undone (turned cs) ≡ done cs
undone-turned [] = refl
undone-turned (c ∷ cs) = ap (λ t. (c.key, c.after) ∷ t) (undone-turned cs)

-- ---- no change of a key

none-case : (o : Ordering) (c d : Change) (x y : Option (Option (List ℕ))) → (x ≡ None → y ≡ None)
    → if_same o c x ≡ None → if_same o d y ≡ None
none-case Less c d x y h e = h e
none-case Equal c d x y h e = absurd cc
none-case Greater c d x y h e = h e

done-none : (key : List ℕ) (cs : List KeyChange) → at_key key (done cs) ≡ None → at_key key (undone cs) ≡ None
done-none key [] e = refl
done-none key (c ∷ cs) e =
    none-case (order c.key key) (c.key, c.after) (c.key, c.before) (at_key key (done cs)) (at_key key (undone cs))
    (done-none key cs) e

undone-none : (key : List ℕ) (cs : List KeyChange) → at_key key (undone cs) ≡ None → at_key key (done cs) ≡ None
undone-none key [] e = refl
undone-none key (c ∷ cs) e =
    none-case (order c.key key) (c.key, c.before) (c.key, c.after) (at_key key (undone cs)) (at_key key (done cs))
    (undone-none key cs) e

-- ---- what is told

after-turned : (cs : List KeyChange) (es : List Pair) → AllByRecursion (λ c. value_of c.key es ≡ c.after) (turned cs)
    → AllByRecursion (λ c. value_of c.key es ≡ c.before) cs
after-turned [] es h = tt
after-turned (c ∷ cs) es h = (h.0, after-turned cs es h.1)

before-turned : (cs : List KeyChange) (es : List Pair) → AllByRecursion (λ c. value_of c.key es ≡ c.before) (turned cs)
    → AllByRecursion (λ c. value_of c.key es ≡ c.after) cs
before-turned [] es h = tt
before-turned (c ∷ cs) es h = (h.0, before-turned cs es h.1)

turned-after : (cs : List KeyChange) (es : List Pair) → AllByRecursion (λ c. value_of c.key es ≡ c.before) cs
    → AllByRecursion (λ c. value_of c.key es ≡ c.after) (turned cs)
turned-after [] es h = tt
turned-after (c ∷ cs) es h = (h.0, turned-after cs es h.1)

turned-before : (cs : List KeyChange) (es : List Pair) → AllByRecursion (λ c. value_of c.key es ≡ c.after) cs
    → AllByRecursion (λ c. value_of c.key es ≡ c.before) (turned cs)
turned-before [] es h = tt
turned-before (c ∷ cs) es h = (h.0, turned-before cs es h.1)

-- ---- two lists of pairs differ by turned changes the other way round

pub differ-turned : (cs : List KeyChange) (old new : List Pair) → DifferBy (turned cs) new old → DifferBy cs old new
differ-turned cs old new d = record {
  before = after-turned cs old d.after;
  after = before-turned cs new d.before;
  others = λ key none. sym (d.others key
      (subst (λ us. at_key key us ≡ None) (sym (undone-turned cs)) (undone-none key cs none)));
}

pub turned-differ : (cs : List KeyChange) (old new : List Pair) → DifferBy cs old new → DifferBy (turned cs) new old
turned-differ cs old new d = record {
  before = turned-before cs new d.after;
  after = turned-after cs old d.before;
  others = λ key none. sym (d.others key
      (done-none key cs (subst (λ us. at_key key us ≡ None) (undone-turned cs) none)));
}
