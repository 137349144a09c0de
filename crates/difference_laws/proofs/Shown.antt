-- A verifier who has the nodes that come, and the old ones, sees that a difference is so.
use Rattle.std.proofs.Common.{◌≡◌, ◌⊎◌, inl, inr, ℕ, zero, suc, max, List, ◌++◌, refl, sym, ap, ◌∙◌, arith, Option}
use Rattle.std.specs.Prelude.{Contains}
use Rattle.std.specs.declared.option.Option.TheVariants.{Some}
use Rattle.spec.specs.Cid.{cid}
use Rattle.spec.specs.Layer.{layer}
use Rattle.spec.specs.Tree.{top, top_layer}
use Rattle.spec.specs.NodeFormat.{node_bytes}
use Rattle.spec.specs.Blocks.{ClashesWithNone, nodes}
use Rattle.edit_laws.specs.Changes.{count, marked}
use Rattle.edit_laws.proofs.Lists.{contains-counted, counted-contains, count-append}
use Rattle.edit_laws.proofs.BlockChanges.{read-stands}
use Rattle.batch_laws.specs.Trace.{batch_read}
use Rattle.batch_laws.proofs.Old.{read-old}
use Rattle.change_laws.specs.Told.{KeyChange, undone}
use Rattle.batch_laws.specs.Counts.{put_layers}
use Rattle.change_laws.specs.Laws.{change_path}
use Rattle.change_laws.proofs.Showing.{verdict-complete}
use Rattle.spec.specs.Tree.{Pair}
use Rattle.difference_laws.specs.Laws.{DifferenceIsShown}

counted : (b : List ℕ) (xs : List (List ℕ)) (k : ℕ) → count b xs ≡ k → Contains xs b ⊎ (Contains xs b → ⊥)
counted b xs zero e = inr (λ h. let i = counted-contains b xs h in absurd (omega arith))
counted b xs (suc k) e = inl (contains-counted b xs (omega arith))

in-either : (b : List ℕ) (xs ys : List (List ℕ)) → Contains (xs ++ ys) b → Contains xs b ⊎ Contains ys b
in-either b xs ys h =
    by (count b xs) refl
  where
    by : (k : ℕ) → count b xs ≡ k → Contains xs b ⊎ Contains ys b
    by zero e =
        let i = counted-contains b (xs ++ ys) h in let j = count-append b xs ys in
        inr (contains-counted b ys (omega arith))
    by (suc k) e = inl (contains-counted b xs (omega arith))

in-left : (b : List ℕ) (xs ys : List (List ℕ)) → Contains xs b → Contains (xs ++ ys) b
in-left b xs ys h =
    let i = counted-contains b xs h in let j = count-append b xs ys in contains-counted b (xs ++ ys) (omega arith)

in-right : (b : List ℕ) (xs ys : List (List ℕ)) → Contains ys b → Contains (xs ++ ys) b
in-right b xs ys h =
    let i = counted-contains b ys h in let j = count-append b xs ys in contains-counted b (xs ++ ys) (omega arith)

some-is : {A : Type 0} (x y : A) → ◌≡◌ {A = Option A} (Some x) (Some y) → x ≡ y
some-is x y q = cc

-- what undoing reads is of the new tree
path-new : (digest : List ℕ → List ℕ) (bits : ℕ) (cs : List KeyChange) (fs : List Pair) (b : List ℕ)
    → Contains (change_path digest bits cs fs) b → Contains (nodes digest bits fs) b
path-new digest bits cs fs =
    let lay = layer digest bits in
    let n = max (suc (top_layer lay fs)) (put_layers lay (undone cs)) in
    let read = batch_read lay n (undone cs) (top lay fs) in
    read-stands digest bits fs read
    (λ b h. (let a = read-old (marked (node_bytes digest) b) lay n (undone cs) (top lay fs) in omega arith))

pub difference-shown : DifferenceIsShown
difference-shown digest bits fits gives es fs are_es are_fs has_es has_fs cs keyed d come of_new whole =
    let given = come ++ nodes digest bits es in
    let gives_given : (b : List ℕ) → Contains given b → gives (cid digest b) ≡ Some b =
    λ b h. elim (in-either b come (nodes digest bits es) h) [
      | inl i ↦ has_fs b (of_new b i)
      | inr i ↦ has_es b i
    ] in
    let free : ClashesWithNone digest (nodes digest bits fs) given =
    λ a b h k e. some-is a b (sym (has_fs a h) ∙ ap gives e ∙ gives_given b k) in
    let new_given : (b : List ℕ) → Contains (nodes digest bits fs) b → Contains given b =
    λ b h. elim (counted b (nodes digest bits es) (count b (nodes digest bits es)) refl) [
      | inl i ↦ in-right b come (nodes digest bits es) i
      | inr i ↦ in-left b come (nodes digest bits es) (whole b h i)
    ] in
    verdict-complete digest bits fits es fs are_es are_fs given free cs keyed d.differ
    (λ b h. new_given b (path-new digest bits cs fs b h))
