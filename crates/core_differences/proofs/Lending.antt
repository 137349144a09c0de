-- Two cores that are apart lend both of their trees.
use Rattle.std.proofs.Common.{◌≡◌, ℕ, ◌<◌, Bool, true, false, ◌&&◌, List, Option, refl, sym, ap, subst, ◌∙◌}
use Rattle.std.specs.declared.option.Option.TheVariants.{Some, None}
use Rattle.std.specs.Prelude.{Contains, nat_lt, option_map, if◌then◌else◌}
use Rattle.std.specs.Arc.{arc_value}
use Rattle.std.specs.Str.{bytes_eq}
use Rattle.std.specs.declared.sync.Arc.{Arc}
use Rattle.std.proofs.lemmas.Bool.{ltb-true, lt-ltb}
use Rattle.std.proofs.lemmas.Slice.Eq.{bytes_eq-Decides}
use Rattle.spec.specs.Cid.{cid as cid_of}
use Rattle.spec.specs.Blocks.{pairs}
use Rattle.spec.specs.Sources.{HasBlocks}
use Rattle.spec.specs.States.{State, records, state_blocks, state_root}
use Rattle.spec.proofs.Bools.{and, both}
use Rattle.edit_laws.specs.Staged.{old_commit}
use Rattle.edit_laws.specs.Uses.{uses}
use Rattle.edit_laws.proofs.BlockSources.{source-nodes}
use Rattle.edit_laws.proofs.Using.{used_at, user}
use Rattle.lookups.specs.Trees.{HasTree, bytes_given}
use Rattle.kept.specs.Uses.{Uses, at}
use Rattle.kept.specs.declared.kept_use.Use.{Use}
use Rattle.repo.specs.Readings.{CountsBlocks, LendsBlocks, LendsTree, bytes_lent}
use Rattle.repo.proofs.Exchanging.{sorted-records}
use Rattle.core_differences.specs.Between.{AreApart}
use Rattle.core_differences.specs.Lent.{first_given, lent_by, own_in, own_of}

module _ {D A : Type 0} (digest : List ℕ → List ℕ) (bits : ℕ) (s : State) (m : Uses D A)
    (lends : LendsBlocks digest bits s m) (counts : CountsBlocks digest bits s m) where
  -- what is lent is a block of the state, under its CID
  record Own (c : List ℕ) (x : Arc (List ℕ) A) : Type 0 where
    here : Contains (state_blocks digest bits s) (arc_value x)
    named : cid_of digest (arc_value x) ≡ c

  some_is : {X : Type 0} (x y : X) → ◌≡◌ {A = Option X} (Some x) (Some y) → x ≡ y
  some_is x y e = cc

  own-test : (c : List ℕ) (u : Use D A) (x : Arc (List ℕ) A) (t : Bool) → (if t then Some u.hold.0 else None) ≡ Some x
      → (t ≡ true) × (u.hold.0 ≡ x)
  own-test c u x true e = (refl, some_is u.hold.0 x e)
  own-test c u x false e = absurd cc

  own-case : (c : List ℕ) (o : Option (Use D A)) (x : Arc (List ℕ) A) → at m c ≡ o → own_of digest c o ≡ Some x → Own c x
  own-case c None x is e = absurd cc
  own-case c (Some u) x is e =
      let t = own-test c u x (nat_lt 0 u.uses && bytes_eq (cid_of digest (arc_value u.hold.0)) c) e in
      let p = both (nat_lt 0 u.uses) (bytes_eq (cid_of digest (arc_value u.hold.0)) c) t.0 in
      let named : cid_of digest (arc_value u.hold.0) ≡ c = (bytes_eq-Decides _ c).0 p.1 in
      let some : 0 < uses digest (cid_of digest (arc_value u.hold.0)) (state_blocks digest bits s) =
      subst (λ (n : ℕ). 0 < n) (counts c u is) (ltb-true 0 u.uses p.0) in
      let y = user digest (cid_of digest (arc_value u.hold.0)) (state_blocks digest bits s) some in
      let there : bytes_lent m c ≡ Some y.block = ap (bytes_lent m) (sym named ∙ sym y.is) ∙ lends y.block y.here in
      let same : arc_value u.hold.0 ≡ y.block =
      some_is (arc_value u.hold.0) y.block (sym (ap (λ (z : Option (Use D A)). option_map arc_value (option_map (λ v. v.hold.0) z)) is) ∙ there) in
      record {
        here = subst (λ (z : Arc (List ℕ) A). Contains (state_blocks digest bits s) (arc_value z)) t.1
            (subst (λ (b : List ℕ). Contains (state_blocks digest bits s) b) (sym same) y.here);
        named = subst (λ (z : Arc (List ℕ) A). cid_of digest (arc_value z) ≡ c) t.1 named;
      }

  own-is : (c : List ℕ) (x : Arc (List ℕ) A) → own_in digest m c ≡ Some x → Own c x
  own-is c x e = own-case c (at m c) x refl e

  given-case : (b : List ℕ) (o : Option (Use D A)) → Contains (state_blocks digest bits s) b → at m (cid_of digest b) ≡ o
      → option_map arc_value (option_map (λ u. u.hold.0) o) ≡ Some b
      → option_map arc_value (own_of digest (cid_of digest b) o) ≡ Some b
  given-case b None h is e = absurd cc
  given-case b (Some u) h is e =
      let same : arc_value u.hold.0 ≡ b = some_is (arc_value u.hold.0) b e in
      let named : cid_of digest (arc_value u.hold.0) ≡ cid_of digest b = ap (cid_of digest) same in
      let some : 0 < u.uses =
      subst (λ (n : ℕ). 0 < n) (sym (counts (cid_of digest b) u is))
      (used_at digest (state_blocks digest bits s) b (cid_of digest (arc_value u.hold.0)) (sym named) h) in
      let t : (nat_lt 0 u.uses && bytes_eq (cid_of digest (arc_value u.hold.0)) (cid_of digest b)) ≡ true =
      and _ _ (lt-ltb 0 u.uses some) ((bytes_eq-Decides _ _).1 named) in
      ap (λ (z : Bool). option_map arc_value (if z then Some u.hold.0 else None)) t ∙ e

  -- and each block of the state is
  own-gives : (b : List ℕ) → Contains (state_blocks digest bits s) b → option_map arc_value (own_in digest m (cid_of digest b)) ≡ Some b
  own-gives b h = given-case b (at m (cid_of digest b)) h refl (lends b h)

-- the tree of a state, over a source that has its blocks
tree-over : {D A : Type 0} (digest : List ℕ → List ℕ) (bits : ℕ) (s : State) (m : Uses D A) (gives : List ℕ → Option (List ℕ))
    → LendsTree digest bits s m → HasBlocks digest gives (state_blocks digest bits s)
    → HasTree digest bits gives (state_root digest bits s) (pairs digest (records s))
tree-over digest bits s m gives tree has = record {
  pairs = tree.pairs;
  root_is = tree.root_is;
  nodes = source-nodes digest bits (old_commit digest bits s) (records s) (sorted-records s) gives has;
}

module _ {D A : Type 0} (digest : List ℕ → List ℕ) (bits : ℕ) (old new : State) (n m : Uses D A)
    (old_lends : LendsBlocks digest bits old n) (old_counts : CountsBlocks digest bits old n)
    (new_lends : LendsBlocks digest bits new m) (new_counts : CountsBlocks digest bits new m) where
  first-some : (x : Option (Arc (List ℕ) A)) (y : Option (Arc (List ℕ) A)) (b : List ℕ) → option_map arc_value x ≡ Some b
      → option_map arc_value (first_given x y) ≡ Some b
  first-some None y b e = absurd cc
  first-some (Some z) y b e = e

  pub new-blocks : HasBlocks digest (bytes_given (lent_by digest m n)) (state_blocks digest bits new)
  new-blocks b h =
      first-some (own_in digest m (cid_of digest b)) (own_in digest n (cid_of digest b)) b (own-gives digest bits new m new_lends new_counts b h)

  either-case : AreApart digest bits old new → (b : List ℕ) → Contains (state_blocks digest bits old) b
      → (x : Option (Arc (List ℕ) A)) → own_in digest m (cid_of digest b) ≡ x
      → option_map arc_value (first_given x (own_in digest n (cid_of digest b))) ≡ Some b
  either-case apart b h None is = own-gives digest bits old n old_lends old_counts b h
  either-case apart b h (Some x) is =
      let own = own-is digest bits new m new_lends new_counts (cid_of digest b) x is in
      ap (λ (z : List ℕ). Some z) (apart (arc_value x) b own.here h own.named)

  pub old-blocks : AreApart digest bits old new → HasBlocks digest (bytes_given (lent_by digest m n)) (state_blocks digest bits old)
  old-blocks apart b h = either-case apart b h (own_in digest m (cid_of digest b)) refl

  -- so over both there are both trees
  pub old-tree : AreApart digest bits old new → (gives : List ℕ → Option (Arc (List ℕ) A)) → gives ≡ lent_by digest m n
      → LendsTree digest bits old n → (root : List ℕ) → root ≡ state_root digest bits old
      → HasTree digest bits (bytes_given gives) root (pairs digest (records old))
  old-tree apart gives is tree root at =
      subst (λ (f : List ℕ → Option (Arc (List ℕ) A)). HasTree digest bits (bytes_given f) root (pairs digest (records old))) (sym is)
      (subst (λ (r : List ℕ). HasTree digest bits (bytes_given (lent_by digest m n)) r (pairs digest (records old))) (sym at)
      (tree-over digest bits old n (bytes_given (lent_by digest m n)) tree (old-blocks apart)))

  pub new-tree : (gives : List ℕ → Option (Arc (List ℕ) A)) → gives ≡ lent_by digest m n
      → LendsTree digest bits new m → (root : List ℕ) → root ≡ state_root digest bits new
      → HasTree digest bits (bytes_given gives) root (pairs digest (records new))
  new-tree gives is tree root at =
      subst (λ (f : List ℕ → Option (Arc (List ℕ) A)). HasTree digest bits (bytes_given f) root (pairs digest (records new))) (sym is)
      (subst (λ (r : List ℕ). HasTree digest bits (bytes_given (lent_by digest m n)) r (pairs digest (records new))) (sym at)
      (tree-over digest bits new m (bytes_given (lent_by digest m n)) tree new-blocks))
