-- A source that gives each block of two trees under its CID has both trees; where it doesn't, two of their nodes clash.
use Rattle.std.proofs.Common.{◌≡◌, ℕ, ◌+◌, ◌<◌, Bool, true, false, cond, ◌&&◌, List, [], ◌∷◌, ◌++◌, length, map, get_or, drop, Option, refl, sym, ap, subst, ◌∙◌}
use Rattle.std.specs.Prelude.{Contains, IfErr, IsErrAnd, IfOk, OnOk, Result, Ok, Err, option_map}
use Rattle.std.specs.declared.option.Option.TheVariants.{Some, None}
use Rattle.std.specs.Arc.{arc_value}
use Rattle.std.specs.List.{list_all}
use Rattle.std.specs.Str.{bytes_eq}
use Rattle.std.specs.declared.sync.Arc.{Arc}
use Rattle.std.proofs.lemmas.List.{at_drop_more, map-append}
use Rattle.std.proofs.lemmas.List.Elements.{All-contains_itself, Contains-append_left, Contains-append_right}
use Rattle.std.proofs.lemmas.List.Sums.{AllPass-from_list_all, list_all-from_AllPass}
use Rattle.std.proofs.lemmas.Slice.Eq.{bytes_eq-Decides}
use Rattle.spec.specs.Cid.{cid}
use Rattle.spec.specs.Tree.{Pair}
use Rattle.spec.specs.Blocks.{IsClashFree, IsClashIn, block_at, nodes}
use Rattle.spec.specs.Sources.{HasBlocks}
use Rattle.spec.proofs.BlockLaws.{All-Contains, IsClashFree-parts}
use Rattle.edit_laws.proofs.BlockSources.{blocks-source}
use Rattle.lookups.specs.Maps.{Lending, first_of}
use Rattle.lookups.specs.Trees.{HasTree, bytes_given}
use Rattle.scratch.specs.declared.tree.Built.{Built}
use Rattle.repository_check.specs.Given.{is_block}
use Rattle.difference.specs.Differences.{OfTrees}
use Rattle.difference.specs.declared.outcome.Difference.{Difference}
use Rattle.difference_commands.specs.Trees.{IsBuiltOf, IsClashAmong, IsClashBetween, is_given}
use Rattle.difference_commands.specs.declared.trees.TreesFault.{TreesFault}
use Rattle.difference_commands.specs.declared.trees.TreesFault.TheVariants as errors

block-is : (b : List ℕ) (o : Option (List ℕ)) → is_block b o ≡ true → o ≡ Some b
block-is b None h = absurd cc
block-is b (Some given) h = ap (λ (x : List ℕ). Some x) ((bytes_eq-Decides given b).0 h)

is-block : (b : List ℕ) (o : Option (List ℕ)) → o ≡ Some b → is_block b o ≡ true
is-block b o e = ap (is_block b) e ∙ (bytes_eq-Decides b b).1 refl

first-is : {A : Type 0} (digest : List ℕ → List ℕ) (bs : List (Arc (List ℕ) A)) (c : List ℕ)
    → option_map arc_value (first_of digest bs c) ≡ block_at digest c (map arc_value bs)
first-is digest [] c = refl
first-is digest (b ∷ bs) c = at (bytes_eq (cid digest (arc_value b)) c) (first-is digest bs c)
  where
    at : (t : Bool) → option_map arc_value (first_of digest bs c) ≡ block_at digest c (map arc_value bs)
        → option_map arc_value (cond t (Some b) (first_of digest bs c))
        ≡ cond t (Some (arc_value b)) (block_at digest c (map arc_value bs))
    at true h = refl
    at false h = h

module _ {A : Type 0} (digest : List ℕ → List ℕ) (blocks : List (Arc (List ℕ) A)) where
  pub all-given : (bs : List (List ℕ)) → list_all (is_given digest (first_of digest blocks)) bs ≡ true
      → HasBlocks digest (bytes_given (first_of digest blocks)) bs
  all-given bs h b c =
      block-is b (bytes_given (first_of digest blocks) (cid digest b))
      (All-Contains (λ x. is_given digest (first_of digest blocks) x ≡ true) bs b
      (AllPass-from_list_all (is_given digest (first_of digest blocks)) bs h) c)

  given-all : (bs : List (List ℕ)) → HasBlocks digest (bytes_given (first_of digest blocks)) bs
      → list_all (is_given digest (first_of digest blocks)) bs ≡ true
  given-all bs has =
      list_all-from_AllPass (is_given digest (first_of digest blocks)) bs
      (λ i d h. let b : List ℕ = get_or bs i d in
      is-block b (bytes_given (first_of digest blocks) (cid digest b)) (has b (All-contains_itself bs i d h)))

  free-given : IsClashFree digest (map arc_value blocks)
      → HasBlocks digest (bytes_given (first_of digest blocks)) (map arc_value blocks)
  free-given free b h = first-is digest blocks (cid digest b) ∙ blocks-source digest (map arc_value blocks) free b h

  not-free : (t : Bool) → t ≡ list_all (is_given digest (first_of digest blocks)) (map arc_value blocks) → t ≡ false
      → IsClashFree digest (map arc_value blocks) → ⊥
  not-free t is off free =
      let on : t ≡ true = is ∙ given-all (map arc_value blocks) (free-given free) in
      let z : true ≡ false = sym on ∙ off in
      absurd cc

  -- the source that a map of these blocks is
  module _ (map_is : Lending (Arc (List ℕ) A)) (is : map_is ≡ record { blocks = blocks; asked = 0 }) where
    same-source : first_of digest map_is.blocks ≡ first_of digest blocks
    same-source = ap (λ (m : Lending (Arc (List ℕ) A)). first_of digest m.blocks) is

    same-test : (t : Bool) → t ≡ list_all (is_given digest (first_of digest map_is.blocks)) (map arc_value blocks)
        → t ≡ list_all (is_given digest (first_of digest blocks)) (map arc_value blocks)
    same-test t says = says ∙ ap (λ (f : List ℕ → Option (Arc (List ℕ) A)). list_all (is_given digest f) (map arc_value blocks)) same-source

    pub unfit : (t : Bool) → t ≡ list_all (is_given digest (first_of digest map_is.blocks)) (map arc_value blocks) → t ≡ false
        → IsClashFree digest (map arc_value blocks) → ⊥
    unfit t says off = not-free t (same-test t says) off

    pub fit : (t : Bool) → t ≡ list_all (is_given digest (first_of digest map_is.blocks)) (map arc_value blocks) → t ≡ true
        → HasBlocks digest (bytes_given (first_of digest blocks)) (map arc_value blocks)
    fit t says on = all-given (map arc_value blocks) (sym (same-test t says) ∙ on)

    -- what holds of the source after it was asked holds of the blocks
    pub at-source : (P : (List ℕ → Option (Arc (List ℕ) A)) → Type 0) (after : List ℕ → Option (Arc (List ℕ) A))
        → after ≡ first_of digest map_is.blocks → P after → P (first_of digest blocks)
    at-source P after e p = subst P (e ∙ same-source) p

-- one block more was asked for, of a source that gives what another one gives
pub asked-more : {A : Type 0} (digest : List ℕ → List ℕ) (f h : List ℕ → Option (Arc (List ℕ) A)) (bs : List (Arc (List ℕ) A)) (i : ℕ)
    (x : Arc (List ℕ) A) (b : List ℕ) (t u whole : Bool) → f ≡ h → i < length bs → x ≡ get_or bs i x → b ≡ arc_value x
    → t ≡ is_given digest f b → t ≡ u → list_all (is_given digest h) (map arc_value (drop i bs)) ≡ whole
    → (u && list_all (is_given digest h) (map arc_value (drop (i + 1) bs))) ≡ whole
asked-more {A} digest f h bs i x b t u whole same lt at is given so far =
    let here : is_given digest h (arc_value (get_or bs i x)) ≡ u =
    ap (λ (y : Arc (List ℕ) A). is_given digest h (arc_value y)) (sym at) ∙ ap (is_given digest h) (sym is)
    ∙ sym (ap (λ (k : List ℕ → Option (Arc (List ℕ) A)). is_given digest k b) same) ∙ sym given ∙ so in
    ap (λ v. v && list_all (is_given digest h) (map arc_value (drop (i + 1) bs))) (sym here)
    ∙ sym (at_drop_more (λ (ys : List (Arc (List ℕ) A)). list_all (is_given digest h) (map arc_value ys)) bs i x lt) ∙ far

-- a tree that was built is one of a source that gives its blocks
pub has-tree : {D A : Type 0} (digest : List ℕ → List ℕ) (gives : List ℕ → Option (Arc (List ℕ) A)) (es : List Pair) (built : Built D A)
    → IsBuiltOf digest es built → HasBlocks digest (bytes_given gives) (map arc_value built.blocks.items)
    → HasTree digest 2 (bytes_given gives) built.root es
has-tree digest gives es built is has = record {
  pairs = is.pairs;
  root_is = is.root_is;
  nodes = λ b h. has b (subst (λ (bs : List (List ℕ)). Contains bs b) (sym is.blocks_are) h);
}

pub left-blocks : (digest : List ℕ → List ℕ) (gives : List ℕ → Option (List ℕ)) (xs ys : List (List ℕ)) → HasBlocks digest gives (xs ++ ys)
    → HasBlocks digest gives xs
left-blocks digest gives xs ys has b h = has b (Contains-append_left xs ys b h)

pub right-blocks : (digest : List ℕ → List ℕ) (gives : List ℕ → Option (List ℕ)) (xs ys : List (List ℕ)) → HasBlocks digest gives (xs ++ ys)
    → HasBlocks digest gives ys
right-blocks digest gives xs ys has b h = has b (Contains-append_right xs ys b h)

-- ---- clashes

pub clash-in : (digest : List ℕ → List ℕ) (bs : List (List ℕ)) (pair : List ℕ × List ℕ) → IsClashIn digest bs pair
    → IsClashFree digest bs → ⊥
clash-in digest bs pair clash free = clash.2.1 (free pair.0 pair.1 clash.0 clash.1 clash.2.0)

pub clash-left : (digest : List ℕ → List ℕ) (xs ys : List (List ℕ)) (fault : TreesFault) → IsClashAmong digest xs fault
    → IsClashAmong digest (xs ++ ys) fault
clash-left digest xs ys errors.Clash h = λ free. h (IsClashFree-parts digest xs ys free).0
clash-left digest xs ys errors.NoMemory h = tt

pub clash-right : (digest : List ℕ → List ℕ) (xs ys : List (List ℕ)) (fault : TreesFault) → IsClashAmong digest ys fault
    → IsClashAmong digest (xs ++ ys) fault
clash-right digest xs ys errors.Clash h = λ free. h (IsClashFree-parts digest xs ys free).1
clash-right digest xs ys errors.NoMemory h = tt

-- ---- over the blocks of both

module _ {D A : Type 0} (digest : List ℕ → List ℕ) (blocks : List (Arc (List ℕ) A)) (before after : Built D A)
    (are : blocks ≡ before.blocks.items ++ after.blocks.items) (es fs : List Pair)
    (old : IsBuiltOf digest es before) (new : IsBuiltOf digest fs after) where
  all-blocks : map arc_value blocks ≡ nodes digest 2 es ++ nodes digest 2 fs
  all-blocks =
      ap (map arc_value) are ∙ map-append arc_value before.blocks.items after.blocks.items
      ∙ ap (λ bs. bs ++ map arc_value after.blocks.items) old.blocks_are ∙ ap (λ bs. nodes digest 2 es ++ bs) new.blocks_are

  -- what is answered of two trees in the source of these blocks is answered of these
  pub compared-of : (P : List Pair → List Pair → Difference D A → Type 0) (r : Result (Difference D A) TreesFault)
      → OfTrees digest 2 (first_of digest blocks) before.root after.root (λ xs ys. IfOk r (P xs ys))
      → OnOk r (HasBlocks digest (bytes_given (first_of digest blocks)) (map arc_value blocks)) → IfOk r (P es fs)
  compared-of P (Ok d) of_trees given =
      let both : HasBlocks digest (bytes_given (first_of digest blocks)) (map arc_value before.blocks.items ++ map arc_value after.blocks.items) =
      subst (HasBlocks digest (bytes_given (first_of digest blocks))) (ap (map arc_value) are ∙ map-append arc_value before.blocks.items after.blocks.items) given in
      of_trees es fs
      (has-tree digest (first_of digest blocks) es before old
      (left-blocks digest (bytes_given (first_of digest blocks)) (map arc_value before.blocks.items) (map arc_value after.blocks.items) both))
      (has-tree digest (first_of digest blocks) fs after new
      (right-blocks digest (bytes_given (first_of digest blocks)) (map arc_value before.blocks.items) (map arc_value after.blocks.items) both))
  compared-of P (Err f) of_trees given = tt

  pub clash-of-both : (r : Result (Difference D A) TreesFault) → IfErr r (IsClashAmong digest (map arc_value blocks))
      → IfErr r (IsClashBetween digest es fs)
  clash-of-both (Ok d) h = tt
  clash-of-both (Err f) h = subst (λ (bs : List (List ℕ)). IsClashAmong digest bs f) all-blocks h

-- an error that is handed on
pub handed-on : {T : Type 0} (P : TreesFault → Type 0) (e : TreesFault) (r : Result T TreesFault) → IsErrAnd r (λ x. x ≡ e) → P e → IfErr r P
handed-on P e (Ok x) h holds = tt
handed-on P e (Err x) h holds = subst P (sym h) holds
