-- The blocks of a repository, found with their uses.
use Rattle.std.proofs.Common.{◌≡◌, ℕ, List, Option, option_map, refl, ap, subst, ◌∙◌}
use Rattle.std.specs.declared.option.Option.TheVariants.{Some, None}
use Rattle.std.specs.Prelude.{nat_lt}
use Rattle.std.specs.Arc.{arc_value}
use Rattle.spec.specs.Cid.{cid}
use Rattle.spec.specs.States.{State, state_blocks}
use Rattle.spec.specs.Tree.{Pair}
use Rattle.spec.specs.Sources.{HasBlocks}
use Rattle.edit_laws.specs.Uses.{uses}
use Rattle.lookups.specs.Trees.{HasTree}
use Rattle.kept.specs.Uses.{Uses, at}
use Rattle.kept.specs.declared.kept_use.Use.{Use}
use Rattle.kept.proofs.LentTrees.{lent_tree}
use Rattle.repo.specs.Readings.{CountsBlocks, bytes_lent}
use Rattle.export.specs.Founds.{AreMarked, bytes_found, bytes_in, counted, found_in, may_repeat}

module _ {D A : Type 0} (m : Uses D A) where
  gives-lent : (c : List ℕ) → bytes_in m c ≡ bytes_lent m c
  gives-lent c = same (at m c)
    where
      same : (o : Option (Use D A)) → option_map bytes_found (option_map counted o) ≡ option_map arc_value (option_map (λ u. u.hold.0) o)
      same None = refl
      same (Some u) = refl

  module _ (digest : List ℕ → List ℕ) where
    pub found-blocks : (bs : List (List ℕ)) → HasBlocks digest (bytes_lent m) bs → HasBlocks digest (bytes_in m) bs
    found-blocks bs has b h = gives-lent (cid digest b) ∙ has b h

    pub found-tree : (bits : ℕ) (root : List ℕ) (es : List Pair) → HasTree digest bits (bytes_lent m) root es → HasTree digest bits (bytes_in m) root es
    found-tree bits root es tree = lent_tree digest bits (bytes_lent m) (bytes_in m) root es (λ c b e. gives-lent c ∙ e) tree

    pub found-marked : (bits : ℕ) (s : State) → CountsBlocks digest bits s m
        → AreMarked digest (may_repeat digest bits s) (found_in m)
    found-marked bits s counts c f e = by_entry (at m c) refl e
      where
        by_entry : (o : Option (Use D A)) → at m c ≡ o → option_map counted o ≡ Some f
            → f.may_repeat ≡ nat_lt 1 (uses digest (cid digest (bytes_found f)) (state_blocks digest bits s))
        by_entry None is h = absurd cc
        by_entry (Some u) is h =
            let same : counted u ≡ f = cc in
            subst (λ x. x.may_repeat ≡ nat_lt 1 (uses digest (cid digest (bytes_found x)) (state_blocks digest bits s))) same
            (ap (nat_lt 1) (counts c u is))
