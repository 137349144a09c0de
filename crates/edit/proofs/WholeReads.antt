-- What the laws call whole, each node on the way down shown, is whole as an edit counts it: each block that is asked for is read.
use Rattle.std.proofs.Common.{◌≡◌, ℕ, zero, suc, ◌*◌, List, length, Option, refl, ap, arith}
use Rattle.std.specs.declared.option.Option.TheVariants.{Some, None}
use Rattle.spec.specs.NodeFormat.{Shape, LastLink, MoreLinks, first_link}
use Rattle.edit_laws.specs.ShapeEdit.{last_link}
use Rattle.edit_laws.specs.Sources.{gap, path_at, path_from, seam_at, seam_from, pruned_at, pruned_from}
use Rattle.batch_laws.specs.Paths as laws
use Rattle.lookups.specs.Steps.{asked_at, asked_from, IsWholePath}
use Rattle.edit.specs.Deletes.{asked_seam_at, asked_seam, asked_pruned_at, asked_pruned, IsWholeSeam, IsWholeChain}

module _ (shows : List ℕ → Option Shape) where
  path-at : (k : ℕ) (key : List ℕ)
      → ((l : Option (List ℕ)) → laws.IsWhole shows k key l → IsWholePath shows k key l) → (o : Option Shape)
      → laws.IsWholeAt (laws.IsWhole shows k key) key o
      → asked_at (asked_from shows k key) key o ≡ length (path_at (path_from shows k key) key o)
  path-at k key below None h = absurd h
  path-at k key below (Some s) h = ap suc (below (gap key s) h)

  pub whole-path : (k : ℕ) (key : List ℕ) (l : Option (List ℕ)) → laws.IsWhole shows k key l → IsWholePath shows k key l
  whole-path zero key None h = refl
  whole-path zero key (Some c) h = absurd h
  whole-path (suc k) key None h = refl
  whole-path (suc k) key (Some c) h = path-at k key (whole-path k key) (shows c) h

  seam-at : (k : ℕ) → ((x y : Option (List ℕ)) → laws.IsWholeSeam shows k x y → IsWholeSeam shows k x y)
      → (s t : Option Shape) → laws.IsWholeSeamAt (laws.IsWholeSeam shows k) s t
      → asked_seam_at (asked_seam shows k) s t ≡ 2 * length (seam_at (seam_from shows k) s t)
  seam-at k below None t h = absurd h
  seam-at k below (Some s) None h = absurd h
  seam-at k below (Some s) (Some t) h = let i = below (last_link s) (first_link t) h in omega arith

  none-after : (further : Option (List ℕ) → Option (List ℕ) → List (Shape × Shape)) (o : Option Shape)
      → 0 ≡ 2 * length (seam_at further o None)
  none-after further None = refl
  none-after further (Some s) = refl

  pub whole-seam : (k : ℕ) (x y : Option (List ℕ)) → laws.IsWholeSeam shows k x y → IsWholeSeam shows k x y
  whole-seam zero None y h = refl
  whole-seam zero (Some c) None h = refl
  whole-seam zero (Some c) (Some d) h = absurd h
  whole-seam (suc k) None y h = refl
  whole-seam (suc k) (Some c) None h = none-after (seam_from shows k) (shows c)
  whole-seam (suc k) (Some c) (Some d) h = seam-at k (whole-seam k) (shows c) (shows d) h

  chain-at : (k : ℕ) → ((l : Option (List ℕ)) → laws.IsWholeChain shows k l → IsWholeChain shows k l)
      → (o : Option Shape) → laws.IsWholeChainAt (laws.IsWholeChain shows k) o
      → asked_pruned_at (asked_pruned shows k) o ≡ length (pruned_at (pruned_from shows k) o)
  chain-at k below None h = absurd h
  chain-at k below (Some (LastLink l)) h = ap suc (below l h)
  chain-at k below (Some (MoreLinks l e r)) h = refl

  pub whole-chain : (k : ℕ) (l : Option (List ℕ)) → laws.IsWholeChain shows k l → IsWholeChain shows k l
  whole-chain zero None h = refl
  whole-chain zero (Some c) h = absurd h
  whole-chain (suc k) None h = refl
  whole-chain (suc k) (Some c) h = chain-at k (whole-chain k) (shows c) h

-- the first node of a whole path
first-at : (shows : List ℕ → Option Shape) (k : ℕ) (key c : List ℕ) (o : Option Shape) → shows c ≡ o
    → laws.IsWholeAt (laws.IsWhole shows k key) key o → (s : Shape) × (shows c ≡ Some s)
first-at shows k key c None e h = absurd h
first-at shows k key c (Some s) e h = (s, e)

pub first-shown : (shows : List ℕ → Option Shape) (k : ℕ) (key c : List ℕ) → laws.IsWhole shows k key (Some c)
    → (s : Shape) × (shows c ≡ Some s)
first-shown shows zero key c h = absurd h
first-shown shows (suc k) key c h = first-at shows k key c (shows c) refl h
