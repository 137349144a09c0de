-- What the walk meets are the values that the changed keys had, also over a source that lacks nodes in which nothing changes.
use Rattle.std.proofs.Common.{◌≡◌, ℕ, zero, suc, ◌-◌, List, [], ◌∷◌, ◌++◌, refl, sym, ap, subst, ◌∙◌, Option}
use Rattle.spec.specs.Tree.{Pair, Node, Part, Last, More, Nothing, Sub, pairs_in, pairs_under, top}
use Rattle.spec.specs.NodeFormat.{Shape, shape, part_link}
use Rattle.spec.proofs.TreeLaws.{pairs-top}
use Rattle.edit_laws.specs.Pairs.{Ascending}
use Rattle.edit_laws.specs.TreeEdit.{layer_of}
use Rattle.edit_laws.proofs.Within.{within-top, IsWithin, AllWithin}
use Rattle.edit_laws.proofs.EachPair.{halves}
use Rattle.batch_laws.specs.Batch.{Change, before, at_key, after, AreAscending, entry}
use Rattle.batch_laws.specs.Edge.{Edge, Clear}
use Rattle.batch_laws.specs.Walking.{walk_part, walk_top, with_pairs}
use Rattle.batch_laws.specs.Trace.{pairs_gone, walk_gone, walk_under_gone, top_gone, batch_gone}
use Rattle.batch_laws.specs.Previous.{values, previous_node, previous_gap, previous_top}
use Rattle.batch_laws.proofs.Bridges.{layer-same}
use Rattle.batch_laws.proofs.Previous.{values_in, ascending-before, ascending-after, values-at, values-same}
use Rattle.change_laws.proofs.Lacking.{all-front, all-back, Shown, AllShown}

-- ---- over a source that shows what a batch reads

module _ (digest : List ℕ → List ℕ) (shows : List ℕ → Option Shape) (layer : List ℕ → ℕ) (n : ℕ) where
  abbrev Meets : ℕ → Type 0
  Meets k = (d : ℕ) (p : Part) (cs : List Change) (s : Edge) → IsWithin k p → Ascending (pairs_in p) → AreAscending cs
      → AllShown digest shows (walk_gone layer n d p cs s)
      → previous_gap shows k (part_link digest p) cs ≡ values_in cs (pairs_in p)

  meets-node : (k : ℕ) → Meets k → (d : ℕ) (m : Node) (cs : List Change) (s : Edge) → AllWithin k m
      → Ascending (pairs_under m) → AreAscending cs → AllShown digest shows (walk_under_gone layer n d m cs s)
      → previous_node (previous_gap shows k) cs (shape digest m) ≡ values_in cs (pairs_under m)
  meets-node k ih d (Last p) cs s w a h g = ih (suc d) p cs s w a h g
  meets-node k ih d (More p e r) cs s w a h g =
      let parts = halves (pairs_in p) e (pairs_under r) a in
      let s1 = walk_part layer n (suc d) p (before e.0 cs) s in
      let ps = entry (at_key e.0 cs) e in
      let s2 = with_pairs (λ key. d) ps s1 in
      let g1 = walk_gone layer n (suc d) p (before e.0 cs) s in
      let g2 = pairs_gone (λ key. d) ps s1 in
      let g3 = walk_under_gone layer n d r (after e.0 cs) s2 in
      let rest = all-back (Shown digest shows) g1 (g2 ++ g3) g in
      rw (
        ih (suc d) p (before e.0 cs) s w.0 parts.front (ascending-before e.0 cs h)
            (all-front (Shown digest shows) g1 (g2 ++ g3) g),
        meets-node k ih d r (after e.0 cs) s2 w.1 parts.back (ascending-after e.0 cs h)
            (all-back (Shown digest shows) g2 g3 rest),
      )
      (sym (values-at cs (pairs_in p) e (pairs_under r) h parts.before))

  meets : (k : ℕ) → Meets k
  meets zero d Nothing cs s w a h g = refl
  meets (suc k) d Nothing cs s w a h g = refl
  meets zero d (Sub m) cs s w a h g = absurd w
  meets (suc k) d (Sub m) [] s w a h g = refl
  meets (suc k) d (Sub m) (c ∷ cs) s w a h g = rw g.0 (meets-node k (meets k) d m (c ∷ cs) s w a h g.1)

pub previous-met : (digest : List ℕ → List ℕ) (shows : List ℕ → Option Shape) (lay : List ℕ → ℕ) (n : ℕ)
    (cs : List Change) (es : List Pair) → Ascending es → AreAscending cs
    → AllShown digest shows (batch_gone lay n cs (top lay es))
    → previous_top shows lay cs (shape digest (top lay es)) ≡ values cs es
previous-met digest shows lay n cs es a h g =
    let m = top lay es in
    let k = layer_of lay m in
    let d = n - suc k in
    let q = pairs-top lay es in
    let under = walk_under_gone lay n d m cs Clear in
    let own = all-front (Shown digest shows) (m ∷ under) (top_gone (walk_top lay n cs m)) g in
    rw (layer-same digest shows lay m)
    (meets-node digest shows lay n k (meets digest shows lay n k) d m cs Clear (within-top lay es)
    (subst Ascending (sym q) a) h own.1)
    ∙ ap (values_in cs) q ∙ values-same cs es a
