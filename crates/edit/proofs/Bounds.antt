-- How many nodes may be read.
use Rattle.std.proofs.Common.{◌≡◌, ℕ, suc, ◌+◌, ◌*◌, ◌/◌, ◌^◌, ◌<◌, ◌≤◌, List, [], ◌∷◌, length, drop, length-drop, sym, ap, ◌∙◌, arith, Option}
use Rattle.std.specs.declared.option.Option.TheVariants.{Some, None}
use Rattle.spec.specs.Layer.{layer}
use Rattle.spec.specs.NodeFormat.{Shape, LastLink, MoreLinks}
use Rattle.spec.proofs.PathNodes.{top_layer-le}
use Rattle.edit_laws.specs.ShapeEdit.{layer_of_shape}
use Rattle.batch_laws.specs.Batch.{Change}
use Rattle.batch_laws.specs.Counts.{most_reads, reads_of, most_from}
use Rattle.batch_laws.proofs.Sums.{sum-all}

-- ---- the sum over the changes

reads-more : (t u : ℕ) (v : Option (List ℕ)) → t ≤ u → reads_of t v ≤ reads_of u v
reads-more t u None h = omega arith
reads-more t u (Some v) h = h

pub most-more : (t u : ℕ) (cs : List Change) → t ≤ u → most_reads t cs ≤ most_reads u cs
most-more t u cs h = sum-all (reads_of t) (reads_of u) cs (λ v. reads-more t u v h)

reads-few : (t : ℕ) (v : Option (List ℕ)) → t < 65536 → reads_of t v ≤ 131072
reads-few t None h = omega arith
reads-few t (Some v) h = omega arith

-- 2^17 for each at most
most-few : (t : ℕ) (cs : List Change) → t < 65536 → most_reads t cs ≤ 131072 * length cs
most-few t [] h = omega arith
most-few t (c ∷ cs) h = let i = most-few t cs h in let j = reads-few t c.1 h in omega (arith, i, j)

pub most-fits : (t : ℕ) (cs : List Change) (i most own : ℕ) (v : Option (List ℕ)) → t < 65536 → length cs < 2 ^ 64
    → most ≡ most_reads t (drop i cs) → own ≡ reads_of t v → most + own < 2 ^ 128
most-fits t cs i most own v h l e f =
    let a = most-few t (drop i cs) h in
    let b = length-drop i cs in
    let c = reads-few t v h in
    omega (arith, a, b, c, e, f)

-- ---- from a root

pub most-one : (lay : List ℕ → ℕ) (cs : List Change) (o : Option Shape) → 1 ≤ most_from lay cs o
most-one lay cs None = omega arith
most-one lay cs (Some s) = omega arith

pub most-shown : (lay : List ℕ → ℕ) (cs : List Change) (o : Option Shape) (s : Shape) (t : ℕ) → o ≡ Some s
    → t ≡ layer_of_shape lay s → most_from lay cs o ≡ suc (most_reads t cs)
most-shown lay cs o s t e h = ap (most_from lay cs) e ∙ ap (λ k. suc (most_reads k cs)) (sym h)

module _ (digest : List ℕ → List ℕ) (bits : ℕ) (fits : (bytes : List ℕ) → length (digest bytes) ≡ 32) where
  shape-layer : (s : Shape) → layer_of_shape (layer digest bits) s ≤ 256 / bits
  shape-layer (LastLink l) = omega arith
  shape-layer (MoreLinks l e r) = let a = top_layer-le digest bits fits (e ∷ []) in omega (arith, a)

  -- no root is above the highest layer
  pub most-within : (cs : List Change) (o : Option Shape)
      → most_from (layer digest bits) cs o ≤ suc (most_reads (256 / bits) cs)
  most-within cs None = omega arith
  most-within cs (Some s) =
      let a = most-more (layer_of_shape (layer digest bits) s) (256 / bits) cs (shape-layer s) in omega (arith, a)
