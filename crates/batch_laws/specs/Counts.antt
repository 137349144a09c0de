-- Numbers for changes: how many nodes a batch reads at most, and how many layers its edge has.
use Rattle.std.specs.Prelude.{ℕ, suc, max, ◌+◌, ◌*◌, List, [], ◌∷◌, Option, Some, None}
use Rattle.spec.specs.NodeFormat.{Shape}
use Rattle.edit_laws.specs.ShapeEdit.{layer_of_shape}
use Rattle.batch_laws.specs.Batch.{Change}

-- a number for each change, by what its key is to have
abbrev pub sum_over : (Option (List ℕ) → ℕ) → List Change → ℕ
sum_over f [] = 0
sum_over f (c ∷ cs) = f c.1 + sum_over f cs

-- below the top of layer t: a put one node a layer, a delete two
abbrev pub reads_of : ℕ → Option (List ℕ) → ℕ
reads_of t None = 2 * t
reads_of t (Some v) = t

abbrev pub most_reads : ℕ → List Change → ℕ
most_reads t cs = sum_over (reads_of t) cs

-- how many nodes may be read from a root: itself, and as many as the changes read at most below a top of its layer
abbrev pub most_from : (List ℕ → ℕ) → List Change → Option Shape → ℕ
most_from layer cs None = 1
most_from layer cs (Some s) = suc (most_reads (layer_of_shape layer s) cs)

-- how many layers the new tree has at least for a key that gets this value
abbrev pub layers_for : (List ℕ → ℕ) → List ℕ → Option (List ℕ) → ℕ
layers_for layer key None = 0
layers_for layer key (Some v) = suc (layer key)

-- and for the keys of all changes
abbrev pub put_layers : (List ℕ → ℕ) → List Change → ℕ
put_layers layer [] = 0
put_layers layer (c ∷ cs) = max (layers_for layer c.0 c.1) (put_layers layer cs)

-- how many layers the edge has: those up to the old top, and no fewer than the puts want
abbrev pub layers_needed : (List ℕ → ℕ) → ℕ → Option Shape → ℕ
layers_needed layer wanted None = 0
layers_needed layer wanted (Some s) = max (suc (layer_of_shape layer s)) wanted
