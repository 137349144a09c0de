-- The laws of how many nodes are read and made, and of what one change reads.
use Rattle.std.specs.Prelude.{◌<◌, ◌≤◌, ◌+◌, ◌-◌, ◌*◌, ℕ, suc, max, List, [], ◌∷◌, length, Option, Some, None}
use Rattle.spec.specs.Tree.{Pair, top, top_layer}
use Rattle.spec.specs.NodeFormat.{Shape}
use Rattle.batch_laws.specs.Batch.{Change}
use Rattle.batch_laws.specs.Trace.{batch_made, batch_read}
use Rattle.batch_laws.specs.Counts.{most_reads}
use Rattle.batch_laws.specs.Links.{batch_from}
use Rattle.batch_laws.specs.Paths.{IsPathRead, IsDeleteRead}
use Rattle.batch_laws.specs.Written.{OnAnswer}

-- beside the top a batch reads at most one node a layer for each put and two for each delete
abbrev pub BatchReadsFew : Type 0
BatchReadsFew = (layer : List ℕ → ℕ) (n : ℕ) (cs : List Change) (es : List Pair) → top_layer layer es < n
    → length (batch_read layer n cs (top layer es)) ≤ suc (most_reads (top_layer layer es) cs)

-- and it makes at most n + t nodes for each change, and n - t for the whole, where the old top is of layer t and the edge
-- has n layers
abbrev pub BatchMakesFew : Type 0
BatchMakesFew = (layer : List ℕ → ℕ) (n : ℕ) (cs : List Change) (es : List Pair) → top_layer layer es < n
    → let t = top_layer layer es in length (batch_made layer n cs (top layer es)) ≤ (n - t) + length cs * (n + t)

-- how many nodes one change reads and makes, where the edge has just the layers that are needed: at a put no more than one a
-- layer is read, at a delete two but for the top; two a layer are made
pub record IsShort (layer : List ℕ → ℕ) (cs : List Change) (es : List Pair) (n reads : ℕ) : Type 0 where
  pub reads_few : length (batch_read layer n cs (top layer es)) ≤ reads
  pub makes_few : length (batch_made layer n cs (top layer es)) ≤ 2 * n

abbrev pub OnePutIsShort : Type 0
OnePutIsShort = (layer : List ℕ → ℕ) (key value : List ℕ) (es : List Pair)
    → let n = suc (max (top_layer layer es) (layer key)) in
    IsShort layer ((key, Some value) ∷ []) es n (suc (top_layer layer es))

abbrev pub OneDeleteIsShort : Type 0
OneDeleteIsShort = (layer : List ℕ → ℕ) (key : List ℕ) (es : List Pair)
    → let n = suc (top_layer layer es) in
    IsShort layer ((key, None) ∷ []) es n (2 * top_layer layer es + 1)

-- whatever the source shows, a batch of one put that has an answer reads the path of its key, which is whole, and no other
-- node
abbrev pub OnePutReadsPath : Type 0
OnePutReadsPath = (digest : List ℕ → List ℕ) (shows : List ℕ → Option Shape) (layer : List ℕ → ℕ) (n : ℕ)
    (key value : List ℕ) (m : ℕ) (root : List ℕ) → ((k : List ℕ) → layer k < m)
    → OnAnswer (batch_from digest shows layer n ((key, Some value) ∷ []) root) (IsPathRead shows m key root)

-- and a batch of one delete reads what an edit along the path does: the path, what meets where the key stood, and the chain
-- at which the top is pruned, in this order
abbrev pub OneDeleteReads : Type 0
OneDeleteReads = (digest : List ℕ → List ℕ) (shows : List ℕ → Option Shape) (layer : List ℕ → ℕ) (n : ℕ)
    (key : List ℕ) (m : ℕ) (root : List ℕ) → ((k : List ℕ) → layer k < m) → n ≤ m
    → OnAnswer (batch_from digest shows layer n ((key, None) ∷ []) root) (IsDeleteRead shows layer m key root)
