-- An edit of the tree of some pairs: what it adds and drops makes the blocks of the new tree.
use Rattle.std.proofs.Common.{◌≡◌, ℕ, ◌+◌, ◌<◌, ◌≤◌, List, [], ◌∷◌, ◌++◌, map, refl, sym, ap, ◌∙◌, arith}
use Rattle.std.proofs.lemmas.List.{map-append}
use Rattle.spec.specs.Cid.{IsDigest, cid}
use Rattle.spec.specs.Layer.{layer}
use Rattle.spec.specs.Tree.{Pair, Node, Part, Last, More, Nothing, Sub, top}
use Rattle.spec.specs.NodeFormat.{node_bytes}
use Rattle.spec.specs.Blocks.{blocks_in, blocks_under, no_record, nodes, ArePairs, IsClashFree}
use Rattle.spec.proofs.SameTree.{Stands, free_shapes}
use Rattle.spec.proofs.RootLaws.{stands-top}
use Rattle.std.specs.Prelude.{Contains}
use Rattle.edit_laws.specs.Changes.{count, marked, add_of, drop_of, AreChanges}
use Rattle.edit_laws.specs.Trace.{weight, weight_under, total}
use Rattle.edit_laws.proofs.Changes.{changes}
use Rattle.edit_laws.proofs.Lists.{count-append, count-map, contains-counted, counted-contains}
use Rattle.edit_laws.proofs.NodesOnce.{nodes-once}
use Rattle.edit_laws.proofs.RecordMaps.{ascending-sorted}

-- ---- counts in lists of blocks are weights of trees

pub count-total : (f : Node → List ℕ) (c : List ℕ) (ms : List Node) → count c (map f ms) ≡ total (marked f c) ms
count-total f c [] = refl
count-total f c (m ∷ ms) = let i = count-total f c ms in omega arith

count-cids : (mark : List ℕ → List ℕ) (f : Node → List ℕ) (c : List ℕ) (ms : List Node)
    → count c (map mark (map f ms)) ≡ total (marked (λ m. mark (f m)) c) ms
count-cids mark f c [] = refl
count-cids mark f c (m ∷ ms) = let i = count-cids mark f c ms in omega arith

module _ (digest : List ℕ → List ℕ) where
  mutual
    count-blocks : (mark : List ℕ → List ℕ) (c : List ℕ) (p : Part)
        → count c (map mark (blocks_in digest no_record p)) ≡ weight (marked (λ m. mark (node_bytes digest m)) c) p
    count-blocks mark c Nothing = refl
    count-blocks mark c (Sub m) = let i = count-under mark c m in omega arith

    count-under : (mark : List ℕ → List ℕ) (c : List ℕ) (m : Node)
        → count c (map mark (blocks_under digest no_record m))
        ≡ weight_under (marked (λ m. mark (node_bytes digest m)) c) m
    count-under mark c (Last p) = count-blocks mark c p
    count-under mark c (More p e r) =
        let a = blocks_in digest no_record p in
        let b = blocks_under digest no_record r in
        let i = count-blocks mark c p in
        let j = count-under mark c r in
        let k = count-append c (map mark (a ++ [])) (map mark b) in
        let l = count-append c (map mark a) [] in
        rw (map-append mark (a ++ []) b, map-append mark a [])
        (let k' = count-append c (map mark a ++ []) (map mark b) in omega arith)

  same-map : (xs : List (List ℕ)) → map (λ (x : List ℕ). x) xs ≡ xs
  same-map [] = refl
  same-map (x ∷ xs) = ap (λ ys. x ∷ ys) (same-map xs)

  pub count-nodes : (b : List ℕ) (p : Part)
      → count b (blocks_in digest no_record p) ≡ weight (marked (node_bytes digest) b) p
  count-nodes b p = ap (count b) (sym (same-map (blocks_in digest no_record p))) ∙ count-blocks (λ x. x) b p

  abbrev pub bytes_of : List Node → List (List ℕ)
  bytes_of ms = map (node_bytes digest) ms

  -- ---- no block stands twice in a tree without clash

  cid-once : (bits : ℕ) → IsDigest digest → (es : List Pair) → ArePairs es → IsClashFree digest (nodes digest bits es)
      → (c : List ℕ) → weight (marked (λ m. cid digest (node_bytes digest m)) c) (Sub (top (layer digest bits) es)) ≤ 1
  cid-once bits fits es are free c =
      let bs = nodes digest bits es in
      nodes-once digest (Stands (Contains bs)) (free_shapes digest (Contains bs) free) (layer digest bits) es
      (ascending-sorted es are.sorted)
      (stands-top digest bits fits es are bs (λ b h. h)) c

  pub bytes-once : (bits : ℕ) (es : List Pair)
      → ((c : List ℕ) → weight (marked (λ m. cid digest (node_bytes digest m)) c) (Sub (top (layer digest bits) es))
      ≤ 1) → (b : List ℕ) → count b (nodes digest bits es) ≤ 1
  bytes-once bits es once b =
      let i = count-map (cid digest) b (nodes digest bits es) in
      let j = count-blocks (cid digest) (cid digest b) (Sub (top (layer digest bits) es)) in
      let k = once (cid digest b) in
      omega arith

  -- ---- where the nodes read and made stand

  count-nodes_of : (bits : ℕ) (es : List Pair) (b : List ℕ)
      → count b (nodes digest bits es) ≡ weight (marked (node_bytes digest) b) (Sub (top (layer digest bits) es))
  count-nodes_of bits es b = count-nodes b (Sub (top (layer digest bits) es))

  -- what is read is old
  pub read-stands : (bits : ℕ) (es : List Pair) (read : List Node)
      → ((b : List ℕ) → 0 < total (marked (node_bytes digest) b) read
      → 0 < weight (marked (node_bytes digest) b) (Sub (top (layer digest bits) es)))
      → (b : List ℕ) → Contains (bytes_of read) b → Contains (nodes digest bits es) b
  read-stands bits es read read_old b h =
      let i = counted-contains b (bytes_of read) h in
      let r = count-total (node_bytes digest) b read in
      let l : 0 < total (marked (node_bytes digest) b) read = omega arith in
      let k = read_old b l in
      let c = count-nodes_of bits es b in
      contains-counted b (nodes digest bits es) (omega arith)

  -- what is made is new
  pub made-stands : (bits : ℕ) (es fs : List Pair) (made gone : List Node)
      → ((w : Node → ℕ) → weight w (Sub (top (layer digest bits) es)) + total w made
      ≡ weight w (Sub (top (layer digest bits) fs)) + total w gone)
      → ((w : Node → ℕ) → total w gone ≤ weight w (Sub (top (layer digest bits) es)))
      → (b : List ℕ) → Contains (bytes_of made) b → Contains (nodes digest bits fs) b
  made-stands bits es fs made gone even gone_old b h =
      let w = marked (node_bytes digest) b in
      let i = counted-contains b (bytes_of made) h in
      let r = count-total (node_bytes digest) b made in
      let e = even w in
      let g = gone_old w in
      let c = count-nodes_of bits fs b in
      contains-counted b (nodes digest bits fs) (omega arith)

  -- ---- any edit whose nodes balance

  pub edited : (bits : ℕ) → IsDigest digest → (es fs : List Pair) (made gone read : List Node) → ArePairs es
      → IsClashFree digest (nodes digest bits es)
      → ((w : Node → ℕ) → weight w (Sub (top (layer digest bits) es)) + total w made
      ≡ weight w (Sub (top (layer digest bits) fs)) + total w gone)
      → ((w : Node → ℕ) → total w gone ≤ total w read)
      → ((w : Node → ℕ) → total w gone ≤ weight w (Sub (top (layer digest bits) es)))
      → ((b : List ℕ) → 0 < total (marked (node_bytes digest) b) read
      → 0 < weight (marked (node_bytes digest) b) (Sub (top (layer digest bits) es)))
      → IsClashFree digest (bytes_of made ++ bytes_of read)
      → AreChanges digest (nodes digest bits es) (nodes digest bits fs) (bytes_of read)
      (add_of digest (bytes_of read) (bytes_of made)) (drop_of digest (bytes_of made) (bytes_of gone))
  edited bits fits es fs made gone read are free even gone_read gone_old read_old apart =
      let once = cid-once bits fits es are free in
      let w : List ℕ → Node → ℕ = marked (node_bytes digest) in
      let old_is : (b : List ℕ)
      → count b (nodes digest bits es) ≡ weight (w b) (Sub (top (layer digest bits) es)) =
      λ b. count-nodes b (Sub (top (layer digest bits) es)) in
      let new_is : (b : List ℕ)
      → count b (nodes digest bits fs) ≡ weight (w b) (Sub (top (layer digest bits) fs)) =
      λ b. count-nodes b (Sub (top (layer digest bits) fs)) in
      let made_is : (b : List ℕ)
      → count b (bytes_of made) ≡ total (w b) made = λ b. count-total (node_bytes digest) b made in
      let gone_is : (b : List ℕ)
      → count b (bytes_of gone) ≡ total (w b) gone = λ b. count-total (node_bytes digest) b gone in
      let read_is : (b : List ℕ)
      → count b (bytes_of read) ≡ total (w b) read = λ b. count-total (node_bytes digest) b read in
      changes digest (nodes digest bits es) (nodes digest bits fs) (bytes_of made) (bytes_of gone) (bytes_of read)
      (record {
        even = λ b. omega (arith, old_is b, new_is b, made_is b, gone_is b, even (w b));
        gone_old = λ b. omega (arith, old_is b, gone_is b, gone_old (w b));
        old_once = bytes-once bits es once;
        gone_once = λ c. omega (
          arith,
          count-cids (cid digest) (node_bytes digest) c gone,
          gone_old (marked (λ m. cid digest (node_bytes digest m)) c),
          once c,
        );
        gone_read = λ b k. omega (arith, k, gone_is b, read_is b, gone_read (w b));
        read_old = λ b k. let l : 0 < total (w b) read = omega (arith, k, read_is b) in let m = read_old b l in
            omega (arith, m, old_is b);
        free = apart;
      })
