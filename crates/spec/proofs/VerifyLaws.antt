-- A verifier's answer is the key's value, and it answers where it has the key's path.
use Rattle.std.proofs.Common.{◌≡◌, ℕ, zero, suc, ◌+◌, ◌/◌, ◌≤◌, Bool, true, false, cond, List, [], ◌∷◌, length, Option, Some, None, Result, Ok, refl, sym, ap, ◌∙◌, arith}
use Rattle.std.specs.Prelude.{Contains, find as first_that}
use Rattle.std.specs.Str.{bytes_eq}
use Rattle.std.specs.Cmp.Lexicographic.{slice_cmp}
use Rattle.std.specs.Ordering.{nat_cmp}
use Rattle.std.specs.FinMap.{is_sorted}
use Rattle.std.proofs.lemmas.Slice.Eq.{bytes_eq-Decides}
use Rattle.spec.specs.Cid.{cid}
use Rattle.spec.specs.Layer.{layer}
use Rattle.spec.specs.Tree.{Pair, Node, Last, More, Part, Nothing, Sub, top, pairs_under, EachNode, EachUnder}
use Rattle.spec.specs.NodeFormat.{first_link, entries_of, shape, shape_cid, node_bytes, read_node, is_key}
use Rattle.spec.specs.Blocks.{ArePairs, ClashesWithNone, nodes, no_record, root, value_of}
use Rattle.spec.specs.Proof.{Place, Here, Below, Gap, place, ProofFault, KeyLength, or_missing, block_of, or_bad_node, answer_at, verified_within, verified, path_in, path_under, path}
use Rattle.spec.specs.Laws.Verifier.{VerifierIsSound, VerifierIsComplete, PathVerifies}
use Rattle.spec.proofs.Taking.{ok_is, bind_ok, ensure_ok}
use Rattle.spec.proofs.TreeNodes.{IsLawful, EachNode-top, read_node-shape_bytes}
use Rattle.spec.proofs.RootLaws.{Among, among-part, both-part, in_head, in_tail}
use Rattle.spec.proofs.PathPlace.{IsPlace, place-node, each-below_link, value_of-top, sorted-top}
use Rattle.spec.proofs.PathNodes.{path-among, length-path, top_layer-le}

-- ---- the given block with a CID

-- b alone has its CID among the given blocks, if it is one of them
abbrev pub IsOnly : (List ℕ → List ℕ) → List (List ℕ) → List ℕ → Type 0
IsOnly digest given b = (y : List ℕ) → Contains given y → cid digest y ≡ cid digest b → y ≡ b

rest_only : (digest : List ℕ → List ℕ) (x : List ℕ) (xs : List (List ℕ)) (b : List ℕ) → IsOnly digest (x ∷ xs) b → IsOnly digest xs b
rest_only digest x xs b only y i = only y (in_tail x y xs i)

found-case : (digest : List ℕ → List ℕ) (x : List ℕ) (xs : List (List ℕ)) (b y : List ℕ) (t : Bool) → bytes_eq (cid digest x) (cid digest b) ≡ t → IsOnly digest (x ∷ xs) b
    → (block_of digest xs (cid digest b) ≡ Ok y → y ≡ b)
    → or_missing (cond t (Some x) (first_that (λ z. bytes_eq (cid digest z) (cid digest b)) xs)) ≡ Ok y → y ≡ b
found-case digest x xs b y true h only i e =
    sym (ok_is ProofFault x y e) ∙ only x (in_head x xs) ((bytes_eq-Decides (cid digest x) (cid digest b)).0 h)
found-case digest x xs b y false h only i e = i e

-- what is found under the CID of b is b
pub block_of-only : (digest : List ℕ → List ℕ) (given : List (List ℕ)) (b y : List ℕ) → IsOnly digest given b → block_of digest given (cid digest b) ≡ Ok y → y ≡ b
block_of-only digest [] b y only e = absurd cc
block_of-only digest (x ∷ xs) b y only e =
    found-case digest x xs b y (bytes_eq (cid digest x) (cid digest b)) refl only (block_of-only digest xs b y (rest_only digest x xs b only)) e

given-case : (digest : List ℕ → List ℕ) (x : List ℕ) (xs : List (List ℕ)) (b : List ℕ) (t : Bool) → bytes_eq (cid digest x) (cid digest b) ≡ t → IsOnly digest (x ∷ xs) b
    → Contains (x ∷ xs) b → (Contains xs b → block_of digest xs (cid digest b) ≡ Ok b)
    → or_missing (cond t (Some x) (first_that (λ z. bytes_eq (cid digest z) (cid digest b)) xs)) ≡ Ok b
given-case digest x xs b true h only c i =
    let same : x ≡ b = only x (in_head x xs) ((bytes_eq-Decides (cid digest x) (cid digest b)).0 h) in
    ap (λ y. or_missing (Some y)) same
given-case digest x xs b false h only (zero, l, e) i =
    let same : bytes_eq (cid digest x) (cid digest b) ≡ true = (bytes_eq-Decides (cid digest x) (cid digest b)).1 (ap (cid digest) e) in absurd cc
given-case digest x xs b false h only (suc k, l, e) i = i (k, omega arith, e)

-- and b is found if it is given
pub block_of-given : (digest : List ℕ → List ℕ) (given : List (List ℕ)) (b : List ℕ) → IsOnly digest given b → Contains given b → block_of digest given (cid digest b) ≡ Ok b
block_of-given digest [] b only (k, l, e) = absurd (omega arith)
block_of-given digest (x ∷ xs) b only c =
    given-case digest x xs b (bytes_eq (cid digest x) (cid digest b)) refl only c (block_of-given digest xs b (rest_only digest x xs b only))

-- ---- from node to node

-- a node of the grammar for which no other given block can be taken
abbrev pub IsKnown : (List ℕ → List ℕ) → List (List ℕ) → Node → Type 0
IsKnown digest given m = IsLawful digest m × IsOnly digest given (node_bytes digest m)

module _ (digest : List ℕ → List ℕ) (given : List (List ℕ)) (key : List ℕ) where
  abbrev IsSorted : Node → Type 0
  IsSorted m = is_sorted (slice_cmp nat_cmp) (pairs_under m) ≡ true

  abbrev Answers : Type 0
  Answers = List ℕ → Result (Option (List ℕ)) ProofFault

  abbrev place_in : Node → Place
  place_in m = place key (first_link (shape digest m)) (entries_of (shape digest m))

  -- one node, whose block is found
  step : (most : ℕ) (m : Node) → IsKnown digest given m → block_of digest given (shape_cid digest (shape digest m)) ≡ Ok (node_bytes digest m)
      → verified_within (suc most) digest given key (shape_cid digest (shape digest m)) ≡ answer_at (verified_within most digest given key) (place_in m)
  unfolding verified_within
  step most m known got =
      let read : or_bad_node (read_node (node_bytes digest m)) ≡ Ok (first_link (shape digest m), entries_of (shape digest m)) = ap or_bad_node (read_node-shape_bytes (shape digest m) known.0) in
      rw (got, read) refl

  -- the block is found where there is an answer
  found : (most : ℕ) (m : Node) → IsKnown digest given m → (x : Option (List ℕ)) → verified_within (suc most) digest given key (shape_cid digest (shape digest m)) ≡ Ok x
      → block_of digest given (shape_cid digest (shape digest m)) ≡ Ok (node_bytes digest m)
  unfolding verified_within
  found most m known x e =
      let b = bind_ok _ _ _ e in
      b.1 ∙ ap or_missing (ap (λ (y : List ℕ). Some y) (block_of-only digest given (node_bytes digest m) b.0 known.1 b.1))

  -- ---- an answer is the value

  abbrev SoundAt : Answers → Type 0
  SoundAt further = (m : Node) → EachNode (IsKnown digest given) (Sub m) → IsSorted m → (x : Option (List ℕ)) → further (shape_cid digest (shape digest m)) ≡ Ok x → value_of key (pairs_under m) ≡ x

  place-sound : (further : Answers) → SoundAt further → (m : Node) → EachUnder (IsKnown digest given) m → (at : Place) → IsPlace digest key m at → (x : Option (List ℕ)) → answer_at further at ≡ Ok x
      → value_of key (pairs_under m) ≡ x
  place-sound further ih m known (Here e) is x h = is.value ∙ ok_is ProofFault (Some e.value) x h
  place-sound further ih m known (Below c) is x h =
      is.value ∙ ih is.node (each-below_link digest key (IsKnown digest given) m c is known) is.sorted x (ap further is.link ∙ h)
  place-sound further ih m known Gap is x h = is.value ∙ ok_is ProofFault None x h

  pub sound : (most : ℕ) → SoundAt (verified_within most digest given key)
  unfolding verified_within
  sound zero m known sorted x e = absurd cc
  sound (suc most) m known sorted x e =
      place-sound (verified_within most digest given key) (sound most) m known.1 (place_in m) (place-node digest key m sorted) x
      (sym (step most m known.0 (found most m known.0 x e)) ∙ e)

  -- ---- with the path there is an answer

  abbrev HasPath : List (List ℕ) → Type 0
  HasPath bs = (b : List ℕ) → Contains bs b → Contains given b

  abbrev CompleteAt : ℕ → Answers → Type 0
  CompleteAt most further = (m : Node) → EachNode (IsKnown digest given) (Sub m) → IsSorted m → length (path_in digest key (Sub m)) ≤ most → HasPath (path_in digest key (Sub m))
      → further (shape_cid digest (shape digest m)) ≡ Ok (value_of key (pairs_under m))

  place-complete : (most : ℕ) (further : Answers) → CompleteAt most further → (m : Node) → EachUnder (IsKnown digest given) m → length (path_under digest key m) ≤ most → HasPath (path_under digest key m)
      → (at : Place) → IsPlace digest key m at → answer_at further at ≡ Ok (value_of key (pairs_under m))
  place-complete most further ih m known short has (Here e) is = rw is.value refl
  place-complete most further ih m known short has (Below c) is =
      let n = is.node in
      let whole = ih n (each-below_link digest key (IsKnown digest given) m c is known) is.sorted (rw is.path at short) (rw is.path at has) in
      ap further (sym is.link) ∙ whole ∙ rw is.value refl
  place-complete most further ih m known short has Gap is = rw is.value refl

  pub complete : (most : ℕ) → CompleteAt most (verified_within most digest given key)
  complete zero m known sorted short has = absurd (omega arith)
  complete (suc most) m known sorted short has =
      let own = node_bytes digest m in
      let rest = path_under digest key m in
      step most m known.0 (block_of-given digest given own known.0.1 (has own (in_head own rest)))
      ∙ place-complete most (verified_within most digest given key) (complete most) m known.1 (omega arith) (λ b c. has b (in_tail own b rest c)) (place_in m) (place-node digest key m sorted)

-- ---- from the root on

abbrev answered : Option (List ℕ) → Result (Option (List ℕ)) ProofFault
answered x = Ok x

mutual
  pub each-part_is : (P Q : Node → Type 0) → ((m : Node) → P m → Q m) → (p : Part) → EachNode P p → EachNode Q p
  each-part_is P Q f Nothing h = tt
  each-part_is P Q f (Sub m) h = (f m h.0, each-under_is P Q f m h.1)

  pub each-under_is : (P Q : Node → Type 0) → ((m : Node) → P m → Q m) → (m : Node) → EachUnder P m → EachUnder Q m
  each-under_is P Q f (Last p) h = each-part_is P Q f p h
  each-under_is P Q f (More p e r) h = (each-part_is P Q f p h.0, each-under_is P Q f r h.1)

known-top : (digest : List ℕ → List ℕ) (bits : ℕ) → ((bytes : List ℕ) → length (digest bytes) ≡ 32) → (es : List Pair) → ArePairs es → (given : List (List ℕ)) → ClashesWithNone digest (nodes digest bits es) given
    → EachNode (IsKnown digest given) (Sub (top (layer digest bits) es))
known-top digest bits fits es are given free =
    let own = nodes digest bits es in
    let p = Sub (top (layer digest bits) es) in
    let among : EachNode (Among digest no_record own) p = among-part digest no_record own p (λ b c. c) in
    let only : (m : Node) → Among digest no_record own m → IsOnly digest given (node_bytes digest m) = λ m c y d e. sym (free (node_bytes digest m) y c d (sym e)) in
    both-part (IsLawful digest) (λ m. IsOnly digest given (node_bytes digest m)) p
    (EachNode-top digest (layer digest bits) fits es are)
    (each-part_is (Among digest no_record own) (λ m. IsOnly digest given (node_bytes digest m)) only p among)

pub verifier-sound : VerifierIsSound
unfolding verified
verifier-sound digest bits fits es are given free key x e =
    let l = layer digest bits in
    let t = top l es in
    let from = ensure_ok (is_key key) KeyLength (λ ok. verified_within (256 / bits + 1) digest given key (root digest bits es)) x e in
    sym (value_of-top l key es) ∙ sound digest given key (256 / bits + 1) t (known-top digest bits fits es are given free) (sorted-top l es are) x from.1

pub verifier-complete : VerifierIsComplete
unfolding verified
verifier-complete digest bits fits es are given free key good has =
    let l = layer digest bits in
    let t = top l es in
    let long = length-path digest bits es key in
    let few = top_layer-le digest bits fits es in
    let whole = complete digest given key (256 / bits + 1) t (known-top digest bits fits es are given free) (sorted-top l es are) (omega arith) has in
    rw good (whole ∙ ap answered (value_of-top l key es))

pub path-verifies : PathVerifies
path-verifies digest bits fits es are free key good =
    let own = path digest bits es key in
    verifier-complete digest bits fits es are own (λ a b c d. free a b c (path-among digest bits es key b d)) key good (λ b c. c)
