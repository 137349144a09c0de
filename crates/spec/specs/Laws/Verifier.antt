-- Laws of paths and of verifiers. They hold of each list of pairs whose tree has the root that a verifier is told.
use Rattle.std.specs.Prelude.{◌≡◌, Contains, true, Option, Ok, ℕ, suc, ◌/◌, ◌≤◌, List, length}
use Rattle.spec.specs.Layer.{layer}
use Rattle.spec.specs.Tree.{Pair, top_layer}
use Rattle.spec.specs.NodeFormat.{is_key}
use Rattle.spec.specs.Blocks.{ArePairs, ClashesWithNone, IsClashFree, value_of, nodes, root}
use Rattle.spec.specs.Proof.{path, verified}

-- each block of a path is a node of the tree
abbrev pub PathIsOfTree : Type 0
PathIsOfTree = (digest : List ℕ → List ℕ) (bits : ℕ) (es : List Pair) (key b : List ℕ) → Contains (path digest bits es key) b → Contains (nodes digest bits es) b

-- a path has no more nodes than there are layers from the top one down to 0
abbrev pub PathIsShort : Type 0
PathIsShort = (digest : List ℕ → List ℕ) (bits : ℕ) (es : List Pair) (key : List ℕ) → length (path digest bits es key) ≤ suc (top_layer (layer digest bits) es)

-- no key of a digest of 32 bytes is above layer 256 / bits
abbrev pub LayersAreFew : Type 0
LayersAreFew = (digest : List ℕ → List ℕ) (bits : ℕ) → ((bytes : List ℕ) → length (digest bytes) ≡ 32) → (es : List Pair) → top_layer (layer digest bits) es ≤ 256 / bits

-- Where no node clashes with a given block, an answer is the key's value. The nodes may clash among themselves, and so may
-- the given blocks.
abbrev pub VerifierIsSound : Type 0
VerifierIsSound = (digest : List ℕ → List ℕ) (bits : ℕ) → ((bytes : List ℕ) → length (digest bytes) ≡ 32) → (es : List Pair) → ArePairs es → (given : List (List ℕ))
    → ClashesWithNone digest (nodes digest bits es) given
    → (key : List ℕ) (x : Option (List ℕ)) → verified digest bits (root digest bits es) given key ≡ Ok x → value_of key es ≡ x

-- and where the key's path is given, there is an answer
abbrev pub VerifierIsComplete : Type 0
VerifierIsComplete = (digest : List ℕ → List ℕ) (bits : ℕ) → ((bytes : List ℕ) → length (digest bytes) ≡ 32) → (es : List Pair) → ArePairs es → (given : List (List ℕ))
    → ClashesWithNone digest (nodes digest bits es) given
    → (key : List ℕ) → is_key key ≡ true → ((b : List ℕ) → Contains (path digest bits es key) b → Contains given b)
    → verified digest bits (root digest bits es) given key ≡ Ok (value_of key es)

-- a path alone is enough where no two nodes clash
abbrev pub PathVerifies : Type 0
PathVerifies = (digest : List ℕ → List ℕ) (bits : ℕ) → ((bytes : List ℕ) → length (digest bytes) ≡ 32) → (es : List Pair) → ArePairs es → IsClashFree digest (nodes digest bits es)
    → (key : List ℕ) → is_key key ≡ true → verified digest bits (root digest bits es) (path digest bits es key) key ≡ Ok (value_of key es)
