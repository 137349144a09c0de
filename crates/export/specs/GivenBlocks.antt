-- Blocks that were given, and the CIDs of the first of them.
use Rattle.std.specs.Prelude.{◌≡◌, ℕ, List, Option, Result, Ok, length, take, map, find}
use Rattle.std.specs.Str.{bytes_eq}
use Rattle.spec.specs.Cid.{cid}
use Rattle.spec.specs.Reading.{◌>>=◌}
use Rattle.spec.specs.NodeFormat.{read_node}
use Rattle.spec.specs.Proof.{Place, ProofFault, place, block_of, or_bad_node}

-- the first of these blocks with a CID
abbrev pub first_with : (List ℕ → List ℕ) → List ℕ → List (List ℕ) → Option (List ℕ)
first_with digest c blocks = find (λ b. bytes_eq (cid digest b) c) blocks

-- the CIDs are those of the first blocks, as many as there are
abbrev pub AreHashed : (List ℕ → List ℕ) → List (List ℕ) → List (List ℕ) → Type 0
AreHashed digest blocks cids = cids ≡ take (length cids) (map (cid digest) blocks)

-- where the key stands in the node with this CID
abbrev pub place_below : (List ℕ → List ℕ) → List (List ℕ) → List ℕ → List ℕ → Result Place ProofFault
place_below digest given key c = do
  block ← block_of digest given c
  n ← or_bad_node (read_node block)
  Ok (place key n.0 n.1)
