-- Nodes that are given with their CIDs, and the CIDs of many blocks.
use Rattle.std.specs.Prelude.{◌≡◌, ◌/◌, ℕ, List, [], ◌∷◌, Option, Some, None, IfSome, length, map, take, ⊤}
use Rattle.sha2.specs.Sha256.{sha256}
use Rattle.spec.specs.Cid.{cid}
use Rattle.buffers.specs.Answers.{IsHanded, cids_bytes}
use Rattle.buffers.specs.Framing.{cid_at, with_values}

-- the first nodes, each with its CID, as many as there are CIDs of 36 bytes; there is no such list where the bytes are no CIDs, or
-- more than the nodes
abbrev pub known_of : List (List ℕ) → List ℕ → Option (List (List ℕ × List ℕ))
known_of nodes cids = with_values cid_at (take (length cids / 36) nodes) cids

-- each CID is that of the bytes beside it
abbrev pub AreTheirs : List (List ℕ × List ℕ) → Type 0
AreTheirs [] = ⊤
AreTheirs (p ∷ ps) = (p.1 ≡ cid sha256 p.0) × AreTheirs ps

-- the CIDs that are given are those of the first nodes
abbrev pub AreKnown : List ℕ → List (List ℕ) → Type 0
AreKnown cids nodes = IfSome (known_of nodes cids) AreTheirs

-- ---- the CIDs of many blocks

-- 252 for what is no list
abbrev pub AreCids : ℕ → Option (List (List ℕ)) → List ℕ → List ℕ → ℕ → Type 0
AreCids code None before room size = code ≡ 252
AreCids code (Some blocks) before room size = IsHanded code (cids_bytes (map (cid sha256) blocks)) before room size
