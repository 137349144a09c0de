-- What is told of a step from a tree whose nodes are given with their CIDs.
use Rattle.std.proofs.Common.{◌≡◌, ℕ, List, subst}
use Rattle.std.specs.Prelude.{Option, Some, None, option_map}
use Rattle.batch_laws.specs.Batch.{Change}
use Rattle.tizulgech.specs.HostedChanges.{IsProofKnown, IsProofOver, IsProofWhen}
use Rattle.tizulgech.specs.Known.{known_of}

-- where the first nodes have their CIDs, and where these are none
pub proof_known : (code : ℕ) (missing before room : List ℕ) (size : ℕ) (given blocks : List (List ℕ)) (cids root : List ℕ) (cs : List Change)
    → Some blocks ≡ option_map (λ known. given) (known_of given cids) → IsProofOver code missing before room size blocks root cs
    → IsProofKnown code missing before room size given cids root cs
proof_known code missing before room size given blocks cids root cs are h =
    when (known_of given cids) are where
      when : (known : Option (List (List ℕ × List ℕ))) → Some blocks ≡ option_map (λ known. given) known
          → IsProofWhen known code missing before room size given root cs
      when None e = absurd cc
      when (Some known) e = let is : blocks ≡ given = cc in subst (λ (ns : List (List ℕ)). IsProofOver code missing before room size ns root cs) is h

pub proof_unknown : (code : ℕ) (missing before room : List ℕ) (size : ℕ) (given : List (List ℕ)) (cids root : List ℕ) (cs : List Change)
    → None ≡ option_map (λ known. given) (known_of given cids) → code ≡ 252
    → IsProofKnown code missing before room size given cids root cs
proof_unknown code missing before room size given cids root cs none is =
    when (known_of given cids) none where
      when : (known : Option (List (List ℕ × List ℕ))) → None ≡ option_map (λ known. given) known
          → IsProofWhen known code missing before room size given root cs
      when None e = is
      when (Some known) e = absurd cc
