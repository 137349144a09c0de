-- What is told of two trees whose nodes are given with their CIDs.
use Rattle.std.proofs.Common.{◌≡◌, ℕ, List, subst}
use Rattle.std.specs.Prelude.{Option, Some, None, option_map}
use Rattle.tizulgech.specs.Differing.{IsDifferenceKnown, IsDifferenceOver, IsDifferenceWhen}
use Rattle.tizulgech.specs.Known.{known_of}
use Rattle.tizulgech.specs.Lacking.{IsLackKnown, IsLackOver, IsLackWhen}

-- where the first nodes have their CIDs, and where these are none
pub known_differ : (code : ℕ) (missing before room : List ℕ) (size : ℕ) (given blocks : List (List ℕ)) (cids old new : List ℕ)
    → Some blocks ≡ option_map (λ known. given) (known_of given cids) → IsDifferenceOver code missing before room size blocks old new
    → IsDifferenceKnown code missing before room size given cids old new
known_differ code missing before room size given blocks cids old new are h =
    when (known_of given cids) are where
      when : (known : Option (List (List ℕ × List ℕ))) → Some blocks ≡ option_map (λ known. given) known
          → IsDifferenceWhen known code missing before room size given old new
      when None e = absurd cc
      when (Some known) e = let is : blocks ≡ given = cc in subst (λ (ns : List (List ℕ)). IsDifferenceOver code missing before room size ns old new) is h

pub unknown_differ : (code : ℕ) (missing before room : List ℕ) (size : ℕ) (given : List (List ℕ)) (cids old new : List ℕ)
    → None ≡ option_map (λ known. given) (known_of given cids) → code ≡ 252
    → IsDifferenceKnown code missing before room size given cids old new
unknown_differ code missing before room size given cids old new none is =
    when (known_of given cids) none where
      when : (known : Option (List (List ℕ × List ℕ))) → None ≡ option_map (λ known. given) known
          → IsDifferenceWhen known code missing before room size given old new
      when None e = is
      when (Some known) e = absurd cc

-- the same of what they lack
pub known_lack : (code : ℕ) (bad before room : List ℕ) (size : ℕ) (given blocks : List (List ℕ)) (cids old new : List ℕ)
    → Some blocks ≡ option_map (λ known. given) (known_of given cids) → IsLackOver code bad before room size blocks old new
    → IsLackKnown code bad before room size given cids old new
known_lack code bad before room size given blocks cids old new are h =
    when (known_of given cids) are where
      when : (known : Option (List (List ℕ × List ℕ))) → Some blocks ≡ option_map (λ known. given) known
          → IsLackWhen known code bad before room size given old new
      when None e = absurd cc
      when (Some known) e = let is : blocks ≡ given = cc in subst (λ (ns : List (List ℕ)). IsLackOver code bad before room size ns old new) is h

pub unknown_lack : (code : ℕ) (bad before room : List ℕ) (size : ℕ) (given : List (List ℕ)) (cids old new : List ℕ)
    → None ≡ option_map (λ known. given) (known_of given cids) → code ≡ 252
    → IsLackKnown code bad before room size given cids old new
unknown_lack code bad before room size given cids old new none is =
    when (known_of given cids) none where
      when : (known : Option (List (List ℕ × List ℕ))) → None ≡ option_map (λ known. given) known
          → IsLackWhen known code bad before room size given old new
      when None e = is
      when (Some known) e = absurd cc
