-- A block among others.
use Rattle.std.specs.Prelude.{◌≡◌, ℕ, Bool, true, List, map, Contains}
use Rattle.spec.specs.Cid.{cid}
use Rattle.edit_laws.specs.Changes.{has_cid}

-- whether a block's CID is that of one of the others; where it is, the block itself is one of them
pub record IsAmong (digest : List ℕ → List ℕ) (block : List ℕ) (others : List (List ℕ)) (found : Bool) : Type 0 where
  pub by_cid : found ≡ has_cid (cid digest block) (map (cid digest) others)
  pub here : found ≡ true → Contains others block
