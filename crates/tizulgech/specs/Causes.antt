-- Why a call meets a limit that no test tells.
use Rattle.std.specs.Prelude.{◌≡◌, ℕ, List}
use Rattle.sha2.specs.Sha256.{sha256}
use Rattle.spec.specs.Blocks.{IsClash}
use Rattle.store.specs.Shards.{WasFull}
use Rattle.batches.specs.declared.fault.RepoFault.{RepoFault}
use Rattle.batches.specs.declared.fault.RepoFault.TheVariants as faults

-- two blocks that clash
pub record HasClash : Type 0 where
  pub pair : List ℕ × List ℕ
  pub clash : IsClash sha256 pair.0 pair.1

-- 253 comes only with two blocks that clash, and 254 only where a shard has had 1,048,576 blocks
pub record HasCause (code : ℕ) : Type 0 where
  pub clash : code ≡ 253 → HasClash
  pub full : code ≡ 254 → WasFull sha256 1048576

-- the number of a fault for which no argument is to blame
abbrev pub limit_number : {D A : Type 0} → RepoFault D A → ℕ
limit_number (faults.Collision pair) = 253
limit_number faults.StoreFull = 254
limit_number fault = 255
