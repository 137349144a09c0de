-- The ranges of a host's limits.
use Rattle.std.specs.Prelude.{◌≤◌, ◌<◌, ◌⊎◌, ℕ}
use Rattle.host.specs.declared.limits.Limits.{Limits}
use Rattle.host.specs.declared.fault.OpenFault.{OpenFault}
use Rattle.host.specs.declared.fault.OpenFault.TheVariants as faults

-- from 1 to a greatest number
abbrev pub IsUpTo : ℕ → ℕ → Type 0
IsUpTo most n = (1 ≤ n) × (n ≤ most)

abbrev pub IsOutside : ℕ → ℕ → Type 0
IsOutside most n = (n < 1) ⊎ (most < n)

-- each limit is in its range (the ranges are a choice of this project)
pub record AreLawful (l : Limits) : Type 0 where
  pub repos : IsUpTo 1024 l.repos
  pub writers : IsUpTo 64 l.writers
  pub queue : IsUpTo 65536 l.queue
  pub shard_blocks : IsUpTo 1048576 l.shard_blocks
  pub repo_writes : IsUpTo 1048576 l.repo_writes

-- The fault names the first limit, in the order of the fields, that is out of its range. Want of memory
-- comes only where none is.
abbrev pub IsOutOfRange : Limits → OpenFault → Type 0
IsOutOfRange l faults.BadRepos = IsOutside 1024 l.repos
IsOutOfRange l faults.BadWriters = IsUpTo 1024 l.repos × IsOutside 64 l.writers
IsOutOfRange l faults.BadQueue = IsUpTo 1024 l.repos × IsUpTo 64 l.writers × IsOutside 65536 l.queue
IsOutOfRange l faults.BadBlocks = IsUpTo 1024 l.repos × IsUpTo 64 l.writers × IsUpTo 65536 l.queue
    × IsOutside 1048576 l.shard_blocks
IsOutOfRange l faults.BadWrites = IsUpTo 1024 l.repos × IsUpTo 64 l.writers × IsUpTo 65536 l.queue
    × IsUpTo 1048576 l.shard_blocks × IsOutside 1048576 l.repo_writes
IsOutOfRange l faults.NoMemory = AreLawful l
