use Rattle.std.proofs.Common.{◌≡◌, ◌++◌, drop, map}
use Rattle.spec.specs.Cid.{prefix}
use Rattle.export.proofs.verifying_among.named.Given as goal

-- the CIDs so far, and then those of the digests that are left
abbrev pub invariant-loop-digest : goal.invariant-loop-digest
invariant-loop-digest g l =
    map (λ digest. prefix ++ digest) l.digests ≡ l.cids.items ++ map (λ digest. prefix ++ digest) (drop l.digest-index l.digests)
