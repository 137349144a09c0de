use Rattle.std.proofs.Common.{◌≡◌, ◌++◌, drop, map}
use Rattle.spec.specs.Cid.{prefix}
use Rattle.buffers.specs.Answers.{cids_bytes}
use Rattle.tizulgech.proofs.cids.push_digests.Given as goal

abbrev pub invariant-loop-digest : goal.invariant-loop-digest
invariant-loop-digest l = l.initial.bytes.items ++ cids_bytes (map (λ digest. prefix ++ digest) l.digests) ≡ l.bytes.items ++ cids_bytes (map (λ digest. prefix ++ digest) (drop l.digest-index l.digests))
