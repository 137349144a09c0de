use Rattle.std.proofs.Common.{◌≡◌, ◌++◌, map, drop}
use Rattle.cid.proofs.digest.Digest.digest_each.Given as goal

abbrev pub invariant-loop-message : goal.invariant-loop-message
invariant-loop-message g l =
    l.digests.items ++ map (λ message. g.Self.Digest.digest_of (g.T.AsSlice.items message)) (drop l.message-index l.messages)
    ≡ map (λ message. g.Self.Digest.digest_of (g.T.AsSlice.items message)) l.messages
