use Rattle.std.proofs.Common.{◌≡◌, arith, rules}
use Rattle.spec.specs.Layer.{layer}
use Rattle.edit.proofs.OnTree.{zeros-fit}
use Rattle.edit.proofs.hashed.HashedChange.layers.Goals as goal

pub overflow_add-result : goal.overflow_add-result
overflow_add-result g c =
    let zeros : c.self.inside.zeros ≡ layer g.D.Digest.digest_of 1 c.self.inside.key.now = search rules in
    let fits = zeros-fit g.D.Digest.digest_of c.from.result g.met.D.Digest.digest_len c.self.inside.key.now
    c.self.inside.zeros zeros in
    omega (arith, fits)
