use Rattle.std.proofs.Common.{◌≡◌, ◌++◌, map}
use Rattle.std.specs.Slice.Iter.{iter_rest}
use Rattle.block.proofs.block.Block.of_each.Given as goal

abbrev pub invariant-loop-bytes : goal.invariant-loop-bytes
invariant-loop-bytes g l =
    record {
      made : l.blocks.items ++ map (λ bytes. bytes.items) l.bytes-iterator.a.rest.items ≡ map (λ bytes. bytes.items) l.fn.lists.items;
      digests : iter_rest l.bytes-iterator.b ≡ map (λ bytes. g.D.Digest.digest_of bytes.items) l.bytes-iterator.a.rest.items;
    }
