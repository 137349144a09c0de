use Rattle.std.proofs.Common.{◌≡◌, ◌++◌, map, true, Some}
use Rattle.std.specs.List.{AllByRecursion}
use Rattle.std.specs.Slice.Iter.{iter_rest}
use Rattle.block.specs.Bytes.{has_record, record_in, shared_record}
use Rattle.block.proofs.block.Block.of_writes.Given as goal

abbrev pub invariant-loop-write : goal.invariant-loop-write
invariant-loop-write g l =
    record {
      made : map Some l.blocks.items ++ map shared_record l.write-iterator.a.rest.items ≡ map shared_record l.fn.writes.items;
      digests : iter_rest l.write-iterator.b ≡ map (λ w. g.D.Digest.digest_of (record_in w)) l.write-iterator.a.rest.items;
      records : AllByRecursion (λ w. has_record w ≡ true) l.write-iterator.a.rest.items;
    }
