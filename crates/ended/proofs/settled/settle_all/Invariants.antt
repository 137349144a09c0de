use Rattle.std.proofs.Common.{◌≡◌, length}
use Rattle.std.specs.Prelude.{vec_capacity, vec_len}
use Rattle.ended.specs.Ending.{joined_all}
use Rattle.ended.proofs.settled.settle_all.Given as goal

abbrev pub invariant-loop-one : goal.invariant-loop-one
invariant-loop-one g l = record {
  feed : l.feed ≡ joined_all l.initial.feed l.yielded;
  same : l.room.items ≡ l.yielded;
  len : vec_len l.room ≡ length l.yielded;
  capacity : vec_capacity l.room ≡ vec_capacity l.initial.room;
}
