use Rattle.std.proofs.Common.{◌≡◌, ◌≤◌, ◌+◌, vec_len, vec_capacity}
use Rattle.std.specs.Vec.Iter.{into_iter_len}
use Rattle.host.proofs.host.take_out.Given as goal

abbrev pub invariant-loop-repository : goal.invariant-loop-repository
invariant-loop-repository g l = record {
  all : vec_len l.room + into_iter_len l.left ≡ vec_len l.fn.repositories;
  room : vec_len l.fn.repositories ≤ vec_capacity l.room;
}

abbrev pub decreases-loop-repository : goal.decreases-loop-repository
decreases-loop-repository g l = into_iter_len l.left
