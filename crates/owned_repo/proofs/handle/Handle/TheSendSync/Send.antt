-- A repository behind a pointer may go to another thread, as a box of it may.
use Rattle.std.specs.Prelude.{Option, Some, None}
use mir.Raw.{raw}
use base.Fraction.{full_share}
use base.Shift.{Keyless}
use denote.Exit.{Exit, unchanged, leaves, hidden, under}
use denote.Memory.{lone}
use denote.RattleType.{RattleType}
use denote.RawPtr.{Ptr, block_ptr, null_ptr, lies_at}
use denote.Struct.Struct.{exits_of}
use denote.Struct.Owning.{shape, fields, to}
use denote.Struct.Declared.{shape as declared}
use denote.Struct.Struct.{Struct}
use denote.Param.Send.{IsSend, Quiet, AllSend, owning_send, struct_send, part_keyless, recorded_send, sendable, view_send}
use Rattle.std.proofs.Crossing.{frees, Vec-send, send as heap_sent, sync as heap_shared}
use denote.Param.{number}
use Rattle.owned_repo.specs.Owning.{Owned}
use Rattle.cid.proofs.digest.Sha256.TheSendSync.{the_send as digest_sent}
use Rattle.cid.specs.contracts.digest.Sha256 as Sha256
use Rattle.cid.specs.contracts.digest.Sha256Digest.TheImpl as Digest
use Rattle.std.specs.contracts.alloc.Global as global
use Rattle.std.specs.contracts.impls.GlobalAllocator.TheImpl.{ghosts as heap_ghosts}
use Rattle.store.specs.contracts.shard.Shard as Shard
use Rattle.repo.specs.contracts.cores.Core as Core
use Rattle.block.specs.contracts.write.Write as Write
use Rattle.std.specs.contracts.vec.Vec as Vec
use Rattle.counts.specs.contracts.count.Count as Count
use Rattle.owned_repo.specs.contracts.own_shards.OwnShards as OwnShards
use Rattle.owned_repo.specs.contracts.owning.OwnedRepo as OwnedRepo
use Rattle.owned_repo.specs.declared.owning.OwnedRepo.{OwnedRepo as OwnedRepoValue, the_code}
use Rattle.owned_repo.specs.declared.owning.OwnedRepo.TheView.{view, invariant}
use Rattle.block.proofs.write.Write.TheSendSync.{the_send as write_sent}
use Rattle.repo.proofs.cores.Core.TheSendSync.{the_send as core_sent}
use Rattle.store.proofs.shard.Shard.TheSendSync.{the_send as shard_sent}
use Rattle.owned_repo.specs.Held.{held, heap}
use Rattle.owned_repo.specs.contracts.handle.Handle as Handle

quiet : {D X : Type 0} (to : D → X) (e : Exit X) → Quiet e → Quiet (hidden (under to e))
quiet to unchanged q = λ x w. tt
quiet to (leaves L l S s r₀) q = λ d. q (to d)

lies : (R : RattleType) → IsSend R → (p : Ptr) (x : R.Denot) → Keyless (lies_at R full_share p x)
lies R s (block_ptr b o) x = part_keyless R s full_share x b o
lies R s null_ptr x = tt

count_sent : IsSend Count.the_row
count_sent =
    let O = Count.the_type in let all : AllSend (fields O) = tt in
    owning_send O all (λ n. tt) (λ k. quiet (to O) (exits_of k (fields O)) ((struct_send (shape O) all).leaving k))

one_shard : IsSend (Shard.the_row Sha256.the_row global.the_row Digest.ghosts heap_ghosts)
one_shard = shard_sent Sha256.the_row global.the_row Digest.ghosts heap_ghosts heap_sent heap_shared frees

one_core : IsSend (Core.the_row Sha256.the_row (number 2) global.the_row Digest.ghosts heap_ghosts)
one_core = core_sent Sha256.the_row (number 2) global.the_row Digest.ghosts heap_ghosts heap_sent heap_shared frees

one_write : IsSend (Write.the_row global.the_row heap_ghosts)
one_write = write_sent global.the_row heap_ghosts heap_sent frees

shards_sent : IsSend (OwnShards.the_field).row
shards_sent = search (sendable, one_shard, count_sent) depth 8

waiting_sent : IsSend (Vec.the_row (Write.the_row global.the_row heap_ghosts) global.the_row heap_ghosts)
waiting_sent = Vec-send (Write.the_row global.the_row heap_ghosts) one_write

inside_sent : IsSend OwnedRepo.TheInside.the_row
inside_sent =
    let T = OwnedRepo.TheInside.the_type in let S = declared T in
    let all : AllSend S.fields = (one_core, (shards_sent, (waiting_sent, tt))) in recorded_send (Struct S) T.D T.to T.to_one (struct_send S all)

repo_sent : IsSend OwnedRepo.the_row
repo_sent = view_send OwnedRepo.TheInside.the_row OwnedRepoValue the_code view invariant inside_sent

held-keyless : (p : Ptr) (o : Option Owned) → Keyless (held p o)
held-keyless p (Some o) = (lies OwnedRepo.the_row repo_sent p o, frees.frees heap (raw (lone OwnedRepo.the_row.mir)) p)
held-keyless p None = tt

pub send : IsSend Handle.the_row
send =
    let O = Handle.the_type in let all : AllSend (fields O) = (search sendable, tt) in
    owning_send O all (λ h. held-keyless h.at h.repo) (λ k. quiet (to O) (exits_of k (fields O)) ((struct_send (shape O) all).leaving k))
