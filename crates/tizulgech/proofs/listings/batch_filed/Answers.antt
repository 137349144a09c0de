use Rattle.std.proofs.Common.{refl}
use Rattle.batches.specs.Values.{stamp_of, writes_of}
use Rattle.tizulgech.proofs.Filed.{other_filed, refused_filed, taken_filed, wait_there}
use Rattle.tizulgech.proofs.listings.batch_filed.Goals as goal

pub returns-in_default-clause-file : goal.returns-in_default-clause-file
returns-in_default-clause-file c =
    other_filed (stamp_of c.args.stamp.now) (writes_of c.args.writes.items) _ _ _ 255 refl

pub returns-in-Ok-apply-clause-file : goal.returns-in-Ok-apply-clause-file
returns-in-Ok-apply-clause-file c =
    let ws = writes_of c.args.writes.items in
    taken_filed (stamp_of c.args.stamp.now) ws c.args.out.now c.car_handed.new.out c.car_handed.new.size c.car_handed.result
    c.stage_all.new.repo (wait_there c.args.repo.now c.stage_all.new.repo ws c.requires c.in-Ok.ensures)
    c.apply.new.self c.in-Ok-apply.ensures.accepted c.in-Ok-apply.ensures.passes c.car_handed.ensures.answer

pub returns-in-Err-clause-file : goal.returns-in-Err-clause-file
returns-in-Err-clause-file c =
    let ws = writes_of c.args.writes.items in
    refused_filed (stamp_of c.args.stamp.now) ws c.args.out.now _ _ c.code_of_batch.result
    c.stage_all.new.repo (wait_there c.args.repo.now c.stage_all.new.repo ws c.requires c.in-Ok.ensures)
    _ _ _ c.in-Err.fault c.code_of_batch.ensures c.in-Err.ensures.fault
