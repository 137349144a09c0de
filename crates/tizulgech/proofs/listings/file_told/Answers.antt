use Rattle.batches.specs.Values.{stamp_of, writes_of}
use Rattle.tizulgech.proofs.Filed.{other_filed}
use Rattle.tizulgech.proofs.listings.file_told.Goals as goal

pub returns-in-Err-clause-file : goal.returns-in-Err-clause-file
returns-in-Err-clause-file c =
    other_filed (stamp_of c.args.stamp.now) (writes_of c.args.writes.items) _ _ _ c.code_of_opening.result c.code_of_opening.ensures.other
