use Rattle.std.proofs.lemmas.Bool.Decides.{not_from_Decides}
use Rattle.host.proofs.rooted.apply_from_at.Goals as goal

pub returns-then-not-has_root-clause-refused : goal.returns-then-not-has_root-clause-refused
returns-then-not-has_root-clause-refused g c = not_from_Decides c.has_root.result c.has_root.ensures c.if-not-has_root.true

pub returns-in-Ok-clause-root : goal.returns-in-Ok-clause-root
returns-in-Ok-clause-root g c = c.has_root.ensures.0 c.if-not-has_root.false

pub returns-in-Err-clause-refused : goal.returns-in-Err-clause-refused
returns-in-Err-clause-refused g c = (c.has_root.ensures.0 c.if-not-has_root.false, c.in-Err.ensures.refused)
