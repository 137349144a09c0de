use Rattle.rows.proofs.Drafting.{draft-reads}
use Rattle.rows.proofs.draft.Draft.push.Goals as goal

pub block_of-requires : goal.block_of-requires
block_of-requires g c = draft-reads c.self.inside.bytes.items c.self.inside.is_empty c.self.invariant
