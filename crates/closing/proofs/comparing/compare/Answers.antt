use Rattle.closing.proofs.Entries.{is_even}
use Rattle.closing.proofs.comparing.compare.Goals as goal

pub returns-clause-settled : goal.returns-clause-settled
returns-clause-settled g c = record {
  even = is_even g.D.Digest.digest_of g.row.B c.args.cores.now c.args.tables.now c.if-not-are_numbered.ensures c.if-not-all_entered.ensures c.type_inv.tables c.if-not-all_had.ensures;
  long = c.if-not-all_long.ensures;
}
